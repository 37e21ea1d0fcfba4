-- What the answers of a restore rest on, whatever the files are: laws of the crates that read and apply them.
use Rattle.ltx_format.specs.FaultlessFiles.{HeadersHaveNoFault}
use Rattle.ltx_format.specs.OneSpelling.{OneHeader}
use Rattle.restore_apply.specs.RestoreLaws.{FaithfulChainsMakeRecorded, OneState, ReadFilesAreSound, MadeStatesAreWhole}

pub record Laws : Type 0 where
  pub recorded : FaithfulChainsMakeRecorded
  pub one_state : OneState
  pub sound : ReadFilesAreSound
  pub whole : MadeStatesAreWhole
  pub no_header_fault : HeadersHaveNoFault
  pub one_header : OneHeader
