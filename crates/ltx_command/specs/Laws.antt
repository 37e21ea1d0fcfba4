-- What the answers of a listing rest on, whatever the files are.
use Rattle.ltx_format.specs.FaultlessFiles.{HeadersHaveNoFault}
use Rattle.ltx_format.specs.OneSpelling.{OneHeader}
use Rattle.replica_store.specs.ListLaws.{OneList}

pub record Laws : Type 0 where
  pub no_header_fault : HeadersHaveNoFault
  pub one_header : OneHeader
  pub one_list : OneList
