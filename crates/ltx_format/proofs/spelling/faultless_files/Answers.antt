use Rattle.ltx_format.proofs.FileFaults.{files, no_fault}
use Rattle.ltx_format.proofs.spelling.faultless_files.Goals as goal

pub returns-clause-files : goal.returns-clause-files
returns-clause-files c = files

pub returns-clause-no_fault : goal.returns-clause-no_fault
returns-clause-no_fault c = no_fault
