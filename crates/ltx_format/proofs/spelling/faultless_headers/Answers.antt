use Rattle.ltx_format.proofs.FrontLemmas.{headers, no_header_fault}
use Rattle.ltx_format.proofs.spelling.faultless_headers.Goals as goal

pub returns-clause-headers : goal.returns-clause-headers
returns-clause-headers c = headers

pub returns-clause-no_fault : goal.returns-clause-no_fault
returns-clause-no_fault c = no_header_fault
