use Rattle.ltx_format.proofs.FrontLemmas.{same_header}
use Rattle.ltx_format.proofs.spelling.one_header.Goals as goal

pub returns : goal.returns
returns c = record { same_header = same_header }
