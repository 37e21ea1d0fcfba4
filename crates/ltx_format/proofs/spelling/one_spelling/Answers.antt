use Rattle.ltx_format.proofs.ByteLemmas.{file_are_bytes}
use Rattle.ltx_format.proofs.Theorems.{same_bytes, same_value}
use Rattle.ltx_format.proofs.spelling.one_spelling.Goals as goal

pub returns-clause-same_bytes : goal.returns-clause-same_bytes
returns-clause-same_bytes c = same_bytes

pub returns-clause-same_value : goal.returns-clause-same_value
returns-clause-same_value c = same_value

pub returns-clause-bytes : goal.returns-clause-bytes
returns-clause-bytes c = file_are_bytes
