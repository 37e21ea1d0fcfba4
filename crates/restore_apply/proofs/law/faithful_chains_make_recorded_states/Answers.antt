use Rattle.restore_apply.proofs.Theorems.{makes_recorded}
use Rattle.restore_apply.proofs.law.faithful_chains_make_recorded_states.Goals as goal

pub returns : goal.returns
returns c = λ files history log names t chain faithful listed positive leads once. makes_recorded files history log
    faithful names listed t chain positive leads once
