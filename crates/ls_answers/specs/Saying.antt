-- What an output gains of a text that is to be put there.
use Rattle.std.specs.Prelude.{◌≡◌, ℕ, ◌≤◌, List, Option, ◌⊎◌}
use Rattle.crash_disk.specs.Output.{gains_text, GainsFront}
use Rattle.ls_base.specs.Fault.{Rose}

-- The whole text was put; or a front of it, where the output's count of faults rose or stands at its last value.
pub record HasTaken (before after : Option (List ℕ)) (faults faults_after : ℕ) (text : List ℕ) : Type 0 where
  pub taken : (after ≡ gains_text before text) ⊎ (GainsFront before after text × Rose faults faults_after)
  pub later : faults ≤ faults_after
