-- A listing of a replica, whatever its answer.
use Rattle.std.specs.Prelude.{◌≡◌, Some}
use Rattle.ls_answers.specs.declared.outcome.Why.{Why}
use Rattle.ls_answers.specs.declared.outcome.Why.TheVariants.{Done}
use Rattle.ltx_command.specs.Answers.{Explains}
use Rattle.ltx_command.specs.Exact.{ComesExactly}
use Rattle.ltx_command.specs.Seen.{Seen, FaultsStay}

-- what the answer means, when it comes, and what stays
pub record Lists (seen : Seen) (why : Why) : Type 0 where
  pub explained : Explains seen why
  pub exact : ComesExactly seen why
  pub attached : why ≡ Done → seen.folder_after ≡ Some seen.replica
  pub unchanged : seen.store_after ≡ seen.store
  pub faults : FaultsStay seen
