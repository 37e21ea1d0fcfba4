-- A replication, whatever its answer.
use Rattle.std.specs.Prelude.{◌≡◌}
use Rattle.ls_answers.specs.declared.outcome.Why.{Why}
use Rattle.ls_answers.specs.declared.outcome.Why.TheVariants.{Done}
use Rattle.replicate_command.specs.Answers.{Explains, IfStoreTells}
use Rattle.replicate_command.specs.Asked.{cut_of}
use Rattle.replicate_command.specs.Exact.{ComesExactly}
use Rattle.replicate_command.specs.Later.{ObjectsGoOn}
use Rattle.replicate_command.specs.Promise.{ReplicatePromise}
use Rattle.replicate_command.specs.Seen.{Seen, FaultsStay, AreAttached}
use Rattle.replicate_command.specs.Standing.{KeepsStanding}

-- What the answer means, when it comes, what is promised, what stands of the replica's files, where the objects are
-- attached, and how they go on.
pub record ReplicateEnds (seen : Seen) (why : Why) : Type 0 where
  pub explained : Explains seen why
  pub exact : ComesExactly seen why
  pub promise : ReplicatePromise seen why
  pub keeps : IfStoreTells seen (KeepsStanding (cut_of seen.asked))
  pub attached : why ≡ Done → AreAttached seen
  pub goes_on : ObjectsGoOn seen
  pub faults : FaultsStay seen
