-- Where a replica's files tell the truth, the files of a plan make the recorded state of its transaction.
use Rattle.std.proofs.Common.{◌≡◌, ℕ, List, Some, ap, ◌∙◌}
use Rattle.crash_disk.specs.Files.{Files}
use Rattle.ls_base.specs.History.{History}
use Rattle.ls_base.specs.State.{State}
use Rattle.ls_base.specs.SyncLog.{SyncLog, recorded_state}
use Rattle.replica_store.specs.declared.file_name.FileName.{FileName}
use Rattle.replica_store.specs.Faithful.{IsFaithful}
use Rattle.page_cursors.specs.PlanFiles.{Makes}
use Rattle.restore_apply.specs.RestoreLaws.{MakesRecorded}
use Rattle.litestream_core.specs.Asked.{IsPlan}
use Rattle.litestream_core.specs.Laws.{Laws}
use Rattle.litestream_core.specs.Request.{Request}

module _ (laws : Laws) (files : Files) (r : Request) (history : History) (log : SyncLog)
    (faithful : IsFaithful files history log) where
  makes_recorded : (t : ℕ) (plan : List FileName) → IsPlan files r t plan → MakesRecorded files history log t plan
  makes_recorded t plan is = laws.recorded files history log is.names t plan faithful is.are.listed
      is.retained.positive is.chain is.once

  pub plan_makes : (t : ℕ) (plan : List FileName) → IsPlan files r t plan → (state : State) × Makes files plan state
  plan_makes t plan is = let made = makes_recorded t plan is in (made.state, made.makes)

  -- what the plan makes is the recorded state of its transaction
  pub plan_recorded : (t : ℕ) (plan : List FileName) (state : State) → IsPlan files r t plan → Makes files plan state
      → recorded_state history log t ≡ Some state
  plan_recorded t plan state is makes =
      let made = makes_recorded t plan is in
      made.recorded ∙ ap (λ (s : State). Some s) (laws.one_state files plan made.state state made.makes makes)
