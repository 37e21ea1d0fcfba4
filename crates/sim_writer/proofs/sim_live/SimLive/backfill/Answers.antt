use Rattle.std.proofs.Common.{refl}
use Rattle.live_gate.proofs.CopyLemmas.{copy_step}
use Rattle.sim_writer.proofs.LiveLemmas.{twins_copied}
use Rattle.sim_writer.proofs.sim_live.SimLive.backfill.Goals as goal

pub returns-then-branch : goal.returns-then-branch
returns-then-branch c =
    let done = c.in_ok-backfill.ensures.done c.if-branch.true in
    rw (← c.self.view_is) (
      done.0,
      (done.1, refl),
      copy_step _ _ done.1.copied.copies,
      twins_copied _ _ done.1.copied.copies,
    )
