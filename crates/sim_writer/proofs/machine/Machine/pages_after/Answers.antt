use Rattle.wal_frames.specs.ValidPrefix.{valid_frames}
use Rattle.sim_writer.specs.Commits.{page_after}
use Rattle.sim_writer.proofs.PageLemmas.{pages_more}
use Rattle.sim_writer.proofs.machine.Machine.pages_after.Goals as goal

pub loop-before-preserved : goal.loop-before-preserved
loop-before-preserved c =
    let m = c.args.self.now in
    pages_more (page_after m.head m.file (valid_frames m.committed) c.args.pages.now) c.loop-before.before
    c.loop-before.made c.push.new.self c.in_ok-page.page c.loop-before.invariant c.in_ok-page.ensures
    c.in_ok-push.ensures.ok
