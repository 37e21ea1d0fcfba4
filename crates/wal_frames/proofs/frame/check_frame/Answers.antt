use Rattle.wal_frames.proofs.FrameLemmas.{page_in_eights}
use Rattle.wal_frames.proofs.frame.check_frame.Goals as goal

pub sums_over-sums-requires-clause-page : goal.sums_over-sums-requires-clause-page
sums_over-sums-requires-clause-page c = rw c.get.ensures.value
    (page_in_eights c.args.head.now.size c.args.bytes.now c.get.ensures.valid c.requires)
