use Rattle.std.proofs.Common.{sym, arith}
use Rattle.std.proofs.lemmas.List.{length-take-le}
use Rattle.wal_frames.proofs.header.has_sums.Goals as goal

pub slice_bounds-over-end : goal.slice_bounds-over-end
slice_bounds-over-end c = sym (length-take-le 24 c.args.bytes.now (omega arith))

pub over-sums-requires : goal.over-sums-requires
over-sums-requires c = omega (arith, length-take-le 24 c.args.bytes.now (omega arith))
