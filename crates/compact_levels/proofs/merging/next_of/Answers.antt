use Rattle.std.proofs.Common.{arith}
use Rattle.compact_levels.proofs.NextOfLemmas.{ended_later, ended_whole}
use Rattle.compact_levels.proofs.merging.next_of.Goals as goal

pub returns-then-number-eq1-clause-ended : goal.returns-then-number-eq1-clause-ended
returns-then-number-eq1-clause-ended g c =
    ended_whole c.next.result (g.S.Disk.told c.args.store.now) c.args.cursors.now c.args.min c.next.ensures.ended

pub returns-clause-ended : goal.returns-clause-ended
returns-clause-ended g c =
    ended_later c.next_of_run.result (g.S.Disk.told c.args.store.now) c.args.cursors.now c.args.min
    (λ is. omega (arith, is, c.if-number-eq1.false, c.number.ensures.value)) c.next_of_run.ensures.ended
