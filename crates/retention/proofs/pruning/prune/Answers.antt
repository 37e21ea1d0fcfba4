use Rattle.std.proofs.Common.{subst}
use Rattle.crash_disk.specs.GoesOn.{GoesOn}
use Rattle.retention.specs.Pruning.{IsDroppedInOrder}
use Rattle.retention.proofs.PruneLemmas.{told_protected}
use Rattle.retention.proofs.pruning.prune.Goals as goal

pub returns-clause-crash : goal.returns-clause-crash
returns-clause-crash g c =
    let d = c.args.drops.now in
    let t = g.S.Disk.told c.args.store.now in
    let u = g.S.Disk.told c.drop_files.new.store in
    let same = c.names-names.ensures.value in
    let order = subst (λ names. GoesOn t u (IsDroppedInOrder names)) same c.drop_files.ensures.order in
    told_protected t u d.dated d.cut d.names d.lost c.names-names.ensures.drops order
