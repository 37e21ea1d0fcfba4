use Rattle.std.proofs.Common.{◌-◌, ap, length, refl}
use Rattle.replica_upkeep.specs.Levels.{merge_levels}
use Rattle.replica_upkeep.proofs.MaintainLemmas.{drops_at, dropped_faith, dropped_files, dropped_settles}
use Rattle.replica_upkeep.proofs.MaintainLemmas.{has_maintained, turned_at}
use Rattle.replica_upkeep.proofs.maintaining.maintain.Goals as goal

pub returns-in_err-prune-clause-files : goal.returns-in_err-prune-clause-files
returns-in_err-prune-clause-files g c =
    let a = g.S.Disk.told c.args.store.now in
    let b = g.S.Disk.told c.merge_levels.new.store in
    let merged = c.merge_levels.new.dated.items in
    let drops = c.in_ok-drops.drops in
    dropped_files c.args.now c.args.dated merged c.in_ok-merged.merged a b
    (turned_at merge_levels c.args.now c.into_vec-dated.result.items c.args.dated merged c.in_ok-merged.merged a b
    c.in_ok-merged.ensures.ok c.into_vec-dated.ensures)
    (c.args.now - c.args.keep) (g.S.Disk.told c.prune.new.store) drops.names drops.lost
    (drops_at c.deref.result.now merged c.saturating_sub.result (c.args.now - c.args.keep) drops.names drops.lost
    c.in_ok-drops.ensures.drops c.deref.ensures.value c.saturating_sub.ensures)
    c.prune.ensures.files

pub returns-in_err-prune-clause-faith : goal.returns-in_err-prune-clause-faith
returns-in_err-prune-clause-faith g c =
    let a = g.S.Disk.told c.args.store.now in
    let b = g.S.Disk.told c.merge_levels.new.store in
    let merged = c.merge_levels.new.dated.items in
    let drops = c.in_ok-drops.drops in
    dropped_faith c.args.now c.args.dated merged c.in_ok-merged.merged a b
    (turned_at merge_levels c.args.now c.into_vec-dated.result.items c.args.dated merged c.in_ok-merged.merged a b
    c.in_ok-merged.ensures.ok c.into_vec-dated.ensures)
    (c.args.now - c.args.keep) (g.S.Disk.told c.prune.new.store) drops.names drops.lost
    (drops_at c.deref.result.now merged c.saturating_sub.result (c.args.now - c.args.keep) drops.names drops.lost
    c.in_ok-drops.ensures.drops c.deref.ensures.value c.saturating_sub.ensures)
    c.prune.ensures.files

pub returns-clause-files : goal.returns-clause-files
returns-clause-files g c =
    let a = g.S.Disk.told c.args.store.now in
    let b = g.S.Disk.told c.merge_levels.new.store in
    let merged = c.merge_levels.new.dated.items in
    let drops = c.in_ok-drops.drops in
    dropped_files c.args.now c.args.dated merged c.in_ok-merged.merged a b
    (turned_at merge_levels c.args.now c.into_vec-dated.result.items c.args.dated merged c.in_ok-merged.merged a b
    c.in_ok-merged.ensures.ok c.into_vec-dated.ensures)
    (c.args.now - c.args.keep) (g.S.Disk.told c.prune.new.store) drops.names drops.lost
    (drops_at c.deref.result.now merged c.saturating_sub.result (c.args.now - c.args.keep) drops.names drops.lost
    c.in_ok-drops.ensures.drops c.deref.ensures.value c.saturating_sub.ensures)
    c.in_ok-prune.ensures.files

pub returns-clause-faith : goal.returns-clause-faith
returns-clause-faith g c =
    let a = g.S.Disk.told c.args.store.now in
    let b = g.S.Disk.told c.merge_levels.new.store in
    let merged = c.merge_levels.new.dated.items in
    let drops = c.in_ok-drops.drops in
    dropped_faith c.args.now c.args.dated merged c.in_ok-merged.merged a b
    (turned_at merge_levels c.args.now c.into_vec-dated.result.items c.args.dated merged c.in_ok-merged.merged a b
    c.in_ok-merged.ensures.ok c.into_vec-dated.ensures)
    (c.args.now - c.args.keep) (g.S.Disk.told c.prune.new.store) drops.names drops.lost
    (drops_at c.deref.result.now merged c.saturating_sub.result (c.args.now - c.args.keep) drops.names drops.lost
    c.in_ok-drops.ensures.drops c.deref.ensures.value c.saturating_sub.ensures)
    c.in_ok-prune.ensures.files

pub returns-clause-settles : goal.returns-clause-settles
returns-clause-settles g c =
    let a = g.S.Disk.told c.args.store.now in
    let b = g.S.Disk.told c.merge_levels.new.store in
    let merged = c.merge_levels.new.dated.items in
    let drops = c.in_ok-drops.drops in
    dropped_settles c.args.now c.args.dated merged c.in_ok-merged.merged a b
    (turned_at merge_levels c.args.now c.into_vec-dated.result.items c.args.dated merged c.in_ok-merged.merged a b
    c.in_ok-merged.ensures.ok c.into_vec-dated.ensures)
    (c.args.now - c.args.keep) (g.S.Disk.told c.prune.new.store) drops.names drops.lost
    (drops_at c.deref.result.now merged c.saturating_sub.result (c.args.now - c.args.keep) drops.names drops.lost
    c.in_ok-drops.ensures.drops c.deref.ensures.value c.saturating_sub.ensures)
    c.in_ok-prune.ensures.ok

pub returns-clause-ok : goal.returns-clause-ok
returns-clause-ok g c =
    let a = g.S.Disk.told c.args.store.now in
    let b = g.S.Disk.told c.merge_levels.new.store in
    let merged = c.merge_levels.new.dated.items in
    let drops = c.in_ok-drops.drops in
    has_maintained c.args.now c.args.dated merged c.in_ok-merged.merged a b
    (turned_at merge_levels c.args.now c.into_vec-dated.result.items c.args.dated merged c.in_ok-merged.merged a b
    c.in_ok-merged.ensures.ok c.into_vec-dated.ensures)
    c.args.keep (g.S.Disk.told c.prune.new.store) drops.names drops.lost _
    (drops_at c.deref.result.now merged c.saturating_sub.result (c.args.now - c.args.keep) drops.names drops.lost
    c.in_ok-drops.ensures.drops c.deref.ensures.value c.saturating_sub.ensures)
    refl (ap length c.names.ensures.value) (ap length c.lost.ensures) c.in_ok-prune.ensures.ok
