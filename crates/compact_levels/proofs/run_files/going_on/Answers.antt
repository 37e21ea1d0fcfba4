use Rattle.std.proofs.Common.{◌<◌, get_or, length, subst, arith}
use Rattle.std.proofs.lemmas.Option.{slice_get-get_or}
use Rattle.replica_store.specs.declared.file_name.FileName.{FileName}
use Rattle.compact_levels.specs.Run.{GoesOnFrom}
use Rattle.compact_levels.proofs.RunFileLemmas.{gone_further, none_gone, same_at, stops_at, stops_at_end}
use Rattle.compact_levels.proofs.run_files.going_on.Goals as goal

pub loop-at-init : goal.loop-at-init
loop-at-init c = none_gone c.args.level c.args.end c.args.names.now

pub loop-at-preserved : goal.loop-at-preserved
loop-at-preserved c =
    let names = c.args.names.now in
    let at = c.loop-at.at in
    let d = c.index-names-at-in-loop-at.result in
    let low : at < length names = omega (arith, c.loop-at-test.true, c.loop-at.auto.at-end) in
    let same = same_at names at c.index-names-at.result d low c.index-names-at.is in
    gone_further c.args.level c.args.end names at c.loop-at.end (get_or names at d) (slice_get-get_or names at d low)
    c.loop-at.invariant
    (subst (GoesOnFrom c.args.level c.loop-at.end) same
    (subst (λ n. GoesOnFrom c.args.level n c.index-names-at.result) c.number.ensures.value
    (c.goes_on_from.ensures.0 c.if-not-goes_on_from.false)))
