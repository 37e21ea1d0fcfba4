use Rattle.std.proofs.Common.{◌≡◌, ◌+◌, ◌-◌, ◌<◌, ℕ, List, Some, length, take, drop, sym, ap, subst, ◌∙◌, arith}
use Rattle.std.specs.Prelude.{slice_get}
use Rattle.std.proofs.lemmas.List.{take_all}
use Rattle.std.proofs.lemmas.List.{length-drop}
use Rattle.replica_store.specs.declared.file_name.FileName.{FileName}
use Rattle.compact_levels.specs.Run.{IsGapless}
use Rattle.compact_levels.proofs.RunFileLemmas.{behind_it, files_at, found_at, none_begins, not_missing, one_read}
use Rattle.compact_levels.proofs.RunFileLemmas.{read_at}
use Rattle.compact_levels.proofs.run_files.pile_from.Goals as goal

pub loop-at-preserved : goal.loop-at-preserved
loop-at-preserved c =
    let names = c.args.names.now in
    let at = c.loop-at.at in
    let low : at < length names = omega (arith, c.loop-at-test.true, c.loop-at.auto.at-end) in
    none_begins names at c.args.level c.args.min c.index-names-at.result low c.index-names-at.is
    (λ begins. let told = c.begins_with.ensures.1 begins in let not = c.if-begins_with.false in absurd cc)
    c.loop-at.invariant

pub returns-then-begins_with : goal.returns-then-begins_with
returns-then-begins_with c = λ before first rest behind to split pile ends.
    let names = c.args.names.now in
    let at = c.loop-at.at in
    let level = c.args.level in
    let low : at < length names = omega (arith, c.loop-at-test.true, c.loop-at.auto.at-end) in
    let here = c.index-names-at.result in
    let there : slice_get names at ≡ Some here = read_at names at here low c.index-names-at.is in
    let again = c.index-names-at-then-begins_with.result in
    let there_again : slice_get names at ≡ Some again = read_at names at again low
    c.index-names-at-then-begins_with.is in
    let found = found_at level c.args.min names before first rest behind to split pile at here there
    (c.begins_with.ensures.0 c.if-begins_with.true) c.loop-at.invariant in
    let same : again ≡ first = one_read names at again here there_again there ∙ found.1 in
    let whole = take_all (length names - (at + 1)) (drop (at + 1) names) (omega (arith, length-drop (at + 1) names)) in
    let count = c.going_on-count.ensures.count rest behind to
    (whole ∙ behind_it level c.args.min names before first rest behind to split pile at found.0)
    (subst (λ (n : FileName). IsGapless level n.max rest to) (sym same ∙ c.index-names-at-then-begins_with.is)
    pile.gapless) ends in
    let all : at + 1 + c.going_on-count.result - at ≡ 1 + c.going_on-count.result = omega arith in
    ap (λ (k : ℕ). take k (drop at names)) all
    ∙ files_at level c.args.min names before first rest behind to split pile at c.going_on-count.result found.0 count

pub returns : goal.returns
returns c = λ before first rest behind to split pile ends.
    absurd (not_missing c.args.level c.args.min c.args.names.now before first rest behind to split pile
    (λ k name low. c.loop-at.invariant k name (omega (arith, low, c.loop-at-test.false, c.loop-at.auto.at-end))))
