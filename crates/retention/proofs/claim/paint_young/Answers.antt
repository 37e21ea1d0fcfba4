use Rattle.std.proofs.Common.{◌≡◌, ◌+◌, Some, slice_get, sym, subst, arith}
use Rattle.std.proofs.lemmas.Option.{slice_get_within}
use Rattle.retention.proofs.ListLemmas.{at_index}
use Rattle.retention.proofs.ClaimLemmas.{IsYoungPainted, young_painted, young_passed}
use Rattle.retention.proofs.claim.paint_young.Goals as goal
use Rattle.retention.proofs.claim.paint_young.Goals.{then-one-cut, else-one-cut}

pub loop-one-preserved : goal.loop-one-preserved
loop-one-preserved c =
    let dated = c.args.dated.now in
    let stretches = c.args.stretches.now in
    let i = c.loop-one.one-index in
    let one = c.one-item.result in
    let there : slice_get dated i ≡ Some one = at_index dated i one (omega arith) c.one-item.is in
    elim c.if-one-cut.branch [
      | then-one-cut w ↦ subst (λ skips. IsYoungPainted dated c.args.cut stretches (i + 1) skips) (sym w.skips-is)
          (young_painted dated c.args.cut stretches i w.span_of.result.from w.span_of.result.to c.loop-one.skips
          w.paint.new.skips one there w.if-one-cut.true w.span_of.ensures w.paint.ensures.skips
          w.paint.ensures.painted c.loop-one.invariant)
      | else-one-cut w ↦ subst (λ skips. IsYoungPainted dated c.args.cut stretches (i + 1) skips) (sym w.skips-is)
          (young_passed dated c.args.cut stretches i c.loop-one.skips one there w.if-one-cut.false c.loop-one.invariant)
    ]

pub returns-clause-all : goal.returns-clause-all
returns-clause-all c = λ j k low spans. c.loop-one.invariant.all j k
    (let h = slice_get_within c.args.dated.now j spans.one spans.there in omega arith) low spans
