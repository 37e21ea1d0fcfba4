use Rattle.std.proofs.Common.{◌≡◌, ◌+◌, ◌<◌, ◌∷◌, [], ◌++◌, not, length, ap, ◌∙◌, subst, arith}
use Rattle.retention.proofs.DropLemmas.{AreMissingTo, missing_more, missing_passes, missing_all, found_there, not_there}
use Rattle.retention.proofs.SweepLemmas.{read_zero}
use Rattle.retention.proofs.decision.missing.Goals as goal
use Rattle.retention.proofs.decision.missing.Goals.{then-is_none+in_ok-push, else-is_none}

pub loop-t-preserved : goal.loop-t-preserved
loop-t-preserved c =
    let before = c.args.before.now in
    let after = c.args.after.now in
    let i = c.loop-t.t-index in
    let lost = c.loop-t.lost.items in
    let t = c.t-item.result in
    let low : i < length before = omega arith in
    let is = read_zero before i t low c.t-item.is in
    elim c.if-is_none.branch [
      | then-is_none+in_ok-push w ↦
          let items : lost ++ t ∷ [] ≡ c.if-is_none.lost.items = cc (w.in_ok-push.ensures.items) in
          let absent = not_there after t c.place_of.result (c.is_none.ensures ∙ ap not w.if-is_none.true)
          c.place_of.ensures.none in
          subst (λ ts. AreMissingTo before after (i + 1) ts) items
          (missing_more before after i t lost c.requires.before low is absent c.loop-t.invariant)
      | else-is_none w ↦
          let items : lost ≡ c.if-is_none.lost.items = cc in
          let there = found_there after t c.place_of.result (c.is_none.ensures ∙ ap not w.if-is_none.false)
          c.place_of.ensures.found in
          subst (λ ts. AreMissingTo before after (i + 1) ts) items
          (missing_passes before after i t lost is there c.loop-t.invariant)
    ]

pub returns : goal.returns
returns c = missing_all c.args.before.now c.args.after.now c.loop-t.t-index c.loop-t.lost.items (omega arith)
    c.loop-t.invariant
