use Rattle.std.proofs.Common.{◌≡◌, ℕ, List, ap, ◌∙◌, length, take, drop, ◌++◌, replicate}
use Rattle.std.proofs.lemmas.List.{length-replicate}
use Rattle.live_gate.proofs.PieceLemmas.{padded_is}
use Rattle.live_gate.proofs.piece.fill_page.Goals as goal

pub returns : goal.returns
returns c =
    let zeros : c.fill.new.self ≡ replicate (length c.args.into.now) 0 = c.fill.ensures.after (λ y e. e) in
    c.copy_front.ensures.front ∙ ap (λ (z : List ℕ). take (length z) c.args.from.now ++ drop
    (length c.args.from.now) z) zeros
    ∙ ap (λ k. take k c.args.from.now ++ drop (length c.args.from.now) (replicate (length c.args.into.now) 0))
    (length-replicate (length c.args.into.now) 0)
    ∙ padded_is c.args.from.now (length c.args.into.now)
