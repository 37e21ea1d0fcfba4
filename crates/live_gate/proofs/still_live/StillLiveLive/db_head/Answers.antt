use Rattle.std.proofs.Common.{rules, ◌≡◌, ℕ, List, ◌++◌, length, take, drop, ap, ◌∙◌}
use Rattle.std.specs.Prelude.{min}
use Rattle.live_gate.specs.contracts.still_live.StillLive.{the_view}
use Rattle.live_gate.proofs.StillLemmas.{goes_on, gives_head}
use Rattle.live_gate.proofs.still_live.StillLiveLive.db_head.Goals as goal

pub returns-clause-told : goal.returns-clause-told
returns-clause-told c =
    let room : length c.args.into.now ≡ 100 = search rules in
    let behind = drop (length c.as_slice.result.now) c.args.into.now in
    let count = c.copy_front.ensures.count ∙ ap (λ (n : ℕ). min (length c.as_slice.result.now) n) room
    ∙ ap (λ (b : List ℕ). min (length b) 100) c.as_slice.ensures in
    let front = c.copy_front.ensures.front ∙ ap (λ (n : ℕ). take n c.as_slice.result.now ++ behind) room
    ∙ ap (λ (b : List ℕ). take 100 b ++ behind) c.as_slice.ensures in
    rw (← c.self.view_is)
    (goes_on _ _ _
    (gives_head (the_view c.self.inside) c.copy_front.result c.copy_front.new.into behind count front))
