use Rattle.std.proofs.Common.{rules, ◌≡◌, ℕ, ◌+◌, List, ◌++◌, length, take, drop, ap, ◌∙◌}
use Rattle.std.specs.Prelude.{min}
use Rattle.live_gate.specs.contracts.still_live.StillLive.{the_view}
use Rattle.live_gate.proofs.StillLemmas.{goes_on, reads}
use Rattle.live_gate.proofs.still_live.StillLiveLive.read.Goals as goal

pub returns-clause-told : goal.returns-clause-told
returns-clause-told c =
    let room = length c.args.into.now in
    let rest : c.rest_from.result.now ≡ drop (c.self.inside.aimed + c.self.inside.answered) c.self.inside.wal = cc in
    let behind = drop (length c.rest_from.result.now) c.args.into.now in
    let count = c.copy_front-count.ensures.count ∙ ap (λ (b : List ℕ). min (length b) room) rest in
    let front = c.copy_front-count.ensures.front ∙ ap (λ (b : List ℕ). take room b ++ behind) rest in
    rw (← c.self.view_is)
    (goes_on _ _ _ (reads (the_view c.self.inside) c.copy_front-count.result c.saturating_add-self-inside.result
    room c.copy_front-count.new.into behind c.self.invariant c.requires.room count front (search rules)))
