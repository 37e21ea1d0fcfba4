use Rattle.std.proofs.Common.{◌≡◌, ℕ, ◌-◌, ◌*◌, List, ◌++◌, length, take, drop, replicate, ap, ◌∙◌}
use Rattle.live_gate.specs.contracts.still_live.StillLive.{the_view}
use Rattle.live_gate.proofs.StillLemmas.{goes_on, gives_page}
use Rattle.live_gate.proofs.still_live.StillLiveLive.read_page.Goals as goal

pub returns-clause-told : goal.returns-clause-told
returns-clause-told c =
    let size = length c.args.into.now in
    let at = c.from.result * c.from-2.result in
    let place : at ≡ (c.args.number - 1) * c.args.size = cc in
    let bytes = c.fill_page.ensures ∙ ap (λ (b : List ℕ). take size (b ++ replicate size 0))
    (c.rest_from.ensures ∙ ap (drop at) c.as_slice.ensures) in
    rw (← c.self.view_is)
    (goes_on _ _ _
    (gives_page (the_view c.self.inside) c.args.size c.args.number size at c.fill_page.new.into c.requires.whole
    place bytes))
