use Rattle.std.proofs.Common.{◌≡◌, ℕ, ◌-◌, ◌*◌, ◌++◌, List, length, take, drop, replicate, refl}
use Rattle.std.proofs.Common.{ap, ◌∙◌}
use Rattle.live_gate.proofs.StillLemmas.{goes_on}
use Rattle.sim_writer.specs.SimState.{SimState}
use Rattle.sim_writer.proofs.LiveLemmas as calls
use Rattle.sim_writer.proofs.live.SimLiveLive.read_page.Goals as goal

pub returns-then-begin_fails-clause-told : goal.returns-then-begin_fails-clause-told
returns-then-begin_fails-clause-told c =
    rw (c.begin_fails.ensures.fails c.if-begin_fails.true).is (goes_on _ _ _ (calls.gives_page_not c.args.self.now
    c.args.size c.args.number _ _))

pub returns-clause-told : goal.returns-clause-told
returns-clause-told c =
    let goes = c.begin_fails.ensures.goes c.if-begin_fails.false in
    let same = c.self.view_is ∙ goes.is in
    let size = length c.args.into.now in
    let at = c.from.result * c.from-2.result in
    let place : at ≡ (c.args.number - 1) * c.args.size = cc in
    let file = c.as_slice.ensures ∙ ap (λ (s : SimState). s.machine.file) same in
    let bytes = c.fill_page.ensures ∙ ap (λ (b : List ℕ). take size (b ++ replicate size 0))
    (c.rest_from.ensures ∙ ap (drop at) file) in
    rw goes.is
    (goes_on _ _ _ (calls.gives_page c.args.self.now c.args.size c.args.number size at c.fill_page.new.into
    (goes.runs refl) c.requires.whole place bytes))
