use Rattle.std.proofs.Common.{◌≡◌, Some}
use Rattle.std.proofs.Common.{refl, sym, ap, subst, ◌∙◌}
use Rattle.live_gate.specs.LiveCalls.{MayAdvance}
use Rattle.live_gate.proofs.StillLemmas.{goes_on}
use Rattle.sim_writer.specs.SimState.{SimState, record_of}
use Rattle.sim_writer.specs.Sound.{database_of}
use Rattle.sim_writer.specs.contracts.sim_live.SimLive.{the_view}
use Rattle.sim_writer.proofs.LiveLemmas as calls
use Rattle.sim_writer.proofs.live.SimLiveLive.advance.Goals as goal

pub returns-then-begin_fails-clause-told : goal.returns-then-begin_fails-clause-told
returns-then-begin_fails-clause-told c =
    rw (c.begin_fails.ensures.fails c.if-begin_fails.true).is (goes_on _ _ _ (calls.advances_not c.args.self.now
    c.args.end _))

pub invariant_of-self : goal.invariant_of-self
invariant_of-self c =
    let goes = c.begin_fails.ensures.goes c.if-begin_fails.false in
    let same = c.self.view_is ∙ goes.is in
    let m = c.self.inside.machine in
    let may = subst (λ (s : SimState). MayAdvance c.args.end (database_of s.machine)) (sym same)
    (c.requires.mark (record_of c.args.self.now) refl) in
    calls.sound_held m (Some c.args.end) m.stopped c.self.invariant
    (calls.advanced_is_held (database_of m) c.args.end c.self.invariant.legal c.if-self-eq0.true may)

pub returns-then-self-eq0-clause-told : goal.returns-then-self-eq0-clause-told
returns-then-self-eq0-clause-told c =
    let goes = c.begin_fails.ensures.goes c.if-begin_fails.false in
    let same = c.self.view_is ∙ goes.is in
    let runs = calls.runs_now same goes in
    let may = subst (λ (s : SimState). MayAdvance c.args.end (database_of s.machine)) (sym same)
    (c.requires.mark (record_of c.args.self.now) refl) in
    rw (← same)
    (goes_on _ _ _ (calls.advances (the_view c.self.inside) c.args.end c.self.invariant runs c.if-self-eq0.true may))

pub returns-else-self-eq0-clause-told : goal.returns-else-self-eq0-clause-told
returns-else-self-eq0-clause-told c =
    let goes = c.begin_fails.ensures.goes c.if-begin_fails.false in
    let same = c.self.view_is ∙ goes.is in
    let some : c.args.self.now.machine.chances ≡ 0 → ⊥ = λ zeros. c.if-self-eq0.false (ap (λ (s : SimState).
    s.machine.chances) same ∙ zeros) in
    rw goes.is (goes_on _ _ _ (calls.advances_later c.args.self.now c.args.end (goes.runs refl) some))
