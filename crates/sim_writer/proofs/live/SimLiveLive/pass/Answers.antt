use Rattle.std.proofs.Common.{ℕ, Ok, sym, ap, subst, ◌∙◌}
use Rattle.live_gate.specs.LiveRecord.{is_at_rest}
use Rattle.live_gate.specs.declared.fault.PassFault.TheVariants.{Live, Memory}
use Rattle.sim_writer.specs.Calls.{PassesNow}
use Rattle.sim_writer.specs.SimState.{SimState, record_of}
use Rattle.sim_writer.specs.contracts.sim_live.SimLive.{the_view}
use Rattle.sim_writer.proofs.LiveLemmas as calls
use Rattle.sim_writer.proofs.live.SimLiveLive.pass.Goals as goal

-- the state with as many passes asked
abbrev counting : SimState → ℕ → SimState
counting s n = record s { asked = record s.asked { passes_asked = n } }

pub returns-then-fails-clause-told : goal.returns-then-fails-clause-told
returns-then-fails-clause-told c =
    let s = the_view c.self.inside in
    let fails = c.begin_fails-fails.ensures.fails c.if-fails.true in
    let same = ap record_of c.self.view_is ∙ ap record_of fails.is in
    calls.goes_from _ _ _ _ same
    (calls.passes_not s c.args.place.now (is_at_rest c.args.self.now.attached) (Live (record {}))
    (counting s c.count_if-self-inside.result)
    (ap (λ (n : ℕ). record_of (counting s n)) c.count_if-self-inside.ensures.value))

pub returns-in-Ok-clause-told : goal.returns-in-Ok-clause-told
returns-in-Ok-clause-told c =
    let s = the_view c.self.inside in
    let goes = c.begin_fails-fails.ensures.goes c.if-fails.false in
    let same = c.self.view_is ∙ goes.is in
    let rests = sym (ap (λ (x : SimState). is_at_rest x.attached) same) in
    let now = subst (λ (n : ℕ). PassesNow c.args.place.now (Ok c.in-Ok.pass) (counting s n) c.pass_now.new.self)
    c.count_if-self-inside.ensures.value c.in-Ok.ensures.does in
    calls.goes_from _ _ _ _ (ap record_of same)
    (calls.passes s c.args.place.now (is_at_rest c.args.self.now.attached) c.in-Ok.pass c.pass_now.new.self rests
    (calls.runs_now same goes) now)

pub returns-in-Ok-clause-keeps : goal.returns-in-Ok-clause-keeps
returns-in-Ok-clause-keeps c =
    let goes = c.begin_fails-fails.ensures.goes c.if-fails.false in
    let same = c.self.view_is ∙ goes.is in
    calls.keeps_on c.args.self.now c.pass_now.new.self
    (c.in-Ok.ensures.attached ∙ ap (λ (s : SimState). s.attached) same)
    (c.in-Ok.ensures.name ∙ ap (λ (s : SimState). s.name) same)

pub returns-in-Err-clause-told : goal.returns-in-Err-clause-told
returns-in-Err-clause-told c =
    let s = the_view c.self.inside in
    let goes = c.begin_fails-fails.ensures.goes c.if-fails.false in
    let same = c.self.view_is ∙ goes.is in
    let is = ap record_of c.in-Err.ensures.does
    ∙ ap (λ (n : ℕ). record_of (counting s n)) c.count_if-self-inside.ensures.value in
    calls.goes_from _ _ _ _ (ap record_of same)
    (calls.passes_not s c.args.place.now (is_at_rest c.args.self.now.attached) Memory c.pass_now.new.self is)
