use Rattle.std.proofs.Common.{◌≡◌, ℕ, ◌+◌, ◌-◌, ◌^◌, List, length, take}
use Rattle.std.proofs.Common.{sym, ap, subst, ◌∙◌}
use Rattle.std.specs.Prelude.{min}
use Rattle.live_gate.proofs.StillLemmas.{goes_on}
use Rattle.sim_writer.specs.Calls.{Notes}
use Rattle.sim_writer.specs.SimState.{SimState, record_of}
use Rattle.sim_writer.specs.contracts.sim_live.SimLive.{the_view}
use Rattle.sim_writer.proofs.LiveLemmas as calls
use Rattle.sim_writer.proofs.ReadCallLemmas as reads
use Rattle.sim_writer.proofs.live.SimLiveLive.read.Goals as goal

pub returns-then-begin_fails-clause-told : goal.returns-then-begin_fails-clause-told
returns-then-begin_fails-clause-told c =
    rw (c.begin_fails.ensures.fails c.if-begin_fails.true).is (goes_on _ _ _ (reads.reads_not c.args.self.now _ _))

pub returns-in-Err-clause-told : goal.returns-in-Err-clause-told
returns-in-Err-clause-told c =
    let goes = c.begin_fails.ensures.goes c.if-begin_fails.false in
    let same : record_of c.starve.new.self ≡ record_of c.args.self.now = ap record_of c.starve.ensures
    ∙ ap record_of c.in-Err.ensures.err ∙ ap record_of goes.is in
    rw same (goes_on _ _ _ (reads.reads_not c.args.self.now _ _))

pub returns-in-Ok-clause-told : goal.returns-in-Ok-clause-told
returns-in-Ok-clause-told c =
    let goes = c.begin_fails.ensures.goes c.if-begin_fails.false in
    let same = c.self.view_is ∙ goes.is in
    let runs = calls.runs_now same goes in
    let s = the_view c.self.inside in
    let got = take c.read_log-count.result c.read_log-count.new.into in
    let notes = subst (λ (x : SimState). Notes got x c.note.new.self) (sym c.self.view_is) c.in-Ok.ensures.ok in
    let place = c.saturating_add-at.ensures
    ∙ ap (λ (b : List ℕ). min (c.self.inside.asked.aimed + length b) (2 ^ 64 - 1)) c.as_slice.ensures in
    calls.goes_from _ _ _ _ (ap record_of same)
    (reads.reads_now s c.read_log-count.result (length c.args.into.now) c.saturating_add-at.result
    c.read_log-count.new.into c.note.new.self runs c.read_log-count.ensures.value c.requires.room
    c.read_log-count.ensures.short place notes)
