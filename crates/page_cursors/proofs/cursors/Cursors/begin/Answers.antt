use Rattle.std.proofs.Common.{List, ℕ, Some, length, sym, ap, subst, ◌∙◌, arith}
use Rattle.crash_disk.specs.Files.{files_after}
use Rattle.crash_disk.specs.Told.{Told}
use Rattle.replica_store.specs.declared.file_name.FileName.{FileName}
use Rattle.page_cursors.specs.declared.cursor.Cursor.{Cursor}
use Rattle.page_cursors.specs.Cursor.{HaveSize}
use Rattle.page_cursors.specs.Fault.{Blames}
use Rattle.page_cursors.specs.Opening.{HaveBegun, CoversPlan, names_of}
use Rattle.page_cursors.specs.Queue.{Queue}
use Rattle.page_cursors.proofs.BeginLemmas.{some_files, none_waits, have_begun, covers_odd, blames_none, blames_told}
use Rattle.page_cursors.proofs.BeginLemmas.{no_odd, cause_of, cause_behind, no_cause, no_missing_found, no_missing_of}
use Rattle.page_cursors.proofs.NextLemmas.{err_is}
use Rattle.std.proofs.Common.{Option, refl}
use Rattle.page_cursors.specs.declared.opening.Odd.{Odd}
use Rattle.page_cursors.specs.Costs.{AreCounted, SomeOddIsCounted, Takes, both, left_of_all, nothing, odd_of, plan_cost}
use Rattle.page_cursors.proofs.CostLemmas.{takes_by, takes_none, takes_then}
use Rattle.page_cursors.proofs.CostListLemmas.{takes_all, err_each}
use Rattle.page_cursors.proofs.cursors.Cursors.begin.Goals as goal

pub returns-in_err-cursors-clause-explained : goal.returns-in_err-cursors-clause-explained
returns-in_err-cursors-clause-explained g c =
    err_is c.from_residual-in_err-cursors.result c.in_err-cursors.field-0.0 (Blames
    (g.S.Disk.told c.args.store.now) c.args.plan.now)
    c.from_residual-in_err-cursors.ensures.1
    (blames_none (g.S.Disk.told c.args.store.now) c.args.plan.now c.in_err-cursors.field-0.0
    c.in_err-cursors.ensures.explained)

pub returns-in_err-cursors-clause-cause : goal.returns-in_err-cursors-clause-cause
returns-in_err-cursors-clause-cause g c =
    let first = g.S.Disk.fault_count c.args.store.now in
    cause_of first first (g.S.Disk.fault_count c.open.new.store) c.from_residual-in_err-cursors.result
    c.in_err-cursors.field-0.0
    c.from_residual-in_err-cursors.ensures.1 (omega arith) c.in_err-cursors.ensures.cause

pub odd_fault-requires-clause-one_size : goal.odd_fault-requires-clause-one_size
odd_fault-requires-clause-one_size g c =
    subst (λ (cs : List Cursor). (size : ℕ) × HaveSize size cs)
    (sym c.deref_mut.ensures.value) c.in_ok-cursors.ensures.one_size

pub returns-in-Some-clause-explained : goal.returns-in-Some-clause-explained
returns-in-Some-clause-explained g c =
    let told = g.S.Disk.told c.args.store.now in
    let plan = c.args.plan.now in
    let opened = c.in_ok-cursors.field-0 in
    let odd = c.in-Some.odd in
    let lent = sym c.deref_mut.ensures.value in
    let after = c.in_ok-cursors.ensures.unchanged in
    blames_told told plan c.odd_fault.result (λ events is.
    let files = files_after events in
    let are = c.in_ok-cursors.ensures.opened events is in
    subst (λ (t : Told). Blames t plan c.odd_fault.result) after
    (c.odd_fault.ensures.blames events (after ∙ is) are.size plan
    (subst (λ (cs : List Cursor). HaveBegun files are.size 0 cs) lent are.begun)
    (subst (λ (cs : List Cursor). CoversPlan files are.size plan cs (Some odd)) lent
    (covers_odd files plan opened odd are c.in-Some.is))))

pub returns-in-Some-clause-cause : goal.returns-in-Some-clause-cause
returns-in-Some-clause-cause g c =
    cause_behind (g.S.Disk.fault_count c.args.store.now) (g.S.Disk.fault_count c.open.new.store)
    (g.S.Disk.fault_count c.odd_fault.new.store)
    c.odd_fault.result c.in_ok-cursors.ensures.cause.later c.odd_fault.ensures.cause

pub start-requires-clause-start : goal.start-requires-clause-start
start-requires-clause-start g c = (
  c.stand-begun.ensures.last,
  none_waits c.stand-begun.result.waiting.numbers _
      (ap (λ (q : Queue). q.numbers) c.stand-begun.ensures.same_waiting ∙ c.in_ok-waiting.ensures.numbers),
)

pub returns-in_err-start-clause-explained : goal.returns-in_err-start-clause-explained
returns-in_err-start-clause-explained g c =
    let told = g.S.Disk.told c.args.store.now in
    let plan = c.args.plan.now in
    let opened = c.in_ok-cursors.field-0 in
    let begun = c.stand-begun.result in
    let same = c.stand-begun.ensures.same_cursors in
    let none = no_odd opened.odd c.in_default.not-Some in
    let names = ap names_of same ∙ c.in_ok-cursors.ensures.names none in
    let count = ap length same ∙ c.in_ok-cursors.ensures.count none in
    let after = c.in_ok-cursors.ensures.unchanged in
    let fault = c.in_err-start.field-0.0 in
    err_is c.from_residual-in_err-start.result fault (Blames told plan) c.from_residual-in_err-start.ensures.1
    (blames_told told plan fault (λ events is.
    subst (λ (t : Told). Blames t plan fault) after
    (subst (λ (p : List FileName). Blames (g.S.Disk.told c.open.new.store) p fault) names
    (c.in_err-start.ensures.explained events (after ∙ is)
    (have_begun (files_after events) plan opened begun.size begun.cursors.items
    (c.in_ok-cursors.ensures.opened events is) same
    c.stand-begun.ensures.shape.sized (omega (arith, count, some_files plan c.requires.some)))))))

pub returns-in_err-start-clause-cause : goal.returns-in_err-start-clause-cause
returns-in_err-start-clause-cause g c =
    cause_of (g.S.Disk.fault_count c.args.store.now) (g.S.Disk.fault_count c.open.new.store)
    (g.S.Disk.fault_count c.start.new.store)
    c.from_residual-in_err-start.result c.in_err-start.field-0.0 c.from_residual-in_err-start.ensures.1
    c.in_ok-cursors.ensures.cause.later c.in_err-start.ensures.cause

pub returns-clause-begun : goal.returns-clause-begun
returns-clause-begun g c = λ events is.
    let plan = c.args.plan.now in
    let opened = c.in_ok-cursors.field-0 in
    let begun = c.stand-begun.result in
    let same = c.stand-begun.ensures.same_cursors in
    let none = no_odd opened.odd c.in_default.not-Some in
    let count = ap length same ∙ c.in_ok-cursors.ensures.count none in
    c.in_ok-start.ensures.begun events (c.in_ok-cursors.ensures.unchanged ∙ is)
    (have_begun (files_after events) plan opened begun.size begun.cursors.items
    (c.in_ok-cursors.ensures.opened events is) same
    c.stand-begun.ensures.shape.sized (omega (arith, count, some_files plan c.requires.some)))
    c.stand-begun.ensures.ends

pub returns-clause-cause : goal.returns-clause-cause
returns-clause-cause g c =
    no_cause (g.S.Disk.fault_count c.args.store.now) (g.S.Disk.fault_count c.start.new.store) c.start.new.self
    (omega (arith, c.in_ok-cursors.ensures.cause.later, c.in_ok-start.ensures.cause.later))

pub returns-in_err-cursors-clause-spends : goal.returns-in_err-cursors-clause-spends
returns-in_err-cursors-clause-spends g c = err_each c.from_residual-in_err-cursors.result _ (λ events told.
    let plan = plan_cost (files_after events) c.args.plan.now in
    let s = c.args.steps.now in
    takes_by plan nothing plan nothing 0 0 s s _ _ (c.in_err-cursors.ensures.spends events told) (omega arith)
    (omega arith))

pub returns-in-Some-clause-spends : goal.returns-in-Some-clause-spends
returns-in-Some-clause-spends g c = λ events told.
    let files = files_after events in
    let plan = plan_cost files c.args.plan.now in
    let opened = c.in_ok-cursors.field-0 in
    let costs = c.in_ok-cursors.ensures.costs events told in
    let items = opened.cursors.items in
    let s = c.args.steps.now in
    let x = g.S.Disk.given c.args.store.now in
    let y = g.S.Disk.given c.open.new.store in
    let all = both (left_of_all files items) (odd_of files opened.odd) in
    let first = takes_by plan all plan all 0 0 s s x y costs.takes (omega arith) (omega arith) in
    let lent = c.deref_mut.ensures.value in
    let z = g.S.Disk.given c.odd_fault.new.store in
    let u = c.odd_fault.new.steps in
    let odd = c.in-Some.odd in
    let is = c.in-Some.is in
    let counted_odd = subst (λ (o : Option Odd). SomeOddIsCounted files o) is costs.odd in
    let before = subst (λ (o : Option Odd). Takes plan (both (left_of_all files items) (odd_of files o)) s s x y) is
    first in
    takes_then plan (both (left_of_all files items) (odd_of files (Some odd))) nothing s s u x y z before
    (subst (λ (cs : List Cursor). Takes (both (left_of_all files cs) (odd_of files (Some odd))) nothing s u y z) lent
    (c.odd_fault.ensures.spends events (c.in_ok-cursors.ensures.unchanged ∙ told)
    (subst (λ (cs : List Cursor). AreCounted files cs) (sym lent) costs.counted) counted_odd))

pub returns-in_err-start-clause-spends : goal.returns-in_err-start-clause-spends
returns-in_err-start-clause-spends g c = err_each c.from_residual-in_err-start.result _ (λ events told.
    let files = files_after events in
    let plan = plan_cost files c.args.plan.now in
    let opened = c.in_ok-cursors.field-0 in
    let costs = c.in_ok-cursors.ensures.costs events told in
    let items = opened.cursors.items in
    let s = c.args.steps.now in
    let x = g.S.Disk.given c.args.store.now in
    let y = g.S.Disk.given c.open.new.store in
    let all = both (left_of_all files items) (odd_of files opened.odd) in
    let first = takes_by plan all plan all 0 0 s s x y costs.takes (omega arith) (omega arith) in
    let same = c.stand-begun.ensures.same_cursors in
    let z = g.S.Disk.given c.start.new.store in
    let u = c.start.new.steps in
    let left = left_of_all files items in
    takes_then plan left nothing s s u x y z (takes_by plan all plan left s s s s x y first (omega arith) (omega arith))
    (subst (λ (cs : List Cursor). Takes (left_of_all files cs) nothing s u y z) same
    (c.in_err-start.ensures.spends events (c.in_ok-cursors.ensures.unchanged ∙ told)
    (subst (λ (cs : List Cursor). AreCounted files cs) (sym same) costs.counted))))

pub returns-clause-takes : goal.returns-clause-takes
returns-clause-takes g c = λ events told.
    let files = files_after events in
    let plan = plan_cost files c.args.plan.now in
    let opened = c.in_ok-cursors.field-0 in
    let costs = c.in_ok-cursors.ensures.costs events told in
    let items = opened.cursors.items in
    let s = c.args.steps.now in
    let x = g.S.Disk.given c.args.store.now in
    let y = g.S.Disk.given c.open.new.store in
    let all = both (left_of_all files items) (odd_of files opened.odd) in
    let first = takes_by plan all plan all 0 0 s s x y costs.takes (omega arith) (omega arith) in
    let same = c.stand-begun.ensures.same_cursors in
    let z = g.S.Disk.given c.start.new.store in
    let u = c.start.new.steps in
    let left = left_of_all files items in
    let now = left_of_all files c.start.new.self.cursors.items in
    let went = c.in_ok-start.ensures.takes events (c.in_ok-cursors.ensures.unchanged ∙ told)
    (subst (λ (cs : List Cursor). AreCounted files cs) (sym same) costs.counted) in
    takes_then plan left now s s u x y z (takes_by plan all plan left s s s s x y first (omega arith) (omega arith))
    (subst (λ (cs : List Cursor). Takes (left_of_all files cs) now s u y z) same went.1)

pub returns-clause-counted : goal.returns-clause-counted
returns-clause-counted g c = λ events told.
    let files = files_after events in
    let costs = c.in_ok-cursors.ensures.costs events told in
    let same = c.stand-begun.ensures.same_cursors in
    (c.in_ok-start.ensures.takes events (c.in_ok-cursors.ensures.unchanged ∙ told)
    (subst (λ (cs : List Cursor). AreCounted files cs) (sym same) costs.counted)).0

pub returns-in-Some-clause-no_missing : goal.returns-in-Some-clause-no_missing
returns-in-Some-clause-no_missing g c =
    no_missing_found (g.S.Disk.fault_count c.open.new.store) (g.S.Disk.fault_count c.odd_fault.new.store)
    c.odd_fault.result c.odd_fault.ensures.cause

pub returns-in_err-start-clause-no_missing : goal.returns-in_err-start-clause-no_missing
returns-in_err-start-clause-no_missing g c =
    no_missing_of c.from_residual-in_err-start.result c.in_err-start.field-0.0 c.from_residual-in_err-start.ensures.1
    c.in_err-start.ensures.no_missing
