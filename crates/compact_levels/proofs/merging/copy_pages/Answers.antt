use Rattle.std.proofs.Common.{ℕ, List, sym, ap, subst, ◌∙◌, arith}
use Rattle.std.specs.Prelude.{Err}
use Rattle.crash_disk.specs.GoesOn.{GoesOn}
use Rattle.crash_disk.specs.Told.{Told}
use Rattle.page_cursors.specs.declared.fault.CursorsFault.{CursorsFault}
use Rattle.page_cursors.specs.Cursors.{plan_of}
use Rattle.page_cursors.proofs.NextLemmas.{err_is, from_none, from_some}
use Rattle.replica_store.specs.Putting.{KeepsOthers}
use Rattle.compact_levels.specs.Drafting.{Gives, HasCopied}
use Rattle.compact_levels.specs.MergeCause.{fault_of}
use Rattle.compact_levels.proofs.CopyStepLemmas.{has_copied, same_file_then, same_plan_then, still_some, stops_page}
use Rattle.compact_levels.proofs.CopyStepLemmas.{stops_reading}
use Rattle.compact_levels.proofs.LastLemmas.{not_some}
use Rattle.compact_levels.proofs.merging.copy_pages.Goals as goal

pub returns-in_err-number-clause-err : goal.returns-in_err-number-clause-err
returns-in_err-number-clause-err g c =
    let loop = c.loop-number in
    let fault = c.in_err-number.field-0.0 in
    err_is c.from_residual.result (fault_of fault) _ c.from_residual.ensures.1 (λ begun begins.
    stops_reading begun (g.S.Disk.told loop.store) (g.S.Disk.told c.next_of.new.store) c.args.cursors.now loop.cursors
    c.args.draft.now loop.draft c.args.header.now.min fault (loop.invariant.copying begun begins) loop.invariant.plan
    loop.invariant.same c.next_of.ensures.unchanged c.in_err-number.ensures.explained
    (λ name number is. c.in_err-number.ensures.missing name number (ap (λ (e : CursorsFault). Err e) is)))

pub loop-number-preserved : goal.loop-number-preserved
loop-number-preserved g c =
    let loop = c.loop-number in
    let number = c.in-Some.number in
    let new = c.next_of.new.cursors in
    let mid = g.S.Disk.told c.next_of.new.store in
    let rises = from_some c.in_ok-number.field-0 _ number c.in_ok-number.ensures.rises c.in-Some.is in
    let gives = from_some c.in_ok-number.field-0 _ number c.in_ok-number.ensures.gives c.in-Some.is in
    record {
      ready = c.in_ok-number.ensures.ready;
      plan = same_plan_then c.args.cursors.now loop.cursors new loop.invariant.plan c.in_ok-number.ensures.same;
      being_put = c.in_ok-copy_page.ensures.being_put;
      rises = omega (arith, c.in_ok-copy_page.ensures.last, rises.1);
      same = same_file_then c.args.draft.now loop.draft c.copy_page.new.draft loop.invariant.same
          c.copy_page.ensures.same;
      copying = λ begun begins. c.in_ok-copy_page.ensures.ok begun loop.cursors
          (still_some begun (g.S.Disk.told loop.store) mid loop.cursors loop.draft c.next_of.ensures.unchanged
          (loop.invariant.copying begun begins)) rises.0 rises.1
          (subst (λ (t : Told). Gives t loop.cursors new number) (sym c.next_of.ensures.unchanged) gives);
      same_folder = c.copy_page.ensures.same_folder ∙ c.next_of.ensures.same_folder ∙ loop.invariant.same_folder;
      later = omega (arith, c.copy_page.ensures.cause.later, c.next_of.ensures.cause.later, loop.invariant.later);
    }

pub returns-in_err-copy_page-clause-err : goal.returns-in_err-copy_page-clause-err
returns-in_err-copy_page-clause-err g c =
    let loop = c.loop-number in
    let fault = c.in_err-copy_page.field-0.0 in
    let mid = g.S.Disk.told c.next_of.new.store in
    let now = g.S.Disk.told c.copy_page.new.store in
    err_is c.from_residual-in_err-copy_page.result fault _ c.from_residual-in_err-copy_page.ensures.1 (λ begun begins.
    let some = still_some begun (g.S.Disk.told loop.store) mid loop.cursors loop.draft c.next_of.ensures.unchanged
    (loop.invariant.copying begun begins) in
    stops_page begun now c.args.header.now.min (plan_of c.args.cursors.now) c.args.draft.now.put fault
    c.in_err-copy_page.ensures.failed
    (subst (λ (p : List ℕ). GoesOn begun now (KeepsOthers p)) loop.invariant.same.put
    (c.in_err-copy_page.ensures.err begun some.pages some.is.drafting)))

pub returns-clause-ok : goal.returns-clause-ok
returns-clause-ok g c = λ begun begins.
    let loop = c.loop-number in
    let old = g.S.Disk.told loop.store in
    let none = not_some c.in_ok-number.field-0 c.in_default.not-Some in
    subst (λ (t : Told). HasCopied begun t c.args.header.now.min (plan_of c.args.cursors.now) c.args.cursors.now.size
    loop.draft)
    (sym c.next_of.ensures.unchanged)
    (has_copied begun old c.args.cursors.now loop.cursors loop.draft c.args.header.now.min
    (loop.invariant.copying begun begins)
    loop.invariant.plan (from_none c.in_ok-number.field-0 _ c.in_ok-number.ensures.ended none))
