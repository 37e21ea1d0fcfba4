use Rattle.std.proofs.Common.{◌≡◌, ◌<◌, ℕ, List, Some, length, take, refl, sym, ap, subst, ◌∙◌, arith}
use Rattle.std.specs.Prelude.{slice_get, slice_set}
use Rattle.std.specs.Vec.{with_items}
use Rattle.std.proofs.lemmas.List.{with_items_is, length-set}
use Rattle.crash_disk.specs.Files.{files_after}
use Rattle.crash_disk.specs.Told.{Told}
use Rattle.ltx_format.specs.declared.fault.LtxFault.{LtxFault}
use Rattle.ltx_format.specs.declared.header.LtxHeader.{LtxHeader}
use Rattle.ltx_reader.specs.declared.read_fault.ReadFault.{ReadFault}
use Rattle.page_cursors.specs.declared.cursor.Cursor.{Cursor}
use Rattle.page_cursors.specs.declared.cursors.Cursors.{Cursors}
use Rattle.page_cursors.specs.Cursor.{AreMoved, AsksAt, TellsFileFault, HaveSize}
use Rattle.page_cursors.specs.Ending.{BlamesAt}
use Rattle.page_cursors.specs.Queue.{number_above}
use Rattle.page_cursors.proofs.DamageLemmas.{sized_next}
use Rattle.page_cursors.proofs.StartLemmas.{none_fresh, begins_started, started_next, have_started, asked_moves}
use Rattle.page_cursors.proofs.StartLemmas.{above_next, fresh_next, end_with_same, start_fault}
use Rattle.page_cursors.proofs.TakeLemmas.{same_plan, same_shape, some_commit}
use Rattle.page_cursors.specs.Costs.{AreCounted, Takes, left_of_all, nothing}
use Rattle.page_cursors.proofs.CostLemmas.{takes_by, takes_none, takes_then}
use Rattle.page_cursors.proofs.CostListLemmas.{takes_all, err_each}
use Rattle.page_cursors.proofs.cursors.Cursors.start.Goals as goal

pub loop-place-init : goal.loop-place-init
loop-place-init g c = record {
  shape = c.requires.shape;
  end = sym (c.len-place-end.ensures ∙ c.args.self.now.cursors.ok.0);
  room = omega (arith, c.requires.room);
  above = λ k n waits. absurd (none_fresh c.args.self.now.waiting.numbers k n c.requires.start.1 waits);
  last = c.requires.start.0;
  ends = λ ends. ends;
  fresh = c.requires.start.1;
  same = record { plan = refl; size = refl; commit = refl };
  started = λ events told begun. begins_started (files_after events) c.args.self.now begun;
  costs = λ events told counted. (counted, takes_none _ _ _ _ _ refl refl);
  unchanged = refl;
  same_folder = refl;
  later = omega arith;
}

pub damage_at-requires-clause-sized : goal.damage_at-requires-clause-sized
damage_at-requires-clause-sized g c =
    let old = c.loop-place.self in
    let place = c.loop-place.place in
    let low : place < length old.cursors.items = omega (arith, c.loop-place-test.true, c.loop-place.invariant.end) in
    let at = c.ask_at.ensures.same in
    let lent = c.deref_mut.ensures.value in
    let kept = with_items_is old.cursors c.ask_at.new.cursors (c.ask_at.auto.cursors ∙ ap length lent
    ∙ sym old.cursors.ok.0) in
    let is : slice_get old.cursors.items place ≡ Some at.cursor = ap (λ (cs : List Cursor). slice_get cs place)
    (sym lent) ∙ at.is in
    let items = c.deref_mut-in-Err-Fault.ensures.value ∙ kept ∙ at.items
    ∙ ap (λ (cs : List Cursor). slice_set cs place at.moved) lent in
    let page = ap length c.deref_mut-in-Err-Fault-2.ensures.value ∙ c.loop-place.invariant.shape.page in
    subst (λ (n : ℕ). HaveSize n c.deref_mut-in-Err-Fault.result.now) (sym page)
    (subst (λ (cs : List Cursor). HaveSize old.size cs) (sym items)
    (sized_next old.size place old.cursors.items at.cursor at.moved c.loop-place.invariant.shape.sized low is
    at.same.header))

pub returns-in-Err-Fault-clause-explained : goal.returns-in-Err-Fault-clause-explained
returns-in-Err-Fault-clause-explained g c = λ events told begun.
    let old = c.loop-place.self in
    let place = c.loop-place.place in
    let files = files_after events in
    let before = c.loop-place.invariant in
    let low : place < length old.cursors.items = omega (arith, c.loop-place-test.true, before.end) in
    let at = c.ask_at.ensures.same in
    let lent = c.deref_mut.ensures.value in
    let kept = with_items_is old.cursors c.ask_at.new.cursors (c.ask_at.auto.cursors ∙ ap length lent
    ∙ sym old.cursors.ok.0) in
    let is : slice_get old.cursors.items place ≡ Some at.cursor = ap (λ (cs : List Cursor). slice_get cs place)
    (sym lent) ∙ at.is in
    let items = c.deref_mut-in-Err-Fault.ensures.value ∙ kept ∙ at.items
    ∙ ap (λ (cs : List Cursor). slice_set cs place at.moved) lent in
    let page = ap length c.deref_mut-in-Err-Fault-2.ensures.value ∙ before.shape.page in
    let told_after = c.ask_at.ensures.unchanged ∙ before.unchanged in
    let started = before.started events told begun in
    let commit = some_commit old.cursors.items place low in
    let reads = (started.given place commit.0 at.cursor is commit.1).open_file.reads in
    let fault = subst (λ (e : ReadFault). TellsFileFault files at.cursor.name e) c.in-Err-Fault.field-0-is
    (c.in-Err-Fault.ensures.fault events (before.unchanged ∙ told) at.cursor at.is reads) in
    start_fault files (g.S.Disk.told c.args.store.now) place
    (length c.deref_mut-in-Err-Fault-2.result.now) c.args.self.now old c.deref_mut-in-Err-Fault.result.now
    at.cursor at.moved c.in-Err-Fault.fault c.damage_at.result
    started before.same.plan low is at.same items page fault
    (subst (λ (t : Told). BlamesAt files t (length c.deref_mut-in-Err-Fault-2.result.now)
    c.deref_mut-in-Err-Fault.result.now place c.in-Err-Fault.fault c.damage_at.result) told_after
    (subst (λ (f : LtxFault). BlamesAt files (g.S.Disk.told c.ask_at.new.store)
    (length c.deref_mut-in-Err-Fault-2.result.now) c.deref_mut-in-Err-Fault.result.now place f c.damage_at.result)
    c.in-Err-Fault.fault-is
    (c.damage_at.ensures.blames events (told_after ∙ told))))

pub loop-place-preserved : goal.loop-place-preserved
loop-place-preserved g c =
    let old = c.loop-place.self in
    let place = c.loop-place.place in
    let next = c.in-Ok.next in
    let before = c.loop-place.invariant in
    let new : Cursors = record {
      cursors = with_items old.cursors c.ask_at.new.cursors;
      waiting =
          c.put_above.new.self;
      page = old.page;
      size = old.size;
      commit = old.commit;
      last = old.last;
    } in
    let low : place < length old.cursors.items = omega (arith, c.loop-place-test.true, before.end) in
    let at = c.ask_at.ensures.same in
    let lent = c.deref_mut.ensures.value in
    let kept = with_items_is old.cursors c.ask_at.new.cursors (c.ask_at.auto.cursors ∙ ap length lent
    ∙ sym old.cursors.ok.0) in
    let is : slice_get old.cursors.items place ≡ Some at.cursor = ap (λ (cs : List Cursor). slice_get cs place)
    (sym lent) ∙ at.is in
    let here = before.fresh place (omega arith) (omega (arith, low, before.shape.count)) in
    let moved : AreMoved place old.cursors.items new.cursors.items = record {
      cursor = at.cursor;
      is = is;
      moved = at.moved;
      items = kept ∙ at.items ∙ ap (λ (cs : List Cursor). slice_set cs place at.moved) lent;
      same = at.same;
    } in
    let moves = asked_moves old new place next moved here c.put_above.ensures.numbers refl refl in
    let count = ap length c.put_above.ensures.numbers ∙ length-set old.waiting.numbers place (number_above 0 next) in
    record {
      shape = same_shape old new 0 place at.cursor at.moved next before.shape low is at.same moves count refl;
      end = ap length moved.items ∙ length-set old.cursors.items place at.moved ∙ before.end;
      room = omega (
        arith,
        ap length moved.items,
        length-set old.cursors.items place at.moved,
        before.room,
        c.put_above.ensures.room,
      );
      above = above_next old new place next at.moved before.above before.last before.last moves;
      last = before.last;
      ends = λ ends. end_with_same old new place next at.cursor at.moved is (ap (λ
          (h : LtxHeader). h.commit) at.same.header) moves (before.ends ends);
      fresh = fresh_next old new place next at.moved before.fresh count moves;
      same =
          let same = same_plan old new 0 place at.cursor at.moved next is at.same moves in
          record {
            plan = same.plan ∙ before.same.plan;
            size = same.size ∙ before.same.size;
            commit = same.commit
                ∙ before.same.commit;
          };
      started = λ events told begun.
          let commit = some_commit old.cursors.items place low in
          let asks = subst (λ (cs : List Cursor). AsksAt (files_after events) place old.cursors.items cs next)
          (sym kept)
          (subst (λ (cs : List Cursor). AsksAt (files_after events) place cs c.ask_at.new.cursors next) lent
          (c.in-Ok.ensures.asks events (before.unchanged ∙ told))) in
          started_next (files_after events) place old new next (before.started events told begun) low asks
          (asked_moves old new place next asks.moves here c.put_above.ensures.numbers refl refl) commit.0 commit.1;
      costs = λ events told counted.
          let files = files_after events in
          let so_far = before.costs events told counted in
          let x = g.S.Disk.given c.args.store.now in
          let y = g.S.Disk.given c.loop-place.store in
          let z = g.S.Disk.given c.ask_at.new.store in
          let s = c.args.steps.now in
          let t = c.loop-place.steps in
          let asked = c.in-Ok.ensures.takes events (before.unchanged ∙ told)
          (subst (λ (cs : List Cursor). AreCounted files cs) (sym lent) so_far.0) in
          let went = subst (λ (cs : List Cursor). Takes (left_of_all files old.cursors.items) (left_of_all files cs) 0
          0 y z)
          (sym kept) (subst (λ (cs : List Cursor). Takes (left_of_all files cs) (left_of_all files c.ask_at.new.cursors)
          0 0 y z) lent asked.1) in (
            subst (λ (cs : List Cursor). AreCounted files cs) (sym kept) asked.0,
            takes_then (left_of_all files c.args.self.now.cursors.items) (left_of_all files old.cursors.items)
                (left_of_all files new.cursors.items) s t t x y z so_far.1
                (takes_by (left_of_all files old.cursors.items)
                (left_of_all files new.cursors.items) (left_of_all files old.cursors.items) (left_of_all files
                new.cursors.items) 0 0 t t y z went (omega arith) (omega arith)),
          );
      unchanged = c.ask_at.ensures.unchanged ∙ before.unchanged;
      same_folder = c.ask_at.ensures.same_folder ∙ before.same_folder;
      later = omega (arith, c.ask_at.ensures.cause.later, before.later);
    }

pub returns-clause-begun : goal.returns-clause-begun
returns-clause-begun g c = λ events told begun ends.
    let before = c.loop-place.invariant in
    have_started (files_after events) c.loop-place.self c.loop-place.place (before.started events told begun) (omega
    (arith, before.end, c.loop-place-test.false)) before.last
    (before.ends ends)

pub returns-in-Err-Fault-clause-spends : goal.returns-in-Err-Fault-clause-spends
returns-in-Err-Fault-clause-spends g c = λ events told counted.
    let files = files_after events in
    let old = c.loop-place.self in
    let place = c.loop-place.place in
    let before = c.loop-place.invariant in
    let so_far = before.costs events told counted in
    let lent = c.deref_mut.ensures.value in
    let kept = with_items_is old.cursors c.ask_at.new.cursors (c.ask_at.auto.cursors ∙ ap length lent
    ∙ sym old.cursors.ok.0) in
    let same = c.deref_mut-in-Err-Fault.ensures.value ∙ kept in
    let x = g.S.Disk.given c.args.store.now in
    let y = g.S.Disk.given c.loop-place.store in
    let z = g.S.Disk.given c.ask_at.new.store in
    let s = c.args.steps.now in
    let t = c.loop-place.steps in
    let all = left_of_all files c.args.self.now.cursors.items in
    let mid = left_of_all files old.cursors.items in
    let left = left_of_all files (take place c.ask_at.new.cursors) in
    let asked = c.in-Err-Fault.ensures.spends events (before.unchanged ∙ told)
    (subst (λ (cs : List Cursor). AreCounted files cs) (sym lent) so_far.0) in
    let went = subst (λ (cs : List Cursor). Takes (left_of_all files cs) left 0 0 y z) lent asked.1 in
    let read = c.damage_at.ensures.spends events (c.ask_at.ensures.unchanged ∙ before.unchanged ∙ told)
    (subst (λ (cs : List Cursor). AreCounted files (take place cs)) (sym same) asked.0) in
    let rest = subst (λ (cs : List Cursor). Takes (left_of_all files (take place cs)) nothing t c.damage_at.new.steps z
    (g.S.Disk.given c.damage_at.new.store)) same read in
    takes_then all mid nothing s t c.damage_at.new.steps x y (g.S.Disk.given c.damage_at.new.store) so_far.1
    (takes_then mid left nothing t t c.damage_at.new.steps y z (g.S.Disk.given c.damage_at.new.store)
    (takes_by mid left mid left 0 0 t t y z went (omega arith) (omega arith)) rest)

pub returns-in-Err-Disk-clause-spends : goal.returns-in-Err-Disk-clause-spends
returns-in-Err-Disk-clause-spends g c = λ events told counted.
    let files = files_after events in
    let old = c.loop-place.self in
    let place = c.loop-place.place in
    let before = c.loop-place.invariant in
    let so_far = before.costs events told counted in
    let lent = c.deref_mut.ensures.value in
    let x = g.S.Disk.given c.args.store.now in
    let y = g.S.Disk.given c.loop-place.store in
    let z = g.S.Disk.given c.ask_at.new.store in
    let s = c.args.steps.now in
    let t = c.loop-place.steps in
    let all = left_of_all files c.args.self.now.cursors.items in
    let mid = left_of_all files old.cursors.items in
    let left = left_of_all files (take place c.ask_at.new.cursors) in
    let asked = c.in-Err-Disk.ensures.spends events (before.unchanged ∙ told)
    (subst (λ (cs : List Cursor). AreCounted files cs) (sym lent) so_far.0) in
    let went = subst (λ (cs : List Cursor). Takes (left_of_all files cs) left 0 0 y z) lent asked.1 in
    takes_then all mid nothing s t t x y z so_far.1
    (takes_all mid left t t y z (takes_by mid left mid left 0 0 t t y z went (omega arith) (omega arith)))

pub returns-clause-takes : goal.returns-clause-takes
returns-clause-takes g c = λ events told counted. c.loop-place.invariant.costs events told counted
