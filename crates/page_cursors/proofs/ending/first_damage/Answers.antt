use Rattle.std.proofs.Common.{◌≡◌, ◌<◌, ◌++◌, ◌∷◌, List, Some, drop, length, sym, subst, ◌∙◌}
use Rattle.std.proofs.Common.{arith}
use Rattle.std.specs.Prelude.{slice_get, slice_index_or}
use Rattle.crash_disk.specs.declared.event.Event.{Event}
use Rattle.crash_disk.specs.Files.{files_after}
use Rattle.std.proofs.lemmas.Option.{slice_get-get_or, slice_get_within}
use Rattle.page_cursors.proofs.DamageLemmas.{whole_next, sized_next, same_cursor, same_events}
use Rattle.page_cursors.proofs.DamageLemmas.{first_fault_at, damaged_behind, open-take}
use Rattle.replica_store.specs.declared.error.Damage.TheVariants.{File}
use Rattle.page_cursors.specs.declared.cursor.Cursor.{Cursor}
use Rattle.ltx_reader.specs.declared.read_fault.ReadFault.{ReadFault}
use Rattle.ltx_format.specs.declared.fault.LtxFault.{LtxFault}
use Rattle.page_cursors.specs.Cursor.{ReadsFile, TellsFileFault}
use Rattle.page_cursors.specs.Opening.{names_of}
use Rattle.page_cursors.specs.PlanFiles.{IsFirstDamaged}
use Rattle.page_cursors.specs.Costs.{AreCounted, Takes, left_of_all, nothing}
use Rattle.page_cursors.proofs.CostLemmas.{takes_then}
use Rattle.page_cursors.proofs.CostListLemmas.{takes_all, counted_drop, counted_here, takes-drop, takes-drop_all}
use Rattle.page_cursors.proofs.ending.first_damage.Goals as goal

pub loop-place-preserved : goal.loop-place-preserved
loop-place-preserved g c =
    let cursors = c.loop-place.cursors in
    let place = c.loop-place.place in
    let old = slice_index_or cursors place c.index-cursors-place-in-loop-place.result in
    let low : place < length cursors = omega (arith, c.loop-place-test.true, c.loop-place.auto.cursors) in
    let is : slice_get cursors place ≡ Some old = slice_get-get_or cursors place
    c.index-cursors-place-in-loop-place.result low in
    record {
      whole = λ events told. whole_next (files_after events) place c.args.cursors.now cursors old _
          (c.loop-place.invariant.whole events told) low is
          (c.in-Ok.ensures.ended events (c.loop-place.invariant.unchanged ∙ told) old.name);
      costs = λ events told counted.
          let files = files_after events in
          let so_far = c.loop-place.invariant.costs events told counted in
          let before = g.S.Disk.given c.args.store.now in
          let middle = g.S.Disk.given c.loop-place.store in
          let after = g.S.Disk.given c.read_to_end.new.store in
          let s = c.args.steps.now in
          let t = c.loop-place.steps in
          let u = c.read_to_end.new.steps in
          let spent = c.read_to_end.ensures.spends events (c.loop-place.invariant.unchanged ∙ told) old.name
          (counted_here files cursors place old is so_far.0) in
          let went = takes-drop files cursors place old _ t u middle after is spent in (
            counted_drop files cursors place old _ is so_far.0,
            takes_then (left_of_all files c.args.cursors.now) (left_of_all files (drop place cursors)) _ s t u before
                middle
                after so_far.1 went,
          );
      sized = sized_next (length c.args.page.now) place cursors old _ c.loop-place.invariant.sized low is
          c.read_to_end.ensures.header;
      room = c.read_to_end.auto.page ∙ c.loop-place.invariant.room;
      unchanged = c.read_to_end.ensures.unchanged ∙ c.loop-place.invariant.unchanged;
      same_folder = c.read_to_end.ensures.same_folder ∙ c.loop-place.invariant.same_folder;
      later = omega (arith, c.read_to_end.ensures.cause.later, c.loop-place.invariant.later);
    }

pub returns-in-Err-Fault-clause-blames : goal.returns-in-Err-Fault-clause-blames
returns-in-Err-Fault-clause-blames g c = λ events told are behind rest events' told'.
    let first = c.args.cursors.now in
    let cursors = c.loop-place.cursors in
    let place = c.loop-place.place in
    let whole = c.loop-place.invariant.whole events told in
    let low : place < length cursors = omega (arith, c.loop-place-test.true, c.loop-place.auto.cursors) in
    let named = slice_index_or cursors place c.index-cursors-place.result in
    let read = slice_index_or cursors place c.index-cursors-place-in-loop-place.result in
    let is_named : slice_get cursors place ≡ Some named = slice_get-get_or cursors place c.index-cursors-place.result
    low in
    let is_read : slice_get cursors place ≡ Some read = slice_get-get_or cursors place
    c.index-cursors-place-in-loop-place.result low in
    let one = same_cursor (slice_get cursors place) named read is_named is_read in
    let at = sym (whole.rest place (omega arith)) ∙ is_named in
    let reads = subst (λ (x : Cursor). ReadsFile (files_after events) named.name x.reader) one
    (are place named at).reads in
    let same = same_events (g.S.Disk.told c.args.store.now) events events' told told' in
    subst (λ (f : LtxFault). IsFirstDamaged (files_after events') (names_of first ++ c.args.name ∷ rest) named.name
    (File f)) (sym c.in-Err-Fault.fault-is)
    (subst (λ (es : List Event). IsFirstDamaged (files_after es) (names_of first ++ c.args.name ∷ rest) named.name
    (File c.in-Err-Fault.fault)) same
    (first_fault_at (files_after events) (length c.args.page.now) place first named c.in-Err-Fault.fault
    (c.args.name ∷ rest) at whole.ended
    (open-take (files_after events) (length c.args.page.now) place first are) (subst (λ
    (e : ReadFault). TellsFileFault (files_after events) named.name e) c.in-Err-Fault.field-0-is
    (c.in-Err-Fault.ensures.fault events (c.loop-place.invariant.unchanged ∙ told) named.name reads))))

pub returns-clause-blames : goal.returns-clause-blames
returns-clause-blames g c = λ events told are behind rest events' told'.
    let same = same_events (g.S.Disk.told c.args.store.now) events events' told told' in
    subst (λ (es : List Event). IsFirstDamaged (files_after es)
    (names_of c.args.cursors.now ++ c.args.name ∷ rest) c.args.name c.args.damage) same
    (damaged_behind (files_after events) (length c.args.page.now) c.args.cursors.now c.args.name c.args.damage rest
    (λ k cursor is. (c.loop-place.invariant.whole events told).ended k cursor (omega
    (arith, slice_get_within c.args.cursors.now k cursor is, c.loop-place-test.false)) is) are behind)

pub returns-in-Err-Fault-clause-spends : goal.returns-in-Err-Fault-clause-spends
returns-in-Err-Fault-clause-spends g c = λ events told counted.
    let files = files_after events in
    let cursors = c.loop-place.cursors in
    let place = c.loop-place.place in
    let low : place < length cursors = omega (arith, c.loop-place-test.true, c.loop-place.auto.cursors) in
    let read = slice_index_or cursors place c.index-cursors-place-in-loop-place.result in
    let is : slice_get cursors place ≡ Some read = slice_get-get_or cursors place
    c.index-cursors-place-in-loop-place.result low in
    let so_far = c.loop-place.invariant.costs events told counted in
    let before = g.S.Disk.given c.args.store.now in
    let middle = g.S.Disk.given c.loop-place.store in
    let after = g.S.Disk.given c.read_to_end.new.store in
    let s = c.args.steps.now in
    let t = c.loop-place.steps in
    let u = c.read_to_end.new.steps in
    let spent = c.read_to_end.ensures.spends events (c.loop-place.invariant.unchanged ∙ told) read.name
    (counted_here files cursors place read is so_far.0) in
    takes_then (left_of_all files c.args.cursors.now) (left_of_all files (drop place cursors)) nothing s t u before
    middle
    after so_far.1 (takes-drop_all files cursors place read t u middle after is spent)

pub returns-in-Err-Disk-clause-spends : goal.returns-in-Err-Disk-clause-spends
returns-in-Err-Disk-clause-spends g c = λ events told counted.
    let files = files_after events in
    let cursors = c.loop-place.cursors in
    let place = c.loop-place.place in
    let low : place < length cursors = omega (arith, c.loop-place-test.true, c.loop-place.auto.cursors) in
    let read = slice_index_or cursors place c.index-cursors-place-in-loop-place.result in
    let is : slice_get cursors place ≡ Some read = slice_get-get_or cursors place
    c.index-cursors-place-in-loop-place.result low in
    let so_far = c.loop-place.invariant.costs events told counted in
    let before = g.S.Disk.given c.args.store.now in
    let middle = g.S.Disk.given c.loop-place.store in
    let after = g.S.Disk.given c.read_to_end.new.store in
    let s = c.args.steps.now in
    let t = c.loop-place.steps in
    let u = c.read_to_end.new.steps in
    let spent = c.read_to_end.ensures.spends events (c.loop-place.invariant.unchanged ∙ told) read.name
    (counted_here files cursors place read is so_far.0) in
    takes_then (left_of_all files c.args.cursors.now) (left_of_all files (drop place cursors)) nothing s t u before
    middle
    after so_far.1 (takes-drop_all files cursors place read t u middle after is spent)

pub returns-clause-spends : goal.returns-clause-spends
returns-clause-spends g c = λ events told counted.
    let so_far = c.loop-place.invariant.costs events told counted in takes_all _ _ _ _ _ _ so_far.1
