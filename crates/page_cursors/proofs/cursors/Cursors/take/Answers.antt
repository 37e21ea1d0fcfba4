use Rattle.std.proofs.Common.{take, ◌≡◌, ◌<◌, ℕ, List, Option, Some, None, length, refl, sym, ap, subst, ◌∙◌, arith}
use Rattle.std.specs.Prelude.{slice_get, slice_set}
use Rattle.std.proofs.lemmas.Option.{slice_get_within}
use Rattle.crash_disk.specs.Files.{files_after}
use Rattle.ltx_format.specs.declared.fault.LtxFault.{LtxFault}
use Rattle.ltx_reader.specs.declared.read_fault.ReadFault.{ReadFault}
use Rattle.std.specs.Vec.{with_items}
use Rattle.ltx_format.specs.declared.header.LtxHeader.{LtxHeader}
use Rattle.page_cursors.specs.declared.cursor.Cursor.{Cursor}
use Rattle.page_cursors.specs.declared.cursors.Cursors.{Cursors}
use Rattle.crash_disk.specs.Told.{Told}
use Rattle.std.proofs.lemmas.List.{with_items_is}
use Rattle.page_cursors.specs.Ending.{BlamesAt}
use Rattle.page_cursors.specs.Queue.{number_above}
use Rattle.page_cursors.specs.Cursor.{GivesPage, TellsFileFault}
use Rattle.page_cursors.proofs.QueueLemmas.{popped_here, popped_other, popped_length, slice_get-set_same}
use Rattle.page_cursors.proofs.TakeLemmas.{MovesOn, open_at, taking_next, take_next, same_plan, same_shape}
use Rattle.page_cursors.proofs.TakeLemmas.{explains_fault}
use Rattle.page_cursors.specs.Costs.{AreCounted, Takes, left_of_all, nothing}
use Rattle.page_cursors.proofs.CostLemmas.{takes_by, takes_none, takes_then}
use Rattle.page_cursors.proofs.CostListLemmas.{takes_all, err_each}
use Rattle.page_cursors.proofs.cursors.Cursors.take.Goals as goal

pub put_above-requires-clause-waits_not : goal.put_above-requires-clause-waits_not
put_above-requires-clause-waits_not g c =
    let numbers = c.args.self.now.waiting.numbers in
    let low = slice_get_within numbers c.in-Some.place (Some c.args.number) c.in-Some.ensures.waits in
    ap (λ (ns : List (Option ℕ)). slice_get ns c.in-Some.place) c.in-Some.ensures.numbers
    ∙ slice_get-set_same numbers c.in-Some.place None low

pub returns-clause-taking : goal.returns-clause-taking
returns-clause-taking g c = λ from taking.
    let old = c.args.self.now in
    let number = c.args.number in
    let place = c.in-Some.place in
    let next = c.in-Ok.next in
    let new : Cursors = record {
      cursors = with_items old.cursors c.give_at.new.cursors;
      waiting =
          c.put_above.new.self;
      page = with_items old.page c.give_at.new.page;
      size = old.size;
      commit = old.commit;
      last = old.last;
    } in
    let lent = c.deref_mut.ensures.value in
    let within = slice_get_within old.waiting.numbers place (Some number) c.in-Some.ensures.waits in
    let kept = with_items_is old.cursors c.give_at.new.cursors (c.give_at.auto.cursors ∙ ap length lent
    ∙ sym old.cursors.ok.0) in
    let paged = with_items_is old.page c.give_at.new.page (c.give_at.auto.page
    ∙ ap length c.deref_mut-2.ensures.value ∙ sym old.page.ok.0) in
    let at = c.give_at.ensures.same in
    let low : place < length old.cursors.items = omega (arith, within, taking.shape.count) in
    let is : slice_get old.cursors.items place ≡ Some at.cursor = ap (λ (cs : List Cursor). slice_get cs place)
    (sym lent) ∙ at.is in
    let moves : MovesOn old new number place at.moved next = record {
      items = kept ∙ at.items ∙ ap (λ (cs : List Cursor). slice_set cs place at.moved) lent;
      here = popped_here old.waiting.numbers c.pop_with.new.self.numbers c.put_above.new.self.numbers place
          (number_above number next) within c.in-Some.ensures.numbers c.put_above.ensures.numbers;
      others = λ k other. popped_other old.waiting.numbers c.pop_with.new.self.numbers c.put_above.new.self.numbers
          place (number_above number next) k other c.in-Some.ensures.numbers c.put_above.ensures.numbers;
      size = refl;
      commit = refl;
    } in
    let count = popped_length old.waiting.numbers c.pop_with.new.self.numbers c.put_above.new.self.numbers place
    (number_above number next) c.in-Some.ensures.numbers c.put_above.ensures.numbers in
    let room : length new.page.items ≡ length old.page.items = ap length paged ∙ c.give_at.auto.page
    ∙ ap length c.deref_mut-2.ensures.value in (
      taking.later place c.in-Some.ensures.waits,
      low,
      taking_next old new number from place at.moved next taking low c.in-Some.ensures.earliest moves
          (same_shape old new number place at.cursor at.moved next taking.shape low is at.same moves count room),
    )

pub returns-clause-takes : goal.returns-clause-takes
returns-clause-takes g c = λ events told from given taking taken.
    let old = c.args.self.now in
    let number = c.args.number in
    let place = c.in-Some.place in
    let next = c.in-Ok.next in
    let new : Cursors = record {
      cursors = with_items old.cursors c.give_at.new.cursors;
      waiting =
          c.put_above.new.self;
      page = with_items old.page c.give_at.new.page;
      size = old.size;
      commit = old.commit;
      last = old.last;
    } in
    let lent = c.deref_mut.ensures.value in
    let within = slice_get_within old.waiting.numbers place (Some number) c.in-Some.ensures.waits in
    let kept = with_items_is old.cursors c.give_at.new.cursors (c.give_at.auto.cursors ∙ ap length lent
    ∙ sym old.cursors.ok.0) in
    let paged = with_items_is old.page c.give_at.new.page (c.give_at.auto.page
    ∙ ap length c.deref_mut-2.ensures.value ∙ sym old.page.ok.0) in
    let gives = c.in-Ok.ensures.gives events told in
    let at = gives.moves in
    let low : place < length old.cursors.items = omega (arith, within, taking.shape.count) in
    let is : slice_get old.cursors.items place ≡ Some at.cursor = ap (λ (cs : List Cursor). slice_get cs place)
    (sym lent) ∙ at.is in
    let moves : MovesOn old new number place at.moved next = record {
      items = kept ∙ at.items ∙ ap (λ (cs : List Cursor). slice_set cs place at.moved) lent;
      here = popped_here old.waiting.numbers c.pop_with.new.self.numbers c.put_above.new.self.numbers place
          (number_above number next) within c.in-Some.ensures.numbers c.put_above.ensures.numbers;
      others = λ k other. popped_other old.waiting.numbers c.pop_with.new.self.numbers c.put_above.new.self.numbers
          place (number_above number next) k other c.in-Some.ensures.numbers c.put_above.ensures.numbers;
      size = refl;
      commit = refl;
    } in
    take_next (files_after events) number from place given old new at.cursor at.moved next low
    (taking.later place c.in-Some.ensures.waits) is
    (taken.waits place at.cursor (Some number) is c.in-Some.ensures.waits) (ap (λ
    (h : LtxHeader). h.commit) at.same.header) moves
    (subst (λ (page : List ℕ). GivesPage (files_after events) number at.cursor at.moved page next)
    (sym paged) gives.gives) taken

pub returns-clause-same : goal.returns-clause-same
returns-clause-same g c =
    let old = c.args.self.now in
    let number = c.args.number in
    let place = c.in-Some.place in
    let next = c.in-Ok.next in
    let new : Cursors = record {
      cursors = with_items old.cursors c.give_at.new.cursors;
      waiting =
          c.put_above.new.self;
      page = with_items old.page c.give_at.new.page;
      size = old.size;
      commit = old.commit;
      last = old.last;
    } in
    let lent = c.deref_mut.ensures.value in
    let within = slice_get_within old.waiting.numbers place (Some number) c.in-Some.ensures.waits in
    let kept = with_items_is old.cursors c.give_at.new.cursors (c.give_at.auto.cursors ∙ ap length lent
    ∙ sym old.cursors.ok.0) in
    let paged = with_items_is old.page c.give_at.new.page (c.give_at.auto.page
    ∙ ap length c.deref_mut-2.ensures.value ∙ sym old.page.ok.0) in
    let at = c.give_at.ensures.same in
    let is : slice_get old.cursors.items place ≡ Some at.cursor = ap (λ (cs : List Cursor). slice_get cs place)
    (sym lent) ∙ at.is in
    let moves : MovesOn old new number place at.moved next = record {
      items = kept ∙ at.items ∙ ap (λ (cs : List Cursor). slice_set cs place at.moved) lent;
      here = popped_here old.waiting.numbers c.pop_with.new.self.numbers c.put_above.new.self.numbers place
          (number_above number next) within c.in-Some.ensures.numbers c.put_above.ensures.numbers;
      others = λ k other. popped_other old.waiting.numbers c.pop_with.new.self.numbers c.put_above.new.self.numbers
          place (number_above number next) k other c.in-Some.ensures.numbers c.put_above.ensures.numbers;
      size = refl;
      commit = refl;
    } in
    same_plan old new number place at.cursor at.moved next is at.same moves

pub returns-in-Err-Fault-clause-explained : goal.returns-in-Err-Fault-clause-explained
returns-in-Err-Fault-clause-explained g c = λ events told from given taken.
    let old = c.args.self.now in
    let number = c.args.number in
    let place = c.in-Some.place in
    let files = files_after events in
    let lent = c.deref_mut.ensures.value in
    let at = c.give_at.ensures.same in
    let taking = c.requires.taking.1 in
    let within = slice_get_within old.waiting.numbers place (Some number) c.in-Some.ensures.waits in
    let low : place < length old.cursors.items = omega (arith, within, taking.shape.count) in
    let is : slice_get old.cursors.items place ≡ Some at.cursor = ap (λ (cs : List Cursor). slice_get cs place)
    (sym lent) ∙ at.is in
    let lent_after = c.deref_mut-in-Err-Fault.ensures.value in
    let kept = with_items_is old.cursors c.give_at.new.cursors (c.give_at.auto.cursors ∙ ap length lent
    ∙ sym old.cursors.ok.0) in
    let paged = with_items_is old.page c.give_at.new.page (c.give_at.auto.page
    ∙ ap length c.deref_mut-2.ensures.value ∙ sym old.page.ok.0) in
    let items = lent_after ∙ kept ∙ at.items ∙ ap (λ (cs : List Cursor). slice_set cs place at.moved) lent in
    let sized = ap length c.deref_mut-in-Err-Fault-2.ensures.value ∙ ap length paged ∙ c.give_at.auto.page
    ∙ ap length c.deref_mut-2.ensures.value ∙ taking.shape.page in
    let open_file = (open_at files old number from given taken) place at.cursor is in
    let fault = subst (λ (e : ReadFault). TellsFileFault files at.cursor.name e) c.in-Err-Fault.field-0-is
    (c.in-Err-Fault.ensures.fault events told at.cursor at.is open_file.reads) in
    let told_after = c.give_at.ensures.unchanged in
    let found = c.in-Err-Fault.fault in
    explains_fault files (g.S.Disk.told c.args.store.now) number from place
    (length c.deref_mut-in-Err-Fault-2.result.now) given old c.deref_mut-in-Err-Fault.result.now at.cursor
    at.moved c.in-Err-Fault.fault c.damage_at.result
    taken low is at.same items sized fault
    (subst (λ (t : Told). BlamesAt files t (length c.deref_mut-in-Err-Fault-2.result.now)
    c.deref_mut-in-Err-Fault.result.now place found c.damage_at.result) told_after
    (subst (λ (f : LtxFault). BlamesAt files (g.S.Disk.told c.give_at.new.store)
    (length c.deref_mut-in-Err-Fault-2.result.now) c.deref_mut-in-Err-Fault.result.now place f c.damage_at.result)
    (sym c.in-Err-Fault.fault-is)
    (c.damage_at.ensures.blames events (told_after ∙ told))))

pub returns-clause-costs : goal.returns-clause-costs
returns-clause-costs g c = λ events told counted.
    let files = files_after events in
    let old = c.args.self.now in
    let lent = c.deref_mut.ensures.value in
    let kept = with_items_is old.cursors c.give_at.new.cursors (c.give_at.auto.cursors ∙ ap length lent
    ∙ sym old.cursors.ok.0) in
    let s = c.args.steps.now in
    let t = c.give_at.new.steps in
    let x = g.S.Disk.given c.args.store.now in
    let y = g.S.Disk.given c.give_at.new.store in
    let gave = c.in-Ok.ensures.takes events told
    (subst (λ (cs : List Cursor). AreCounted files cs) (sym lent) counted) in (
      subst (λ (cs : List Cursor). AreCounted files cs) (sym kept) gave.0,
      subst (λ (cs : List Cursor). Takes (left_of_all files old.cursors.items) (left_of_all files cs) s t x y)
          (sym kept)
          (subst (λ (cs : List Cursor). Takes (left_of_all files cs) (left_of_all files c.give_at.new.cursors) s t x
          y) lent
          gave.1),
    )

pub returns-in_default-clause-costs : goal.returns-in_default-clause-costs
returns-in_default-clause-costs g c = λ events told counted. (counted, takes_none _ _ _ _ _ refl refl)

pub returns-in-Err-Fault-clause-spends : goal.returns-in-Err-Fault-clause-spends
returns-in-Err-Fault-clause-spends g c = λ events told counted.
    let files = files_after events in
    let old = c.args.self.now in
    let place = c.in-Some.place in
    let lent = c.deref_mut.ensures.value in
    let kept = with_items_is old.cursors c.give_at.new.cursors (c.give_at.auto.cursors ∙ ap length lent
    ∙ sym old.cursors.ok.0) in
    let same = c.deref_mut-in-Err-Fault.ensures.value ∙ kept in
    let s = c.args.steps.now in
    let t = c.give_at.new.steps in
    let u = c.damage_at.new.steps in
    let x = g.S.Disk.given c.args.store.now in
    let y = g.S.Disk.given c.give_at.new.store in
    let z = g.S.Disk.given c.damage_at.new.store in
    let mid = left_of_all files old.cursors.items in
    let left = left_of_all files (take place c.give_at.new.cursors) in
    let gave = c.in-Err-Fault.ensures.spends events told
    (subst (λ (cs : List Cursor). AreCounted files cs) (sym lent) counted) in
    let went = subst (λ (cs : List Cursor). Takes (left_of_all files cs) left s t x y) lent gave.1 in
    let read = c.damage_at.ensures.spends events (c.give_at.ensures.unchanged ∙ told)
    (subst (λ (cs : List Cursor). AreCounted files (take place cs)) (sym same) gave.0) in
    let rest = subst (λ (cs : List Cursor). Takes (left_of_all files (take place cs)) nothing t u y z) same read in
    takes_then mid left nothing s t u x y z went rest

pub returns-in-Err-Disk-clause-spends : goal.returns-in-Err-Disk-clause-spends
returns-in-Err-Disk-clause-spends g c = λ events told counted.
    let files = files_after events in
    let old = c.args.self.now in
    let place = c.in-Some.place in
    let lent = c.deref_mut.ensures.value in
    let gave = c.in-Err-Disk.ensures.spends events told
    (subst (λ (cs : List Cursor). AreCounted files cs) (sym lent) counted) in
    let left = left_of_all files (take place c.give_at.new.cursors) in
    takes_all (left_of_all files old.cursors.items) left c.args.steps.now c.give_at.new.steps _ _
    (subst (λ (cs : List Cursor). Takes (left_of_all files cs) left c.args.steps.now c.give_at.new.steps
    (g.S.Disk.given c.args.store.now) (g.S.Disk.given c.give_at.new.store)) lent gave.1)
