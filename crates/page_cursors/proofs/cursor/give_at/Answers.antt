use Rattle.std.proofs.Common.{List, take, refl, sym, subst}
use Rattle.std.specs.Prelude.{slice_get, slice_index_or}
use Rattle.crash_disk.specs.Files.{files_after}
use Rattle.std.proofs.lemmas.Option.{slice_get-get_or}
use Rattle.page_cursors.specs.declared.cursor.Cursor.{Cursor}
use Rattle.page_cursors.specs.Cursor.{ReadsFile, TellsFileFault}
use Rattle.page_cursors.proofs.DamageLemmas.{same_cursor}
use Rattle.page_cursors.proofs.GiveLemmas.{if_ok, if_err}
use Rattle.page_cursors.proofs.ReaderLemmas.{from_ok, from_err}
use Rattle.page_cursors.specs.Costs.{Takes, AreCounted, left_of_all}
use Rattle.page_cursors.proofs.CostListLemmas.{counted_at, counted-set, counted-take, takes-set, takes-take, take-set}
use Rattle.page_cursors.proofs.cursor.give_at.Goals as goal

pub give-requires : goal.give-requires
give-requires g c = record {
  sized = sym (c.requires.sized c.args.place _ (slice_get-get_or c.args.cursors.now c.args.place
      c.index-cursors-place.result c.requires.within));
}

pub returns-clause-gives : goal.returns-clause-gives
returns-clause-gives g c = if_ok c.give.result _ (λ next is events told. record {
  moves = record {
    cursor = slice_index_or c.args.cursors.now c.args.place c.index-cursors-place.result;
    is = slice_get-get_or c.args.cursors.now c.args.place c.index-cursors-place.result c.requires.within;
    moved = c.give.new.cursor;
    items = refl;
    same = c.give.ensures.same_file;
  };
  gives = from_ok c.give.result _ next c.give.ensures.gives is events told;
})

pub returns-clause-fault : goal.returns-clause-fault
returns-clause-fault g c = if_err c.give.result _ (λ e is events told cursor at reads.
    let read = slice_index_or c.args.cursors.now c.args.place c.index-cursors-place.result in
    let same = same_cursor (slice_get c.args.cursors.now c.args.place) read cursor
    (slice_get-get_or c.args.cursors.now c.args.place c.index-cursors-place.result c.requires.within) at in
    subst (λ (x : Cursor). ReadsFile (files_after events) x.name x.reader
    → TellsFileFault (files_after events) x.name e) same
    (from_err c.give.result _ e c.give.ensures.fault is events told) reads)

pub returns-clause-same : goal.returns-clause-same
returns-clause-same g c = record {
  cursor = slice_index_or c.args.cursors.now c.args.place c.index-cursors-place.result;
  is = slice_get-get_or c.args.cursors.now c.args.place c.index-cursors-place.result c.requires.within;
  moved = c.give.new.cursor;
  items = refl;
  same = c.give.ensures.same_file;
}

pub returns-clause-takes : goal.returns-clause-takes
returns-clause-takes g c = if_ok c.give.result _ (λ next is events told counted.
    let files = files_after events in
    let cursors = c.args.cursors.now in
    let place = c.args.place in
    let old = slice_index_or cursors place c.index-cursors-place.result in
    let at = slice_get-get_or cursors place c.index-cursors-place.result c.requires.within in
    let moved = from_ok c.give.result _ next c.give.ensures.takes is events told
    (counted_at files cursors place old counted at) in (
      counted-set files cursors place c.give.new.cursor counted moved.0,
      takes-set files cursors place old c.give.new.cursor c.args.steps.now c.give.new.steps
          (g.S.Disk.given c.args.store.now) (g.S.Disk.given c.give.new.store) at moved.1,
    ))

pub returns-clause-spends : goal.returns-clause-spends
returns-clause-spends g c = if_err c.give.result _ (λ e is events told counted.
    let files = files_after events in
    let cursors = c.args.cursors.now in
    let place = c.args.place in
    let old = slice_index_or cursors place c.index-cursors-place.result in
    let at = slice_get-get_or cursors place c.index-cursors-place.result c.requires.within in
    let before = g.S.Disk.given c.args.store.now in
    let after = g.S.Disk.given c.give.new.store in
    let spent = from_err c.give.result _ e c.give.ensures.spends is events told
    (counted_at files cursors place old counted at) in
    let same = sym (take-set cursors place c.give.new.cursor) in (
      subst (λ (cs : List Cursor). AreCounted files cs) same (counted-take files cursors place counted),
      subst (λ (cs : List Cursor). Takes (left_of_all files cursors) (left_of_all files cs) c.args.steps.now
          c.give.new.steps before after) same
          (takes-take files cursors place old c.args.steps.now c.give.new.steps before after at spent),
    ))
