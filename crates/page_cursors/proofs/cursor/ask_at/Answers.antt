use Rattle.std.proofs.Common.{ℕ, List, Option, take, refl, sym, ap, subst, ◌∙◌}
use Rattle.std.specs.Prelude.{Result, slice_get, slice_index_or}
use Rattle.crash_disk.specs.Files.{files_after}
use Rattle.ltx_reader.specs.declared.read_fault.ReadFault.{ReadFault}
use Rattle.ltx_reader.specs.Reader.{IsReaderOf, Announces, Waits, Stops}
use Rattle.replica_store.specs.Listing.{path_of}
use Rattle.std.proofs.lemmas.Option.{slice_get-get_or}
use Rattle.page_cursors.specs.declared.cursor.Cursor.{Cursor}
use Rattle.page_cursors.specs.Cursor.{ReadsFile, TellsFileFault}
use Rattle.page_cursors.proofs.DamageLemmas.{same_cursor}
use Rattle.page_cursors.proofs.ReaderLemmas.{at_path, ok_next, from_ok, fault_told}
use Rattle.page_cursors.proofs.GiveLemmas.{if_ok, if_err, Asks, asked_given, asked_waits}
use Rattle.ltx_reader.specs.Reader.{RepeatsNumber}
use Rattle.ltx_reader.specs.ReaderGiven.{GivesAtMost, bytes_left}
use Rattle.page_cursors.specs.Cursor.{bytes_of}
use Rattle.page_cursors.specs.Costs.{Takes, AreCounted, left_of_all}
use Rattle.page_cursors.proofs.CostLemmas.{number_takes, spends}
use Rattle.page_cursors.proofs.CostListLemmas.{counted_at, counted-set, counted-take, takes-set, takes-take, take-set}
use Rattle.page_cursors.proofs.cursor.ask_at.Goals as goal

pub returns-clause-same : goal.returns-clause-same
returns-clause-same g c =
    let old = slice_index_or c.args.cursors.now c.args.place c.index-cursors-place.result in
    record {
      cursor = old;
      is = slice_get-get_or c.args.cursors.now c.args.place c.index-cursors-place.result c.requires.within;
      moved = record { name = old.name; reader = c.number.new.self; wanted = old.wanted };
      items = refl;
      same = record { name = refl; path = c.number.ensures.same_file.name; header = c.number.ensures.same_file.header };
    }

pub returns-clause-asks : goal.returns-clause-asks
returns-clause-asks g c = if_ok c.number.result _ (λ next is events told.
    let old = slice_index_or c.args.cursors.now c.args.place c.index-cursors-place.result in
    let new = c.number.new.self in
    let moved : Cursor = record { name = old.name; reader = new; wanted = old.wanted } in
    let path = path_of old.name in
    let asks : Asks (files_after events) old moved next = record {
      announces = λ reads. at_path events old.reader.name path (λ (bytes : List ℕ). IsReaderOf bytes old.reader
          → Announces bytes old.reader new next) reads.named
          (from_ok c.number.result _ next c.number.ensures.number is events told) reads.reads;
      keeps = λ reads. at_path events old.reader.name path (λ (bytes : List ℕ). IsReaderOf bytes old.reader
          → IsReaderOf bytes new) reads.named (c.number.ensures.keeps events told) reads.reads;
      waits = λ n e. subst (λ (r : Result (Option ℕ) ReadFault). Waits new.progress r) (is
          ∙ ap ok_next e) c.number.ensures.waits;
      same_file = record {
        name = refl;
        path = c.number.ensures.same_file.name;
        header =
            c.number.ensures.same_file.header;
      };
      same_wanted = refl;
    } in
    record {
      moves = record {
        cursor = old;
        is = slice_get-get_or c.args.cursors.now c.args.place c.index-cursors-place.result c.requires.within;
        moved = moved;
        items = refl;
        same = asks.same_file;
      };
      given = λ size before has. asked_given (files_after events) size before old moved next asks has;
      waits = λ size before has. asked_waits (files_after events) size before old moved next asks has;
    })

pub returns-clause-fault : goal.returns-clause-fault
returns-clause-fault g c = if_err c.number.result _ (λ e is events told cursor at reads.
    let old = slice_index_or c.args.cursors.now c.args.place c.index-cursors-place.result in
    let same = same_cursor (slice_get c.args.cursors.now c.args.place) cursor old at
    (slice_get-get_or c.args.cursors.now c.args.place c.index-cursors-place.result c.requires.within) in
    let mine = subst (λ (x : Cursor). ReadsFile (files_after events) x.name x.reader) same reads in
    let now = at_path events old.reader.name (path_of old.name) (λ (bytes : List ℕ). IsReaderOf bytes old.reader
    → IsReaderOf bytes c.number.new.self) mine.named (c.number.ensures.keeps events told) mine.reads in
    subst (λ (x : Cursor). TellsFileFault (files_after events) x.name e) (sym same)
    (fault_told _ c.number.new.self e now (subst (λ (r : Result
    (Option ℕ) ReadFault). Stops c.number.new.self.progress r) is c.number.ensures.stops)))

pub returns-clause-takes : goal.returns-clause-takes
returns-clause-takes g c = if_ok c.number.result _ (λ next is events told counted.
    let files = files_after events in
    let cursors = c.args.cursors.now in
    let place = c.args.place in
    let old = slice_index_or cursors place c.index-cursors-place.result in
    let new = c.number.new.self in
    let moved : Cursor = record { name = old.name; reader = new; wanted = old.wanted } in
    let at = slice_get-get_or cursors place c.index-cursors-place.result c.requires.within in
    let here = counted_at files cursors place old counted at in
    let path = path_of old.name in
    let bytes = bytes_of files old.name in
    let before = g.S.Disk.given c.args.store.now in
    let after = g.S.Disk.given c.number.new.disk in
    let is_new = at_path events old.reader.name path (λ (bs : List ℕ). IsReaderOf bs old.reader → IsReaderOf bs new)
    here.reads.named (c.number.ensures.keeps events told) here.reads.reads in
    let gave = at_path events old.reader.name path (λ (bs : List ℕ). IsReaderOf bs old.reader
    → GivesAtMost (bytes_left bs old.reader) before after) here.reads.named (c.number.ensures.gave events told)
    here.reads.reads in
    let went = number_takes bytes old.reader new 0 before after here.reads.reads is_new c.number.ensures.same_file
    c.number.ensures.stays next
    (at_path events old.reader.name path (λ (bs : List ℕ). IsReaderOf bs old.reader → Announces bs old.reader new next)
    here.reads.named (from_ok c.number.result _ next c.number.ensures.number is events told) here.reads.reads)
    (subst (λ (r : Result (Option ℕ) ReadFault). Waits new.progress r) is c.number.ensures.waits)
    (subst (λ (r : Result (Option ℕ) ReadFault). RepeatsNumber old.reader.progress r) is c.number.ensures.again)
    c.number.ensures.unmoved here.count gave (λ n e. c.number.ensures.gave_number n (is ∙ ap ok_next e)) in (
      counted-set files cursors place moved counted (record {
        reads = record { named = c.number.ensures.same_file.name ∙ here.reads.named; reads = is_new };
        count = went.0;
      }),
      takes-set files cursors place old moved 0 0 before after at went.1,
    ))

pub returns-clause-spends : goal.returns-clause-spends
returns-clause-spends g c = if_err c.number.result _ (λ e is events told counted.
    let files = files_after events in
    let cursors = c.args.cursors.now in
    let place = c.args.place in
    let old = slice_index_or cursors place c.index-cursors-place.result in
    let new = c.number.new.self in
    let moved : Cursor = record { name = old.name; reader = new; wanted = old.wanted } in
    let at = slice_get-get_or cursors place c.index-cursors-place.result c.requires.within in
    let here = counted_at files cursors place old counted at in
    let path = path_of old.name in
    let bytes = bytes_of files old.name in
    let before = g.S.Disk.given c.args.store.now in
    let after = g.S.Disk.given c.number.new.disk in
    let is_new = at_path events old.reader.name path (λ (bs : List ℕ). IsReaderOf bs old.reader → IsReaderOf bs new)
    here.reads.named (c.number.ensures.keeps events told) here.reads.reads in
    let gave = at_path events old.reader.name path (λ (bs : List ℕ). IsReaderOf bs old.reader
    → GivesAtMost (bytes_left bs old.reader) before after) here.reads.named (c.number.ensures.gave events told)
    here.reads.reads in
    let spent = spends bytes old.reader 0 0 before after here.reads.reads here.count refl gave in
    let same = sym (take-set cursors place moved) in (
      subst (λ (cs : List Cursor). AreCounted files cs) same (counted-take files cursors place counted),
      subst (λ (cs : List Cursor). Takes (left_of_all files cursors) (left_of_all files cs) 0 0 before after) same
          (takes-take files cursors place old 0 0 before after at spent),
    ))
