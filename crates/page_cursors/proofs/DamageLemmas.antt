-- The first damaged file of a plan.
use Rattle.std.proofs.Common.{◌≡◌, ℕ, zero, suc, ◌+◌, ◌<◌, ◌≤◌, List, [], ◌∷◌, ◌++◌, length, take, drop}
use Rattle.std.proofs.Common.{Option, Some, None, refl, sym, ap, subst, ◌∙◌, append_assoc, arith, inl, inr}
use Rattle.std.specs.Prelude.{slice_get, slice_set}
use Rattle.std.proofs.lemmas.Bool.{cases_eq}
use Rattle.crash_disk.specs.Files.{Files}
use Rattle.crash_disk.specs.declared.event.Event.{Event}
use Rattle.crash_disk.specs.Told.{Told}
use Rattle.ls_base.specs.Change.{Change}
use Rattle.ltx_format.specs.declared.fault.LtxFault.{LtxFault}
use Rattle.ltx_format.specs.declared.file.LtxFile.{LtxFile}
use Rattle.ltx_format.specs.declared.header.LtxHeader.{LtxHeader}
use Rattle.ltx_format.specs.FirstFault.{first_fault}
use Rattle.ltx_format.specs.LtxFormat.{IsLtxFile, change_of}
use Rattle.ltx_reader.specs.declared.progress.Progress.TheVariants.{Ended}
use Rattle.ltx_reader.specs.Reader.{Reader}
use Rattle.replica_store.specs.declared.error.Damage.{Damage}
use Rattle.replica_store.specs.declared.error.Damage.TheVariants.{File}
use Rattle.replica_store.specs.declared.file_name.FileName.{FileName}
use Rattle.replica_store.specs.FileOf.{IsFileUnder, AreFilesUnder, HavePageSize}
use Rattle.page_cursors.specs.declared.cursor.Cursor.{Cursor}
use Rattle.page_cursors.specs.Cursor.{ReadsFile, HasEnded, HaveSize, IsOpen, bytes_of}
use Rattle.page_cursors.specs.declared.fault.CursorsFault.{CursorsFault}
use Rattle.page_cursors.specs.Ending.{AreOpen, IsDamageBehind, FindsFault}
use Rattle.page_cursors.specs.Fault.{Blames}
use Rattle.page_cursors.specs.Opening.{names_of}
use Rattle.page_cursors.specs.PlanFiles.{IsFirstDamaged}
use Rattle.page_cursors.proofs.QueueLemmas.{slice_get-set_other, slice_get-set_same}
use Rattle.page_cursors.proofs.ReaderLemmas.{ended_file}

pub same_cursor : (o : Option Cursor) (a b : Cursor) → o ≡ Some a → o ≡ Some b → a ≡ b
same_cursor None a b first second = absurd cc
same_cursor (Some x) a b first second = let one : x ≡ a = cc in let two : x ≡ b = cc in sym one ∙ two

pub same_events : (told : Told) (a b : List Event) → told ≡ Some a → told ≡ Some b → a ≡ b
same_events None a b first second = absurd cc
same_events (Some x) a b first second = let one : x ≡ a = cc in let two : x ≡ b = cc in sym one ∙ two

-- the file of the cursor that was at first has been read to its end
abbrev pub HasEndedAt : Files → Cursor → Type 0
HasEndedAt files cursor = ReadsFile files cursor.name cursor.reader
    → (reader : Reader) × ReadsFile files cursor.name reader × (reader.header ≡ cursor.reader.header) ×
    (reader.progress ≡ Ended)

-- the files of the first so many cursors have been read to their ends; the others stand as they stood
pub record AreWholeTo (files : Files) (place : ℕ) (first now : List Cursor) : Type 0 where
  pub ended : (k : ℕ) (cursor : Cursor) → k < place → slice_get first k ≡ Some cursor → HasEndedAt files cursor
  pub rest : (k : ℕ) → place ≤ k → slice_get now k ≡ slice_get first k

-- ---- files that were read to their ends

pub relabelled : (bytes : List ℕ) (h : LtxHeader) (c : Change) → IsLtxFile bytes h c
    → IsLtxFile bytes h (change_of (record { header = h; pages = c.pages }))
relabelled bytes h c is = record {
  header = is.header;
  same_size = refl;
  same_commit = refl;
  pages = is.pages;
  spelled
      = is.spelled;
}

-- the file under the name of a cursor that came to its end
pub ended_under : (files : Files) (size : ℕ) (cursor : Cursor) → HasEndedAt files cursor → IsOpen files size cursor
    → (file : LtxFile) × IsFileUnder files cursor.name file × (file.header ≡ cursor.reader.header)
ended_under files size cursor ended is =
    let end = ended is.reads in
    let bytes = bytes_of files cursor.name in
    let found = ended_file bytes end.0 end.1.reads end.3 in (
      record { header = cursor.reader.header; pages = found.0.pages },
      record {
        file = relabelled bytes cursor.reader.header found.0 (subst (λ
            (h : LtxHeader). IsLtxFile bytes h found.0) end.2 found.1);
        from_min = is.from_min;
        to_max = is.to_max;
      },
      refl,
    )

pub whole_files : (files : Files) (size : ℕ) (cursors : List Cursor) → ((k : ℕ) (cursor : Cursor)
    → slice_get cursors k ≡ Some cursor → HasEndedAt files cursor) → AreOpen files size cursors
    → (read : List LtxFile) × AreFilesUnder files (names_of cursors) read × HavePageSize size read
whole_files files size [] ended are = ([], tt, tt)
whole_files files size (cursor ∷ cursors) ended are =
    let rest = whole_files files size cursors (λ k c is. ended (suc k) c is) (λ k c is. are (suc k) c is) in
    let is = are zero cursor refl in
    let file = ended_under files size cursor (ended zero cursor refl) is in
    (file.0 ∷ rest.0, (file.1, rest.1), (ap (λ h. h.size) file.2 ∙ is.sized, rest.2))

-- ---- a place in a plan

pub names-split : (cursors : List Cursor) (place : ℕ) (cursor : Cursor) → slice_get cursors place ≡ Some cursor
    → names_of cursors ≡ names_of (take place cursors) ++ cursor.name ∷ names_of (drop (suc place) cursors)
names-split [] place cursor is = absurd cc
names-split (c ∷ cursors) zero cursor is = let same : c ≡ cursor = cc in ap (λ (n : FileName). n ∷ names_of cursors)
    (ap (λ (x : Cursor). x.name) same)
names-split (c ∷ cursors) (suc place) cursor is = ap (λ (ns : List FileName). c.name ∷ ns)
    (names-split cursors place cursor is)

pub get-take : {X : Type 0} (xs : List X) (n k : ℕ) (x : X) → slice_get (take n xs) k ≡ Some x
    → (k < n) × (slice_get xs k ≡ Some x)
get-take [] zero k x is = absurd cc
get-take [] (suc n) k x is = absurd cc
get-take (y ∷ xs) zero k x is = absurd cc
get-take (y ∷ xs) (suc n) zero x is = (omega arith, is)
get-take (y ∷ xs) (suc n) (suc k) x is = let rest = get-take xs n k x is in (omega (arith, rest.0), rest.1)

pub open-take : (files : Files) (size place : ℕ) (cursors : List Cursor) → AreOpen files size cursors
    → AreOpen files size (take place cursors)
open-take files size place cursors are k cursor is = are k cursor (get-take cursors place k cursor is).1

-- the first of the files that has a fault, behind others that have none
pub first_fault_at : (files : Files) (size place : ℕ) (cursors : List Cursor) (cursor : Cursor) (fault : LtxFault)
    (more : List FileName) → slice_get cursors place ≡ Some cursor
    → ((k : ℕ) (c : Cursor) → k < place → slice_get cursors k ≡ Some c → HasEndedAt files c)
    → AreOpen files size (take place cursors)
    → first_fault (bytes_of files cursor.name) ≡ Some fault
    → IsFirstDamaged files (names_of cursors ++ more) cursor.name (File fault)
first_fault_at files size place cursors cursor fault more is ended are damaged =
    let read = whole_files files size (take place cursors)
    (λ k c at. let found = get-take cursors place k c at in ended k c found.0 found.1) are in
    record {
      before = names_of (take place cursors);
      after = names_of (drop (suc place) cursors) ++ more;
      split = ap (λ (ns : List FileName). ns ++ more) (names-split cursors place cursor is)
          ∙ append_assoc (names_of (take place cursors)) (cursor.name ∷ names_of (drop (suc place) cursors)) more;
      read = read.0;
      are = read.1;
      size = size;
      one_size = read.2;
      first = λ none e. cc;
      damaged = damaged;
    }

no_cursors : (cursors : List Cursor) → names_of cursors ≡ [] → cursors ≡ []
no_cursors [] e = refl
no_cursors (c ∷ cursors) e = absurd cc

-- the damaged file behind others that have no fault
pub damaged_behind : (files : Files) (size : ℕ) (cursors : List Cursor) (name : FileName) (damage : Damage)
    (rest : List FileName)
    → ((k : ℕ) (c : Cursor) → slice_get cursors k ≡ Some c → HasEndedAt files c) → AreOpen files size cursors
    → IsDamageBehind files size cursors name damage
    → IsFirstDamaged files (names_of cursors ++ name ∷ rest) name damage
damaged_behind files size cursors name damage rest ended are damaged =
    let read = whole_files files size cursors ended are in
    record {
      before = names_of cursors;
      after = rest;
      split = refl;
      read = read.0;
      are = read.1;
      size = size;
      one_size = read.2;
      first = λ none e. damaged.first (no_cursors cursors none) e;
      damaged = damaged.damaged;
    }

-- ---- one file more is read to its end

pub begins_whole : (files : Files) (first : List Cursor) → AreWholeTo files 0 first first
begins_whole files first = record { ended = λ k c low is. absurd (omega (arith, low)); rest = λ k low. refl }

pub whole_next : (files : Files) (place : ℕ) (first now : List Cursor) (old new : Cursor)
    → AreWholeTo files place first now → place < length now
    → slice_get now place ≡ Some old → HasEnded files old.name old.reader new.reader
    → AreWholeTo files (place + 1) first (slice_set now place new)
whole_next files place first now old new whole low is end = record {
  ended = λ k c below at. elim (cases_eq k place) [
    | inl here ↦
        let same : c ≡ old = same_cursor (slice_get first place) c old (subst (λ
        (n : ℕ). slice_get first n ≡ Some c) here at) (sym (whole.rest place (omega arith)) ∙ is) in
        λ reads.
        let found = end.ended (subst (λ (x : Cursor). ReadsFile files x.name x.reader) same reads) in
        subst (λ (x : Cursor). HasEndedAt files x) (sym same) (λ again.
        (new.reader, found.0, end.header, found.1)) reads
    | inr other ↦ whole.ended k c (omega (arith, below, other)) at
  ];
  rest = λ k past. slice_get-set_other now place k new (λ e. omega (arith, e, past))
      ∙ whole.rest k (omega (arith, past));
}

pub sized_next : (size place : ℕ) (cursors : List Cursor) (old new : Cursor) → HaveSize size cursors
    → place < length cursors → slice_get cursors place ≡ Some old
    → new.reader.header ≡ old.reader.header → HaveSize size (slice_set cursors place new)
sized_next size place cursors old new sized low is same k c at = elim (cases_eq k place) [
  | inl here ↦
      let is_new : c ≡ new = same_cursor (slice_get (slice_set cursors place new) place) c new (subst (λ
      (n : ℕ). slice_get (slice_set cursors place new) n ≡ Some c) here at)
      (slice_get-set_same cursors place new low) in
      ap (λ (x : Cursor). x.reader.header.size) is_new ∙ ap (λ h. h.size) same ∙ sized place old is
  | inr other ↦ sized k c (sym (slice_get-set_other cursors place k new other) ∙ at)
]

-- the fault of the file at a place, where the first damaged file of those before it and of it was found
pub found_behind : (files : Files) (told : Told) (size : ℕ) (cursors : List Cursor) (place : ℕ) (cursor : Cursor)
    (fault : LtxFault) (found : CursorsFault)
    → slice_get cursors place ≡ Some cursor → AreOpen files size (take place cursors)
    → first_fault (bytes_of files cursor.name) ≡ Some fault
    → FindsFault files told size (take place cursors) cursor.name (File fault) found
    → Blames told (names_of cursors) found
found_behind files told size cursors place cursor fault found is are damaged finds =
    subst (λ (plan : List FileName). Blames told plan found) (sym (names-split cursors place cursor is))
    (finds are (record { first = λ none e. cc; damaged = damaged }) (names_of (drop (suc place) cursors)))
