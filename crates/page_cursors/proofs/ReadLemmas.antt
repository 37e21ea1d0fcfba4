-- Files that were all read to their ends.
use Rattle.std.proofs.Common.{◌≡◌, ℕ, zero, suc, ◌≤◌, List, [], ◌∷◌, ◌++◌, length, Option}
use Rattle.std.proofs.Common.{Some, refl, sym, ap, subst, ◌∙◌, arith}
use Rattle.std.specs.Prelude.{map, slice_get, IsSome}
use Rattle.std.specs.Option.{option_or}
use Rattle.std.specs.FinMap.{get, get-entries}
use Rattle.std.proofs.lemmas.List.{append-nil}
use Rattle.crash_disk.specs.Files.{Files}
use Rattle.ls_base.specs.PageSize.{lock_page}
use Rattle.ltx_format.specs.declared.file.LtxFile.{LtxFile}
use Rattle.ltx_format.specs.declared.header.LtxHeader.{LtxHeader}
use Rattle.ltx_reader.specs.declared.progress.Progress.{Progress}
use Rattle.ltx_reader.specs.declared.progress.Progress.TheVariants.{Ended}
use Rattle.ltx_format.specs.LtxFormat.{change_of}
use Rattle.ltx_reader.specs.Reader.{pages_left, pages_of, pages_to_come}
use Rattle.replica_store.specs.FileOf.{IsFileUnder, AreFilesUnder, HavePageSize}
use Rattle.page_cursors.specs.declared.cursor.Cursor.{Cursor}
use Rattle.page_cursors.specs.Blocks.{Blocks, numbers_of, page_in, last_in}
use Rattle.page_cursors.specs.Cursor.{HasGiven, bytes_of, commit_of}
use Rattle.page_cursors.specs.Ending.{HoldsEach, AllHold}
use Rattle.page_cursors.specs.LastPages.{HoldNew, HoldsNew, last_commit, last_page}
use Rattle.page_cursors.specs.Opening.{names_of, commits_from}
use Rattle.page_cursors.proofs.BlockLemmas.{page-held}
use Rattle.page_cursors.proofs.DamageLemmas.{relabelled}
use Rattle.page_cursors.proofs.ReaderLemmas.{ended_file}

-- the file of a cursor that came to its end: its pages are those that were given
pub record IsReadBy (files : Files) (cursor : Cursor) (front : Blocks) : Type 0 where
  pub file : LtxFile
  pub under : IsFileUnder files cursor.name file
  pub header : file.header ≡ cursor.reader.header
  pub pages : (p : ℕ) → get file.pages p ≡ page_in front p

pub read_by : (files : Files) (size bound before : ℕ) (cursor : Cursor) (front : Blocks)
    → HasGiven files size bound before cursor front → cursor.reader.progress ≡ Ended → IsReadBy files cursor front
read_by files size bound before cursor front has ended =
    let bytes = bytes_of files cursor.name in
    let found = ended_file bytes cursor.reader has.open_file.reads.reads ended in
    let none : pages_left bytes cursor.reader ≡ [] = ap (λ (p : Progress). pages_to_come bytes cursor.reader p) ended in
    let all : pages_of bytes ≡ front = has.split ∙ ap (λ (left : Blocks). front ++ left) none ∙ append-nil front in
    record {
      file = record { header = cursor.reader.header; pages = found.0.pages };
      under = record {
        file = relabelled bytes cursor.reader.header found.0 found.1;
        from_min =
            has.open_file.from_min;
        to_max = has.open_file.to_max;
      };
      header = refl;
      pages = λ p. get-entries found.0.pages p ∙ ap (λ (b : Blocks). page_in b p) (found.2 ∙ all);
    }

-- the pages above those of the state before are there
holds_new : (files : Files) (size bound before : ℕ) (cursor : Cursor) (front : Blocks)
    → HasGiven files size bound before cursor front → HoldsEach cursor → (read : IsReadBy files cursor front)
    → HoldsNew before (change_of read.file)
holds_new files size bound before cursor front has holds read p above within unlocked =
    let same : read.file.header.size ≡ size = ap (λ (h : LtxHeader). h.size) read.header ∙ has.open_file.sized in
    let fits : p ≤ commit_of cursor = subst (λ (h : LtxHeader). p ≤ h.commit) read.header within in
    let there = holds (lock_page size) before (numbers_of front) has.within has.wants p above fits (λ e. unlocked (e
    ∙ ap lock_page (sym same))) in
    subst (λ (o : Option (List ℕ)). IsSome o) (sym (read.pages p)) (page-held front p there)

-- all the cursors' files, one behind the other
pub record AreReadBy (files : Files) (size before : ℕ) (cursors : List Cursor) (fronts : List Blocks) : Type 0 where
  pub read : List LtxFile
  pub are : AreFilesUnder files (names_of cursors) read
  pub one_size : HavePageSize size read
  pub hold : AllHold cursors → HoldNew before (map change_of read)
  pub pages : (p : ℕ) → last_in fronts p ≡ last_page (map change_of read) p
  pub ends : slice_get (commits_from before cursors) (length cursors) ≡ Some (last_commit before (map change_of read))

abbrev pub EachEnded : Files → ℕ → ℕ → ℕ → List Cursor → List Blocks → Type 0
EachEnded files size bound before cursors fronts =
    (place commit : ℕ) (cursor : Cursor) (front : Blocks) → slice_get cursors place ≡ Some cursor
    → slice_get (commits_from before cursors) place ≡ Some commit
    → slice_get fronts place ≡ Some front → HasGiven files size bound commit cursor front ×
    (cursor.reader.progress ≡ Ended)

pub read_all : (files : Files) (size bound before : ℕ) (cursors : List Cursor) (fronts : List Blocks)
    → length fronts ≡ length cursors → EachEnded files size bound before cursors fronts
    → AreReadBy files size before cursors fronts
read_all files size bound before [] [] count each = record {
  read = [];
  are = tt;
  one_size = tt;
  hold = λ all. tt;
  pages = λ
      p. refl;
  ends = refl;
}
read_all files size bound before [] (front ∷ fronts) count each = absurd (omega (arith, count))
read_all files size bound before (cursor ∷ cursors) [] count each = absurd (omega (arith, count))
read_all files size bound before (cursor ∷ cursors) (front ∷ fronts) count each =
    let here = each zero before cursor front refl refl refl in
    let first = read_by files size bound before cursor front here.0 here.1 in
    let rest = read_all files size bound (commit_of cursor) cursors fronts (omega (arith, count))
    (λ place commit c f at commits is. each (suc place) commit c f at commits is) in
    let same : first.file.header.commit ≡ commit_of cursor = ap (λ (h : LtxHeader). h.commit) first.header in
    record {
      read = first.file ∷ rest.read;
      are = (first.under, rest.are);
      one_size = (ap (λ (h : LtxHeader). h.size) first.header ∙ here.0.open_file.sized, rest.one_size);
      hold = λ all. (
        holds_new files size bound before cursor front here.0 (all zero cursor refl) first,
        subst (λ (n : ℕ). HoldNew n
            (map change_of rest.read)) (sym same) (rest.hold (λ place c is. all (suc place) c is)),
      );
      pages = λ p. ap (λ (o : Option (List ℕ)). option_or o (page_in front p)) (rest.pages p)
          ∙ ap (λ (o : Option (List ℕ)). option_or (last_page (map change_of rest.read) p) o) (sym (first.pages p));
      ends = rest.ends ∙ ap (λ (n : ℕ). Some (last_commit n (map change_of rest.read))) (sym same);
    }
