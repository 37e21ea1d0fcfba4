-- The first page that is missing in files that were all read to their ends.
use Rattle.std.proofs.Common.{◌≡◌, ℕ, zero, suc, ◌≤◌, List, [], ◌∷◌, ◌++◌, length, take, drop, Option}
use Rattle.std.proofs.Common.{Some, None, refl, sym, ap, subst, ◌∙◌, arith}
use Rattle.std.specs.Prelude.{map, slice_get, IsSome}
use Rattle.std.specs.List.{Contains}
use Rattle.crash_disk.specs.Files.{Files}
use Rattle.ls_base.specs.PageSize.{lock_page}
use Rattle.ltx_format.specs.declared.header.LtxHeader.{LtxHeader}
use Rattle.ltx_format.specs.declared.file.LtxFile.{LtxFile}
use Rattle.ltx_reader.specs.declared.progress.Progress.TheVariants.{Ended}
use Rattle.ltx_format.specs.LtxFormat.{change_of}
use Rattle.ltx_format.proofs.FindLemmas.{find_there}
use Rattle.replica_store.specs.declared.file_name.FileName.{FileName}
use Rattle.page_cursors.specs.declared.cursor.Cursor.{Cursor}
use Rattle.page_cursors.specs.Blocks.{Blocks, numbers_of, page_in}
use Rattle.replica_store.specs.FileOf.{IsFileUnder, HavePageSize}
use Rattle.page_cursors.specs.Cursor.{HasGiven, commit_of}
use Rattle.page_cursors.specs.Ending.{AreOpen, LacksFirst, IsLackingAt}
use Rattle.page_cursors.specs.LastPages.{IsFirstLackingOf, HaveSize}
use Rattle.page_cursors.specs.Opening.{names_of, commits_from}
use Rattle.page_cursors.specs.PlanFiles.{IsFirstMissing}
use Rattle.page_cursors.proofs.BlockLemmas.{page-held}
use Rattle.page_cursors.proofs.DamageLemmas.{HasEndedAt, names-split, whole_files, get-take}
use Rattle.page_cursors.proofs.LastPagesLemmas.{make_states, lacking_is_missing}
use Rattle.page_cursors.proofs.ReadLemmas.{IsReadBy, read_by, read_all}

pub same_some : (a b : ℕ) → ◌≡◌ {A = Option ℕ} (Some a) (Some b) → a ≡ b
same_some a b e = cc

held_first : (x : ℕ) (numbers : List ℕ) → Contains (x ∷ numbers) x
held_first x numbers = (zero, omega arith, refl)

held_more : (x p : ℕ) (numbers : List ℕ) → Contains numbers p → Contains (x ∷ numbers) p
held_more x p numbers (k, low, e) = (suc k, omega (arith, low), e)

-- a number that isn't there has no page
page-absent : (blocks : Blocks) (p : ℕ) → (Contains (numbers_of blocks) p → ⊥) → page_in blocks p ≡ None
page-absent [] p absent = refl
page-absent (block ∷ blocks) p absent =
    find_there p block blocks (λ e. absent (subst (λ (n : ℕ). Contains (block.0 ∷ numbers_of blocks) n) (sym e)
    (held_first block.0 (numbers_of blocks))))
    ∙ page-absent blocks p (λ has. absent (held_more block.0 p (numbers_of blocks) has))

first_lacking : (files : Files) (size bound before number : ℕ) (cursor : Cursor) (front : Blocks)
    → HasGiven files size bound before cursor front → LacksFirst cursor number
    → (read : IsReadBy files cursor front) → IsFirstLackingOf before (change_of read.file) number
first_lacking files size bound before number cursor front has lacks read =
    let found = lacks (lock_page size) before (numbers_of front) has.within has.wants in
    let same : read.file.header.size ≡ size = ap (λ (h : LtxHeader). h.size) read.header ∙ has.open_file.sized in
    record {
      above = found.0.above_it;
      within = subst (λ (h : LtxHeader). number ≤ h.commit) (sym read.header) found.1;
      unlocked = λ e. found.0.unlocked (e ∙ ap lock_page same);
      lacking = read.pages number ∙ page-absent front number found.0.lacking;
      least = λ p above below unlocked.
          subst (λ (o : Option (List ℕ)). IsSome o) (sym (read.pages p)) (page-held front p
          (found.0.least p above below (λ e. unlocked (e ∙ ap lock_page (sym same)))));
    }

take-commits : (before place k commit : ℕ) (cursors : List Cursor)
    → slice_get (commits_from before (take place cursors)) k ≡ Some commit
    → slice_get (commits_from before cursors) k ≡ Some commit
take-commits before zero zero commit [] is = is
take-commits before (suc place) zero commit [] is = is
take-commits before zero (suc k) commit [] is = is
take-commits before (suc place) (suc k) commit [] is = is
take-commits before zero zero commit (c ∷ cursors) is = is
take-commits before zero (suc k) commit (c ∷ cursors) is = absurd cc
take-commits before (suc place) zero commit (c ∷ cursors) is = is
take-commits before (suc place) (suc k) commit (c ∷ cursors) is = take-commits (commit_of c) place k commit cursors is

take-length : {X : Type 0} (place : ℕ) (xs : List X) (x : X) → slice_get xs place ≡ Some x
    → length (take place xs) ≡ place
take-length zero xs x is = refl
take-length (suc place) [] x is = absurd cc
take-length (suc place) (y ∷ xs) x is = let rest = take-length place xs x is in omega (arith, rest)

-- the state behind the first so many files has the pages that the next one stands on
ends_at : (before place : ℕ) (cursors : List Cursor) (commit : ℕ) (cursor : Cursor)
    → slice_get cursors place ≡ Some cursor → slice_get (commits_from before cursors) place ≡ Some commit
    → slice_get (commits_from before (take place cursors)) (length (take place cursors)) ≡ Some commit
ends_at before zero cursors commit cursor is at = at
ends_at before (suc place) [] commit cursor is at = absurd cc
ends_at before (suc place) (c ∷ cursors) commit cursor is at = ends_at (commit_of c) place cursors commit cursor is at

pub one_size_changes : (size : ℕ) (read : List LtxFile) → HavePageSize size read → HaveSize size (map change_of read)
one_size_changes size [] sized = tt
one_size_changes size (file ∷ read) (is, sized) = (is, one_size_changes size read sized)

-- all files were read to their ends, and the cursors before this one's hold their pages
pub first_missing : (files : Files) (size bound : ℕ) (cursors : List Cursor) (fronts : List Blocks) (name : FileName)
    (number : ℕ) → length fronts ≡ length cursors
    → ((place commit : ℕ) (cursor : Cursor) (front : Blocks) → slice_get cursors place ≡ Some cursor
    → slice_get (commits_from 0 cursors) place ≡ Some commit
    → slice_get fronts place ≡ Some front → HasGiven files size bound commit cursor front ×
    (cursor.reader.progress ≡ Ended))
    → (lacking : IsLackingAt cursors name number) → (commit : ℕ)
    → slice_get (commits_from 0 cursors) lacking.place ≡ Some commit → (front : Blocks)
    → slice_get fronts lacking.place ≡ Some front
    → ((place : ℕ) (cursor : Cursor) → slice_get cursors place ≡ Some cursor
    → (commit : ℕ) × (slice_get (commits_from 0 cursors) place ≡ Some commit) × (front : Blocks) ×
    (slice_get fronts place ≡ Some front))
    → IsFirstMissing files (names_of cursors) name number
first_missing files size bound cursors fronts name number count each lacking commit at_commit front at_front there =
    let place = lacking.place in
    let cursor = lacking.cursor in
    let here = each place commit cursor front lacking.is at_commit at_front in
    let own = read_by files size bound commit cursor front here.0 here.1 in
    let opens : AreOpen files size cursors = λ k c is. let facts = there k c is in
    (each k facts.0 c facts.2 is facts.1 facts.3).0.open_file in
    let ends : (k : ℕ) (c : Cursor) → slice_get cursors k ≡ Some c → HasEndedAt files c
    = λ k c is reads. let facts = there k c is in (
      c.reader,
      reads,
      refl,
      (each k facts.0 c facts.2 is facts.1 facts.3).1,
    ) in
    let all = whole_files files size cursors ends opens in
    let counts : length (take place fronts) ≡ length (take place cursors) = take-length place fronts front at_front
    ∙ sym (take-length place cursors cursor lacking.is) in
    let before = read_all files size bound 0 (take place cursors) (take place fronts) counts (λ k n c f at commits is.
    let cursor_at = get-take cursors place k c at in
    let front_at = get-take fronts place k f is in
    let facts = each k n c f cursor_at.1 (take-commits 0 place k n cursors commits) front_at.1 in
    (facts.0, facts.1)) in
    let states = make_states size (map change_of before.read)
    (one_size_changes size before.read before.one_size) (before.hold (λ k c at.
    let cursor_at = get-take cursors place k c at in
    lacking.before k c cursor_at.0 cursor_at.1)) in
    let reached : length states.0.pages ≡ commit = states.1.count ∙ same_some _ _ (sym before.ends
    ∙ ends_at 0 place cursors commit cursor lacking.is at_commit) in
    record {
      read = all.0;
      are = record { are = all.1; size = size; one_size = all.2 };
      before = names_of (take place cursors);
      after = names_of (drop (suc place) cursors);
      split = names-split cursors place cursor lacking.is
          ∙ ap (λ (n : FileName). names_of (take place cursors) ++ n ∷ names_of (drop (suc place) cursors))
          (sym lacking.named);
      read_before = before.read;
      are_before = before.are;
      state = states.0;
      makes = states.1.applies;
      file = own.file;
      is = subst (λ (n : FileName). IsFileUnder files n own.file) (sym lacking.named) own.under;
      lacks = lacking_is_missing states.0 (change_of own.file) number
          (subst (λ (n : ℕ). IsFirstLackingOf n (change_of own.file) number) (sym reached)
          (first_lacking files size bound commit number cursor front here.0 lacking.lacks own));
    }
