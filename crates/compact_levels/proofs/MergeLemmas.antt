-- What was copied is the merge of the files.
use Rattle.std.proofs.Common.{◌≡◌, ◌≢◌, ℕ, zero, suc, ◌+◌, ◌^◌, ◌<◌, ◌≤◌, true, List, [], ◌∷◌, ◌++◌, length, drop, take}
use Rattle.std.proofs.Common.{Option, Some, None, refl, sym, ap, subst, ◌∙◌, inl, inr, arith}
use Rattle.std.specs.Prelude.{map, slice_get, IsSome, is_some, ◌⊎◌}
use Rattle.std.specs.Option.{option_or}
use Rattle.std.specs.FinMap.{get}
use Rattle.std.proofs.lemmas.Bool.{cases_eq, cases_lt}
use Rattle.crash_disk.specs.Files.{Files}
use Rattle.ls_base.specs.Change.{Change}
use Rattle.ls_base.specs.PageSize.{lock_page}
use Rattle.ls_base.specs.State.{State, page_of}
use Rattle.ls_base.proofs.StateLemmas.{page_of-there}
use Rattle.ltx_format.specs.declared.file.LtxFile.{LtxFile}
use Rattle.ltx_format.specs.declared.header.LtxHeader.{LtxHeader}
use Rattle.ltx_format.specs.LtxFormat.{HasHeader, IsHeader, IsLtxFile, IsStored, change_of}
use Rattle.ltx_format.specs.Writing.{PageMap, IsWhole, change_with}
use Rattle.ltx_format.proofs.FrontLemmas.{same_header}
use Rattle.page_cursors.specs.declared.cursor.Cursor.{Cursor}
use Rattle.page_cursors.specs.declared.cursors.Cursors.{Cursors}
use Rattle.page_cursors.specs.Blocks.{Blocks, page_in}
use Rattle.page_cursors.specs.Cursors.{HaveGiven, plan_of}
use Rattle.page_cursors.specs.LastPages.{HaveSize, last_commit, last_page}
use Rattle.page_cursors.specs.Opening.{names_of}
use Rattle.page_cursors.proofs.LastPagesLemmas.{make_states}
use Rattle.replica_store.specs.declared.file_name.FileName.{FileName}
use Rattle.replica_store.specs.FileOf.{AreFilesUnder, IsFileUnder, HavePageSize}
use Rattle.replica_store.specs.Listing.{path_of, bytes_under}
use Rattle.replica_store.proofs.ExtendedLemmas.{begins_with_header}
use Rattle.compact_levels.specs.Drafting.{AreCopied, HaveCopied}
use Rattle.compact_levels.specs.Merged.{IsMerged, IsMergeOf, IsMergeOfPlan, MergesHeader, Spans}

-- ---- the header

-- the header with other transactions, which are in order, is one that a file may have
pub valid_header : (h : LtxHeader) (min max : ℕ) → IsHeader h → 0 < min → min ≤ max → max < 2 ^ 64
    → IsHeader (record h { min = min; max = max; index = true })
valid_header h min max valid some order fits = record {
  size = valid.size;
  some_page = valid.some_page;
  small = valid.small;
  from_first = omega arith;
  in_order = order;
  max_fits = fits;
  moment_fits = valid.moment_fits;
  place = valid.place;
}

-- ---- the ends of lists

pub last_same : {X : Type 0} (a b : List X) (x y : X) → a ++ x ∷ [] ≡ b ++ y ∷ [] → x ≡ y
last_same [] [] x y e = cc
last_same [] (z ∷ []) x y e = absurd (omega (arith, ap length e))
last_same [] (z ∷ w ∷ b) x y e = absurd (omega (arith, ap length e))
last_same (z ∷ []) [] x y e = absurd (omega (arith, ap length e))
last_same (z ∷ w ∷ a) [] x y e = absurd (omega (arith, ap length e))
last_same {X = X} (z ∷ a) (w ∷ b) x y e = last_same a b x y (ap (λ (xs : List X). drop 1 xs) e)

pub names_end : (before : List Cursor) (last : Cursor) → names_of (before ++ last ∷ []) ≡ names_of before ++ last.name
    ∷ []
names_end [] last = refl
names_end (cursor ∷ before) last = ap (λ (ns : List FileName). cursor.name ∷ ns) (names_end before last)

-- the file under the last name
pub record HasLast (files : Files) (name : FileName) (read : List LtxFile) : Type 0 where
  pub before : List LtxFile
  pub last : LtxFile
  pub ends : read ≡ before ++ last ∷ []
  pub is : IsFileUnder files name last

pub last_file : (files : Files) (before : List FileName) (name : FileName) (read : List LtxFile)
    → AreFilesUnder files (before ++ name ∷ []) read → HasLast files name read
last_file files [] name [] are = absurd are
last_file files [] name (file ∷ []) are = record { before = []; last = file; ends = refl; is = are.0 }
last_file files [] name (file ∷ other ∷ read) are = absurd are.1
last_file files (first ∷ before) name [] are = absurd are
last_file files (first ∷ before) name (file ∷ read) are =
    let rest = last_file files before name read are.1 in
    record {
      before = file ∷ rest.before;
      last = rest.last;
      ends = ap (λ (fs : List LtxFile). file ∷ fs) rest.ends;
      is = rest.is;
    }

-- the file under the first name
pub record HasFirst (files : Files) (name : FileName) (read : List LtxFile) : Type 0 where
  pub first : LtxFile
  pub rest : List LtxFile
  pub begins : read ≡ first ∷ rest
  pub is : IsFileUnder files name first

pub first_file : (files : Files) (name : FileName) (names : List FileName) (read : List LtxFile)
    → AreFilesUnder files (name ∷ names) read → HasFirst files name read
first_file files name names [] are = absurd are
first_file files name names (file ∷ read) are = record { first = file; rest = read; begins = refl; is = are.0 }

pub commit_at_end : (pages : ℕ) (before : List LtxFile) (last : LtxFile)
    → last_commit pages (map change_of (before ++ last ∷ [])) ≡ last.header.commit
commit_at_end pages [] last = refl
commit_at_end pages (file ∷ before) last = commit_at_end file.header.commit before last

-- ---- pages that no file holds

none_of : (o : Option (List ℕ)) → (IsSome o → ⊥) → o ≡ None
none_of None not = refl
none_of (Some page) not = absurd (not refl)

-- what no file may hold, none has
pub last_none : (files : Files) (plan : List FileName) (read : List LtxFile) (size p : ℕ)
    → AreFilesUnder files plan read
    → HavePageSize size read → ((h : LtxHeader) → h.size ≡ size → IsStored h p → ⊥)
    → last_page (map change_of read) p ≡ None
last_none files plan [] size p are sized not = refl
last_none files [] (file ∷ read) size p are sized not = absurd are
last_none files (name ∷ plan) (file ∷ read) size p (here, are) (own, sized) not =
    let none = none_of (get file.pages p) (λ has. not file.header own (here.file.pages.numbered p has)) in
    ap (λ (o : Option (List ℕ)). option_or o (get file.pages p)) (last_none files plan read size p are sized not) ∙ none

-- ---- the merge

-- may a file of the header hold the page?
pub stored_or_not : (h : LtxHeader) (p : ℕ) → IsStored h p ⊎ ((p ≡ 0) ⊎ ((h.commit < p) ⊎ (p ≡ lock_page h.size)))
stored_or_not h zero = inr (inl refl)
stored_or_not h (suc p) = elim (cases_lt h.commit (suc p)) [
  | inl past ↦ inr (inr (inl past))
  | inr low ↦ elim (cases_eq (suc p) (lock_page h.size)) [
    | inl lock ↦ inr (inr (inr lock))
    | inr other ↦ inl (record { some = omega arith; at_most = low; unlocked = other })
  ]
]

not_zero : (h : LtxHeader) (p : ℕ) → p ≡ 0 → IsStored h p → ⊥
not_zero h p is stored = omega (arith, is, stored.some)

not_lock : (h : LtxHeader) (size p : ℕ) → p ≡ lock_page size → h.size ≡ size → IsStored h p → ⊥
not_lock h size p is same stored = stored.unlocked (is ∙ ap lock_page (sym same))

module _ (files : Files) (plan : List FileName) (size : ℕ) (h : LtxHeader) (given : Blocks) (pages : PageMap)
    (same : h.size ≡ size)
    (min : ℕ) (all : HaveCopied min files plan size given) (copied : AreCopied h given pages) where
  abbrev changes : List Change
  changes = map change_of all.read

  merged_page : (p : ℕ) → p ≤ h.commit → IsStored h p ⊎ ((p ≡ 0) ⊎ ((h.commit < p) ⊎ (p ≡ lock_page h.size)))
      → get pages p ≡ last_page changes p
  merged_page p low (inl stored) = copied.stored p stored ∙ all.pages p
  merged_page p low (inr (inl is)) =
      copied.others p (not_zero h p is)
      ∙ sym (last_none files plan all.read size p all.are all.one_size (λ k e. not_zero k p is))
  merged_page p low (inr (inr (inl past))) = absurd (omega (arith, low, past))
  merged_page p low (inr (inr (inr is))) =
      let lock : p ≡ lock_page size = is ∙ ap lock_page same in
      copied.others p (not_lock h size p lock same)
      ∙ sym (last_none files plan all.read size p all.are all.one_size (λ k e. not_lock k size p lock e))

  pub is_merged : h.commit ≡ last_commit 0 changes → IsMerged (change_with h pages) changes
  is_merged ends = record {
    commit = ends;
    each = λ p low. merged_page p low (stored_or_not h p);
    none = λ p past. copied.others p (λ stored. omega (arith, past, stored.at_most));
  }

  one_size : (read : List LtxFile) → HavePageSize size read → HaveSize size (map change_of read)
  one_size [] sized = tt
  one_size (file ∷ read) (own, sized) = (own, one_size read sized)

  -- a run from transaction 1 on has each page
  pub is_whole : h.min ≡ min → h.commit ≡ last_commit 0 changes → IsWhole h pages
  is_whole from ends first number stored =
      let state = make_states size changes (one_size all.read all.one_size) (all.hold (sym from ∙ first)) in
      let within : number ≤ last_commit 0 changes = omega (arith, stored.at_most, ends) in
      let there = page_of-there state.0 number stored.some (omega (arith, within, state.1.count)) in
      let page = state.1.others number stored.some within (λ is. stored.unlocked (is ∙ ap lock_page (sym same))) in
      ap is_some (copied.stored number stored ∙ all.pages number ∙ sym page ∙ there.1)

-- a list ends with what stands last
pub split_last : (cursors : List Cursor) (at : ℕ) (last : Cursor) → at + 1 ≡ length cursors
    → slice_get cursors at ≡ Some last
    → cursors ≡ take at cursors ++ last ∷ []
split_last [] at last count is = absurd (omega (arith, count))
split_last (cursor ∷ []) zero last count is = let same : cursor ≡ last = cc in ap (λ (c : Cursor). c ∷ []) same
split_last (cursor ∷ other ∷ cursors) zero last count is = absurd (omega (arith, count))
split_last (cursor ∷ cursors) (suc at) last count is =
    ap (λ (cs : List Cursor). cursor ∷ cs) (split_last cursors at last (omega (arith, count)) is)
