-- A replica can be faithful.
use Rattle.std.proofs.Common.{◌≡◌, ◌≢◌, ℕ, zero, suc, ◌≤◌, Bool, true, false, List, [], ◌∷◌, get_or, Option, Some, None}
use Rattle.std.proofs.Common.{refl, sym, ap, subst, ◌∙◌, inl, inr, arith}
use Rattle.std.specs.Prelude.{◌==◌, IsSome, is_some}
use Rattle.std.specs.Cmp.Lexicographic.{slice_cmp, nat_list_cmp_total}
use Rattle.std.specs.FinMap.{get, empty, insert, get-empty, get-insert}
use Rattle.std.specs.List.{AllByRecursion}
use Rattle.std.specs.List.Sorted.{IsNonDecreasing}
use Rattle.std.specs.Option.{option_or}
use Rattle.std.specs.Ordering.{nat_cmp}
use Rattle.std.proofs.lemmas.Bool.{cases_lt, eqb-false}
use Rattle.std.proofs.lemmas.Option.{none-some}
use Rattle.crash_disk.specs.Files.{Files, files_after}
use Rattle.crash_disk.proofs.FileLaws.{at_name, at_other}
use Rattle.ls_base.specs.Change.{Change, IsApplicable, apply, page_after, page_where}
use Rattle.ls_base.specs.History.{History, state_at}
use Rattle.ls_base.specs.PageSize.{lock_page}
use Rattle.ls_base.specs.State.{State, empty_state, page_of}
use Rattle.ls_base.specs.SyncLog.{SyncLog, recorded_state}
use Rattle.ls_base.proofs.ChangeLemmas.{page_of-apply, length-apply}
use Rattle.ls_base.proofs.StateLemmas.{same_states}
use Rattle.ltx_format.specs.LtxFormat.{IsStored}
use Rattle.ltx_format.specs.declared.header.LtxHeader.{LtxHeader}
use Rattle.replica_store.specs.declared.file_name.FileName.{FileName}
use Rattle.replica_store.specs.Faithful.{MayFollow, TurnsInto, IsFaithfulFile, IsFaithful}
use Rattle.replica_store.specs.FaithLaws.{line_in, with_whole, with_piece, state_after, EmptyIsFaithful}
use Rattle.replica_store.specs.FaithLaws.{WholeIsFaithful, PieceIsFaithful}
use Rattle.replica_store.specs.FileOf.{IsFileOf}
use Rattle.replica_store.specs.Listing.{path_of, IsFilePath, IsValid, IsIn}
use Rattle.replica_store.specs.NameText.{whole_path, file_path}
use Rattle.replica_store.proofs.FaithLemmas.{put_faithful}

-- ---- a change that is made again

or_twice : (o p : Option (List ℕ)) → option_or o (option_or o p) ≡ option_or o p
or_twice None p = refl
or_twice (Some page) p = refl

again_where : (b : Bool) (s t : State) (c : Change) (p : ℕ) → page_of t p ≡ page_where b s c p
    → page_where b t c p ≡ page_where b s c p
again_where true s t c p is = refl
again_where false s t c p is = ap (option_or (get c.pages p)) is ∙ or_twice (get c.pages p) (page_of s p)

again_page : (s : State) (c : Change) (p : ℕ) → IsApplicable s c → 1 ≤ p → p ≤ c.commit
    → page_after (apply s c) c p ≡ page_after s c p
again_page s c p fits low high = again_where (p == lock_page c.page_size) s (apply s c) c p
    (page_of-apply s c p fits low high)

same_size : (a b : ℕ) → ◌≡◌ {A = Option ℕ} (Some a) (Some b) → b ≡ a
same_size a b e = cc

pub applies_again : (s : State) (c : Change) → IsApplicable s c → IsApplicable (apply s c) c
applies_again s c fits = record {
  same_size = λ size is. same_size c.page_size size is;
  each = λ p low high. ap is_some (again_page s c p fits low high) ∙ fits.each p low high;
}

pub apply_again : (s : State) (c : Change) → IsApplicable s c → apply (apply s c) c ≡ apply s c
apply_again s c fits =
    same_states (apply (apply s c) c) (apply s c) refl (length-apply (apply s c) c ∙ sym (length-apply s c))
    (λ p low within.
    let high : p ≤ c.commit = omega (arith, within, length-apply (apply s c) c) in
    page_of-apply (apply s c) c p (applies_again s c fits) low high ∙ again_page s c p fits low high
    ∙ sym (page_of-apply s c p fits low high))

-- ---- a file of the whole database fits nothing before it

or_some : (o p : Option (List ℕ)) → IsSome o → IsSome (option_or o p)
or_some None p some = let e : false ≡ true = some in absurd cc
or_some (Some page) p some = refl

-- the lock page is there always, and any other page where the change has it
where_some : (b : Bool) (s : State) (c : Change) (p : ℕ) → (b ≡ false → IsSome (get c.pages p)) →
    IsSome (page_where b s c p)
where_some true s c p has = refl
where_some false s c p has = or_some (get c.pages p) (page_of s p) (has refl)

-- the numbers up to the commit, but for the lock page's, are those that may be stored
may_be_stored : (h : LtxHeader) (size p : ℕ) → size ≡ h.size → 1 ≤ p → p ≤ h.commit →
    (p == lock_page size) ≡ false → IsStored h p
may_be_stored h size p same low high other = record {
  some = low;
  at_most = high;
  unlocked = λ locked. eqb-false p (lock_page size) other (locked ∙ ap lock_page (sym same));
}

whole_fits : (whole : List ℕ) (h : LtxHeader) (c : Change) → IsFileOf whole 1 1 h c → IsApplicable empty_state c
whole_fits whole h c is = record {
  same_size = λ size none. absurd (none-some size none);
  each = λ p low high.
      let upto : p ≤ h.commit = omega (arith, high, is.file.same_commit) in
      where_some (p == lock_page c.page_size) empty_state c p
      (λ other. is.file.pages.whole is.from_min p (may_be_stored h c.page_size p is.file.same_size low upto other));
}

-- ---- the files

abbrev nothing : Files
nothing = empty

nothing_at : (q : List ℕ) → get nothing q ≡ None
nothing_at q = get-empty (slice_cmp nat_cmp) q

no_file : (name : FileName) → IsIn empty name → ⊥
no_file name there = let e : false ≡ true = sym (ap is_some (nothing_at (path_of name))) ∙ there.there in absurd cc

no_lines : (history : History) → IsFaithful empty history []
no_lines history = record {
  rising = λ i j d before within. absurd (omega (arith, within));
  placed = tt;
  within = λ name there. absurd (no_file name there);
  reached = λ some. absurd (omega (arith, some));
  each = λ name bytes valid there. absurd (none-some bytes (sym (nothing_at (path_of name)) ∙ there));
}

pub empty_is_faithful : EmptyIsFaithful
unfolding files_after
empty_is_faithful history = no_lines history

get_put : (files : Files) (path bytes : List ℕ) → get (insert files path bytes) path ≡ Some bytes
get_put files path bytes = get-insert nat_list_cmp_total files path bytes path
    ∙ at_name path (Some bytes) (get files path)

get_others : (files : Files) (path bytes q : List ℕ) → q ≢ path → get (insert files path bytes) q ≡ get files q
get_others files path bytes q other = get-insert nat_list_cmp_total files path bytes q
    ∙ at_other q path (Some bytes) (get files q) other

abbrev pub the_whole : FileName
the_whole = record { level = 9; min = 1; max = 1; on_level = refl; in_order = omega arith; from_first = λ _. refl }

pub valid_whole : IsValid the_whole
valid_whole = record {
  known = refl;
  from_first = omega arith;
  in_order = omega arith;
  max_fits = omega arith;
  whole =
      λ _. refl;
}

abbrev the_piece : FileName
the_piece = record {
  level = 0;
  min = 2;
  max = 2;
  on_level = refl;
  in_order = omega arith;
  from_first = λ e. absurd
      (omega (arith, e));
}

valid_piece : IsValid the_piece
valid_piece = record {
  known = refl;
  from_first = omega arith;
  in_order = omega arith;
  max_fits = omega arith;
  whole =
      λ e. absurd (omega (arith, e));
}

-- one number doesn't fall, and two don't where the second is no smaller
one_rises : (m : ℕ) → IsNonDecreasing (m ∷ [])
one_rises m i zero d before within = let first : i ≡ 0 = omega (arith, before) in
    subst (λ (k : ℕ). get_or (m ∷ []) k d ≤ m) (sym first) (omega arith)
one_rises m i (suc j) d before within = absurd (omega (arith, within))

two_rise : (m n : ℕ) → m ≤ n → IsNonDecreasing (m ∷ n ∷ [])
two_rise m n up zero zero d before within = omega arith
two_rise m n up zero (suc zero) d before within = up
two_rise m n up (suc i) zero d before within = absurd (omega (arith, before))
two_rise m n up (suc zero) (suc zero) d before within = omega arith
two_rise m n up (suc (suc i)) (suc zero) d before within = absurd (omega (arith, before))
two_rise m n up i (suc (suc j)) d before within = absurd (omega (arith, within))

module _ (history : History) (whole : List ℕ) (h : LtxHeader) (c : Change) (is : IsFileOf whole 1 1 h c)
    (stood : state_at history h.place ≡ Some (state_after c)) where
  whole_leads : (s : ℕ) → MayFollow 1 1 s → TurnsInto history (line_in h ∷ []) c s 1
  whole_leads s (inl first) = record {
    before = empty_state;
    recorded = ap (recorded_state history (line_in h ∷ [])) first.1;
    fits = whole_fits whole h c is;
    after = stood;
  }
  whole_leads s (inr later) = absurd (omega (arith, later.0))

  pub whole_file : IsFaithfulFile history (line_in h ∷ []) 1 1 whole
  whole_file = record { header = h; change = c; file = is; line = refl; leads = whole_leads }

  whole_placed : AllByRecursion (λ line. IsSome (state_at history line.place)) (line_in h ∷ [])
  whole_placed = (ap is_some stood, tt)

  -- the file of the whole database under its name, wherever no other file is
  pub whole_in : (files : Files) → get files (whole_path 1) ≡ Some whole
      → ((q : List ℕ) → IsFilePath q → q ≢ whole_path 1 → get files q ≡ None)
      → IsFaithful files history (line_in h ∷ [])
  whole_in files there others =
      put_faithful empty files history [] (line_in h ∷ []) the_whole whole (no_lines history)
      (record { more = line_in h ∷ []; is = refl }) (one_rises h.moment) whole_placed valid_whole (omega arith)
      whole_file (inl refl) there
      (λ q path other. others q path other ∙ sym (nothing_at q))

  whole_is_there : IsFaithful (with_whole whole) history (line_in h ∷ [])
  whole_is_there = whole_in (with_whole whole) (get_put empty (whole_path 1) whole)
      (λ q path other. get_others empty (whole_path 1) whole q other ∙ nothing_at q)

  module _ (piece : List ℕ) (i : LtxHeader) (d : Change) (next : IsFileOf piece 2 2 i d)
      (fits : IsApplicable (state_after c) d) (then : state_at history i.place ≡ Some (apply (state_after c) d))
      (up : h.moment ≤ i.moment) where
    abbrev lines : SyncLog
    lines = line_in h ∷ line_in i ∷ []

    piece_leads : (s : ℕ) → MayFollow 2 2 s → TurnsInto history lines d s 2
    piece_leads s (inl first) = absurd (omega (arith, first.0))
    piece_leads s (inr later) =
        elim (cases_lt s 2) [
          | inl below ↦
              let one : s ≡ 1 = omega (arith, below, later.1) in
              record {
                before = state_after c;
                recorded = ap (recorded_state history lines) one
                    ∙ stood;
                fits = fits;
                after = then;
              }
          | inr above ↦
              let two : s ≡ 2 = omega (arith, above, later.2) in
              record {
                before = apply (state_after c) d;
                recorded = ap (recorded_state history lines) two ∙ then;
                fits = applies_again (state_after c) d fits;
                after = then ∙ ap (λ (t : State). Some t) (sym (apply_again (state_after c) d fits));
              }
        ]

    piece_file : IsFaithfulFile history lines 2 2 piece
    piece_file = record { header = i; change = d; file = next; line = refl; leads = piece_leads }

    piece_is_there : IsFaithful (with_piece whole piece) history lines
    piece_is_there =
        put_faithful (with_whole whole) (with_piece whole piece) history (line_in h ∷ []) lines the_piece piece
        whole_is_there (record { more = line_in i ∷ []; is = refl }) (two_rise h.moment i.moment up)
        (ap is_some stood, (ap is_some then, tt)) valid_piece (omega arith) piece_file (inl refl)
        (get_put (with_whole whole) (file_path 0 2 2) piece)
        (λ q path other. get_others (with_whole whole) (file_path 0 2 2) piece q other)

pub whole_is_faithful : WholeIsFaithful
whole_is_faithful history whole h c is stood = whole_is_there history whole h c is stood

pub piece_is_faithful : PieceIsFaithful
piece_is_faithful history whole piece h i c d is stood next fits then up = piece_is_there history whole h c is stood
    piece i d next fits then up
