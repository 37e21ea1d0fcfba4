-- The frames of a commit: the last one commits, and each page stands in its own.
use Rattle.std.proofs.Common.{◌≡◌, ◌≢◌, ℕ, zero, suc, ◌+◌, List, [], ◌∷◌, ◌++◌, length, Option, Some, None}
use Rattle.std.proofs.Common.{refl, sym, ap, subst, ◌∙◌, inl, inr, append_assoc, append-nil, length-append, arith}
use Rattle.std.specs.Prelude.{◌⊎◌, unwrap_or}
use Rattle.std.specs.List.{concat, slice_get}
use Rattle.std.specs.FinMap.{get, keys}
use Rattle.std.specs.Option.{option_or}
use Rattle.std.proofs.lemmas.Bool.{cases_eq, eq-eqb, ne_eqb}
use Rattle.ls_base.specs.declared.mark.Mark.{Mark}
use Rattle.ls_sums.specs.declared.wal_sum.WalSum.{WalSum}
use Rattle.wal_frames.specs.declared.header.WalHeader.{WalHeader}
use Rattle.wal_frames.specs.declared.frame.Frame.TheVariants.{Valid}
use Rattle.wal_frames.specs.WalFrame.{frame_length, frame_bytes, frame_page, page_number, commit_size, summed_part}
use Rattle.wal_frames.specs.WalFrame.{sums_after, frame_fault, checked}
use Rattle.wal_frames.specs.Marks.{mark_with}
use Rattle.wal_frames.specs.View.{frames_page}
use Rattle.wal_frames.proofs.CheckedLemmas.{SaysValid, says_valid}
use Rattle.wal_frames.proofs.MarkLemmas.{mark_after}
use Rattle.live_gate.specs.Legal.{NoneCommits}
use Rattle.sim_writer.specs.CommitFrames.{PagesByNumber, IsCommit, AreChecked, page_in, size_before, frame_sums}
use Rattle.sim_writer.specs.CommitFrames.{commit_frames, commit_sums}
use Rattle.sim_writer.proofs.NumberLemmas.{number_has_page, page_has_number}
use Rattle.sim_writer.proofs.StandLemmas.{AreSized, last_behind, length-frame_bytes}

-- ---- the pages of a commit

pub page_of_number : (m : PagesByNumber) (k n : ℕ) → slice_get (keys m) k ≡ Some n
    → (page : List ℕ) × (get m n ≡ Some page)
page_of_number m k n found = by (get m n) refl
  where
    by : (o : Option (List ℕ)) → get m n ≡ o → (page : List ℕ) × (get m n ≡ Some page)
    by None e = absurd (number_has_page m k n found e)
    by (Some page) e = (page, e)

sized_by : (size : ℕ) (m : PagesByNumber) (ns : List ℕ)
    → ((k n : ℕ) → slice_get ns k ≡ Some n → length (page_in m n) ≡ size) → AreSized size m ns
sized_by size m [] each = tt
sized_by size m (n ∷ ns) each = (each 0 n refl, sized_by size m ns (λ k. each (suc k)))

pub all_sized : (page_size : ℕ) (m : PagesByNumber) (size : ℕ) → IsCommit page_size m size
    → AreSized page_size m (keys m)
all_sized page_size m size is = sized_by page_size m (keys m) (λ k n found.
    let page = page_of_number m k n found in
    ap (λ (o : Option (List ℕ)). length (unwrap_or o [])) page.1 ∙ (is.each n page.0 page.1).sized.long)

-- ---- what a frame says

module _ (h : WalHeader) (sums : WalSum) (frame : List ℕ) (n commit : ℕ) (now : WalSum)
    (valid : checked h sums frame ≡ Valid n commit now) where
  abbrev own_sums : WalSum
  own_sums = sums_after h.order sums (summed_part frame)

  says : SaysValid (frame_fault h own_sums frame) own_sums frame n commit now
  says = says_valid (frame_fault h own_sums frame) own_sums frame n commit now valid

  pub says_number : page_number frame ≡ n
  says_number = sym says.is_number

  pub says_size : commit_size frame ≡ commit
  says_size = sym says.is_commit

-- ---- the last frame alone commits

pub record Splits (h : WalHeader) (size : ℕ) (sums : WalSum) (last : Option Mark) (grown : List ℕ)
    (frames : List (List ℕ)) : Type 0 where
  pub front : List (List ℕ)
  pub final : List ℕ
  pub split : frames ≡ front ++ final ∷ []
  pub none : NoneCommits front
  pub commits : commit_size final ≡ size
  pub ends : last ≡ Some (mark_with h (length grown) sums size)

module _ (h : WalHeader) (m : PagesByNumber) (size : ℕ) (some : size ≢ 0) where
  pub splits : (ns : List ℕ) (sums : WalSum) (last : Option Mark) (log : List ℕ) → ns ≢ [] → AreSized h.size m ns
      → AreChecked h sums m size ns
      → Splits h size (commit_sums h sums m size ns) (last_behind h sums m size ns log last)
      (log ++ concat (commit_frames h sums m size ns)) (commit_frames h sums m size ns)
  splits [] sums last log none sized valid = absurd (none refl)
  splits (n ∷ []) sums last log none (len, sized) (first, valid) =
      let now = frame_sums h sums m n size in
      let frame = frame_bytes h now n size (page_in m n) in
      let whole = length-frame_bytes h now n size (page_in m n) len in
      let bytes : frame ++ [] ≡ frame = append-nil frame in
      let long : length log + frame_length h ≡ length (log ++ (frame ++ [])) = omega
      (arith, length-append log (frame ++ []), ap length bytes, whole) in
      record {
        front = [];
        final = frame;
        split = refl;
        none = tt;
        commits = says_size h sums frame n size now first;
        ends = rw (ne_eqb size 0 some) (ap (λ (k : ℕ). Some (mark_with h k now size)) long);
      }
  splits (n ∷ (q ∷ ns)) sums last log none (len, sized) (first, valid) =
      let now = frame_sums h sums m n 0 in
      let frame = frame_bytes h now n 0 (page_in m n) in
      let later = splits (q ∷ ns) now (mark_after last (mark_with h (length log + frame_length h) now 0)) (log ++ frame)
      (λ e. absurd cc) sized valid in
      let frames = commit_frames h now m size (q ∷ ns) in
      let bytes : (log ++ frame) ++ concat frames ≡ log ++ (frame ++ concat frames) = append_assoc log frame (concat
      frames) in
      record {
        front = frame ∷ later.front;
        final = later.final;
        split = ap (λ (fs : List (List ℕ)). frame ∷ fs) later.split;
        none = (says_size h sums frame n 0 now first, later.none);
        commits = later.commits;
        ends = later.ends
            ∙ ap (λ (b : List ℕ). Some (mark_with h (length b) (commit_sums h now m size (q ∷ ns)) size)) bytes;
      }

-- ---- the page of a number

pub page_of_frame : (h : WalHeader) (s : WalSum) (n commit : ℕ) (page : List ℕ)
    → frame_page (frame_bytes h s n commit page) ≡ page
unfolding frame_bytes
page_of_frame h s n commit page = refl

module _ (h : WalHeader) (m : PagesByNumber) (size p : ℕ) where
  -- none, or that of the number
  abbrev IsOwn : Option (List ℕ) → Type 0
  IsOwn o = (o ≡ None) ⊎ (o ≡ Some (page_in m p))

  or_own : (later own : Option (List ℕ)) → IsOwn later → IsOwn own → IsOwn (option_or later own)
  or_own later own (inl none) is = subst (λ (o : Option (List ℕ)). IsOwn (option_or o own)) (sym none) is
  or_own later own (inr some) is = inr (ap (λ (o : Option (List ℕ)). option_or o own) some)

  or_some : (later own : Option (List ℕ)) → IsOwn later → own ≡ Some (page_in m p)
      → option_or later own ≡ Some (page_in m p)
  or_some later own (inl none) is = ap (λ (o : Option (List ℕ)). option_or o own) none ∙ is
  or_some later own (inr some) is = ap (λ (o : Option (List ℕ)). option_or o own) some

  own_of : List ℕ → Option (List ℕ)
  own_of frame = frames_page p (frame ∷ [])

  module _ (sums : WalSum) (n commit : ℕ)
      (first : checked h sums (frame_bytes h (frame_sums h sums m n commit) n commit (page_in m n))
      ≡ Valid n commit (frame_sums h sums m n commit)) where
    abbrev frame : List ℕ
    frame = frame_bytes h (frame_sums h sums m n commit) n commit (page_in m n)

    number_is : page_number frame ≡ n
    number_is = says_number h sums frame n commit (frame_sums h sums m n commit) first

    not_own : (n ≡ p → ⊥) → frames_page p (frame ∷ []) ≡ None
    not_own other = rw (ne_eqb (page_number frame) p (λ e. other (sym number_is ∙ e))) refl

    is_own : n ≡ p → frames_page p (frame ∷ []) ≡ Some (page_in m p)
    is_own same =
        rw (eq-eqb (page_number frame) p (number_is ∙ same))
        (ap (λ (b : List ℕ). Some b) (page_of_frame h (frame_sums h sums m n commit) n commit (page_in m n)
        ∙ ap (page_in m) same))

    own_either : IsOwn (frames_page p (frame ∷ []))
    own_either = elim (cases_eq n p) [ inl same ↦ inr (is_own same) | inr other ↦ inl (not_own other) ]

  either_found : (ns : List ℕ) (sums : WalSum) → AreChecked h sums m size ns
      → IsOwn (frames_page p (commit_frames h sums m size ns))
  either_found [] sums valid = inl refl
  either_found (n ∷ ns) sums (first, valid) =
      let commit = size_before size ns in
      let now = frame_sums h sums m n commit in
      or_own (frames_page p (commit_frames h now m size ns)) (frames_page p (frame sums n commit first ∷ []))
      (either_found ns now valid) (own_either sums n commit first)

  found_in : (ns : List ℕ) (sums : WalSum) (k : ℕ) → AreChecked h sums m size ns → slice_get ns k ≡ Some p
      → frames_page p (commit_frames h sums m size ns) ≡ Some (page_in m p)
  found_in [] sums k valid at = absurd cc
  found_in (n ∷ ns) sums zero (first, valid) at =
      let same : n ≡ p = cc in
      let commit = size_before size ns in
      let now = frame_sums h sums m n commit in
      or_some (frames_page p (commit_frames h now m size ns)) (frames_page p (frame sums n commit first ∷ []))
      (either_found ns now valid) (is_own sums n commit first same)
  found_in (n ∷ ns) sums (suc k) (first, valid) at =
      let commit = size_before size ns in
      let now = frame_sums h sums m n commit in
      ap (λ (o : Option (List ℕ)). option_or o (frames_page p (frame sums n commit first ∷ [])))
      (found_in ns now k valid at)

  none_in : (ns : List ℕ) (sums : WalSum) → AreChecked h sums m size ns
      → ((k : ℕ) → slice_get ns k ≡ Some p → ⊥)
      → frames_page p (commit_frames h sums m size ns) ≡ None
  none_in [] sums valid other = refl
  none_in (n ∷ ns) sums (first, valid) other =
      let commit = size_before size ns in
      let now = frame_sums h sums m n commit in
      ap (λ (o : Option (List ℕ)). option_or o (frames_page p (frame sums n commit first ∷ [])))
      (none_in ns now valid (λ k. other (suc k)))
      ∙ not_own sums n commit first (λ e. other 0 (ap (λ (x : ℕ). Some x) e))

  -- the frames of a commit have its pages
  pub frames_have_pages : (sums : WalSum) → AreChecked h sums m size (keys m)
      → frames_page p (commit_frames h sums m size (keys m)) ≡ get m p
  frames_have_pages sums valid = by (get m p) refl
    where
      by : (o : Option (List ℕ)) → get m p ≡ o → frames_page p (commit_frames h sums m size (keys m)) ≡ get m p
      by None e =
          none_in (keys m) sums valid (λ k at. let has = page_of_number m k p at in
          let no : None ≡ Some has.0 = sym e ∙ has.1 in absurd cc) ∙ sym e
      by (Some page) e =
          let place = page_has_number m p page e in
          found_in (keys m) sums place.0 valid place.1
          ∙ ap (λ (o : Option (List ℕ)). Some (unwrap_or o [])) e ∙ sym e
