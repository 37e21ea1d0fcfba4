-- What stands in the database file, and what page 1 says.
use Rattle.std.proofs.Common.{◌≡◌, ◌≢◌, ℕ, zero, suc, ◌-◌, ◌*◌, ◌^◌, ◌≤◌, List, [], ◌∷◌, ◌++◌, length, take, drop}
use Rattle.std.proofs.Common.{Option}
use Rattle.std.proofs.Common.{Some, None, Ok, replicate, refl, sym, ap, subst, ◌∙◌, inl, inr, append_assoc, arith}
use Rattle.std.specs.Prelude.{unwrap_or}
use Rattle.std.specs.List.{slice_get}
use Rattle.std.specs.Option.{option_or}
use Rattle.std.specs.FinMap.{keys}
use Rattle.std.proofs.lemmas.Bool.{cases_eq, eq-eqb, ne_eqb}
use Rattle.std.proofs.Math.Nat.{pow-le-pow_right}
use Rattle.std.proofs.lemmas.List.{take-append-le, length-take}
use Rattle.ls_base.specs.PageSize.{IsPageSize}
use Rattle.ls_base.specs.declared.mark.Mark.{Mark}
use Rattle.db_page.specs.DatabaseHeader.{IsWalDatabase, page_size_field, page_size_of}
use Rattle.ls_sums.specs.declared.wal_sum.WalSum.{WalSum}
use Rattle.wal_frames.specs.declared.header.WalHeader.{WalHeader}
use Rattle.wal_frames.specs.WalFormat.{read_header}
use Rattle.wal_frames.specs.WalFrame.{page_number, frame_page, frame_bytes}
use Rattle.wal_frames.specs.ValidPrefix.{valid_frames}
use Rattle.wal_frames.specs.Marks.{IsMark}
use Rattle.wal_frames.specs.View.{frames_to, frames_page, file_page}
use Rattle.wal_frames.proofs.LogLemmas.{ends_within, was_mark}
use Rattle.wal_frames.proofs.MarkLemmas.{valid_is, mark_stands}
use Rattle.live_gate.specs.Legal.{IsCopied}
use Rattle.live_gate.proofs.StillLegalLemmas.{frames_here}
use Rattle.sim_writer.specs.CommitFrames.{PagesByNumber, IsCommit, SaysSize, AreChecked, page_in, size_before}
use Rattle.sim_writer.specs.CommitFrames.{frame_sums, commit_frames}
use Rattle.sim_writer.specs.InFile.{FramesSay, HasFile}
use Rattle.sim_writer.proofs.SplitLemmas.{page_of_number, page_of_frame, says_number}

-- ---- what page 1 says

pub front_is : (size : ℕ) (file : List ℕ) → 100 ≤ size → 100 ≤ length file
    → take 100 (file_page size file 1) ≡ take 100 file
front_is size file big long =
    let none : (1 - 1) * size ≡ 0 = omega arith in
    let bare : drop ((1 - 1) * size) file ≡ file = ap (λ (n : ℕ). drop n file) none in
    let whole : take size (drop ((1 - 1) * size) file ++ replicate size 0) ≡ take size (file ++ replicate size 0) = ap
    (λ (xs : List ℕ). take size (xs ++ replicate size 0)) bare in
    ap (take 100) whole ∙ fewer (file ++ replicate size 0) 100 size big
    ∙ take-append-le 100 file (replicate size 0) long
  where
    fewer : (xs : List ℕ) (k n : ℕ) → k ≤ n → take k (take n xs) ≡ take k xs
    fewer xs zero n less = refl
    fewer xs (suc k) zero less = absurd (omega (arith, less))
    fewer [] (suc k) (suc n) less = refl
    fewer (x ∷ xs) (suc k) (suc n) less = ap (λ (ys : List ℕ). x ∷ ys) (fewer xs k n (omega (arith, less)))

-- a file whose first page says no other page size says none itself
pub file_says : (size : ℕ) (file : List ℕ) → IsPageSize size → SaysSize size (file_page size file 1)
    → IsWalDatabase (take 100 file) → page_size_of (page_size_field (take 100 file)) ≡ size
file_says size file is_size says is =
    let least : 2 ^ 9 ≤ 2 ^ is_size.0 = pow-le-pow_right (omega arith) is_size.1 in
    let front = front_is size file (omega (arith, is_size.3, least)) (omega (arith, is.whole, length-take 100 file)) in
    subst (λ (b : List ℕ). page_size_of (page_size_field b) ≡ size) front (says (subst IsWalDatabase (sym front) is))

pub say_append : (size : ℕ) (xs ys : List (List ℕ)) → FramesSay size xs → FramesSay size ys → FramesSay size (xs ++ ys)
say_append size [] ys left right = right
say_append size (x ∷ xs) ys (first, left) right = (first, say_append size xs ys left right)

pub say_take : (size k : ℕ) (xs : List (List ℕ)) → FramesSay size xs → FramesSay size (take k xs)
say_take size zero xs says = tt
say_take size (suc k) [] says = tt
say_take size (suc k) (x ∷ xs) (first, rest) = (first, say_take size k xs rest)

pub say_front : (size : ℕ) (xs ys : List (List ℕ)) → FramesSay size (xs ++ ys) → FramesSay size xs
say_front size [] ys says = tt
say_front size (x ∷ xs) ys (first, rest) = (first, say_front size xs ys rest)

pub say_found : (size : ℕ) (xs : List (List ℕ)) (page : List ℕ) → FramesSay size xs → frames_page 1 xs ≡ Some page
    → SaysSize size page
say_found size [] page says found = absurd cc
say_found size (x ∷ xs) page (first, rest) found = by (frames_page 1 xs) refl (say_found size xs page rest)
  where
    by : (later : Option (List ℕ)) → frames_page 1 xs ≡ later → (frames_page 1 xs ≡ Some page → SaysSize size page)
        → SaysSize size page
    by (Some other) e behind =
        let same : Some other ≡ Some page = sym (ap (λ (o : Option (List ℕ)). option_or o
        (frames_page 1 (x ∷ []))) e) ∙ found in
        behind (e ∙ same)
    by None e behind = elim (cases_eq (page_number x) 1) [
      | inl same ↦
          let own : Some (frame_page x) ≡ Some page = sym (rw (e, eq-eqb (page_number x) 1 same) refl) ∙ found in
          let is : frame_page x ≡ page = cc in
          subst (λ (b : List ℕ). SaysSize size b) is (first same)
      | inr other ↦
          let own : None ≡ Some page = sym (rw (e, ne_eqb (page_number x) 1 other) refl) ∙ found in
          absurd cc
    ]

-- ---- the frames of a commit

module _ (h : WalHeader) (m : PagesByNumber) (size : ℕ) where
  say_numbers : (ns : List ℕ) (sums : WalSum) → AreChecked h sums m size ns
      → ((k n : ℕ) → slice_get ns k ≡ Some n → n ≡ 1 → SaysSize h.size (page_in m n))
      → FramesSay h.size (commit_frames h sums m size ns)
  say_numbers [] sums valid each = tt
  say_numbers (n ∷ ns) sums (first, valid) each =
      let commit = size_before size ns in
      let now = frame_sums h sums m n commit in
      let frame = frame_bytes h now n commit (page_in m n) in (
        λ one. subst (λ (b : List ℕ). SaysSize h.size b) (sym (page_of_frame h now n commit (page_in m n)))
            (each 0 n refl (sym (says_number h sums frame n commit now first) ∙ one)),
        say_numbers ns now valid (λ k. each (suc k)),
      )

  pub commit_says : (sums : WalSum) → IsCommit h.size m size → AreChecked h sums m size (keys m)
      → FramesSay h.size (commit_frames h sums m size (keys m))
  commit_says sums is valid = say_numbers (keys m) sums valid (λ k n found one.
      let page = page_of_number m k n found in
      subst (λ (o : Option (List ℕ)). SaysSize h.size (unwrap_or o [])) (sym page.1)
      ((is.each n page.0 page.1).sized.says one))

-- ---- what stands in the file, where the log grows

module _ (h : WalHeader) (log : List ℕ) (accepted : read_header log ≡ Ok h) (mark : Mark) (is_mark : IsMark log mark)
  where
    pub ends_behind_header : 32 ≤ mark.end
    ends_behind_header = omega (arith, ap (λ (m : Mark). m.end) (mark_stands log h mark accepted is_mark).is)

    pub frames_to-more : (more : List (List ℕ)) → frames_to h (valid_frames log ++ more) mark
        ≡ frames_to h (valid_frames log) mark
    frames_to-more more =
        let stands = mark_stands log h mark accepted is_mark in
        let under = valid_is log h accepted ∙ stands.split in
        let grown : valid_frames log ++ more ≡ stands.before ++ stands.frame ∷ (stands.behind ++ more) = ap
        (λ (fs : List (List ℕ)). fs ++ more) under
        ∙ append_assoc stands.before (stands.frame ∷ stands.behind) more in
        ap (λ (fs : List (List ℕ)). frames_to h fs mark) grown
        ∙ ap (frames_to h (stands.before ++ stands.frame ∷ (stands.behind ++ more))) stands.is
        ∙ frames_here h [] stands.before (stands.behind ++ more) stands.frame
        ∙ sym (frames_here h [] stands.before stands.behind stands.frame)
        ∙ sym (ap (frames_to h (stands.before ++ stands.frame ∷ stands.behind)) stands.is)
        ∙ sym (ap (λ (fs : List (List ℕ)). frames_to h fs mark) under)

pub file_grown : (h : WalHeader) (file log bytes : List ℕ) (copied : ℕ) (more : List (List ℕ))
    → (log ≢ [] → read_header log ≡ Ok h) → IsCopied log copied → valid_frames (log ++ bytes) ≡ valid_frames log ++ more
    → read_header (log ++ bytes) ≡ Ok h → FramesSay h.size more → HasFile h file log copied
    → HasFile h file (log ++ bytes) copied
file_grown h file log bytes copied more accepted is_copied frames accepted_now says has = record {
  says = has.says;
  frames_say = subst (λ (fs : List (List ℕ)). FramesSay h.size fs) (sym frames)
      (say_append h.size (valid_frames log) more has.frames_say says);
  stands = λ mark is_mark ends.
      let behind = ends_behind_header h (log ++ bytes) accepted_now mark is_mark in
      let at = is_copied (λ none. absurd (omega (arith, behind, ends, none))) in
      let within = ends_within log at.0 at.1 in
      let was = was_mark log bytes mark is_mark (omega (arith, within, ends, at.2)) in
      let some : log ≢ [] = λ none. absurd (omega (arith, behind, ends, at.2, within, ap length none)) in
      let same = ap (λ (fs : List (List ℕ)). frames_to h fs mark) frames
      ∙ frames_to-more h log (accepted some) mark was more in
      record {
        page = λ p from upto other.
            (has.stands mark was ends).page p from upto other
            ∙ ap (λ (fs : List (List ℕ)). unwrap_or (frames_page p fs) (file_page h.size file p)) (sym same);
      };
}
