-- The page that a map of offsets gives is the view's.
use Rattle.std.proofs.Common.{◌≡◌, ℕ, zero, suc, ◌+◌, ◌-◌, ◌*◌, ◌≤◌, List, [], ◌∷◌, length, take, drop, Bool, true}
use Rattle.std.proofs.Common.{false, cond, Option, Some, None, Ok, refl, sym, ap, ◌∙◌, arith}
use Rattle.std.specs.Prelude.{◌==◌, unwrap_or}
use Rattle.std.specs.Option.{option_or, option_map}
use Rattle.std.specs.FinMap.{get}
use Rattle.std.specs.Simd.{first_chunks}
use Rattle.std.proofs.lemmas.List.{drop-drop, drop-take, length-take}
use Rattle.std.proofs.Math.Nat.{div-mul-le_self}
use Rattle.ls_base.specs.State.{page_of}
use Rattle.ls_base.specs.declared.mark.Mark.{Mark}
use Rattle.wal_frames.specs.declared.header.WalHeader.{WalHeader}
use Rattle.wal_frames.specs.WalFormat.{read_header}
use Rattle.wal_frames.specs.WalFrame.{frame_length, frame_page, page_number}
use Rattle.wal_frames.specs.ValidPrefix.{valid_frames}
use Rattle.wal_frames.specs.Marks.{IsMark}
use Rattle.wal_frames.specs.View.{frames_page, frames_to, frames_up_to, file_page, unless_locked, view_at}
use Rattle.wal_frames.proofs.ChunkLemmas.{length-first_chunks}
use Rattle.wal_frames.proofs.LogLemmas.{ends_within}
use Rattle.wal_frames.proofs.MarkLemmas.{valid_is}
use Rattle.wal_frames.proofs.ViewLemmas.{is_view, mark_long, frames_to_chunks}
use Rattle.snapshot_read.specs.PageOffsets.{Offsets}
use Rattle.snapshot_read.specs.Offsets.{offset_in, log_page, mapped_page, LiesWithin}
use Rattle.snapshot_read.specs.ReadLaws.{AreOffsetsTo}

map_or : (f : ℕ → List ℕ) (a b : Option ℕ) → option_map f (option_or a b) ≡ option_or (option_map f a) (option_map f b)
map_or f None b = refl
map_or f (Some x) b = refl

map_if : (f : ℕ → List ℕ) (b : Bool) (x : ℕ) → option_map f (cond b (Some x) None) ≡ cond b (Some (f x)) None
map_if f true x = refl
map_if f false x = refl

module _ (h : WalHeader) (log : List ℕ) (number : ℕ) where
  -- the page of a frame stands 24 bytes behind its begin
  page_stands : (start : ℕ) → frame_page (take (frame_length h) (drop start log)) ≡ log_page h.size log (start + 24)
  page_stands start = drop-take 24 h.size (drop start log) ∙ ap (take h.size) (drop-drop 24 start log)

  -- the pages of frames by their offsets
  pub by_offsets : (k start : ℕ) → frames_page number (first_chunks (frame_length h) k (drop start log))
      ≡ option_map (log_page h.size log) (offset_in h number start (first_chunks (frame_length h) k (drop start log)))
  by_offsets zero start = refl
  by_offsets (suc k) start =
      let n = frame_length h in
      let rest = first_chunks n k (drop n (drop start log)) in
      let has = page_number (take n (drop start log)) == number in
      let later : frames_page number rest ≡ option_map (log_page h.size log) (offset_in h number (start + n) rest) =
      ap (λ (xs : List ℕ). frames_page number (first_chunks n k xs)) (drop-drop n start log) ∙ by_offsets k (start + n)
      ∙ ap (λ (xs : List ℕ). option_map (log_page h.size log) (offset_in h number (start + n) (first_chunks n k xs)))
      (sym (drop-drop n start log)) in
      let here : cond has (Some (frame_page (take n (drop start log)))) None ≡ option_map (log_page h.size log)
      (cond has (Some (start + 24)) None) =
      ap (λ (page : List ℕ). cond has (Some page) None) (page_stands start)
      ∙ sym (map_if (log_page h.size log) has (start + 24)) in
      ap (λ (o : Option (List ℕ)). option_or o (cond has (Some (frame_page (take n (drop start log)))) None)) later
      ∙ ap (option_or (option_map (log_page h.size log) (offset_in h number (start + n) rest))) here
      ∙ sym (map_or (log_page h.size log) (offset_in h number (start + n) rest) (cond has (Some (start + 24)) None))

-- an offset among frames leaves room for its page before their end
pub NotPast : ℕ → ℕ → Option ℕ → Type 0
NotPast size end None = Unit {0}
NotPast size end (Some at) = at + size ≤ end

abbrev not_past_or : (size end : ℕ) (a b : Option ℕ) → NotPast size end a → NotPast size end b
    → NotPast size end (option_or a b)
not_past_or size end None b first second = second
not_past_or size end (Some x) b first second = first

not_past_if : (size end x : ℕ) (b : Bool) → x + size ≤ end → NotPast size end (cond b (Some x) None)
unfolding NotPast
not_past_if size end x true fits = fits
not_past_if size end x false fits = tt

pub not_past : (h : WalHeader) (number start end : ℕ) (frames : List (List ℕ))
    → start + length frames * frame_length h ≤ end → NotPast h.size end (offset_in h number start frames)
unfolding NotPast
not_past h number start end [] fits = tt
not_past h number start end (frame ∷ frames) fits =
    let n = frame_length h in
    let more : (1 + length frames) * n ≡ n + length frames * n = omega arith in
    not_past_or h.size end (offset_in h number (start + n) frames)
    (cond (page_number frame == number) (Some (start + 24)) None)
    (not_past h number (start + n) end frames (omega (arith, fits, more)))
    (not_past_if h.size end (start + 24) (page_number frame == number) (omega (arith, fits, more)))

pub at_offset : (size end at : ℕ) (found : Option ℕ) → NotPast size end found → found ≡ Some at → at + size ≤ end
unfolding NotPast
at_offset size end at None fits is = absurd cc
at_offset size end at (Some x) fits is = let same : x ≡ at = cc in omega (arith, fits, same)

-- ---- the laws

module _ (log : List ℕ) (h : WalHeader) (mark : Mark) (offsets : Offsets) (number : ℕ)
    (accepted : read_header log ≡ Ok h) (is_mark : IsMark log mark) (are : AreOffsetsTo log h mark offsets) where
  chunks : frames_to h (valid_frames log) mark ≡ first_chunks (frame_length h) (frames_up_to h mark) (drop 32 log)
  chunks = ap (λ (fs : List (List ℕ)). frames_to h fs mark) (valid_is log h accepted)
      ∙ frames_to_chunks log h accepted mark is_mark

  found : frames_page number (frames_to h (valid_frames log) mark) ≡ option_map (log_page h.size log)
      (get offsets number)
  found =
      ap (frames_page number) chunks ∙ by_offsets h log number (frames_up_to h mark) 32
      ∙ ap (λ (fs : List (List ℕ)). option_map (log_page h.size log) (offset_in h number 32 fs)) (sym chunks)
      ∙ ap (option_map (log_page h.size log)) (sym (are.each number))

  pub mapped_is_view : (file : List ℕ) → 1 ≤ number → number ≤ mark.commit
      → page_of (view_at file log mark) number ≡ Some (mapped_page h.size file log offsets number)
  mapped_is_view file from upto =
      (is_view log h accepted file mark).each number from upto
      ∙ ap (λ (o : Option (List ℕ)). Some (unless_locked h.size number
      (unwrap_or o (file_page h.size file number)))) found

  pub mapped_lies_within : LiesWithin h.size log offsets number
  mapped_lies_within at is =
      let n = frame_length h in
      let k = frames_up_to h mark in
      let low : k * n ≤ mark.end - 32 = div-mul-le_self (mark.end - 32) n in
      let many : length (frames_to h (valid_frames log) mark) ≡ k = ap (λ (fs : List (List ℕ)). length fs) chunks
      ∙ length-first_chunks n k (drop 32 log) in
      let behind : 32 ≤ length (take mark.end log) = mark_long log h accepted mark is_mark in
      let same : length (frames_to h (valid_frames log) mark) * n ≡ k * n = ap (λ (m : ℕ). m * n) many in
      let fits = not_past h number 32 (length log) (frames_to h (valid_frames log) mark)
      (omega (arith, low, same, behind, length-take mark.end log, ends_within log mark is_mark)) in
      at_offset h.size (length log) at (offset_in h number 32 (frames_to h (valid_frames log) mark)) fits
      (sym (are.each number) ∙ is)
