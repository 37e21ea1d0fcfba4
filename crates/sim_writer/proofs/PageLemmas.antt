-- Pages of the state behind frames.
use Rattle.std.proofs.Common.{◌≡◌, ℕ, zero, suc, ◌+◌, ◌-◌, ◌*◌, ◌/◌, ◌<◌, ◌≤◌, List, [], ◌∷◌, ◌++◌, length, take}
use Rattle.std.proofs.Common.{drop, map, get_or}
use Rattle.std.proofs.Common.{Option, Some, None, refl, sym, ap, subst, ◌∙◌, arith}
use Rattle.std.specs.Prelude.{◌≢◌}
use Rattle.std.specs.List.{range_with_len, slice_get}
use Rattle.std.specs.Option.{option_or}
use Rattle.std.proofs.Math.Nat.{mul-div_left}
use Rattle.std.proofs.lemmas.Bool.{eq-eqb, ne_eqb}
use Rattle.std.proofs.lemmas.List.{take-append-drop, drop_all, length-take-le}
use Rattle.std.proofs.lemmas.List.FromFn.{map-range_with_len_more, length-map-range_with_len, get_or-map-range_with_len}
use Rattle.std.proofs.lemmas.Option.{slice_get-get_or, slice_get_within, get_or_from_slice_get}
use Rattle.wal_frames.specs.declared.header.WalHeader.{WalHeader}
use Rattle.wal_frames.specs.WalFrame.{frame_length, page_number, frame_page}
use Rattle.wal_frames.specs.ValidPrefix.{if_accepted, frames_under, valid_frames}
use Rattle.wal_frames.specs.Marks.{end_of}
use Rattle.wal_frames.specs.LogLaws.{StandsAt}
use Rattle.wal_frames.specs.View.{frames_page}
use Rattle.wal_frames.proofs.CutLemmas.{quotient}
use Rattle.wal_frames.proofs.LogLemmas.{frame_stands}
use Rattle.wal_frames.proofs.MarkLemmas.{valid_is}
use Rattle.live_gate.proofs.CommitLemmas.{no_log}
use Rattle.live_gate.proofs.StillLegalLemmas.{frames_page-append}
use Rattle.sim_writer.specs.declared.machine.Machine.{Machine}
use Rattle.ls_base.specs.declared.entry.Entry.{Entry}
use Rattle.ls_base.specs.State.{State}
use Rattle.ls_base.specs.History.{state_of}
use Rattle.live_gate.specs.Legal.{last_state}
use Rattle.sim_writer.specs.Sound.{IsSound, page_behind, state_behind}
use Rattle.sim_writer.proofs.NumberLemmas.{drop_next}

pub pages_more : (f : ℕ → List ℕ) (count : ℕ) (pages now : List (List ℕ)) (page : List ℕ)
    → pages ≡ map f (range_with_len 1 count) → page ≡ f (count + 1) → now ≡ pages ++ page ∷ []
    → now ≡ map f (range_with_len 1 (count + 1))
pages_more f count pages now page before is grown =
    grown ∙ ap (λ (ps : List (List ℕ)). ps ++ page ∷ []) before
    ∙ ap (λ (p : List ℕ). map f (range_with_len 1 count) ++ p ∷ []) is
    ∙ sym (map-range_with_len_more f 1 count (count + 1) (omega arith))

-- ---- the last frame of a page

module _ (p : ℕ) (fs : List (List ℕ)) (left k : ℕ) (f : List ℕ) (one : left ≡ k + 1) (at : slice_get fs k ≡ Some f)
    (none : frames_page p (drop left fs) ≡ None) where
  none_behind : frames_page p (drop (k + 1) fs) ≡ None
  none_behind = ap (λ (n : ℕ). frames_page p (drop n fs)) (sym one) ∙ none

  pub not_here : (page_number f ≡ p → ⊥) → frames_page p (drop k fs) ≡ None
  not_here other =
      ap (frames_page p) (drop_next fs k f at)
      ∙ rw (none_behind, ne_eqb (page_number f) p other) refl

  pub found_here : page_number f ≡ p → frames_page p fs ≡ Some (frame_page f)
  found_here same =
      let here : frames_page p (drop k fs) ≡ Some (frame_page f) = ap (frames_page p) (drop_next fs k f at)
      ∙ rw (none_behind, eq-eqb (page_number f) p same) refl in
      ap (frames_page p) (sym (take-append-drop k fs)) ∙ frames_page-append p (take k fs) (drop k fs)
      ∙ ap (λ (o : Option (List ℕ)). option_or o (frames_page p (take k fs))) here

pub none_past : (p : ℕ) (m : Machine) (left : ℕ) → left ≡ length (valid_frames m.committed)
    → frames_page p (drop left (valid_frames m.committed)) ≡ None
none_past p m left is = ap (frames_page p) (drop_all left (valid_frames m.committed) (omega (arith, is)))

-- ---- the frames of a log that ends with its last frame

pub no_frames : (log : List ℕ) → log ≡ [] → valid_frames log ≡ []
no_frames log none = ap valid_frames none ∙ ap (λ r. if_accepted r (λ h. frames_under h []) []) no_log

module _ (m : Machine) (s : IsSound m) where
  abbrev h : WalHeader
  h = m.head

  abbrev fs : List (List ℕ)
  fs = valid_frames m.committed

  -- how many there are
  pub count_is : (length m.committed - 32) / (24 + m.head.size) ≡ length (valid_frames m.committed)
  count_is = by m.committed refl
    where
      by : (log : List ℕ) → log ≡ m.committed → (length log - 32) / (24 + m.head.size) ≡ length (valid_frames log)
      by [] is = quotient (length {A = ℕ} [] - 32) (24 + m.head.size) 0 0 (omega arith) (omega arith)
          ∙ sym (ap length (no_frames [] refl))
      by (b ∷ bs) is =
          let some : m.committed ≢ [] = λ none. let e : b ∷ bs ≡ [] = is ∙ none in absurd cc in
          let taken = (s.stands some).taken in
          let end : length m.committed ≡ 32 + length (frames_under h m.committed) * frame_length h = taken.is_end in
          let many : length m.committed - 32 ≡ length (frames_under h m.committed) * frame_length h = omega (
            arith,
            end,
          ) in
          let same : length (valid_frames m.committed) ≡ length (frames_under h m.committed) = ap length
          (valid_is m.committed h taken.accepted) in
          ap (λ (xs : List ℕ). (length xs - 32) / (24 + m.head.size)) is ∙ ap (λ (n : ℕ). n / frame_length h) many
          ∙ mul-div_left (length (frames_under h m.committed)) (omega arith) ∙ sym same
          ∙ ap (λ (xs : List ℕ). length (valid_frames xs)) (sym is)

  module _ (k : ℕ) (below : k < length (valid_frames m.committed)) where
    abbrev frame : List ℕ
    frame = get_or (valid_frames m.committed) k []

    pub at_place : slice_get (valid_frames m.committed) k ≡ Some frame
    at_place = slice_get-get_or (valid_frames m.committed) k [] below

    front_length : end_of h (take k fs) ≡ 32 + k * frame_length h
    front_length = ap (λ (n : ℕ). 32 + n * frame_length h) (length-take-le k fs (omega (arith, below)))

    not_empty : m.committed ≢ []
    not_empty none = absurd (omega (arith, below, ap length (no_frames m.committed none)))

    pub frame_at : StandsAt m.head m.committed (32 + k * (24 + m.head.size)) frame
    frame_at =
        let split : fs ≡ take k fs ++ frame ∷ drop (k + 1) fs = sym (take-append-drop k fs)
        ∙ ap (λ (xs : List (List ℕ)). take k fs ++ xs) (drop_next fs k frame at_place) in
        subst (λ (n : ℕ). StandsAt h m.committed n frame) front_length
        (frame_stands m.committed h (take k fs) frame (drop (k + 1) fs) (s.stands not_empty).taken.accepted split)

    -- these bytes are the frame, and its page is the last of its number or isn't of that number
    module _ (p left : ℕ) (bytes : List ℕ) (one : left ≡ k + 1)
        (none : frames_page p (drop left (valid_frames m.committed)) ≡ None)
        (is : bytes ≡ take (24 + m.head.size) (drop (32 + k * (24 + m.head.size)) m.committed)) where
      same_frame : frame ≡ bytes
      same_frame = frame_at.bytes ∙ sym is

      pub page_found : page_number bytes ≡ p → Some (drop 24 bytes) ≡ frames_page p (valid_frames m.committed)
      page_found same =
          let here : page_number frame ≡ p = ap page_number same_frame ∙ same in
          ap (λ (b : List ℕ). Some (drop 24 b)) (sym same_frame)
          ∙ sym (found_here p (valid_frames m.committed) left k frame one at_place none here)

      pub none_yet : (page_number bytes ≡ p → ⊥) → frames_page p (drop k (valid_frames m.committed)) ≡ None
      none_yet other = not_here p (valid_frames m.committed) left k frame one at_place none
          (λ e. other (ap page_number (sym same_frame) ∙ e))

-- ---- the pages of the last state

pub last_found : (h : List Entry) (at : ℕ) (e : Entry) (before : Option State) → length h ≡ suc at → slice_get h at ≡ Some e
    → last_state before h ≡ Some (state_of e)
last_found [] at e before many found = absurd (omega (arith, many))
last_found (x ∷ []) zero e before many found = let same : x ≡ e = cc in ap (λ (y : Entry). Some (state_of y)) same
last_found (x ∷ []) (suc at) e before many found = absurd (omega (arith, many))
last_found (x ∷ (y ∷ ys)) zero e before many found = absurd (omega (arith, many))
last_found (x ∷ (y ∷ ys)) (suc at) e before many found =
    last_found (y ∷ ys) at e (Some (state_of x)) (omega (arith, many)) found

same_state : (a b : State) → ◌≡◌ {A = Option State} (Some a) (Some b) → a ≡ b
same_state a b e = cc

pub page_before_is : (m : Machine) (at p : ℕ) (e : Entry) (page : List ℕ) → IsSound m → length m.history ≡ at + 1
    → slice_get m.history at ≡ Some e → 1 ≤ p → slice_get e.pages (p - 1) ≡ Some page
    → page ≡ page_behind m.head m.file (valid_frames m.committed) p
page_before_is m at p e page s many found from has =
    let f = page_behind m.head m.file (valid_frames m.committed) in
    let count = s.current.count in
    let state = last_found m.history at e None (omega (arith, many)) found in
    let same : state_of e ≡ state_behind m.head m.file (valid_frames m.committed) count = same_state _ _
    (sym state ∙ s.current.is) in
    let pages : e.pages ≡ map f (range_with_len 1 count) = ap (λ (x : State). x.pages) same in
    let there : slice_get (map f (range_with_len 1 count)) (p - 1) ≡ Some page = ap
    (λ (ps : List (List ℕ)). slice_get ps (p - 1)) (sym pages) ∙ has in
    let within = slice_get_within (map f (range_with_len 1 count)) (p - 1) page there in
    let few : p - 1 < count = omega (arith, within, length-map-range_with_len f 1 count) in
    sym (get_or_from_slice_get (map f (range_with_len 1 count)) (p - 1) page [] there)
    ∙ get_or-map-range_with_len f 1 count (p - 1) p [] few (omega (arith, from))
