-- A file with stray bytes where it was written since its last sync is one of its images, and so is one of an earlier
-- length.
use Rattle.std.proofs.Common.{◌≡◌, ℕ, ◌+◌, ◌-◌, ◌<◌, ◌≤◌, min, ◌⊎◌, inl, inr, List, [], ◌∷◌, ◌++◌, length, take, drop}
use Rattle.std.proofs.Common.{replicate, get_or, refl, ap, sym, subst, ◌∙◌, arith, length-append, length-drop}
use Rattle.std.proofs.lemmas.Bool.{cases_lt}
use Rattle.std.proofs.lemmas.List.{get_or_append_left, get_or-append_right, get_or-drop, take-append-le, length-take}
use Rattle.std.proofs.lemmas.List.{length-replicate}
use Rattle.crash_disk.specs.Files.{with_bytes_at, with_length}
use Rattle.crash_disk.specs.FileState.{FileState, Range, IsInside, SomeOf, IsFileImage}
use Rattle.crash_disk.specs.Remnant.{scribbled, torn, length_before}
use Rattle.crash_disk.proofs.FileStateLaws.{written_changes, resized_changes}

module _ (range : Range) (bytes : List ℕ) where
  start : ℕ
  start = min range.start (length bytes)

  stray : List ℕ
  stray = replicate (min range.end (length bytes) - min range.start (length bytes)) 90

  -- stray bytes inside a range are a write
  as_write : scribbled range bytes ≡ with_bytes_at start stray bytes
  unfolding start stray
  as_write =
      let within : min range.start (length bytes) ≤ length bytes = omega arith in
      ap (λ front. front ++ stray ++ drop (start + length stray) bytes)
      (sym (take-append-le start bytes (replicate (start - length bytes) 0) within))

  pub length-scribbled : length (scribbled range bytes) ≡ length bytes
  unfolding start stray
  length-scribbled =
      length-append (take start bytes ++ stray) (drop (start + length stray) bytes)
      ∙ ap (λ n. n + length (drop (start + length stray) bytes)) (length-append (take start bytes) stray)
      ∙ sizes (length bytes) range.start range.end _ _ _ (length-take start bytes)
      (length-replicate (min range.end (length bytes) - min range.start (length bytes)) 90)
      (length-drop (start + length stray) bytes)
    where
      sizes : (n a b front middle back : ℕ) → front ≡ min (min a n) n → middle ≡ min b n - min a n
          → back ≡ n - (min a n + middle) → front + middle + back ≡ n
      sizes n a b front middle back is-front is-middle is-back = omega arith

  pub scribbled-outside : (place : ℕ) → place < length bytes → (IsInside place range → ⊥)
      → get_or (scribbled range bytes) place 0 ≡ get_or bytes place 0
  unfolding start stray
  scribbled-outside place below free =
      ap (λ b. get_or b place 0) as_write
      ∙ ((written_changes start stray bytes).outside place
      (subst (λ n. place < n) (sym (ap length (sym as_write) ∙ length-scribbled)) below)
      (λ inside. free (
        omega arith,
        ends (length bytes) range.start range.end place (length stray)
            (length-replicate (min range.end (length bytes) - min range.start (length bytes)) 90) below inside.0
            inside.1,
      ))).1
    where
      ends : (n a b p k : ℕ) → k ≡ min b n - min a n → p < n → min (min a n) n ≤ p → p < min a n + k → p < b
      ends n a b p k is below from to = omega arith

pub length-torn : (ranges : List Range) (bytes : List ℕ) → length (torn ranges bytes) ≡ length bytes
length-torn [] bytes = refl
length-torn (range ∷ ranges) bytes = length-scribbled range (torn ranges bytes) ∙ length-torn ranges bytes

torn-outside : (ranges : List Range) (bytes : List ℕ) (place : ℕ) → place < length bytes
    → (SomeOf (IsInside place) ranges → ⊥) → get_or (torn ranges bytes) place 0 ≡ get_or bytes place 0
torn-outside [] bytes place below free = refl
torn-outside (range ∷ ranges) bytes place below free =
    scribbled-outside range (torn ranges bytes) place (subst (λ n. place < n) (sym (length-torn ranges bytes)) below)
    (λ inside. free (inl inside))
    ∙ torn-outside ranges bytes place below (λ inside. free (inr inside))

-- stray bytes in what was written since the sync
pub torn_as_image : (file : FileState) → IsFileImage file file.bytes → IsFileImage file (torn file.ranges file.bytes)
torn_as_image file is = record {
  had_length = subst (λ n. SomeOf (λ size. n ≡ size) file.lengths) (sym (length-torn file.ranges file.bytes))
      is.had_length;
  kept = λ place below synced free.
      let there : place < length file.bytes = subst (λ n. place < n) (length-torn file.ranges file.bytes) below in
      torn-outside file.ranges file.bytes place there free ∙ is.kept place there synced free;
}

length-with_length : (size : ℕ) (bytes : List ℕ) → length (with_length size bytes) ≡ size
length-with_length size bytes =
    length-append (take size bytes) (replicate (size - length bytes) 0)
    ∙ sizes _ _ (length-take size bytes) (length-replicate (size - length bytes) 0)
  where
    sizes : (front back : ℕ) → front ≡ min size (length bytes) → back ≡ size - length bytes → front + back ≡ size
    sizes front back is-front is-back = omega arith

before_is_one : (P : ℕ → Type 0) (lengths : List ℕ) (n : ℕ) → SomeOf P lengths → n ≡ length_before lengths → SomeOf
    (λ size. n ≡ size) lengths
before_is_one P [] n some is = absurd some
before_is_one P (now ∷ []) n some is = inl is
before_is_one P (now ∷ before ∷ rest) n some is = inr (inl is)

-- the bytes and behind them those of the sync, at a length that the file had since
pub shorter_as_image : (file : FileState) → IsFileImage file file.bytes
    → IsFileImage file (with_length (length_before file.lengths) (file.bytes ++ drop (length file.bytes) file.synced))
shorter_as_image file is =
    let size = length_before file.lengths in
    let whole = file.bytes ++ drop (length file.bytes) file.synced in
    record {
      had_length = before_is_one (λ n. length file.bytes ≡ n) file.lengths (length (with_length size whole))
          is.had_length (length-with_length size whole);
      kept = λ place below synced free.
          let long : place < length whole = longer place synced in
          ((resized_changes size whole).outside place below
          (λ inside. absurd (past place (length whole) long inside.0))).1
          ∙ by_place place synced free (cases_lt place (length file.bytes));
    }
  where
    past : (p n : ℕ) → p < n → n ≤ p → ⊥
    past p n below above = omega arith

    longer : (place : ℕ) → place < length file.synced → place < length
        (file.bytes ++ drop (length file.bytes) file.synced)
    longer place below = rw length-append (rw length-drop (omega arith))

    by_place : (place : ℕ) → place < length file.synced → (SomeOf (IsInside place) file.ranges → ⊥)
        → (place < length file.bytes) ⊎ (length file.bytes ≤ place)
        → get_or (file.bytes ++ drop (length file.bytes) file.synced) place 0 ≡ get_or file.synced place 0
    by_place place synced free (inl before) = get_or_append_left file.bytes (drop (length file.bytes) file.synced) 0
        place before ∙ is.kept place before synced free
    by_place place synced free (inr after) =
        let back : length file.bytes + (place - length file.bytes) ≡ place = omega arith in
        get_or-append_right file.bytes (drop (length file.bytes) file.synced) (length file.bytes) place 0 refl after
        ∙ get_or-drop (length file.bytes) file.synced (place - length file.bytes) 0
        ∙ ap (λ n. get_or file.synced n 0) back
