-- What a crash may leave of a file of which some places are written and others are kept.
use Rattle.std.proofs.Common.{◌≡◌, ◌∙◌, ℕ, ◌+◌, ◌-◌, ◌<◌, ◌≤◌, ◌⊎◌, min, List, [], ◌∷◌, ◌++◌, length, take, drop, map}
use Rattle.std.proofs.Common.{replicate, get_or, sym, ap, subst, refl, inl, inr, arith, length-append, length-drop}
use Rattle.std.specs.List.{range_with_len}
use Rattle.std.proofs.lemmas.Bool.{cases_lt}
use Rattle.std.proofs.lemmas.List.{get_or_append_left, get_or-append_right, get_or-take, get_or-drop, get_or_past}
use Rattle.std.proofs.lemmas.List.{get_or-replicate, length-take, length-replicate, take_all}
use Rattle.std.proofs.lemmas.List.FromFn.{length-map-range_with_len, get_or-map-range_with_len}
use Rattle.crash_disk.specs.Files.{with_bytes_at, with_length}
use Rattle.crash_disk.specs.FileState.{FileState, Range, IsInside, SomeOf, written, resized, IsFileImage}

-- ---- bytes

-- the bytes are the same at these places; a place past the end counts as 0
abbrev pub AgreeAt : (ℕ → Type 0) → List ℕ → List ℕ → Type 0
AgreeAt Kept a b = (place : ℕ) → Kept place → get_or a place 0 ≡ get_or b place 0

zeros : (n place : ℕ) → get_or (replicate {A = ℕ} n 0) place 0 ≡ 0
zeros n place =
    elim (cases_lt place n) [
      | inl below ↦ get_or-replicate n place 0 0 below
      | inr past ↦ get_or_past (replicate n 0) place 0 (omega (arith, past, length-replicate {A = ℕ} n 0))
    ]

-- zeros at the end change no place
pub get-padded : (old : List ℕ) (n place : ℕ) → get_or (old ++ replicate n 0) place 0 ≡ get_or old place 0
get-padded old n place =
    elim (cases_lt place (length old)) [
      | inl below ↦ get_or_append_left old (replicate n 0) 0 place below
      | inr past ↦ get_or-append_right old (replicate n 0) (length old) place 0 refl past
          ∙ zeros n (place - length old) ∙ sym (get_or_past old place 0 past)
    ]

module _ (at : ℕ) (bytes old : List ℕ) where
  longer : List ℕ
  longer = old ++ replicate (at - length old) 0

  length-front : length (take at longer) ≡ at
  unfolding longer
  length-front = omega (
    arith,
    length-take at longer,
    length-append old (replicate (at - length old) 0),
    length-replicate {A = ℕ} (at - length old) 0,
  )

  length-head : length (take at longer ++ bytes) ≡ at + length bytes
  length-head = omega (arith, length-append (take at longer) bytes, length-front)

  -- a write leaves what is outside of it
  pub get-written : (place : ℕ) → (place < at) ⊎ (at + length bytes ≤ place)
      → get_or (with_bytes_at at bytes old) place 0 ≡ get_or old place 0
  unfolding longer
  get-written place (inl below) =
      get_or_append_left (take at longer ++ bytes) (drop (at + length bytes) old) 0 place
      (omega (arith, below, length-head))
      ∙ get_or_append_left (take at longer) bytes 0 place (omega (arith, below, length-front))
      ∙ get_or-take at longer place 0 below ∙ get-padded old (at - length old) place
  get-written place (inr past) =
      get_or-append_right (take at longer ++ bytes) (drop (at + length bytes) old) (at + length bytes) place 0
      length-head past
      ∙ get_or-drop (at + length bytes) old (place - (at + length bytes)) 0
      ∙ ap (λ (k : ℕ). get_or old k 0) (omega (arith, past))

  -- and puts its bytes inside of it
  pub get-written_here : (k : ℕ) → k < length bytes → get_or (with_bytes_at at bytes old) (at + k) 0 ≡ get_or bytes k 0
  unfolding longer
  get-written_here k below =
      get_or_append_left (take at longer ++ bytes) (drop (at + length bytes) old) 0 (at + k)
      (omega (arith, below, length-head))
      ∙ get_or-append_right (take at longer) bytes at (at + k) 0 length-front (omega arith)
      ∙ ap (λ (j : ℕ). get_or bytes j 0) (omega arith)

  pub length-written : length (with_bytes_at at bytes old) ≡ at + length bytes + (length old - (at + length bytes))
  unfolding longer
  length-written = omega (
    arith,
    length-append (take at longer ++ bytes) (drop (at + length bytes) old),
    length-head,
    length-drop (at + length bytes) old,
  )

pub get-resized : (size : ℕ) (old : List ℕ) (place : ℕ) → place < size
    → get_or (with_length size old) place 0 ≡ get_or old place 0
get-resized size old place within = get-padded (take size old) (size - length old) place
    ∙ get_or-take size old place 0 within

-- a file that grows changes no place
pub get-grown : (size : ℕ) (old : List ℕ) (place : ℕ) → length old ≤ size
    → get_or (with_length size old) place 0 ≡ get_or old place 0
get-grown size old place short = get-padded (take size old) (size - length old) place
    ∙ ap (λ (xs : List ℕ). get_or xs place 0) (take_all size old short)

pub length-resized : (size : ℕ) (old : List ℕ) → length (with_length size old) ≡ size
length-resized size old = omega (
  arith,
  length-append (take size old) (replicate (size - length old) 0),
  length-take size old,
  length-replicate
      {A = ℕ} (size - length old) 0,
)

-- ---- images

-- The file changed at places that aren't kept, and never got too short for those that are.
pub record ChangedApart (Kept : ℕ → Type 0) (old new : FileState) : Type 0 where
  pub synced : new.synced ≡ old.synced
  pub ranges : (place : ℕ) → Kept place → SomeOf (IsInside place) new.ranges → SomeOf (IsInside place) old.ranges
  pub lengths : (n : ℕ) → SomeOf (λ size. n ≡ size) new.lengths → (place : ℕ) → Kept place → place < n
  pub long : (place : ℕ) → Kept place → place < length new.bytes

-- a place is in one of the ranges or in none
not_before : (place : ℕ) (range : Range) (ranges : List Range) → place < range.start
    → (SomeOf (IsInside place) ranges → ⊥) → SomeOf (IsInside place) (range ∷ ranges) → ⊥
not_before place range ranges before none (inl inside) = omega (arith, before, inside.0)
not_before place range ranges before none (inr some) = none some

not_past : (place : ℕ) (range : Range) (ranges : List Range) → range.end ≤ place → (SomeOf (IsInside place) ranges → ⊥)
    → SomeOf (IsInside place) (range ∷ ranges) → ⊥
not_past place range ranges past none (inl inside) = omega (arith, past, inside.1)
not_past place range ranges past none (inr some) = none some

decide : (place : ℕ) (ranges : List Range) → SomeOf (IsInside place) ranges ⊎ (SomeOf (IsInside place) ranges → ⊥)
decide place [] = inr (λ none. none)
decide place (range ∷ ranges) =
    elim (decide place ranges) [
      | inl some ↦ inl (inr some)
      | inr none ↦
          elim (cases_lt place range.start) [
            | inl before ↦ inr (not_before place range ranges before none)
            | inr from ↦ elim (cases_lt place range.end)
                [ inl inside ↦ inl (inl (from, inside)) | inr past ↦ inr (not_past place range ranges past none) ]
          ]
    ]

-- the synced byte where the place is synced and free, else the other
module _ (Inside : Type 0) (place count byte other : ℕ) where
  pick : Inside ⊎ (Inside → ⊥) → (place < count) ⊎ (count ≤ place) → ℕ
  pick (inl inside) e = other
  pick (inr free) (inl below) = byte
  pick (inr free) (inr past) = other

  pick_synced : (d : Inside ⊎ (Inside → ⊥)) (e : (place < count) ⊎ (count ≤ place)) → (Inside → ⊥) → place < count
      → pick d e ≡ byte
  unfolding pick
  pick_synced (inl inside) e free below = absurd (free inside)
  pick_synced (inr not) (inl here) free below = refl
  pick_synced (inr not) (inr past) free below = absurd (omega (arith, past, below))

  pick_agrees : (d : Inside ⊎ (Inside → ⊥)) (e : (place < count) ⊎ (count ≤ place))
      → ((Inside → ⊥) → place < count → byte ≡ other) → pick d e ≡ other
  unfolding pick
  pick_agrees (inl inside) e same = refl
  pick_agrees (inr free) (inl below) same = same free below
  pick_agrees (inr free) (inr past) same = refl

-- An image of the changed file agrees with an image of the old one at the places that are kept.
pub record IsLikeBefore (Kept : ℕ → Type 0) (old : FileState) (bytes : List ℕ) : Type 0 where
  pub before : List ℕ
  pub image : IsFileImage old before
  pub agree : AgreeAt Kept before bytes

module _ (Kept : ℕ → Type 0) (old new : FileState) (c : ChangedApart Kept old new) (bytes : List ℕ)
    (image : IsFileImage new bytes) where
  within : (place : ℕ) → Kept place → place < length bytes
  within place kept = c.lengths (length bytes) image.had_length place kept

  synced_byte : (place : ℕ) → Kept place → (SomeOf (IsInside place) old.ranges → ⊥) → place < length old.synced
      → get_or old.synced place 0 ≡ get_or bytes place 0
  synced_byte place kept free below =
      let count : length new.synced ≡ length old.synced = ap (λ (xs : List ℕ). length xs) c.synced in
      sym (image.kept place (within place kept) (omega (arith, below, count))
      (λ inside. free (c.ranges place kept inside)) ∙ ap (λ (xs : List ℕ). get_or xs place 0) c.synced)

  byte_at : ℕ → ℕ
  byte_at place =
      pick (SomeOf (IsInside place) old.ranges) place (length old.synced) (get_or old.synced place 0)
      (get_or bytes place 0) (decide place old.ranges) (cases_lt place (length old.synced))

  abbrev was : List ℕ
  was = map byte_at (range_with_len 0 (length old.bytes))

  get-was : (place : ℕ) → place < length old.bytes → get_or was place 0 ≡ byte_at place
  get-was place below = get_or-map-range_with_len byte_at 0 (length old.bytes) place place 0 below (omega arith)

  length-was : length was ≡ length old.bytes
  length-was = length-map-range_with_len byte_at 0 (length old.bytes)

  pub like_before : SomeOf (λ size. length old.bytes ≡ size) old.lengths
      → ((place : ℕ) → Kept place → place < length old.bytes) → IsLikeBefore Kept old bytes
  unfolding byte_at
  like_before had long = record {
    before = was;
    image = record {
      had_length = subst (λ (n : ℕ). SomeOf (λ size. n ≡ size) old.lengths) (sym length-was) had;
      kept = λ place below synced free.
          get-was place (omega (arith, below, length-was))
          ∙ pick_synced (SomeOf (IsInside place) old.ranges) place (length old.synced) (get_or old.synced place 0)
          (get_or bytes place 0) (decide place old.ranges) (cases_lt place (length old.synced)) free synced;
    };
    agree = λ place kept.
        get-was place (long place kept)
        ∙ pick_agrees (SomeOf (IsInside place) old.ranges) place (length old.synced) (get_or old.synced place 0)
        (get_or bytes place 0) (decide place old.ranges) (cases_lt place (length old.synced)) (synced_byte place kept);
  }

-- ---- steps

module _ (Kept : ℕ → Type 0) (old : FileState) where
  pub apart_same : ((n : ℕ) → SomeOf (λ size. n ≡ size) old.lengths → (place : ℕ) → Kept place → place < n)
      → ((place : ℕ) → Kept place → place < length old.bytes) → ChangedApart Kept old old
  apart_same lengths long = record
      { synced = refl; ranges = λ place kept inside. inside; lengths = lengths; long = long }

  new_range : (new : FileState) (range : Range) (place : ℕ) → (IsInside place range → ⊥)
      → (SomeOf (IsInside place) new.ranges → SomeOf (IsInside place) old.ranges)
      → SomeOf (IsInside place) (range ∷ new.ranges) → SomeOf (IsInside place) old.ranges
  new_range new range place free older (inl inside) = absurd (free inside)
  new_range new range place free older (inr some) = older some

  new_length : (lengths : List ℕ) (size n place : ℕ) → place < size → (SomeOf (λ size. n ≡ size) lengths → place < n)
      → SomeOf (λ size. n ≡ size) (size ∷ lengths) → place < n
  new_length lengths size n place below older (inl is) = omega (arith, below, is)
  new_length lengths size n place below older (inr some) = older some

  pub apart_written : (new : FileState) (at : ℕ) (bytes : List ℕ) → ChangedApart Kept old new
      → ((place : ℕ) → Kept place → (place < at) ⊎ (at + length bytes ≤ place))
      → ChangedApart Kept old (written at bytes new)
  apart_written new at bytes c free =
      let size = length-written at bytes new.bytes in
      let long : (place : ℕ) → Kept place → place < length (with_bytes_at at bytes new.bytes) = λ place kept.
      let within = c.long place kept in omega (arith, within, size) in
      record {
        synced = c.synced;
        ranges = λ place kept.
            new_range new (record { start = min at (length new.bytes); end = at + length bytes }) place
            (λ inside. let within = c.long place kept in elim (free place kept)
            [ inl before ↦ omega (arith, before, within, inside.0) | inr past ↦ omega (arith, past, inside.1) ])
            (c.ranges place kept);
        lengths = λ n had place kept. new_length new.lengths (length (with_bytes_at at bytes new.bytes)) n place
            (long place kept) (λ older. c.lengths n older place kept) had;
        long = long;
      }

  pub apart_resized : (new : FileState) (size : ℕ) → ChangedApart Kept old new
      → ((place : ℕ) → Kept place → place < size) → ChangedApart Kept old (resized size new)
  apart_resized new size c free =
      let is = length-resized size new.bytes in
      let long : (place : ℕ) → Kept place → place < length (with_length size new.bytes) = λ place kept. let below =
      free place kept in omega (arith, below, is) in
      record {
        synced = c.synced;
        ranges = λ place kept.
            new_range new (record { start = length new.bytes; end = size }) place
            (λ inside. let within = c.long place kept in omega (arith, within, inside.0)) (c.ranges place kept);
        lengths = λ n had place kept. new_length new.lengths (length (with_length size new.bytes)) n place
            (long place kept) (λ older. c.lengths n older place kept) had;
        long = long;
      }
