-- Finding the files of a run.
use Rattle.std.proofs.Common.{◌≡◌, ◌≢◌, ℕ, zero, suc, ◌+◌, ◌-◌, ◌<◌, ◌≤◌, List, [], ◌∷◌, ◌++◌, length, take, drop}
use Rattle.std.proofs.Common.{get_or, Option, Some, None, refl, sym, ap, subst, ◌∙◌, inl, inr, arith}
use Rattle.std.specs.Prelude.{slice_get, IfSome}
use Rattle.std.specs.List.{All}
use Rattle.std.proofs.lemmas.Bool.{cases_lt, cases_order}
use Rattle.std.proofs.lemmas.List.{length-append}
use Rattle.std.proofs.lemmas.Option.{slice_get-get_or}
use Rattle.replica_store.specs.declared.file_name.FileName.{FileName}
use Rattle.restore_plan.proofs.RunLemmas.{contains_at}
use Rattle.compact_levels.specs.Run.{GoesOnFrom, IsGapless}
use Rattle.compact_levels.specs.RunFiles.{BeginsWith, EndsAt, IsPileBehind}

-- ---- the place of a name

-- the first name behind others
at_front : (before : List FileName) (first : FileName) (rest : List FileName)
    → slice_get (before ++ first ∷ rest) (length before) ≡ Some first
at_front [] first rest = refl
at_front (name ∷ before) first rest = at_front before first rest

in_front : (before behind : List FileName) (k : ℕ) → k < length before
    → (name : FileName) × (slice_get (before ++ behind) k ≡ Some name) × (slice_get before k ≡ Some name)
in_front [] behind k low = absurd (omega (arith, low))
in_front (name ∷ before) behind zero low = (name, refl, refl)
in_front (name ∷ before) behind (suc k) low = in_front before behind k (omega (arith, low))

-- names beyond a front are those behind it
drop_front : (before behind : List FileName) → drop (length before) (before ++ behind) ≡ behind
drop_front [] behind = refl
drop_front (name ∷ before) behind = drop_front before behind

take_front : (before behind : List FileName) → take (length before) (before ++ behind) ≡ before
take_front [] behind = refl
take_front (name ∷ before) behind = ap (λ (ns : List FileName). name ∷ ns) (take_front before behind)

all_not : (P : FileName → Type 0) (before : List FileName) (k : ℕ) (name : FileName) → All P before
    → slice_get before k ≡ Some name → P name
all_not P before k name all is =
    let has = contains_at before k name is in subst P has.2 (all has.0 name has.1)

take_next : (first : FileName) (rest behind : List FileName)
    → take (1 + length rest) (first ∷ (rest ++ behind)) ≡ first ∷ rest
take_next first rest behind =
    let one : 1 + length rest ≡ suc (length rest) = omega arith in
    ap (λ (k : ℕ). take k (first ∷ (rest ++ behind))) one
    ∙ ap (λ (ns : List FileName). first ∷ ns) (take_front rest behind)

one_name : (o : Option FileName) (a b : FileName) → o ≡ Some a → o ≡ Some b → a ≡ b
one_name o a b x y = cc

-- the name at a place, read twice
pub same_at : (names : List FileName) (at : ℕ) (a d : FileName) → at < length names → a ≡ get_or names at a
    → a ≡ get_or names at d
same_at names at a d low is =
    is ∙ one_name (slice_get names at) (get_or names at a) (get_or names at d) (slice_get-get_or names at a low)
    (slice_get-get_or names at d low)

-- ---- names that go on

-- so many of the names go on, and the last of them ends here
pub record HaveGoneOn (level end : ℕ) (names : List FileName) (at now : ℕ) : Type 0 where
  pub all : (rest behind : List FileName) (to : ℕ) → names ≡ rest ++ behind → IsGapless level end rest to
      → EndsAt level to behind → (left : List FileName) × (drop at rest ≡ left) × (at ≤ length rest)
      × IsGapless level now left to

pub none_gone : (level end : ℕ) (names : List FileName) → HaveGoneOn level end names 0 end
none_gone level end names = record { all = λ rest behind to split gapless ends. (rest, refl, omega arith, gapless) }

-- what is left of the names behind a place
left_of : (rest : List FileName) (at : ℕ) (left : List FileName) → drop at rest ≡ left → at ≤ length rest
    → (front : List FileName) × (rest ≡ front ++ left) × (length front ≡ at)
left_of rest zero left is low = ([], is, refl)
left_of [] (suc at) left is low = absurd (omega (arith, low))
left_of (name ∷ rest) (suc at) left is low =
    let further = left_of rest at left is (omega (arith, low)) in (
      name ∷ further.0,
      ap (λ (ns : List FileName). name ∷ ns) further.1,
      omega (arith, further.2),
    )

name_there : (front left behind : List FileName) (at : ℕ) (name : FileName) → length front ≡ at
    → slice_get ((front ++ left) ++ behind) at ≡ Some name → slice_get (left ++ behind) 0 ≡ Some name
name_there [] left behind zero name is there = there
name_there [] left behind (suc at) name is there = absurd (omega (arith, is))
name_there (first ∷ front) left behind zero name is there = absurd (omega (arith, is))
name_there (first ∷ front) left behind (suc at) name is there = name_there front left behind at name
    (omega (arith, is)) there

drop_next : (front : List FileName) (name : FileName) (left : List FileName) (at : ℕ) → length front ≡ at
    → drop (at + 1) (front ++ name ∷ left) ≡ left
drop_next [] name left zero is = refl
drop_next [] name left (suc at) is = absurd (omega (arith, is))
drop_next (first ∷ front) name left zero is = absurd (omega (arith, is))
drop_next (first ∷ front) name left (suc at) is =
    let next : suc at + 1 ≡ suc (at + 1) = omega arith in
    ap (λ (k : ℕ). drop k (first ∷ (front ++ name ∷ left))) next ∙ drop_next front name left at (omega (arith, is))

-- none is left: the next name would go on behind the end
not_behind : (level to : ℕ) (behind : List FileName) (name : FileName) → EndsAt level to behind
    → slice_get behind 0 ≡ Some name → GoesOnFrom level to name → ⊥
not_behind level to [] name ends is goes = absurd cc
not_behind level to (first ∷ behind) name ends is goes =
    let same : name ≡ first = cc in ends (subst (GoesOnFrom level to) same goes)

module _ (level end : ℕ) (names : List FileName) (at now : ℕ) (name : FileName) (there : slice_get names at ≡ Some name)
    (gone : HaveGoneOn level end names at now) where
  next_left : (rest behind : List FileName) (to : ℕ) → names ≡ rest ++ behind → EndsAt level to behind
      → (left : List FileName) → drop at rest ≡ left → at ≤ length rest → IsGapless level now left to
      → GoesOnFrom level now name
      → (further : List FileName) × (drop (at + 1) rest ≡ further) × (at + 1 ≤ length rest)
      × IsGapless level name.max further to
  next_left rest behind to split ends [] is low gapless goes =
      let parts = left_of rest at [] is low in
      let here = name_there parts.0 [] behind at name parts.2
      (subst (λ (ns : List FileName). slice_get (ns ++ behind) at ≡ Some name) parts.1
      (subst (λ (ns : List FileName). slice_get ns at ≡ Some name) split there)) in
      absurd (not_behind level to behind name ends here (subst (λ (n : ℕ). GoesOnFrom level n name) gapless goes))
  next_left rest behind to split ends (first ∷ left) is low (own, gapless) goes =
      let parts = left_of rest at (first ∷ left) is low in
      let here = name_there parts.0 (first ∷ left) behind at name parts.2
      (subst (λ (ns : List FileName). slice_get (ns ++ behind) at ≡ Some name) parts.1
      (subst (λ (ns : List FileName). slice_get ns at ≡ Some name) split there)) in
      let same : first ≡ name = cc in
      let more = length-append parts.0 (first ∷ left) in (
        left,
        ap (λ (ns : List FileName). drop (at + 1) ns) parts.1 ∙ drop_next parts.0 first left at parts.2,
        omega (arith, ap length parts.1, more, parts.2),
        subst (λ (n : FileName). IsGapless level n.max left to) same gapless,
      )

  pub gone_further : GoesOnFrom level now name → HaveGoneOn level end names (at + 1) name.max
  gone_further goes = record {
    all = λ rest behind to split gapless ends.
        let so_far = gone.all rest behind to split gapless ends in
        next_left rest behind to split ends so_far.0 so_far.1 so_far.2 so_far.3 goes;
  }

  none_left : (rest behind : List FileName) (to : ℕ) → names ≡ rest ++ behind → (left : List FileName)
      → drop at rest ≡ left
      → at ≤ length rest → IsGapless level now left to → (GoesOnFrom level now name → ⊥) → at ≡ length rest
  none_left rest behind to split [] is low gapless not =
      let parts = left_of rest at [] is low in omega (arith, ap length parts.1, length-append parts.0 [], parts.2)
  none_left rest behind to split (first ∷ left) is low (own, gapless) not =
      let parts = left_of rest at (first ∷ left) is low in
      let here = name_there parts.0 (first ∷ left) behind at name parts.2
      (subst (λ (ns : List FileName). slice_get (ns ++ behind) at ≡ Some name) parts.1
      (subst (λ (ns : List FileName). slice_get ns at ≡ Some name) split there)) in
      let same : first ≡ name = cc in
      absurd (not (subst (GoesOnFrom level now) same own))

  pub stops_at : (GoesOnFrom level now name → ⊥) → (rest behind : List FileName) (to : ℕ) → names ≡ rest ++ behind
      → IsGapless level end rest to → EndsAt level to behind → at ≡ length rest
  stops_at not rest behind to split gapless ends =
      let so_far = gone.all rest behind to split gapless ends in
      none_left rest behind to split so_far.0 so_far.1 so_far.2 so_far.3 not

pub stops_at_end : (level end : ℕ) (names : List FileName) (at now : ℕ) → HaveGoneOn level end names at now
    → length names ≤ at
    → (rest behind : List FileName) (to : ℕ) → names ≡ rest ++ behind → IsGapless level end rest to
    → EndsAt level to behind
    → length names ≡ length rest
stops_at_end level end names at now gone over rest behind to split gapless ends =
    let so_far = gone.all rest behind to split gapless ends in
    omega (arith, ap length split, length-append rest behind, so_far.2, over)

-- ---- the first of them

-- `before ++ first ∷ rest ++ behind` with the front taken off
grouped : (before : List FileName) (first : FileName) (rest behind : List FileName)
    → before ++ first ∷ rest ++ behind ≡ before ++ first ∷ (rest ++ behind)
grouped [] first rest behind = refl
grouped (name ∷ before) first rest behind = ap (λ (ns : List FileName). name ∷ ns) (grouped before first rest behind)

module _ (level min : ℕ) (names before : List FileName) (first : FileName) (rest behind : List FileName) (to : ℕ)
    (split : names ≡ before ++ first ∷ rest ++ behind) (pile : IsPileBehind level min before first rest to) where
  parts : names ≡ before ++ first ∷ (rest ++ behind)
  parts = split ∙ grouped before first rest behind

  first_there : slice_get names (length before) ≡ Some first
  first_there = ap (λ (ns : List FileName). slice_get ns (length before)) parts ∙ at_front before first (rest ++ behind)

  not_before : (at : ℕ) (name : FileName) → slice_get names at ≡ Some name → BeginsWith level min name
      → at < length before → ⊥
  not_before at name is begins low =
      let found = in_front before (first ∷ (rest ++ behind)) at low in
      let same = one_name (slice_get names at) name found.0 is
      (ap (λ (ns : List FileName). slice_get ns at) parts ∙ found.1) in
      all_not (λ n. BeginsWith level min n → ⊥) before at found.0 pile.earlier found.2
      (subst (BeginsWith level min) same begins)

  pub found_at : (at : ℕ) (name : FileName) → slice_get names at ≡ Some name → BeginsWith level min name
      → ((k : ℕ) (other : FileName) → k < at → slice_get names k ≡ Some other → BeginsWith level min other → ⊥)
      → (at ≡ length before) × (name ≡ first)
  found_at at name is begins none =
      let low = not_before at name is begins in
      let high = none (length before) first in
      let same : at ≡ length before = elim (cases_order at (length before)) [
        | inl is ↦ is
        | inr (inl less) ↦ absurd (low less)
        | inr (inr more) ↦ absurd (high more first_there pile.begins)
      ] in (
        same,
        one_name (slice_get names at) name first is (ap (λ (k : ℕ). slice_get names k) same ∙ first_there),
      )

  pub behind_it : (at : ℕ) → at ≡ length before → drop (at + 1) names ≡ rest ++ behind
  behind_it at is = ap (λ (ns : List FileName). drop (at + 1) ns) parts
      ∙ drop_next before first (rest ++ behind) at (sym is)

  pub files_at : (at count : ℕ) → at ≡ length before → count ≡ length rest
      → take (1 + count) (drop at names) ≡ first ∷ rest
  files_at at count is all =
      ap (λ (k : ℕ). take (1 + count) (drop k names)) is
      ∙ ap (λ (ns : List FileName). take (1 + count) (drop (length before) ns)) parts
      ∙ ap (λ (ns : List FileName). take (1 + count) ns) (drop_front before (first ∷ (rest ++ behind)))
      ∙ ap (λ (k : ℕ). take (1 + k) (first ∷ (rest ++ behind))) all
      ∙ take_next first rest behind

  pub not_missing : ((k : ℕ) (other : FileName) → k < length names → slice_get names k ≡ Some other
      → BeginsWith level min other → ⊥) → ⊥
  not_missing none =
      none (length before) first
      (omega (arith, ap length parts, length-append before (first ∷ (rest ++ behind)))) first_there pile.begins

-- none of the names up to one begins so
pub none_begins : (names : List FileName) (at level min : ℕ) (here : FileName) → at < length names
    → here ≡ get_or names at here
    → (BeginsWith level min here → ⊥)
    → ((k : ℕ) (name : FileName) → k < at → slice_get names k ≡ Some name → BeginsWith level min name → ⊥)
    → (k : ℕ) (name : FileName) → k < at + 1 → slice_get names k ≡ Some name → BeginsWith level min name → ⊥
none_begins names at level min here low is not none k name under there begins = elim (cases_lt k at) [
  | inl before ↦ none k name before there begins
  | inr high ↦
      let same : k ≡ at = omega (arith, under, high) in
      let found = one_name (slice_get names at) name here (subst (λ (j : ℕ). slice_get names j ≡ Some name) same there)
      (slice_get-get_or names at here low ∙ ap (λ (n : FileName). Some n) (sym is)) in
      not (subst (BeginsWith level min) found begins)
]

-- a name read at a place
pub read_at : (names : List FileName) (at : ℕ) (here : FileName) → at < length names → here ≡ get_or names at here
    → slice_get names at ≡ Some here
read_at names at here low is = slice_get-get_or names at here low ∙ ap (λ (n : FileName). Some n) (sym is)

pub one_read : (names : List FileName) (at : ℕ) (a b : FileName) → slice_get names at ≡ Some a
    → slice_get names at ≡ Some b → a ≡ b
one_read names at a b = one_name (slice_get names at) a b
