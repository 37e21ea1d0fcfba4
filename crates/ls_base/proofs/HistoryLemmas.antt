-- Places, and the states that a history has there.
use Rattle.std.proofs.Common.{◌≡◌, ℕ, zero, suc, Bool, true, false, cond, List, [], ◌∷◌, ◌++◌, Option, Some, None, refl}
use Rattle.std.proofs.Common.{ap, subst, ◌∙◌}
use Rattle.std.specs.Prelude.{◌&&◌, ◌==◌, option_map, find}
use Rattle.std.specs.List.{slice_get}
use Rattle.std.proofs.lemmas.Bool.{eqb-true, eq-eqb, and_from, and_parts}
use Rattle.ls_base.specs.declared.entry.Entry.{Entry}
use Rattle.ls_base.specs.declared.place.Place.{Place}
use Rattle.ls_base.specs.declared.place.Place.TheVariants.{Wal, Rest}
use Rattle.ls_base.specs.History.{History, HaveOneState, state_of, state_at}
use Rattle.ls_base.specs.Place.{is_same_place}
use Rattle.ls_base.specs.State.{State}

-- ---- places

pub is_same_place-true : (p q : Place) → is_same_place p q ≡ true → p ≡ q
is_same_place-true (Wal a b c d e) (Wal v w x y z) h =
    let last = and_parts (a == v && b == w && c == x && d == y) (e == z) h in
    let fourth = and_parts (a == v && b == w && c == x) (d == y) last.0 in
    let third = and_parts (a == v && b == w) (c == x) fourth.0 in
    let both = and_parts (a == v) (b == w) third.0 in
    let first : a ≡ v = eqb-true a v both.0 in
    let second : b ≡ w = eqb-true b w both.1 in
    let ends : c ≡ x = eqb-true c x third.1 in
    let fourth_sum : d ≡ y = eqb-true d y fourth.1 in
    let fifth_sum : e ≡ z = eqb-true e z last.1 in
    λ i. Wal (first i) (second i) (ends i) (fourth_sum i) (fifth_sum i)
is_same_place-true (Wal a b c d e) (Rest other) h = absurd cc
is_same_place-true (Rest sum) (Wal v w x y z) h = absurd cc
is_same_place-true (Rest sum) (Rest other) h = ap (λ n. Rest n) (eqb-true sum other h)

pub is_same_place-itself : (p : Place) → is_same_place p p ≡ true
is_same_place-itself (Wal a b c d e) =
    and_from _ _ (and_from _ _ (and_from _ _ (and_from _ _ (eq-eqb a a refl) (eq-eqb b b refl)) (eq-eqb c c refl))
    (eq-eqb d d refl)) (eq-eqb e e refl)
is_same_place-itself (Rest sum) = eq-eqb sum sum refl

-- ---- the first of a list that passes a test

module _ {X : Type 0} (p : X → Bool) where
  first_or_later : (b : Bool) (x y : X) (xs : List X) → p x ≡ b → cond b (Some x) (find p xs) ≡ Some y
      → (find p xs ≡ Some y → (k : ℕ) × (slice_get xs k ≡ Some y) × (p y ≡ true)) → (k : ℕ)
      × (slice_get (x ∷ xs) k ≡ Some y) × (p y ≡ true)
  first_or_later true x y xs here is later = let same : x ≡ y = cc in (0, is, subst (λ (z : X). p z ≡ true) same here)
  first_or_later false x y xs here is later = let there = later is in (suc there.0, there.1, there.2)

  -- what was found is in the list and passes
  pub find-among : (xs : List X) (y : X) → find p xs ≡ Some y → (k : ℕ) × (slice_get xs k ≡ Some y) × (p y ≡ true)
  find-among [] y is = absurd cc
  find-among (x ∷ xs) y is = first_or_later (p x) x y xs refl is (find-among xs y)

  found_or_later : (b : Bool) (x : X) (o : Option X) → ((y : X) × (o ≡ Some y)) → (y : X) × (cond b (Some x) o ≡ Some y)
  found_or_later true x o later = (x, refl)
  found_or_later false x o later = later

  -- where one passes, one is found
  pub find-there : (xs : List X) (k : ℕ) (x : X) → slice_get xs k ≡ Some x → p x ≡ true → (y : X) × (find p xs ≡ Some y)
  find-there [] k x is passes = absurd cc
  find-there (first ∷ xs) zero x is passes =
      let same : x ≡ first = cc in
      let here : p first ≡ true = subst (λ (z : X). p z ≡ true) same passes in
      (first, ap (λ b. cond b (Some first) (find p xs)) here)
  find-there (first ∷ xs) (suc k) x is passes = found_or_later (p first) first (find p xs) (find-there xs k x is passes)

  grown_or_later : (b : Bool) (x y : X) (o more : Option X) → (o ≡ Some y → more ≡ Some y)
      → cond b (Some x) o ≡ Some y → cond b (Some x) more ≡ Some y
  grown_or_later true x y o more later is = is
  grown_or_later false x y o more later is = later is

  -- and it stays so when more come behind
  pub find-append : (xs more : List X) (y : X) → find p xs ≡ Some y → find p (xs ++ more) ≡ Some y
  find-append [] more y is = absurd cc
  find-append (x ∷ xs) more y is = grown_or_later (p x) x y (find p xs) (find p (xs ++ more)) (find-append xs more y) is

-- ---- the state at a place

same_state : (a b : State) → ◌≡◌ {A = Option State} (Some a) (Some b) → a ≡ b
same_state a b e = cc

state_found : (o : Option Entry) (state : State) → option_map state_of o ≡ Some state → (found : Entry)
    × (o ≡ Some found) × (state_of found ≡ state)
state_found None state e = absurd cc
state_found (Some found) state e = (found, refl, same_state (state_of found) state e)

abbrev stands_at : Place → Entry → Bool
stands_at place entry = is_same_place entry.place place

-- the state that is found is that of an entry there
pub state_at-found : (history : History) (place : Place) (state : State) → state_at history place ≡ Some state
    → (entry : Entry) × (k : ℕ) × (slice_get history k ≡ Some entry) × (entry.place ≡ place) × (state_of entry ≡ state)
state_at-found history place state is =
    let entry = state_found (find (stands_at place) history) state is in
    let there = find-among (stands_at place) history entry.0 entry.1 in
    (entry.0, there.0, there.1, is_same_place-true entry.0.place place there.2, entry.2)

-- where entries of one place have one state, the state at the place of an entry is its own
pub state_at-entry : (history : History) (k : ℕ) (entry : Entry) → HaveOneState history
    → slice_get history k ≡ Some entry
    → state_at history entry.place ≡ Some (state_of entry)
state_at-entry history k entry one is =
    let first = find-there (stands_at entry.place) history k entry is (is_same_place-itself entry.place) in
    let there = find-among (stands_at entry.place) history first.0 first.1 in
    ap (option_map state_of) first.1 ∙ ap (λ (s : State). Some s)
    (one there.0 k first.0 entry there.1 is (is_same_place-true first.0.place entry.place there.2))

-- a state that was found stays when entries come behind
pub state_at-grown : (history more : History) (place : Place) (state : State) → state_at history place ≡ Some state
    → state_at (history ++ more) place ≡ Some state
state_at-grown history more place state is =
    let entry = state_found (find (stands_at place) history) state is in
    ap (option_map state_of) (find-append (stands_at place) history more entry.0 entry.1)
    ∙ ap (λ (s : State). Some s) entry.2
