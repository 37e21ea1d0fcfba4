-- Entries of a history that come once more.
use Rattle.std.proofs.Common.{◌≡◌, ℕ, zero, suc, ◌+◌, ◌-◌, ◌≤◌, List, [], ◌∷◌, ◌++◌, length, take, drop, Some, refl, sym}
use Rattle.std.proofs.Common.{ap, ◌∙◌, inl, inr, arith}
use Rattle.std.specs.Prelude.{◌⊎◌}
use Rattle.std.specs.List.{slice_get}
use Rattle.std.proofs.lemmas.Bool.{cases_lt}
use Rattle.std.proofs.lemmas.Option.{slice_get_within}
use Rattle.ls_base.specs.declared.entry.Entry.{Entry}
use Rattle.ls_base.specs.Fault.{Rose}
use Rattle.ls_base.specs.History.{History}
use Rattle.live_gate.specs.Coincidence.{AddsNoTwins}
use Rattle.sim_writer.specs.Commits.{counted}
use Rattle.sim_writer.specs.Stopping.{HasSomeTwin, HaveNoTwin}
use Rattle.sim_writer.proofs.ListLemmas.{get-front, get-behind}

-- ---- parts of a list

pub get-take : {X : Type 0} (n : ℕ) (xs : List X) (k : ℕ) (x : X) → slice_get (take n xs) k ≡ Some x
    → slice_get xs k ≡ Some x
get-take zero xs k x found = absurd (omega (arith, slice_get_within [] k x found))
get-take (suc n) [] k x found = found
get-take (suc n) (y ∷ xs) zero x found = found
get-take (suc n) (y ∷ xs) (suc k) x found = get-take n xs k x found

pub get-drop : {X : Type 0} (n : ℕ) (xs : List X) (k : ℕ) → slice_get (drop n xs) k ≡ slice_get xs (n + k)
get-drop zero xs k = let none : k ≡ 0 + k = omega arith in ap (slice_get xs) none
get-drop (suc n) [] k = let one : suc (n + k) ≡ suc n + k = omega arith in
    none (n + k) ∙ ap (slice_get []) one
  where
    none : {X : Type 0} (i : ℕ) → slice_get {X = X} [] k ≡ slice_get {X = X} [] (suc i)
    none i = by k
      where
        by : {X : Type 0} (k : ℕ) → slice_get {X = X} [] k ≡ slice_get {X = X} [] (suc i)
        by zero = refl
        by (suc k) = refl
get-drop (suc n) (y ∷ xs) k = let one : suc (n + k) ≡ suc n + k = omega arith in
    get-drop n xs k ∙ ap (slice_get (y ∷ xs)) one

-- each entry of a part is one of the whole
pub part_from : (b n : ℕ) (h : History) (k : ℕ) (e : Entry) → slice_get (take n (drop b h)) k ≡ Some e
    → (j : ℕ) × (slice_get h j ≡ Some e)
part_from b n h k e found = (b + k, sym (get-drop b h k) ∙ get-take n (drop b h) k e found)

-- ---- twins

module _ (h es : History)
    (from : (k : ℕ) (e : Entry) → slice_get es k ≡ Some e → (j : ℕ) × (slice_get h j ≡ Some e)) where
  at_behind : (k : ℕ) (b : Entry) → length h ≤ k → slice_get (h ++ es) k ≡ Some b → slice_get es (k - length h) ≡ Some b
  at_behind k b past found =
      let place : length h + (k - length h) ≡ k = omega (arith, past) in
      sym (get-behind h es (k - length h)) ∙ ap (slice_get (h ++ es)) place ∙ found

  none_came : HaveNoTwin h es → AddsNoTwins h (h ++ es)
  none_came none j k a b past at_j at_k same =
      let own = none.each (k - length h) b (at_behind k b past at_k) in
      elim (cases_lt j (length h)) [
        | inl early ↦ own.each j a (sym (get-front h es j early) ∙ at_j) same
        | inr late ↦
            let was = from (j - length h) a (at_behind j a late at_j) in
            own.each was.0 a was.1 same
      ]

  one_came : HasSomeTwin h es → AddsNoTwins h (h ++ es) → ⊥
  one_came some none =
      let twin = some.twin in
      twin.differs (none twin.at (length h + some.at) twin.other some.entry (omega arith)
      (get-front h es twin.at (slice_get_within h twin.at twin.other twin.found) ∙ twin.found)
      (get-behind h es some.at ∙ some.found) twin.place)

  -- the count rises exactly where one came
  pub again_rose : (old now : ℕ) → (HaveNoTwin h es × (now ≡ old)) ⊎ (HasSomeTwin h es × (now ≡ counted old))
      → Rose old now ⊎ AddsNoTwins h (h ++ es)
  again_rose old now (inl (none, same)) = inr (none_came none)
  again_rose old now (inr (some, rose)) = inl (record { least = omega (arith, rose) })

  pub again_calm : (old now : ℕ) → (HaveNoTwin h es × (now ≡ old)) ⊎ (HasSomeTwin h es × (now ≡ counted old))
      → AddsNoTwins h (h ++ es) → now ≡ old
  again_calm old now (inl (none, same)) calm = same
  again_calm old now (inr (some, rose)) calm = absurd (one_came some calm)
