-- The numbers of pages, in rising order.
use Rattle.std.proofs.Common.{◌≡◌, ℕ, zero, suc, ◌+◌, ◌<◌, ◌≤◌, List, [], ◌∷◌, length, get_or, drop}
use Rattle.std.proofs.Common.{Some, None, refl, sym, ap, subst, ◌∙◌, inl, inr, arith}
use Rattle.std.specs.Prelude.{is_some}
use Rattle.std.specs.List.{Contains, slice_get}
use Rattle.std.specs.List.Sorted.{IsStrictlyIncreasing}
use Rattle.std.specs.Ordering.{nat_cmp}
use Rattle.std.specs.Cmp.{nat_cmp_total, unsigned_tied}
use Rattle.std.proofs.lemmas.Cmp.{eq_by_cmp_equiv}
use Rattle.std.specs.FinMap.{FinMap, get, keys, contains_key-keys}
use Rattle.std.proofs.lemmas.Bool.{cases_lt, eqb-true, false≢true}
use Rattle.std.proofs.lemmas.List.{drop_all}
use Rattle.std.proofs.lemmas.List.Elements.{Contains-get_or}
use Rattle.std.proofs.lemmas.Map.Views.{Contains-from_any, list_any-from_Contains}
use Rattle.std.proofs.lemmas.Option.{slice_get_within, get_or_from_slice_get, slice_get_read}
use Rattle.ls_base.proofs.MapLemmas.{keys_increase}
use Rattle.sim_writer.specs.CommitFrames.{PagesByNumber, IsCommittable, IsCommit, size_before}

at_least : (xs : List ℕ) → IsStrictlyIncreasing xs → (k : ℕ) → k < length xs → k ≤ get_or xs k 0
at_least xs rising zero within = omega arith
at_least xs rising (suc k) within =
    let one : k + 1 ≡ suc k = omega arith in
    let below : k ≤ get_or xs k 0 = at_least xs rising k (omega (arith, within)) in
    let next : get_or xs k 0 < get_or xs (k + 1) 0 = rising k (omega (arith, within)) in
    subst (λ (n : ℕ). suc k ≤ get_or xs n 0) one (omega (arith, below, next))

-- the numbers rise, so none is below its place
pub place_below : {X : Type 0} (m : FinMap nat_cmp X) (k n : ℕ) → slice_get (keys m) k ≡ Some n → k ≤ n
place_below m k n found =
    let within = slice_get_within (keys m) k n found in
    omega (arith, at_least (keys m) (keys_increase m) k within, get_or_from_slice_get (keys m) k n 0 found)

pub none_is_past : {X : Type 0} (xs : List X) (k : ℕ) → slice_get xs k ≡ None → length xs ≤ k
none_is_past xs k none = elim (cases_lt k (length xs)) [
  | inr past ↦ past
  | inl within ↦ by xs k none within
]
  where
    by : {X : Type 0} (xs : List X) (k : ℕ) → slice_get xs k ≡ None → k < length xs → length xs ≤ k
    by [] k none within = absurd (omega (arith, within))
    by (x ∷ xs) zero none within = absurd cc
    by (x ∷ xs) (suc k) none within = absurd (omega (arith, by xs k none (omega (arith, within)), within))

pub drop_next : {X : Type 0} (xs : List X) (k : ℕ) (x : X) → slice_get xs k ≡ Some x
    → drop k xs ≡ x ∷ drop (k + 1) xs
drop_next xs k x found = by xs k x found ∙ ap (λ (n : ℕ). x ∷ drop n xs) (let e : suc k ≡ k + 1 = omega arith in e)
  where
    by : {X : Type 0} (xs : List X) (k : ℕ) (x : X) → slice_get xs k ≡ Some x → drop k xs ≡ x ∷ drop (suc k) xs
    by [] k x found = absurd (omega (arith, slice_get_within [] k x found))
    by (y ∷ ys) zero x found = let same : y ≡ x = cc in ap (λ z. z ∷ ys) same
    by (y ∷ ys) (suc k) x found = by ys k x found

pub past_all : {X : Type 0} (xs : List X) (k : ℕ) → slice_get xs k ≡ None → drop k xs ≡ []
past_all xs k none = drop_all k xs (none_is_past xs k none)

pub size_past : (size : ℕ) (xs : List ℕ) (k : ℕ) → slice_get xs k ≡ None → size_before size (drop k xs) ≡ size
size_past size xs k none = ap (size_before size) (drop_all k xs (none_is_past xs k none))

pub size_within : (size : ℕ) (xs : List ℕ) (k n : ℕ) → slice_get xs k ≡ Some n → size_before size (drop k xs) ≡ 0
size_within size xs k n found = ap (size_before size) (drop_next xs k n found)

-- each number has its page, and each page its number
pub number_has_page : {X : Type 0} (m : FinMap nat_cmp X) (k n : ℕ) → slice_get (keys m) k ≡ Some n → get m n ≡ None
    → ⊥
number_has_page m k n found none =
    let within = slice_get_within (keys m) k n found in
    let among : Contains (keys m) n = subst (Contains (keys m)) (get_or_from_slice_get (keys m) k n 0 found)
    (Contains-get_or (keys m) k 0 within) in
    let has = sym (list_any-from_Contains (eq_by_cmp_equiv nat_cmp_total) n (keys m) among) ∙ sym (contains_key-keys
    m n)
    ∙ ap (λ o. is_some o) none in
    absurd (false≢true (sym has))

pub page_has_number : {X : Type 0} (m : FinMap nat_cmp X) (n : ℕ) (page : X) → get m n ≡ Some page
    → (k : ℕ) × (slice_get (keys m) k ≡ Some n)
page_has_number m n page found =
    let among : Contains (keys m) n = Contains-from_any (λ x y is. eqb-true x y (sym (unsigned_tied x y) ∙ is)) n
    (keys m)
    (sym (contains_key-keys m n) ∙ ap (λ o. is_some o) found) in
    (among.0, slice_get_read (keys m) (length (keys m)) among.0 n refl among.1 (sym among.2))

-- ---- each page of a commit

-- those of the first places may stand in the commit
abbrev pub AreCommittable : ℕ → PagesByNumber → ℕ → ℕ → Type 0
AreCommittable page_size m size at =
    (k n : ℕ) (page : List ℕ) → k < at → slice_get (keys m) k ≡ Some n → get m n ≡ Some page
    → IsCommittable page_size size n page

pub committable_more : (page_size size at number : ℕ) (m : PagesByNumber) (page : List ℕ)
    → AreCommittable page_size m size at → slice_get (keys m) at ≡ Some number → get m number ≡ Some page
    → IsCommittable page_size size number page → AreCommittable page_size m size (at + 1)
committable_more page_size size at number m page before found has is k n other below at_k has_n =
    elim (cases_lt k at) [
      | inl earlier ↦ before k n other earlier at_k has_n
      | inr late ↦
          let here : k ≡ at = omega (arith, below, late) in
          let same : number ≡ n = cc in
          let alike : page ≡ other = cc in
          subst (λ (q : ℕ). IsCommittable page_size size q other) same
          (subst (λ (b : List ℕ). IsCommittable page_size size number b) alike is)
    ]

pub all_committable : (page_size size at : ℕ) (m : PagesByNumber) → AreCommittable page_size m size at
    → slice_get (keys m) at ≡ None → (slice_get (keys m) 0 ≡ None → ⊥) → IsCommit page_size m size
all_committable page_size size at m each none some = record {
  some = λ no_keys. some (ap (λ (ns : List ℕ). slice_get ns 0) no_keys);
  each = λ n page has.
      let place = page_has_number m n page has in
      let within = slice_get_within (keys m) place.0 n place.1 in
      each place.0 n page (omega (arith, within, none_is_past (keys m) at none)) place.1 has;
}
