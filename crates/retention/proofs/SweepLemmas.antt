-- One pass over names in the order of their last transactions finds each retained transaction.
use Rattle.std.proofs.Common.{◌≡◌, ℕ, ◌+◌, ◌<◌, ◌≤◌, ◌⊎◌, inl, inr, List, [], ◌∷◌, ◌++◌, length, get_or, refl, sym, ap}
use Rattle.std.proofs.Common.{◌∙◌, subst, arith, slice_get, Some}
use Rattle.std.proofs.lemmas.Bool.{cases_lt}
use Rattle.std.specs.List.{Contains}
use Rattle.std.proofs.lemmas.List.{get_or_read, get_or_append_left, get_or_push, length_push, get_or_default}
use Rattle.std.proofs.lemmas.List.Elements.{Contains-append_left, Contains-push}
use Rattle.std.proofs.lemmas.Option.{slice_get-get_or}
use Rattle.std.specs.List.Sorted.{IsNonDecreasingBy, IsPermutation}
use Rattle.std.proofs.lemmas.List.Sorted.{Contains-permutation, IsPermutation-sym}
use Rattle.replica_store.specs.declared.file_name.FileName.{FileName}
use Rattle.replica_store.specs.Chain.{LeadsBy, MayComeNext, IsRetained}
use Rattle.retention.specs.Retained.{AreRetained, Rises}
use Rattle.retention.proofs.LeadLemmas.{leads_up, leads_more, retained, reaches, retained_larger}

-- where each file ends at most here, or begins beyond, or ends no earlier than a bound, a chain ends here or no earlier
stuck : (names : List FileName) (reached bound : ℕ)
    → ((name : FileName) → Contains names name → (name.max ≤ reached) ⊎ ((reached + 1 < name.min) ⊎ (bound ≤ name.max)))
    → (from : ℕ) (chain : List FileName) (t : ℕ) → from ≤ reached → LeadsBy (Contains names) from chain t
    → (t ≤ reached) ⊎ (bound ≤ t)
stuck names reached bound are from [] t low leads = inl (omega (arith, leads, low))
stuck names reached bound are from (name ∷ chain) t low leads =
    elim (are name leads.0) [
      | inl below ↦ stuck names reached bound are name.max chain t below leads.2
      | inr other ↦ elim other [
        | inl behind ↦ absurd (omega (arith, behind, leads.1.begins, low))
        | inr beyond ↦ inr (omega (arith, beyond, leads_up (Contains names) name.max chain t leads.2))
      ]
    ]

-- so far as the names before a place lead
pub record IsSwept (names : List FileName) (p reached : ℕ) (ts : List ℕ) : Type 0 where
  pub rises : Rises ts
  pub each : (k : ℕ) → k < length ts → IsRetained names (get_or ts k 0)
  pub below : (k : ℕ) → k < length ts → get_or ts k 0 ≤ reached
  pub chain : List FileName
  pub leads : LeadsBy (Contains names) 0 chain reached
  pub all : (t : ℕ) → IsRetained names t → t ≤ reached → Contains ts t
  pub passed : (k : ℕ) (d : FileName) → k < p → k < length names → ((get_or names k d).max ≤ reached)
      ⊎ (reached + 1 < (get_or names k d).min)

pub swept_none : (names : List FileName) → IsSwept names 0 0 []
swept_none names = record {
  rises = λ i j below low. absurd (omega (arith, low));
  each = λ k low. absurd (omega (arith, low));
  below = λ k low. absurd (omega (arith, low));
  chain = [];
  leads = refl;
  all = λ t is low. absurd (omega (arith, low, is.positive));
  passed = λ k d below low. absurd (omega (arith, below));
}

-- each file ends here at most, or begins beyond, or ends no earlier than the one at this place
behind : (names : List FileName) → IsNonDecreasingBy (λ (name : FileName). name.max) names
    → (p reached : ℕ) (ts : List ℕ) (name : FileName) → p < length names → name ≡ get_or names p name
    → IsSwept names p reached ts → (other : FileName) → Contains names other → (other.max ≤ reached)
    ⊎ ((reached + 1 < other.min) ⊎ (name.max ≤ other.max))
behind names up p reached ts name low is swept other there =
    let at : (get_or names there.0 other).max ≡ other.max = ap (λ (n : FileName). n.max) there.2 in
    let begins : (get_or names there.0 other).min ≡ other.min = ap (λ (n : FileName). n.min) there.2 in
    elim (cases_lt there.0 p) [
      | inl before ↦ elim (swept.passed there.0 other before there.1) [
        | inl short ↦ inl (omega (arith, at, short))
        | inr far ↦ inr (inl (omega (arith, begins, far)))
      ]
      | inr from ↦
          let here : name.max ≡ (get_or names p other).max = ap (λ (n : FileName). n.max)
          (get_or_read names p name low is other) in
          inr (inr (omega (arith, here, at, up p there.0 other from there.1)))
    ]

-- all that are retained up to a file that leads on
one_more : (names : List FileName) (reached : ℕ) (ts : List ℕ) (last : ℕ)
    → ((t : ℕ) → IsRetained names t → t ≤ reached → Contains ts t)
    → ((t : ℕ) → IsRetained names t → (t ≤ reached) ⊎ (last ≤ t))
    → (t : ℕ) → IsRetained names t → t ≤ last → Contains (ts ++ last ∷ []) t
one_more names reached ts last all apart t is low = elim (apart t is) [
  | inl below ↦ Contains-append_left ts (last ∷ []) t (all t is below)
  | inr beyond ↦ let same : last ≡ t = omega (arith, low, beyond) in subst (λ n. Contains (ts ++ last ∷ []) n) same
      (Contains-push ts last)
]

pub push_rises : (ts : List ℕ) (last : ℕ) → Rises ts → ((k : ℕ) → k < length ts → get_or ts k 0 < last)
    → Rises (ts ++ last ∷ [])
push_rises ts last up below i j before low =
    let count = length_push ts last in
    let inside : i < length ts = omega (arith, before, low, count) in
    elim (cases_lt j (length ts)) [
      | inl old ↦ rw (get_or_append_left ts (last ∷ []) 0 i inside, get_or_append_left ts (last ∷ []) 0 j old)
          (up i j before old)
      | inr new ↦
          let same : length ts ≡ j = omega (arith, new, low, count) in
          rw (get_or_append_left ts (last ∷ []) 0 i inside, get_or_push ts last 0 j same) (below i inside)
    ]

pub push_each : (P : ℕ → Type 0) (ts : List ℕ) (last : ℕ) → ((k : ℕ) → k < length ts → P (get_or ts k 0)) → P last
    → (k : ℕ) → k < length (ts ++ last ∷ []) → P (get_or (ts ++ last ∷ []) k 0)
push_each P ts last each one k low =
    let count = length_push ts last in
    elim (cases_lt k (length ts)) [
      | inl old ↦ subst P (sym (get_or_append_left ts (last ∷ []) 0 k old)) (each k old)
      | inr new ↦ let same : length ts ≡ k = omega (arith, new, low, count) in subst P
          (sym (get_or_push ts last 0 k same)) one
    ]

-- a file that may come next
pub swept_takes : (names : List FileName) → IsNonDecreasingBy (λ (name : FileName). name.max) names
    → (p reached : ℕ) (ts : List ℕ) (name : FileName) → p < length names → name ≡ get_or names p name
    → IsSwept names p reached ts → MayComeNext reached name → IsSwept names (p + 1) name.max (ts ++ name.max ∷ [])
swept_takes names up p reached ts name low is swept next =
    let there : Contains names name = (p, low, sym is) in
    let further = leads_more (Contains names) 0 swept.chain reached name swept.leads there next in
    let kept : IsRetained names name.max = retained names name.max
    (record { positive = omega (arith, next.goes_on); chain = swept.chain ++ name ∷ []; leads = further }) in
    let beyond = next.goes_on in
    record {
      rises = push_rises ts name.max swept.rises (λ k inside. omega (arith, swept.below k inside, beyond));
      each = push_each (λ t. IsRetained names t) ts name.max swept.each kept;
      below = push_each (λ t. t ≤ name.max) ts name.max (λ k inside. omega (arith, swept.below k inside, beyond))
          (omega arith);
      chain = swept.chain ++ name ∷ [];
      leads = further;
      all = one_more names reached ts name.max swept.all
          (λ t kept. let r = reaches names t kept in stuck names reached name.max
          (behind names up p reached ts name low is swept) 0 r.chain t (omega arith) r.leads);
      passed = λ k d before inside. let here : name.max ≡ (get_or names p d).max = ap (λ (n : FileName). n.max)
          (get_or_read names p name low is d) in inl (omega (arith, here, up k p d (omega (arith, before)) low));
    }

-- a file that doesn't lead on
pub swept_passes : (names : List FileName) (p reached : ℕ) (ts : List ℕ) (name : FileName) → p < length names
    → name ≡ get_or names p name
    → IsSwept names p reached ts → (MayComeNext reached name → ⊥) → IsSwept names (p + 1) reached ts
swept_passes names p reached ts name low is swept not = record {
  rises = swept.rises;
  each = swept.each;
  below = swept.below;
  chain = swept.chain;
  leads = swept.leads;
  all = swept.all;
  passed = λ k d before inside. elim (cases_lt k p) [
    | inl old ↦ swept.passed k d old inside
    | inr new ↦
        let same : k ≡ p = omega (arith, before, new) in
        let here = get_or_read names p name low is d in
        subst (λ j. ((get_or names j d).max ≤ reached) ⊎ (reached + 1 < (get_or names j d).min)) (sym same)
        (subst (λ (n : FileName). (n.max ≤ reached) ⊎ (reached + 1 < n.min)) here
        (elim (cases_lt reached name.max) [
          | inr short ↦ inl short
          | inl far ↦ elim (cases_lt (reached + 1) name.min) [
            | inl later ↦ inr later
            | inr early ↦ absurd (not (record { begins = early; goes_on = far }))
          ]
        ]))
  ];
}

pub swept_all : (names : List FileName) (p reached : ℕ) (ts : List ℕ) → length names ≤ p → IsSwept names p reached ts
    → AreRetained names ts
swept_all names p reached ts end swept = record {
  rises = swept.rises;
  each = swept.each;
  all = λ t is.
      let r = reaches names t is in
      elim (stuck names reached (t + 1)
      (λ other there. elim (swept.passed there.0 other (omega (arith, end, there.1)) there.1) [
        | inl short ↦ inl (let at : (get_or names there.0 other).max ≡ other.max = ap (λ (n : FileName). n.max)
            there.2 in omega (arith, at, short))
        | inr far ↦ inr (inl (let begins : (get_or names there.0 other).min ≡ other.min = ap (λ (n : FileName). n.min)
            there.2 in omega (arith, begins, far)))
      ]) 0 r.chain t (omega arith) r.leads) [
        | inl below ↦ swept.all t is below
        | inr beyond ↦ absurd (omega (arith, beyond))
      ];
}

-- the same names in another order
pub retained_permuted : (names others : List FileName) (ts : List ℕ) → IsPermutation names others
    → AreRetained others ts → AreRetained names ts
retained_permuted names others ts moved are = record {
  rises = are.rises;
  each = λ k low. retained_larger others names
      (λ name there. Contains-permutation others names name (IsPermutation-sym names others moved) there)
      (get_or ts k 0) (are.each k low);
  all = λ t is. are.all t (retained_larger names others
      (λ name there. Contains-permutation names others name moved there) t is);
}

-- where the numbers below a place are below t, and from it on are not, t is at that place or nowhere
pub at_place : (ts : List ℕ) (t at : ℕ) → at < length ts → get_or ts at 0 ≡ t → slice_get ts at ≡ Some t
at_place ts t at low is = slice_get-get_or ts at 0 low ∙ ap Some is

pub not_at_place : (ts : List ℕ) (t at : ℕ) → Rises ts → ((k : ℕ) → k < at → get_or ts k 0 < t)
    → ((k : ℕ) → at ≤ k → k < length ts → t ≤ get_or ts k 0) → (at < length ts → get_or ts at 0 ≡ t → ⊥)
    → Contains ts t → ⊥
not_at_place ts t at up below from not there =
    let is : get_or ts there.0 0 ≡ t = get_or_default ts there.0 0 t there.1 ∙ there.2 in
    elim (cases_lt there.0 at) [
      | inl before ↦ omega (arith, below there.0 before, is)
      | inr beyond ↦ elim (cases_lt at there.0) [
        | inl further ↦ omega (
          arith,
          up at there.0 further there.1,
          from at (omega arith)
              (omega (arith, further, there.1)),
          is,
        )
        | inr same ↦ let e : there.0 ≡ at = omega (arith, beyond, same) in not (omega (arith, e, there.1))
            (subst (λ k. get_or ts k 0 ≡ t) e is)
      ]
    ]

pub rises_by : (ts : List ℕ) → Rises ts → IsNonDecreasingBy (λ n. n) ts
rises_by ts up i j d before low =
    let inside : i < length ts = omega (arith, before, low) in
    let first = get_or_default ts i d 0 inside in
    let last = get_or_default ts j d 0 low in
    elim (cases_lt i j) [
      | inl below ↦ omega (arith, first, last, up i j below low)
      | inr beyond ↦ let same : i ≡ j = omega (arith, before, beyond) in let e = ap (λ k. get_or ts k d) same in omega
          (arith, e)
    ]

pub read_zero : (ts : List ℕ) (i t : ℕ) → i < length ts → t ≡ get_or ts i t → t ≡ get_or ts i 0
read_zero ts i t low is = get_or_read ts i t low is 0
