-- The names that are left and those that go, and the transactions that are lost.
use Rattle.std.proofs.Common.{◌≡◌, ℕ, ◌+◌, ◌<◌, ◌≤◌, inl, inr, Bool, true, false, List, [], ◌∷◌, ◌++◌, length, get_or}
use Rattle.std.proofs.Common.{drop, Option, Some, None, IfSome, slice_get, refl, sym, ap, ◌∙◌, subst, arith}
use Rattle.std.proofs.Common.{append_assoc}
use Rattle.std.proofs.lemmas.Bool.{cases_eq}
use Rattle.std.proofs.lemmas.List.{drop_more, drop_all, append-nil, get_or_default}
use Rattle.std.proofs.lemmas.List.Elements.{Contains-append_left, Contains-push, Contains-get_or}
use Rattle.std.specs.List.{Contains}
use Rattle.std.specs.Option.{IfNone, is_some}
use Rattle.replica_store.specs.declared.dated_names.Dated.{Dated}
use Rattle.replica_store.specs.declared.file_name.FileName.{FileName}
use Rattle.replica_store.specs.Chain.{IsRetained, names_of}
use Rattle.retention.specs.Retained.{Rises, AreRetained}
use Rattle.retention.specs.Walk.{standing, dropped}
use Rattle.retention.specs.Drops.{AreMissing, AreLost}
use Rattle.retention.proofs.ListLemmas.{contains_at}
use Rattle.retention.proofs.SweepLemmas.{push_rises, push_each}

-- the rest of two lists, from a place on
rest : (f : List Bool → List Dated → List FileName) (kept : List Bool) (dated : List Dated) (i : ℕ) (one : Dated)
    (b : Bool) → i < length dated → length kept ≡ length dated → one ≡ get_or dated i one → get_or kept i false ≡ b
    → f (drop i kept) (drop i dated) ≡ f (b ∷ drop (i + 1) kept) (one ∷ drop (i + 1) dated)
rest f kept dated i one b low count is keep =
    ap (λ ks. f ks (drop i dated))
    (drop_more kept i false (omega (arith, low, count)) ∙ ap (λ k. k ∷ drop (i + 1) kept) keep)
    ∙ ap (λ ds. f (b ∷ drop (i + 1) kept) ds)
    (drop_more dated i one low ∙ ap (λ (d : Dated). d ∷ drop (i + 1) dated) (sym is))

-- what was taken of the first names, with what the rest gives
taken_on : (f : List Bool → List Dated → List FileName) (kept : List Bool) (dated : List Dated) (i : ℕ)
    (names more : List FileName) (one : Dated) (b : Bool) → i < length dated → length kept ≡ length dated
    → one ≡ get_or dated i one → get_or kept i false ≡ b
    → f (b ∷ drop (i + 1) kept) (one ∷ drop (i + 1) dated) ≡ one.name ∷ f (drop (i + 1) kept) (drop (i + 1) dated)
    → more ≡ names ++ one.name ∷ [] → names ++ f (drop i kept) (drop i dated) ≡ f kept dated
    → more ++ f (drop (i + 1) kept) (drop (i + 1) dated) ≡ f kept dated
taken_on f kept dated i names more one b low count is keep takes items so_far =
    ap (λ ns. ns ++ f (drop (i + 1) kept) (drop (i + 1) dated)) items
    ∙ append_assoc names (one.name ∷ []) (f (drop (i + 1) kept) (drop (i + 1) dated))
    ∙ ap (λ ns. names ++ ns) (sym (rest f kept dated i one b low count is keep ∙ takes)) ∙ so_far

passed_on : (f : List Bool → List Dated → List FileName) (kept : List Bool) (dated : List Dated) (i : ℕ)
    (names more : List FileName) (one : Dated) (b : Bool) → i < length dated → length kept ≡ length dated
    → one ≡ get_or dated i one → get_or kept i false ≡ b
    → f (b ∷ drop (i + 1) kept) (one ∷ drop (i + 1) dated) ≡ f (drop (i + 1) kept) (drop (i + 1) dated)
    → more ≡ names → names ++ f (drop i kept) (drop i dated) ≡ f kept dated
    → more ++ f (drop (i + 1) kept) (drop (i + 1) dated) ≡ f kept dated
passed_on f kept dated i names more one b low count is keep passes items so_far =
    ap (λ ns. ns ++ f (drop (i + 1) kept) (drop (i + 1) dated)) items
    ∙ ap (λ ns. names ++ ns) (sym (rest f kept dated i one b low count is keep ∙ passes)) ∙ so_far

module _ (kept : List Bool) (dated : List Dated) (i : ℕ) (names more : List FileName) (one : Dated)
    (low : i < length dated) (count : length kept ≡ length dated) (is : one ≡ get_or dated i one) where
  pub left_more : get_or kept i false ≡ true → more ≡ names ++ one.name ∷ []
      → names ++ standing (drop i kept) (drop i dated) ≡ standing kept dated
      → more ++ standing (drop (i + 1) kept) (drop (i + 1) dated) ≡ standing kept dated
  left_more keep items so_far = taken_on standing kept dated i names more one true low count is keep refl items so_far

  pub left_same : get_or kept i false ≡ false → more ≡ names
      → names ++ standing (drop i kept) (drop i dated) ≡ standing kept dated
      → more ++ standing (drop (i + 1) kept) (drop (i + 1) dated) ≡ standing kept dated
  left_same keep items so_far = passed_on standing kept dated i names more one false low count is keep refl items so_far

  pub gone_more : get_or kept i false ≡ false → more ≡ names ++ one.name ∷ []
      → names ++ dropped (drop i kept) (drop i dated) ≡ dropped kept dated
      → more ++ dropped (drop (i + 1) kept) (drop (i + 1) dated) ≡ dropped kept dated
  gone_more keep items so_far = taken_on dropped kept dated i names more one false low count is keep refl items so_far

  pub gone_same : get_or kept i false ≡ true → more ≡ names
      → names ++ dropped (drop i kept) (drop i dated) ≡ dropped kept dated
      → more ++ dropped (drop (i + 1) kept) (drop (i + 1) dated) ≡ dropped kept dated
  gone_same keep items so_far = passed_on dropped kept dated i names more one true low count is keep refl items so_far

pub standing_end : (kept : List Bool) (dated : List Dated) (i : ℕ) (names : List FileName) → length dated ≤ i
    → length kept ≡ length dated → names ++ standing (drop i kept) (drop i dated) ≡ standing kept dated
    → names ≡ standing kept dated
standing_end kept dated i names end count so_far =
    let none : standing (drop i kept) (drop i dated) ≡ [] = ap (λ ks. standing ks (drop i dated))
    (drop_all i kept (omega (arith, end, count))) ∙ ap (λ ds. names_of ds) (drop_all i dated end) in
    sym (append-nil names) ∙ ap (λ ns. names ++ ns) (sym none) ∙ so_far

pub dropped_end : (kept : List Bool) (dated : List Dated) (i : ℕ) (names : List FileName) → length dated ≤ i
    → length kept ≡ length dated → names ++ dropped (drop i kept) (drop i dated) ≡ dropped kept dated
    → names ≡ dropped kept dated
dropped_end kept dated i names end count so_far =
    let none : dropped (drop i kept) (drop i dated) ≡ [] = ap (λ ks. dropped ks (drop i dated))
    (drop_all i kept (omega (arith, end, count))) in
    sym (append-nil names) ∙ ap (λ ns. names ++ ns) (sym none) ∙ so_far

pub ruleset left_steps = (left_more, left_same, standing_end)

pub ruleset gone_steps = (gone_more, gone_same, dropped_end)

-- of the first numbers those that aren't among the others
pub record AreMissingTo (before after : List ℕ) (i : ℕ) (lost : List ℕ) : Type 0 where
  pub rises : Rises lost
  pub from : (k : ℕ) → k < length lost → (j : ℕ) × (j < i) × (get_or before j 0 ≡ get_or lost k 0)
  pub gone : (k : ℕ) → k < length lost → Contains after (get_or lost k 0) → ⊥
  pub all : (j : ℕ) → j < i → (Contains after (get_or before j 0) → ⊥) → Contains lost (get_or before j 0)

pub missing_none : (before after : List ℕ) → AreMissingTo before after 0 []
missing_none before after = record {
  rises = λ i j below low. absurd (omega (arith, low));
  from = λ k low. absurd (omega (arith, low));
  gone = λ k low. absurd (omega (arith, low));
  all = λ j low not. absurd (omega (arith, low));
}

pub missing_more : (before after : List ℕ) (i t : ℕ) (lost : List ℕ) → Rises before → i < length before
    → t ≡ get_or before i 0 → (Contains after t → ⊥) → AreMissingTo before after i lost
    → AreMissingTo before after (i + 1) (lost ++ t ∷ [])
missing_more before after i t lost up low is not are = record {
  rises = push_rises lost t are.rises
      (λ k inside. let f = are.from k inside in omega (arith, f.2, is, up f.0 i f.1 low));
  from = push_each (λ n. (j : ℕ) × (j < i + 1) × (get_or before j 0 ≡ n)) lost t
      (λ k inside. let f = are.from k inside in (f.0, omega (arith, f.1), f.2)) (i, omega arith, sym is);
  gone = push_each (λ n. Contains after n → ⊥) lost t are.gone not;
  all = λ j below absent. elim (cases_eq j i) [
    | inl same ↦ let e : t ≡ get_or before j 0 = is ∙ ap (λ k. get_or before k 0) (sym same) in
        subst (λ n. Contains (lost ++ t ∷ []) n) e (Contains-push lost t)
    | inr other ↦ Contains-append_left lost (t ∷ []) (get_or before j 0)
        (are.all j (omega (arith, below, other)) absent)
  ];
}

pub missing_passes : (before after : List ℕ) (i t : ℕ) (lost : List ℕ) → t ≡ get_or before i 0 → Contains after t
    → AreMissingTo before after i lost → AreMissingTo before after (i + 1) lost
missing_passes before after i t lost is there are = record {
  rises = are.rises;
  from = λ k inside. let f = are.from k inside in (f.0, omega (arith, f.1), f.2);
  gone = are.gone;
  all = λ j below absent. elim (cases_eq j i) [
    | inl same ↦ absurd (absent (let e : t ≡ get_or before j 0 = is
        ∙ ap (λ k. get_or before k 0) (sym same) in subst (λ n. Contains after n) e there))
    | inr other ↦ are.all j (omega (arith, below, other)) absent
  ];
}

pub missing_all : (before after : List ℕ) (i : ℕ) (lost : List ℕ) → i ≡ length before
    → AreMissingTo before after i lost → AreMissing before after lost
missing_all before after i lost end are = record {
  rises = are.rises;
  each = λ k low.
      let f = are.from k low in
      (subst (λ n. Contains before n) f.2 (Contains-get_or before f.0 0 (omega (arith, f.1, end))), are.gone k low);
  all = λ t there absent.
      let e : get_or before there.0 0 ≡ t = get_or_default before there.0 0 t there.1 ∙ there.2 in
      subst (λ n. Contains lost n) e
      (are.all there.0 (omega (arith, there.1, end)) (λ h. absent (subst (λ n. Contains after n) e h)));
}

-- the answer of a search for a place
pub found_there : (ts : List ℕ) (t : ℕ) (o : Option ℕ) → is_some o ≡ true → IfSome o (λ k. slice_get ts k ≡ Some t)
    → Contains ts t
found_there ts t None is found = absurd cc
found_there ts t (Some k) is found = contains_at ts k t found

pub not_there : (ts : List ℕ) (t : ℕ) (o : Option ℕ) → is_some o ≡ false → IfNone o (Contains ts t → ⊥)
    → Contains ts t → ⊥
not_there ts t None is none = none
not_there ts t (Some k) is none = absurd cc

pub are_lost : (names left : List FileName) (before after lost : List ℕ) → AreRetained names before
    → AreRetained left after → AreMissing before after lost → AreLost names left lost
are_lost names left before after lost are_before are_after are = record {
  rises = are.rises;
  each = λ k low.
      let e = are.each k low in
      let is : get_or before e.0.0 0 ≡ get_or lost k 0 = get_or_default before e.0.0 0 (get_or lost k 0) e.0.1
      ∙ e.0.2 in (
        subst (λ t. IsRetained names t) is (are_before.each e.0.0 e.0.1),
        λ kept. e.1
            (are_after.all (get_or lost k 0) kept),
      );
  all = λ t is not. are.all t (are_before.all t is) (λ there.
      let e : get_or after there.0 0 ≡ t = get_or_default after there.0 0 t there.1 ∙ there.2 in
      not (subst (λ n. IsRetained left n) e (are_after.each there.0 there.1)));
}
