-- Which transactions are young, by the names from the last to the first, and their goals.
use Rattle.std.proofs.Common.{◌≡◌, ℕ, ◌+◌, ◌-◌, ◌<◌, ◌≤◌, inl, inr, Bool, true, false, cond, eqb, leb, List, length}
use Rattle.std.proofs.Common.{get_or, set, drop, replicate, Some, slice_get, sym, ap, ◌∙◌, subst, arith}
use Rattle.std.proofs.lemmas.Bool.{cases_lt, cases_eq, eq-eqb, ne_eqb}
use Rattle.std.proofs.lemmas.List.{get_or-set_same, get_or-set_other, length-set, length-replicate, get_or-replicate}
use Rattle.std.proofs.lemmas.List.{at_drop_more, at_drop_all, get_or_default}
use Rattle.std.proofs.lemmas.Option.{slice_get_within, get_or_from_slice_get}
use Rattle.std.specs.List.{Contains}
use Rattle.replica_store.specs.declared.dated_names.Dated.{Dated}
use Rattle.replica_store.specs.Chain.{moment_of}
use Rattle.retention.specs.Retained.{Rises}
use Rattle.retention.specs.Young.{is_young, AreYoung, AreGoals}

-- one more name, in front of those that were seen
moment_of-drop : (dated : List Dated) (t i : ℕ) (d : Dated) → i < length dated
    → moment_of (drop i dated) t ≡ cond (eqb (get_or dated i d).name.max t) (Some (get_or dated i d).moment)
    (moment_of (drop (i + 1) dated) t)
moment_of-drop dated t i d low = at_drop_more (λ ds. moment_of ds t) dated i d low

moment_here : (dated : List Dated) (t i : ℕ) (one : Dated) → i < length dated → one ≡ get_or dated i one
    → one.name.max ≡ t → moment_of (drop i dated) t ≡ Some one.moment
moment_here dated t i one low is same =
    let e = moment_of-drop dated t i one low in
    let test : eqb one.name.max t ≡ true = eq-eqb one.name.max t same in
    e ∙ subst (λ (d : Dated). cond (eqb d.name.max t) (Some d.moment) (moment_of (drop (i + 1) dated) t) ≡ Some
    one.moment) is (ap (λ b. cond b (Some one.moment) (moment_of (drop (i + 1) dated) t)) test)

moment_other : (dated : List Dated) (t i : ℕ) (one : Dated) → i < length dated → one ≡ get_or dated i one
    → (one.name.max ≡ t → ⊥) → moment_of (drop i dated) t ≡ moment_of (drop (i + 1) dated) t
moment_other dated t i one low is other =
    let e = moment_of-drop dated t i one low in
    let test : eqb one.name.max t ≡ false = ne_eqb one.name.max t other in
    e ∙ subst (λ (d : Dated). cond (eqb d.name.max t) (Some d.moment) (moment_of (drop (i + 1) dated) t) ≡ moment_of
    (drop (i + 1) dated) t) is (ap (λ b. cond b (Some one.moment) (moment_of (drop (i + 1) dated) t)) test)

-- by the names from a place on
abbrev pub AreYoungFrom : List Dated → ℕ → List ℕ → List Bool → ℕ → Type 0
AreYoungFrom dated cut ts young i = AreYoung (drop i dated) cut ts young

pub young_none : (dated : List Dated) (cut : ℕ) (ts : List ℕ) (young : List Bool) (i : ℕ) → length dated ≤ i
    → young ≡ replicate (length ts) false → AreYoungFrom dated cut ts young i
young_none dated cut ts young i end is = record {
  count = ap length is ∙ length-replicate (length ts) false;
  each = λ k low. ap (λ ys. get_or ys k false) is ∙ get_or-replicate (length ts) k false false low
      ∙ sym (ap (is_young cut) (at_drop_all (λ ds. moment_of ds (get_or ts k 0)) dated i end));
}

pub young_found : (dated : List Dated) (cut : ℕ) (ts : List ℕ) (young : List Bool) (i k : ℕ) (one : Dated) (b : Bool)
    → Rises ts → i < length dated → one ≡ get_or dated i one → slice_get ts k ≡ Some one.name.max
    → b ≡ leb cut one.moment → AreYoungFrom dated cut ts young (i + 1) → AreYoungFrom dated cut ts (set young k b) i
young_found dated cut ts young i k one b up low is there test are =
    let inside = slice_get_within ts k one.name.max there in
    let at = get_or_from_slice_get ts k one.name.max 0 there in
    record {
      count = length-set young k b ∙ are.count;
      each = λ j within. elim (cases_eq j k) [
        | inl same ↦
            let here : one.name.max ≡ get_or ts j 0 = sym at ∙ ap (λ n. get_or ts n 0) (sym same) in
            ap (λ n. get_or (set young k b) n false) same ∙ get_or-set_same young k b false
            (omega (arith, inside, are.count)) ∙ test
            ∙ sym (ap (is_young cut) (moment_here dated (get_or ts j 0) i one low is here))
        | inr other ↦
            let apart : one.name.max ≡ get_or ts j 0 → ⊥ = λ e. elim (cases_lt j k) [
              | inl below ↦ omega (arith, up j k below inside, at, e)
              | inr beyond ↦ omega (arith, up k j (omega (arith, beyond, other)) within, at, e)
            ] in
            get_or-set_other young k j b false other ∙ are.each j within
            ∙ sym (ap (is_young cut) (moment_other dated (get_or ts j 0) i one low is apart))
      ];
    }

pub young_missed : (dated : List Dated) (cut : ℕ) (ts : List ℕ) (young : List Bool) (i : ℕ) (one : Dated)
    → i < length dated → one ≡ get_or dated i one → (Contains ts one.name.max → ⊥)
    → AreYoungFrom dated cut ts young (i + 1) → AreYoungFrom dated cut ts young i
young_missed dated cut ts young i one low is none are = record {
  count = are.count;
  each = λ j within. are.each j within
      ∙ sym (ap (is_young cut) (moment_other dated (get_or ts j 0) i one low is
      (λ e. none (j, within, get_or_default ts j one.name.max 0 within ∙ sym e))));
}

-- the goals from a place on
pub record AreGoalsFrom (ts : List ℕ) (young : List Bool) (k : ℕ) (goals : List ℕ) : Type 0 where
  pub count : length goals ≡ length ts
  pub before : (j : ℕ) → j + 1 < k → get_or goals j 0 ≡ get_or ts j 0
  pub last : (j : ℕ) → j + 1 ≡ length ts → get_or goals j 0 ≡ get_or ts j 0
  pub each : (j : ℕ) → k ≤ j + 1 → j + 1 < length ts → get_or goals j 0 ≡ cond (get_or young j false) (get_or ts j 0)
      (get_or goals (j + 1) 0)

pub goals_none : (ts : List ℕ) (young : List Bool) (goals : List ℕ) (k : ℕ) → goals ≡ ts → k ≡ length goals
    → AreGoalsFrom ts young k goals
goals_none ts young goals k is end = record {
  count = ap length is;
  before = λ j low. ap (λ xs. get_or xs j 0) is;
  last = λ j low. ap (λ xs. get_or xs j 0) is;
  each = λ j from low. absurd (omega (arith, from, low, end, ap length is));
}

-- one more that is young keeps itself as its goal
pub goals_young : (ts : List ℕ) (young : List Bool) (goals : List ℕ) (k : ℕ) → 0 < k
    → get_or young (k - 1) false ≡ true → AreGoalsFrom ts young (k + 1) goals → AreGoalsFrom ts young k goals
goals_young ts young goals k low is are = record {
  count = are.count;
  before = λ j below. are.before j (omega (arith, below));
  last = are.last;
  each = λ j from below. elim (cases_eq (j + 1) k) [
    | inl same ↦
        let e : k - 1 ≡ j = omega (arith, same) in
        are.before j (omega (arith, same))
        ∙ sym (ap (λ b. cond b (get_or ts j 0) (get_or goals (j + 1) 0))
        (ap (λ n. get_or young n false) (sym e) ∙ is))
    | inr other ↦ are.each j (omega (arith, from, other)) below
  ];
}

-- one more that isn't has the goal of the next
pub goals_old : (ts : List ℕ) (young : List Bool) (goals : List ℕ) (k g : ℕ) → 0 < k → k < length ts
    → g ≡ get_or goals k 0 → get_or young (k - 1) false ≡ false → AreGoalsFrom ts young (k + 1) goals
    → AreGoalsFrom ts young k (set goals (k - 1) g)
goals_old ts young goals k g low inside goal is are =
    let other_at = λ (j : ℕ) (apart : j ≡ k - 1 → ⊥). get_or-set_other goals (k - 1) j g 0 apart in
    record {
      count = length-set goals (k - 1) g ∙ are.count;
      before = λ j below. other_at j (λ e. omega (arith, e, below)) ∙ are.before j (omega (arith, below));
      last = λ j below. other_at j (λ e. omega (arith, e, below, inside, low)) ∙ are.last j below;
      each = λ j from below. elim (cases_eq (j + 1) k) [
        | inl same ↦
            let e : j ≡ k - 1 = omega (arith, same) in
            let test : get_or young j false ≡ false = ap (λ n. get_or young n false) e ∙ is in
            ap (λ n. get_or (set goals (k - 1) g) n 0) e ∙ get_or-set_same goals (k - 1) g 0
            (omega (arith, inside, are.count)) ∙ goal
            ∙ sym (ap (λ b. cond b (get_or ts j 0) (get_or (set goals (k - 1) g) (j + 1) 0)) test ∙ other_at (j + 1)
            (λ h. omega (arith, h, same)) ∙ ap (λ n. get_or goals n 0) same)
        | inr other ↦
            let j_apart : j ≡ k - 1 → ⊥ = λ h. other (omega (arith, h, low)) in
            other_at j j_apart ∙ are.each j (omega (arith, from, other)) below
            ∙ ap (λ n. cond (get_or young j false) (get_or ts j 0) n)
            (sym (other_at (j + 1) (λ h. omega (arith, h, from))))
      ];
    }

pub goals_all : (ts : List ℕ) (young : List Bool) (goals : List ℕ) (k : ℕ) → k ≤ 1 → AreGoalsFrom ts young k goals
    → AreGoals ts young goals
goals_all ts young goals k end are = record {
  count = are.count;
  last = are.last;
  each = λ j low. are.each j (omega (arith, end)) low;
}
