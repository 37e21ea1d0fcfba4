-- The stretches that are made of the retained transactions, of which are young and of their goals.
use Rattle.std.proofs.Common.{◌≡◌, ℕ, ◌+◌, ◌-◌, ◌<◌, ◌≤◌, ◌⊎◌, inl, inr, zero, suc, Bool, true, false, cond, List}
use Rattle.std.proofs.Common.{length, get_or, Option, Some, None, IsSomeAnd, sym, ap, ◌∙◌, subst, arith}
use Rattle.std.proofs.lemmas.Bool.{cases_lt, leb-true, le-leb, false≢true}
use Rattle.std.proofs.lemmas.List.{get_or_default}
use Rattle.std.proofs.lemmas.List.Sorted.{IsNonDecreasingBy-from_all_adjacent}
use Rattle.std.specs.List.{Contains}
use Rattle.replica_store.specs.declared.dated_names.Dated.{Dated}
use Rattle.replica_store.specs.declared.file_name.FileName.{FileName}
use Rattle.replica_store.specs.Chain.{IsRetained, names_of, moment_of}
use Rattle.retention.specs.declared.stretch.Stretch.{Stretch}
use Rattle.retention.specs.Protected.{IsGreatest, IsProtected}
use Rattle.retention.specs.Retained.{Rises, AreRetained}
use Rattle.retention.specs.Young.{is_young, AreYoung, AreGoals}
use Rattle.retention.specs.Stretch.{stretch_at, before_of, AreBetween, AreStretches, AreOrdered}

young_of : (cut : ℕ) (o : Option ℕ) → is_young cut o ≡ true → IsSomeAnd o (λ own. cut ≤ own)
young_of cut None is = absurd cc
young_of cut (Some own) is = leb-true cut own is

of_young : (cut : ℕ) (o : Option ℕ) → IsSomeAnd o (λ own. cut ≤ own) → is_young cut o ≡ true
of_young cut None is = absurd is
of_young cut (Some own) is = le-leb cut own is

-- one of some that rise, by its place
no_later : (ts : List ℕ) → Rises ts → (i j : ℕ) → i ≤ j → j < length ts → get_or ts i 0 ≤ get_or ts j 0
no_later ts up i j before low = elim (cases_lt i j) [
  | inl below ↦ omega (arith, up i j below low)
  | inr not ↦ let same : i ≡ j = omega (arith, before, not) in omega (arith, ap (λ k. get_or ts k 0) same)
]

record IsAt (ts : List ℕ) (t : ℕ) : Type 0 where
  place : ℕ
  low : place < length ts
  is : get_or ts place 0 ≡ t

at : (ts : List ℕ) (t : ℕ) → Contains ts t → IsAt ts t
at ts t there = record { place = there.0; low = there.1; is = get_or_default ts there.0 0 t there.1 ∙ there.2 }

last_greatest : (dated : List Dated) (ts : List ℕ) → AreRetained (names_of dated) ts → (k : ℕ) → k + 1 ≡ length ts
    → IsGreatest (names_of dated) (get_or ts k 0)
last_greatest dated ts are k end other is =
    let a = at ts other (are.all other is) in
    omega (arith, no_later ts are.rises a.place k (omega (arith, a.low, end)) (omega (arith, end)), a.is)

-- a protected transaction from here on
record HasGoal (dated : List Dated) (cut : ℕ) (ts goals : List ℕ) (k : ℕ) : Type 0 where
  protected : IsProtected dated cut (get_or goals k 0)
  ahead : get_or ts k 0 ≤ get_or goals k 0

here : (dated : List Dated) (cut : ℕ) (ts goals : List ℕ) (k : ℕ) → get_or goals k 0 ≡ get_or ts k 0
    → IsProtected dated cut (get_or ts k 0) → HasGoal dated cut ts goals k
here dated cut ts goals k same is = record
    { protected = subst (λ t. IsProtected dated cut t) (sym same) is; ahead = omega (arith, same) }

by_test : (dated : List Dated) (cut : ℕ) (ts goals : List ℕ) (k : ℕ) (b : Bool) → Rises ts → k + 1 < length ts
    → IsRetained (names_of dated) (get_or ts k 0) → b ≡ is_young cut (moment_of dated (get_or ts k 0))
    → get_or goals k 0 ≡ cond b (get_or ts k 0) (get_or goals (k + 1) 0) → HasGoal dated cut ts goals (k + 1)
    → HasGoal dated cut ts goals k
by_test dated cut ts goals k true up low kept young is next = here dated cut ts goals k is
    (record { retained = kept; why = inl (young_of cut (moment_of dated (get_or ts k 0)) (sym young)) })
by_test dated cut ts goals k false up low kept young is next = record {
  protected = subst (λ t. IsProtected dated cut t) (sym is) next.protected;
  ahead = omega (arith, is, next.ahead, up k (k + 1) (omega arith) low);
}

goal_of : (dated : List Dated) (cut : ℕ) (ts : List ℕ) (young : List Bool) (goals : List ℕ)
    → AreRetained (names_of dated) ts → AreYoung dated cut ts young → AreGoals ts young goals
    → (n k : ℕ) → k + n + 1 ≡ length ts → HasGoal dated cut ts goals k
goal_of dated cut ts young goals are are_young are_goals zero k end =
    let last : k + 1 ≡ length ts = omega (arith, end) in
    here dated cut ts goals k (are_goals.last k last)
    (record { retained = are.each k (omega (arith, last)); why = inr (last_greatest dated ts are k last) })
goal_of dated cut ts young goals are are_young are_goals (suc n) k end =
    let low : k + 1 < length ts = omega (arith, end) in
    by_test dated cut ts goals k (get_or young k false) are.rises low (are.each k (omega (arith, low)))
    (are_young.each k (omega (arith, low))) (are_goals.each k low)
    (goal_of dated cut ts young goals are are_young are_goals n (k + 1) (omega (arith, end)))

before_above : (ts : List ℕ) → Rises ts → (k j : ℕ) → j < k → k < length ts → get_or ts j 0 ≤ before_of ts k
before_above ts up zero j below low = absurd (omega (arith, below))
before_above ts up (suc k) j below low = no_later ts up j k (omega (arith, below)) (omega (arith, low))

before_below : (names : List FileName) (ts : List ℕ) → AreRetained names ts → (k : ℕ) → k < length ts
    → before_of ts k < get_or ts k 0
before_below names ts are zero low = omega (arith, (are.each 0 low).positive)
before_below names ts are (suc k) low = are.rises k (suc k) (omega arith) low

before_next : (ts : List ℕ) (k : ℕ) → before_of ts (k + 1) ≡ get_or ts k 0
before_next ts k = let next : k + 1 ≡ suc k = omega arith in ap (before_of ts) next

goal_here : (ts goals : List ℕ) (k : ℕ) (b : Bool) → get_or goals k 0 ≡ cond b (get_or ts k 0)
    (get_or goals (k + 1) 0) → (get_or goals k 0 ≡ get_or ts k 0) ⊎ (get_or goals k 0 ≡ get_or goals (k + 1) 0)
goal_here ts goals k true is = inl is
goal_here ts goals k false is = inr is

-- a protected transaction that isn't the last is young
goal_itself : (dated : List Dated) (cut : ℕ) (ts goals : List ℕ) (k : ℕ) (b : Bool) → AreRetained (names_of dated) ts
    → k + 1 < length ts → IsProtected dated cut (get_or ts k 0) → b ≡ is_young cut (moment_of dated (get_or ts k 0))
    → get_or goals k 0 ≡ cond b (get_or ts k 0) (get_or goals (k + 1) 0) → get_or goals k 0 ≡ get_or ts k 0
goal_itself dated cut ts goals k true are low is young goal = goal
goal_itself dated cut ts goals k false are low is young goal = absurd (elim is.why [
  | inl own ↦ false≢true (young ∙ of_young cut (moment_of dated (get_or ts k 0)) own)
  | inr greatest ↦ omega (
    arith,
    are.rises k (k + 1) (omega arith) low,
    greatest (get_or ts (k + 1) 0)
        (are.each (k + 1) low),
  )
])

pub are_stretches : (dated : List Dated) (cut : ℕ) (ts : List ℕ) (young : List Bool) (goals : List ℕ)
    (stretches : List Stretch) → AreRetained (names_of dated) ts → AreYoung dated cut ts young → AreGoals ts young goals
    → AreBetween ts goals stretches → AreStretches dated cut stretches
are_stretches dated cut ts young goals stretches are are_young are_goals between =
    let count = between.count in
    let before = λ (k : ℕ) (low : k < length stretches). ap (λ (s : Stretch). s.before)
    (between.each k (omega (arith, low, count))) in
    let end = λ (k : ℕ) (low : k < length stretches). ap (λ (s : Stretch). s.end)
    (between.each k (omega (arith, low, count))) in
    let goal = λ (k : ℕ) (low : k < length stretches). ap (λ (s : Stretch). s.goal)
    (between.each k (omega (arith, low, count))) in
    let has = λ (k : ℕ) (low : k < length stretches). goal_of dated cut ts young goals are are_young are_goals
    (length ts - k - 1) k (omega (arith, low, count)) in
    record {
      first = λ low. before 0 low;
      joined = λ k low. before (k + 1) low ∙ before_next ts k ∙ sym (end k (omega (arith, low)));
      rises = λ k low. omega (
        arith,
        before k low,
        end k low,
        before_below (names_of dated) ts are k
            (omega (arith, low, count)),
      );
      between = λ k t low is.
          let a = at ts t (are.all t is) in
          elim (cases_lt a.place k) [
            | inl below ↦ inl (omega (
              arith,
              before k low,
              a.is,
              before_above ts are.rises k a.place below
                  (omega (arith, low, count)),
            ))
            | inr from ↦ inr (omega (arith, end k low, a.is, no_later ts are.rises k a.place from a.low))
          ];
      goals = λ k low. subst (λ t. IsProtected dated cut t) (sym (goal k low)) (has k low).protected;
      ahead = λ k low. omega (arith, end k low, goal k low, (has k low).ahead);
      same_goal = λ k low.
          let one : k < length stretches = omega (arith, low) in
          elim (goal_here ts goals k (get_or young k false) (are_goals.each k (omega (arith, low, count)))) [
            | inl itself ↦ inl (goal k one ∙ itself ∙ sym (end k one))
            | inr next ↦ inr (goal k one ∙ next ∙ sym (goal (k + 1) low))
          ];
      each = λ t is.
          let a = at ts t (are.all t is.retained) in
          let low : a.place < length stretches = omega (arith, a.low, count) in
          let protected = subst (λ n. IsProtected dated cut n) (sym a.is) is in
          let itself : get_or goals a.place 0 ≡ get_or ts a.place 0 = elim (cases_lt (a.place + 1) (length ts)) [
            | inl inside ↦ goal_itself dated cut ts goals a.place (get_or young a.place false) are inside protected
                (are_young.each a.place a.low) (are_goals.each a.place inside)
            | inr last ↦ are_goals.last a.place (omega (arith, last, a.low))
          ] in
          (a.place, low, end a.place low ∙ a.is, goal a.place low ∙ itself ∙ a.is);
    }

same_stretch : (stretches : List Stretch) (n : Stretch → ℕ) (k : ℕ) (d : Stretch) → k < length stretches
    → n (get_or stretches k d) ≡ n (stretch_at stretches k)
same_stretch stretches n k d low = ap n (get_or_default stretches k d (record { before = 0; end = 0; goal = 0 }) low)

pub are_ordered : (dated : List Dated) (cut : ℕ) (stretches : List Stretch) → AreStretches dated cut stretches
    → AreOrdered stretches
are_ordered dated cut stretches are =
    let at_b = same_stretch stretches (λ (s : Stretch). s.before) in
    let at_e = same_stretch stretches (λ (s : Stretch). s.end) in
    let at_g = same_stretch stretches (λ (s : Stretch). s.goal) in
    record {
      before = IsNonDecreasingBy-from_all_adjacent (λ (s : Stretch). s.before) stretches (λ k d low.
          omega (
            arith,
            at_b k d (omega (arith, low)),
            at_b (k + 1) d low,
            are.joined k low,
            are.rises k
                (omega (arith, low)),
          ));
      end = IsNonDecreasingBy-from_all_adjacent (λ (s : Stretch). s.end) stretches (λ k d low.
          omega (arith, at_e k d (omega (arith, low)), at_e (k + 1) d low, are.joined k low, are.rises (k + 1) low));
      goal = IsNonDecreasingBy-from_all_adjacent (λ (s : Stretch). s.goal) stretches
          (λ k d low. elim (are.same_goal k low) [
            | inl itself ↦ omega (
              arith,
              at_g k d (omega (arith, low)),
              at_g (k + 1) d low,
              itself,
              are.joined k low,
              are.rises (k + 1) low,
              are.ahead (k + 1) low,
            )
            | inr next ↦ omega (arith, at_g k d (omega (arith, low)), at_g (k + 1) d low, next)
          ]);
    }
