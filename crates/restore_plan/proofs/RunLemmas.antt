-- The names of a level that were taken in.
use Rattle.std.proofs.Common.{◌≡◌, ℕ, ◌+◌, ◌<◌, ◌≤◌, ◌⊎◌, inl, inr, zero, suc, true, ◌==◌, List, [], ◌∷◌, length}
use Rattle.std.proofs.Common.{get_or, set, Option, Some, None, IfSome, IsTrue, refl, sym, ap, ◌∙◌, subst, arith}
use Rattle.std.proofs.lemmas.Bool.{cases_lt, cases_eq, eqb-true, or_cases, false≢true}
use Rattle.std.proofs.lemmas.List.{get_or-set_same, get_or-set_other, length-set}
use Rattle.std.proofs.lemmas.List.Elements.{All-set, All-cons, All-nil}
use Rattle.std.proofs.lemmas.Option.{get_or_from_slice_get, slice_get_within}
use Rattle.std.specs.List.{Contains, slice_get}
use Rattle.std.specs.Option.{IfNone}
use Rattle.replica_store.specs.declared.file_name.FileName.{FileName}
use Rattle.replica_store.specs.Chain.{IsListOrdered}
use Rattle.replica_store.specs.NameText.{is_level}
use Rattle.restore_plan.specs.Choice.{IsAsGood}
use Rattle.restore_plan.specs.ChosenChain.{MayLead, IsBestNext}
use Rattle.restore_plan.specs.Run.{IsWithin, IsMatched, IsRun, HasTakenIn, AreRuns, levels}
use Rattle.restore_plan.specs.declared.run.Run.{Run}
use Rattle.restore_plan.proofs.OrderLemmas.{in_level}

pub as_good_itself : (a : FileName) → IsAsGood a a
as_good_itself a = record { farthest = omega arith; highest = λ _. omega arith; latest = λ _ _. omega arith }

pub as_good_further : (a b c : FileName) → IsAsGood a b → IsAsGood b c → IsAsGood a c
as_good_further a b c ab bc = record {
  farthest = omega (arith, ab.farthest, bc.farthest);
  highest = λ e. let e1 : b.max ≡ a.max = omega (arith, ab.farthest, bc.farthest, e) in let e2 : c.max ≡ b.max = omega
      (arith, ab.farthest, bc.farthest, e) in omega (arith, ab.highest e1, bc.highest e2);
  latest = λ e level. let e1 : b.max ≡ a.max = omega (arith, ab.farthest, bc.farthest, e) in let e2 : c.max ≡ b.max =
      omega (arith, ab.farthest, bc.farthest, e) in
      let l1 : b.level ≡ a.level = omega (arith, ab.highest e1, bc.highest e2, level) in let l2 : c.level ≡ b.level =
      omega (arith, ab.highest e1, bc.highest e2, level) in omega (arith, ab.latest e1 l1, bc.latest e2 l2);
}

-- what the old best matches the new one does
pub matched_further : (old new : Option FileName) (other : FileName) → IfSome old (λ name. IsMatched new name)
    → IsMatched old other → IsMatched new other
matched_further None new other more matched = absurd matched
matched_further (Some a) None other more matched = absurd more
matched_further (Some a) (Some b) other more matched = as_good_further b a other more matched

all_further : (old best next : Option FileName) → IfSome best (λ name. IsMatched next name) → IfSome old
    (λ name. IsMatched best name) → IfSome old (λ name. IsMatched next name)
all_further None best next more is = tt
all_further (Some name) best next more is = matched_further best next name more is

-- a chosen one of two that are within is within
pub chosen_within : {A : Type 0} (P : A → Type 0) (first second result : Option A) → IfSome result
    (λ one. (first ≡ Some one) ⊎ (second ≡ Some one))
    → IfSome first P → IfSome second P → IfSome result P
chosen_within P first second None one p q = tt
chosen_within P first second (Some chosen) one p q = elim one [
  | inl e ↦ subst (λ o. IfSome o P) e p
  | inr e ↦ subst (λ o. IfSome o P) e q
]

-- one more name of the level taken in, or passed over
pub taken_more : (names : List FileName) (t after : ℕ) (run next : Run) (name : FileName) → IsRun names t after run
    → slice_get names run.at ≡ Some name → next.level ≡ run.level → next.at ≡ run.at + 1
    → IfSome next.best (IsWithin names t after) → IfSome run.best (λ best. IsMatched next.best best)
    → (name.level ≡ run.level → name.max ≤ t → IsMatched next.best name) → IsRun names t after next
taken_more names t after run next name is there level at within more new = record {
  best = within;
  taken = λ k d low inside same ends. elim (cases_lt k run.at) [
    | inl below ↦ matched_further run.best next.best (get_or names k d) more
        (is.taken k d below inside (same ∙ level) ends)
    | inr from ↦
        let e : k ≡ run.at = omega (arith, low, at) in
        let is_name : get_or names k d ≡ name = ap (λ i. get_or names i d) e
        ∙ get_or_from_slice_get names run.at name d there in
        subst (λ n. IsMatched next.best n) (sym is_name)
        (new (sym (ap (λ n. n.level) is_name) ∙ same ∙ level) (subst (λ n. n.max ≤ t) is_name ends))
  ];
}

-- at a name behind those that begin so early the rest of the level does too
pub taken_to : (names : List FileName) (after : ℕ) (run : Run) (name : FileName) → IsListOrdered names
    → slice_get names run.at ≡ Some name → (run.level < name.level)
    ⊎ ((name.level ≡ run.level) × (after + 1 < name.min)) → HasTakenIn names after run
taken_to names after run name up there behind = record {
  later = λ k d from inside same.
      let is_name : get_or names run.at d ≡ name = get_or_from_slice_get names run.at name d there in
      let far = in_level names up run.at k d from inside in
      let level_is : (get_or names run.at d).level ≡ name.level = ap (λ n. n.level) is_name in
      let min_is : (get_or names run.at d).min ≡ name.min = ap (λ n. n.min) is_name in
      elim behind [
        | inl higher ↦ absurd (omega (arith, far.0, level_is, higher, same))
        | inr later ↦ omega (arith, far.1 (same ∙ sym later.0 ∙ sym level_is), min_is, later.1)
      ];
}

pub taken_to_end : (names : List FileName) (after : ℕ) (run : Run) → length names ≤ run.at → HasTakenIn names after run
taken_to_end names after run end = record { later = λ k d from inside same. absurd (omega (arith, from, inside)) }

-- what a later transaction lets begin
pub within_later : (names : List FileName) (t after later : ℕ) → after ≤ later → (best : Option FileName)
    → IfSome best (IsWithin names t after) → IfSome best (IsWithin names t later)
within_later names t after later up None is = tt
within_later names t after later up (Some name) is = record
    { there = is.there; begins = omega (arith, is.begins, up); ends = is.ends }

pub run_later : (names : List FileName) (t after later : ℕ) (run : Run) → after ≤ later → IsRun names t after run
    → IsRun names t later run
run_later names t after later run up is = record
    { best = within_later names t after later up run.best is.best; taken = is.taken }

pub runs_later : (names : List FileName) (t after later : ℕ) (runs : List Run) → after ≤ later
    → AreRuns names t after runs → AreRuns names t later runs
runs_later names t after later runs up are = record {
  all = λ k d low. run_later names t after later (get_or runs k d) up (are.all k d low);
  count = are.count;
  each =
      are.each;
}

at_index : (runs : List Run) (i k : ℕ) (run d : Run) → i < length runs → (k ≡ i) → get_or (set runs i run) k d ≡ run
at_index runs i k run d low e = ap (λ j. get_or (set runs i run) j d) e ∙ get_or-set_same runs i run d low

-- one run advanced
pub runs_set : (names : List FileName) (t after : ℕ) (runs : List Run) (i : ℕ) (run : Run) (d : Run)
    → AreRuns names t after runs → i < 5 → run.level ≡ (get_or runs i d).level → IsRun names t after run
    → AreRuns names t after (set runs i run)
runs_set names t after runs i run d are low level is = record {
  all = All-set (IsRun names t after) runs i run is are.all;
  count = length-set runs i run ∙ are.count;
  each = λ k e inside. elim (cases_eq k i) [
    | inl same ↦ ap (λ (r : Run). r.level) (at_index runs i k run e (omega (arith, low, are.count)) same) ∙ level
        ∙ are.each i d low ∙ ap (λ j. get_or levels j 0) (sym same)
    | inr other ↦ ap (λ (r : Run). r.level) (get_or-set_other runs i k run e other) ∙ are.each k e inside
  ];
}

-- the place of a level among the five
pub record HasPlace (level : ℕ) : Type 0 where
  pub place : ℕ
  pub below : place < 5
  pub is : get_or levels place 0 ≡ level

test_is : (known level : ℕ) → (known == level) ≡ true → known ≡ level
test_is known level e = eqb-true known level e

pub place_of : (level : ℕ) → IsTrue (is_level level) → HasPlace level
place_of level known =
    elim (or_cases (0 == level) _ known) [
      | inl e ↦ record { place = 0; below = omega arith; is = test_is 0 level e }
      | inr known ↦ elim (or_cases (1 == level) _ known) [
        | inl e ↦ record { place = 1; below = omega arith; is = test_is 1 level e }
        | inr known ↦ elim (or_cases (2 == level) _ known) [
          | inl e ↦ record { place = 2; below = omega arith; is = test_is 2 level e }
          | inr known ↦ elim (or_cases (3 == level) _ known) [
            | inl e ↦ record { place = 3; below = omega arith; is = test_is 3 level e }
            | inr known ↦ elim (or_cases (9 == level) _ known) [
              | inl e ↦ record { place = 4; below = omega arith; is = test_is 9 level e }
              | inr none ↦ absurd (false≢true none)
            ]
          ]
        ]
      ]
    ]

empty_run : Run
empty_run = record { level = 0; at = 0; best = None }

-- where each run has taken in its names the best of their bests is as good as each name within
pub all_matched : (names : List FileName) (t after : ℕ) (runs : List Run) (best : Option FileName)
    → AreRuns names t after runs
    → ((k : ℕ) (d : Run) → k < 5 → HasTakenIn names after (get_or runs k d) × IfSome (get_or runs k d).best
    (λ name. IsMatched best name)) → (name : FileName) → IsWithin names t after name → IsMatched best name
all_matched names t after runs best are done name is =
    let place = place_of name.level name.on_level in
    let run = get_or runs place.place empty_run in
    let is_run = are.all place.place empty_run (omega (arith, place.below, are.count)) in
    let same = is.there.2 in
    let level : (get_or names is.there.0 name).level ≡ run.level = ap (λ n. n.level) same ∙ sym place.is
    ∙ sym (are.each place.place empty_run place.below) in
    let here = done place.place empty_run place.below in
    elim (cases_lt is.there.0 run.at) [
      | inl below ↦ matched_further run.best best name here.1
          (subst (λ n. IsMatched run.best n) same
          (is_run.taken is.there.0 name below is.there.1 level (subst (λ n. n.max ≤ t) (sym same) is.ends)))
      | inr from ↦ absurd (omega (
        arith,
        here.0.later is.there.0 name from is.there.1 level,
        ap (λ n. n.min) same,
        is.begins,
      ))
    ]

-- a name that isn't behind begins so early
pub begins_from : (after : ℕ) (run : Run) (name : FileName)
    → ((run.level < name.level) ⊎ ((name.level ≡ run.level) × (after + 1 < name.min)) → ⊥) → name.level ≡ run.level
    → name.min ≤ after + 1
begins_from after run name not same = elim (cases_lt (after + 1) name.min)
    [ inl later ↦ absurd (not (inr (same, later))) | inr early ↦ early ]

pub contains_at : (names : List FileName) (i : ℕ) (name : FileName) → slice_get names i ≡ Some name
    → Contains names name
contains_at names i name there = (i, slice_get_within names i name there, get_or_from_slice_get names i name name there)

-- a name of the level that ends within
pub run_taking : (names : List FileName) (t after : ℕ) (run : Run) (name : FileName) (best : Option FileName)
    → IsRun names t after run → slice_get names run.at ≡ Some name
    → ((run.level < name.level) ⊎ ((name.level ≡ run.level) × (after + 1 < name.min)) → ⊥) → name.level ≡ run.level
    → name.max ≤ t
    → IfSome best (λ chosen. (run.best ≡ Some chosen) ⊎ (Some name ≡ Some chosen)) → IfSome run.best
    (λ old. IsMatched best old) → IsMatched best name
    → IsRun names t after (record { level = run.level; at = run.at + 1; best = best })
run_taking names t after run name best is there not same ends one first second =
    taken_more names t after run _ name is there refl refl
    (chosen_within (IsWithin names t after) run.best (Some name) best one is.best
    (record {
      there = contains_at names run.at name there;
      begins = begins_from after run name not same;
      ends =
          ends;
    }))
    first (λ _ _. second)

old_matched : (best : Option FileName) → IfSome best (λ old. IsMatched best old)
old_matched None = tt
old_matched (Some name) = as_good_itself name

-- a name that is passed over: of a lower level, or one that ends beyond t
pub run_passing : (names : List FileName) (t after : ℕ) (run : Run) (name : FileName) → IsRun names t after run
    → slice_get names run.at ≡ Some name → (name.level ≡ run.level → name.max ≤ t → ⊥)
    → IsRun names t after (record { level = run.level; at = run.at + 1; best = run.best })
run_passing names t after run name is there not = taken_more names t after run _ name is there refl refl is.best
    (old_matched run.best) (λ same ends. absurd (not same ends))

-- five runs, none advanced
each_level : (r0 r1 r2 r3 r4 : Run) → r0.level ≡ 0 → r1.level ≡ 1 → r2.level ≡ 2 → r3.level ≡ 3 → r4.level ≡ 9
    → (k : ℕ) (d : Run) → k < 5 → (get_or (r0 ∷ r1 ∷ r2 ∷ r3 ∷ r4 ∷ []) k d).level ≡ get_or levels k 0
each_level r0 r1 r2 r3 r4 e0 e1 e2 e3 e4 zero d low = e0
each_level r0 r1 r2 r3 r4 e0 e1 e2 e3 e4 (suc zero) d low = e1
each_level r0 r1 r2 r3 r4 e0 e1 e2 e3 e4 (suc (suc zero)) d low = e2
each_level r0 r1 r2 r3 r4 e0 e1 e2 e3 e4 (suc (suc (suc zero))) d low = e3
each_level r0 r1 r2 r3 r4 e0 e1 e2 e3 e4 (suc (suc (suc (suc zero)))) d low = e4
each_level r0 r1 r2 r3 r4 e0 e1 e2 e3 e4 (suc (suc (suc (suc (suc k))))) d low = absurd (omega (arith, low))

pub five_runs : (names : List FileName) (t after : ℕ) (r0 r1 r2 r3 r4 : Run) → r0.level ≡ 0 → r1.level ≡ 1
    → r2.level ≡ 2 → r3.level ≡ 3 → r4.level ≡ 9
    → IsRun names t after r0 → IsRun names t after r1 → IsRun names t after r2 → IsRun names t after r3
    → IsRun names t after r4 → AreRuns names t after (r0 ∷ r1 ∷ r2 ∷ r3 ∷ r4 ∷ [])
five_runs names t after r0 r1 r2 r3 r4 e0 e1 e2 e3 e4 i0 i1 i2 i3 i4 =
    let P : Run → Type 0 = IsRun names t after in
    record {
      all = All-cons P r0 (r1 ∷ r2 ∷ r3 ∷ r4 ∷ []) i0
          (All-cons P r1 (r2 ∷ r3 ∷ r4 ∷ []) i1
          (All-cons P r2 (r3 ∷ r4 ∷ []) i2 (All-cons P r3 (r4 ∷ []) i3 (All-cons P r4 [] i4 (All-nil P)))));
      count = refl;
      each = each_level r0 r1 r2 r3 r4 e0 e1 e2 e3 e4;
    }

-- one more run advanced
pub more_taken_in : (names : List FileName) (t after : ℕ) (runs : List Run) (i : ℕ) (old new : Run)
    (best next : Option FileName) → AreRuns names t after runs
    → ((k : ℕ) (d : Run) → k < i → HasTakenIn names after (get_or runs k d) × IfSome (get_or runs k d).best
    (λ name. IsMatched best name)) → IfSome best (IsWithin names t after)
    → i < 5 → new.level ≡ (get_or runs i old).level → IsRun names t after new → HasTakenIn names after new
    → IfSome next (λ chosen. (best ≡ Some chosen) ⊎ (new.best ≡ Some chosen)) → IfSome best
    (λ name. IsMatched next name) → IfSome new.best (λ name. IsMatched next name)
    → AreRuns names t after (set runs i new)
    × ((k : ℕ) (d : Run) → k < i + 1 → HasTakenIn names after (get_or (set runs i new) k d)
    × IfSome (get_or (set runs i new) k d).best (λ name. IsMatched next name)) × IfSome next (IsWithin names t after)
more_taken_in names t after runs i old new best next are done within low level is taken one first second = (
  runs_set names t after runs i new old are low level is,
  λ k d inside. elim (cases_eq k i) [
    | inl same ↦ subst (λ (r : Run). HasTakenIn names after r × IfSome r.best (λ name. IsMatched next name))
        (sym (at_index runs i k new d (omega (arith, low, are.count)) same)) (taken, second)
    | inr other ↦ subst (λ (r : Run). HasTakenIn names after r × IfSome r.best (λ name. IsMatched next name))
        (sym (get_or-set_other runs i k new d other))
        (let before = done k d (omega (arith, inside, other)) in
        (before.0, all_further (get_or runs k d).best best next first before.1))
  ],
  chosen_within (IsWithin names t after) best new.best next one within is.best,
)

pub none_then : {T : Type 0} (o : Option T) (P : Type 0) → P → IfNone o P
none_then None P p = p
none_then (Some x) P p = tt

within_of : (names : List FileName) (t after : ℕ) (name : FileName) → MayLead names t after name
    → IsWithin names t after name
within_of names t after name leads = record { there = leads.there; begins = leads.next.begins; ends = leads.within }

pub step_best : (names : List FileName) (t after : ℕ) (name : FileName) → IsWithin names t after name
    → ((other : FileName) → IsWithin names t after other → IsMatched (Some name) other) → after < name.max
    → IsBestNext names t after name
step_best names t after name is best beyond = record {
  leads = record { there = is.there; next = record { begins = is.begins; goes_on = beyond }; within = is.ends };
  best = λ other leads. best other (within_of names t after other leads);
}

pub step_end : (names : List FileName) (t after : ℕ) (best : Option FileName)
    → ((other : FileName) → IsWithin names t after other → IsMatched best other) → IfSome best
    (λ chosen. chosen.max ≤ after) → (name : FileName) → MayLead names t after name → ⊥
step_end names t after None best low name leads = best name (within_of names t after name leads)
step_end names t after (Some chosen) best low name leads = absurd
    (omega (arith, (best name (within_of names t after name leads)).farthest, low, leads.next.goes_on))
