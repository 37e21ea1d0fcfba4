-- Moments of transactions.
use Rattle.std.proofs.Common.{◌≡◌, ℕ, ◌+◌, ◌-◌, ◌^◌, min, ◌<◌, ◌≤◌, inl, inr, zero, suc, Bool, true, false, cond, eqb}
use Rattle.std.proofs.Common.{List, [], ◌∷◌, length, get_or, drop, Option, Some, None, refl, subst, arith}
use Rattle.std.specs.List.{Contains}
use Rattle.std.specs.Option.{IsSomeAnd}
use Rattle.std.proofs.lemmas.Bool.{eqb-true, cases_eq}
use Rattle.std.proofs.lemmas.List.{at_drop_more}
use Rattle.replica_store.specs.declared.dated_names.Dated.{Dated}
use Rattle.replica_store.specs.Chain.{moment_of, names_of}
use Rattle.restore_plan.specs.Moment.{IsRetainedAt}
use Rattle.restore_plan.specs.Retained.{IsGreatestRetainedBelow}

-- past the names that end elsewhere
pub moment_of-drop : (dated : List Dated) (t i : ℕ) (d : Dated) → i < length dated
    → moment_of (drop i dated) t ≡ cond (eqb (get_or dated i d).name.max t) (Some (get_or dated i d).moment)
    (moment_of (drop (i + 1) dated) t)
moment_of-drop dated t i d low = at_drop_more (λ ds. moment_of ds t) dated i d low

-- a moment is that of a name which ends with the transaction
pub record HasName (dated : List Dated) (t moment : ℕ) : Type 0 where
  pub name : Dated
  pub there : Contains dated name
  pub ends : name.name.max ≡ t
  pub at : name.moment ≡ moment

shift : (x : Dated) (dated : List Dated) (t moment : ℕ) → HasName dated t moment → HasName (x ∷ dated) t moment
shift x dated t moment has = record {
  name = has.name;
  there = (suc has.there.0, omega (arith, has.there.1), has.there.2);
  ends = has.ends;
  at =
      has.at;
}

by_test : (x : Dated) (dated : List Dated) (t moment : ℕ) (b : Bool) → eqb x.name.max t ≡ b
    → cond b (Some x.moment) (moment_of dated t) ≡ Some moment
    → (moment_of dated t ≡ Some moment → HasName dated t moment) → HasName (x ∷ dated) t moment
by_test x dated t moment true e is later = record
    { name = x; there = (zero, omega arith, refl); ends = eqb-true _ _ e; at = cc }
by_test x dated t moment false e is later = shift x dated t moment (later is)

pub named : (dated : List Dated) (t moment : ℕ) → moment_of dated t ≡ Some moment → HasName dated t moment
named [] t moment is = absurd cc
named (x ∷ dated) t moment is = by_test x dated t moment (eqb x.name.max t) refl is (named dated t moment)

-- a retained transaction at or before the moment ends a name that is told no later
pub record EndsEarly (dated : List Dated) (moment t : ℕ) : Type 0 where
  pub name : Dated
  pub there : Contains dated name
  pub ends : name.name.max ≡ t
  pub early : name.moment ≤ moment

of_moment : (dated : List Dated) (moment t : ℕ) (o : Option ℕ) → moment_of dated t ≡ o → IsSomeAnd o
    (λ own. own ≤ moment) → EndsEarly dated moment t
of_moment dated moment t None is early = absurd early
of_moment dated moment t (Some own) is early = let has = named dated t own is in record
    { name = has.name; there = has.there; ends = has.ends; early = omega (arith, early, has.at) }

pub ends_early : (dated : List Dated) (moment t : ℕ) → IsRetainedAt dated moment t → EndsEarly dated moment t
ends_early dated moment t is = of_moment dated moment t (moment_of dated t) refl is.early

-- the greatest end up to a bound is no less than these
pub lower_bound : (dated : List Dated) (moment bound greatest : ℕ)
    → ((other : ℕ) → IsRetainedAt dated moment other → other < 2 ^ 64 → other ≤ bound)
    → ((name : Dated) → Contains dated name → name.name.max < 2 ^ 64)
    → ((name : Dated) → Contains dated name → name.moment ≤ moment → name.name.max ≤ bound → name.name.max ≤ greatest)
    → (other : ℕ) → IsRetainedAt dated moment other → other ≤ greatest
lower_bound dated moment bound greatest below fits ends other is =
    let early = ends_early dated moment other is in
    omega (
      arith,
      ends early.name early.there early.early
          (omega (
            arith,
            early.ends,
            below other is (subst (λ n. n < 2 ^ 64) early.ends (fits early.name early.there)),
            early.ends,
          )),
      early.ends,
    )

-- all of them are above 0
pub none_at : (dated : List Dated) (moment greatest : ℕ)
    → ((other : ℕ) → IsRetainedAt dated moment other → other ≤ greatest) → (0 < greatest → ⊥) → (t : ℕ)
    → IsRetainedAt dated moment t → ⊥
none_at dated moment greatest below none t is = none (omega (arith, below t is, is.retained.positive))

-- where the bound itself isn't one the greatest retained below it bounds them
pub next_bound : (dated : List Dated) (moment t greatest next : ℕ)
    → ((other : ℕ) → IsRetainedAt dated moment other → other ≤ t)
    → IsGreatestRetainedBelow (names_of dated) (t + 1) greatest
    → (IsRetainedAt dated moment t → greatest ≡ t → ⊥) → next ≡ min greatest (t - 1) → (other : ℕ)
    → IsRetainedAt dated moment other → other ≤ next
next_bound dated moment t greatest next below is not e other at =
    let low : other ≤ greatest = is.others other at.retained (omega (arith, below other at)) in
    elim (cases_eq other t) [
      | inl same ↦ absurd (not (subst (λ n. IsRetainedAt dated moment n) same at) (omega (arith, low, is.below, same)))
      | inr less ↦ omega (arith, e, low, below other at, less)
    ]
