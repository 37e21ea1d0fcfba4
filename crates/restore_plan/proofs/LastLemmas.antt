-- The last of the retained transactions at or before a moment, as they rise.
use Rattle.std.proofs.Common.{◌≡◌, ℕ, ◌<◌, ◌≤◌, inl, inr, List, [], ◌∷◌, ◌++◌, Option, Some, None, IfSome, sym, subst}
use Rattle.std.proofs.Common.{arith}
use Rattle.std.specs.Prelude.{IsSomeAnd}
use Rattle.std.proofs.lemmas.Bool.{cases_lt}
use Rattle.std.specs.List.{Contains}
use Rattle.std.specs.Option.{IfNone}
use Rattle.replica_store.specs.declared.dated_names.Dated.{Dated}
use Rattle.replica_store.specs.declared.file_name.FileName.{FileName}
use Rattle.replica_store.specs.Chain.{MayComeNext, LeadsTo, IsRetained, names_of, moment_of}
use Rattle.restore_plan.specs.Moment.{IsRetainedAt, IsLastAt}
use Rattle.restore_plan.specs.Walk.{IsEndOfNext}
use Rattle.restore_plan.proofs.ChainLemmas.{leads_more}
use Rattle.restore_plan.proofs.WalkLemmas.{leads_past}

module _ (dated : List Dated) (names : List FileName) (moment : ℕ) (same : names ≡ names_of dated) where
  retained_of : (t : ℕ) → IsRetained (names_of dated) t → IsRetained names t
  retained_of t is = subst (λ (ns : List FileName). IsRetained ns t) (sym same) is

  -- up to a transaction nothing is later
  abbrev pub IsMost : Option ℕ → ℕ → Type 0
  IsMost last reached = (other : ℕ) → IsRetainedAt dated moment other → other ≤ reached → IsSomeAnd last
      (λ t. other ≤ t)

  module _ (reached t : ℕ) (chain : List FileName) (leads : LeadsTo names 0 chain reached)
      (end : IsEndOfNext names reached t)
      (least : (name : FileName) → Contains names name → MayComeNext reached name → t ≤ name.max) where
    abbrev pub longer : List FileName
    longer = chain ++ end.name ∷ []

    pub leads_longer : LeadsTo names 0 longer t
    leads_longer = subst (λ (n : ℕ). LeadsTo names 0 longer n) end.ends
        (leads_more names 0 chain reached end.name leads end.there end.next)

    pub beyond : reached < t
    beyond = omega (arith, end.next.goes_on, end.ends)

    pub is_at : IsSomeAnd (moment_of dated t) (λ own. own ≤ moment) → IsRetainedAt dated moment t
    is_at early = record {
      retained = subst (λ (ns : List FileName). IsRetained ns t) same
          (record { positive = omega (arith, beyond); chain = longer; leads = leads_longer });
      early = early;
    }

    -- nothing is retained between
    no_less : (other : ℕ) → IsRetainedAt dated moment other → reached < other → t ≤ other
    no_less other at past =
        let is = retained_of other at.retained in
        let step = leads_past names reached 0 is.chain other (omega arith) is.leads past in
        omega (arith, least step.name step.there step.next, step.within)

    pub most_taken : IsMost (Some t) t
    most_taken other at up_to = up_to

    pub most_passed : (last : Option ℕ) → IsMost last reached
        → (IsSomeAnd (moment_of dated t) (λ own. own ≤ moment) → ⊥) → IsMost last t
    most_passed last most late other at up_to = elim (cases_lt reached other) [
      | inl past ↦ absurd (late (subst (λ (n : ℕ). IsSomeAnd (moment_of dated n) (λ own. own ≤ moment))
          (omega (arith, no_less other at past, up_to)) at.early))
      | inr within ↦ most other at within
    ]

  -- where no file may come next nothing is retained further on
  pub no_further : (reached : ℕ) → ((name : FileName) → Contains names name → MayComeNext reached name → ⊥)
      → (other : ℕ) → IsRetainedAt dated moment other
      → other ≤ reached
  no_further reached end other at = elim (cases_lt reached other) [
    | inl past ↦
        let is = retained_of other at.retained in
        let step = leads_past names reached 0 is.chain other (omega arith) is.leads past in
        absurd (end step.name step.there step.next)
    | inr within ↦ within
  ]

  pub last_is : (last : Option ℕ) (reached : ℕ) → IfSome last (IsRetainedAt dated moment) → IsMost last reached
      → ((other : ℕ) → IsRetainedAt dated moment other → other ≤ reached) → IfSome last (λ t. IsLastAt dated moment t)
  last_is None reached is most all = tt
  last_is (Some t) reached is most all = record { is = is; greatest = λ other at. most other at (all other at) }

  pub none_is : (last : Option ℕ) (reached : ℕ) → IsMost last reached
      → ((other : ℕ) → IsRetainedAt dated moment other → other ≤ reached)
      → IfNone last ((t : ℕ) → IsRetainedAt dated moment t → ⊥)
  none_is None reached most all = λ t at. most t at (all t at)
  none_is (Some t) reached most all = tt
