-- The last file of a level, and the newest transaction, of one name more.
use Rattle.std.proofs.Common.{arith, ◌≡◌, ℕ, ◌<◌, ◌≤◌, ◌⊎◌, inl, inr, List, [], ◌∷◌, ◌++◌, Option, Some, None, refl}
use Rattle.std.proofs.Common.{sym, ap, ◌∙◌, subst}
use Rattle.std.specs.List.{Contains}
use Rattle.std.proofs.lemmas.Bool.{cases_lt}
use Rattle.std.proofs.lemmas.List.Elements.{Contains-append_left, Contains-push, Contains-push_cases}
use Rattle.replica_store.specs.declared.file_name.FileName.{FileName}
use Rattle.compact_levels.specs.Level.{IsOfLevel}
use Rattle.compact_levels.specs.Pile.{IsLastSoFar}

-- the greatest end of these names, 0 where there are none
pub record IsNewestSoFar (names : List FileName) (newest : ℕ) : Type 0 where
  pub bound : (name : FileName) → Contains names name → name.max ≤ newest
  pub there : 0 < newest → (name : FileName) × Contains names name × (name.max ≡ newest)

pub newest_next : (names : List FileName) (newest next : ℕ) (name : FileName) → IsNewestSoFar names newest
    → newest ≤ next → name.max ≤ next → (next ≡ newest) ⊎ (next ≡ name.max)
    → IsNewestSoFar (names ++ name ∷ []) next
newest_next names newest next name so_far more own is = record {
  bound = λ other there. elim (Contains-push_cases names name other there) [
    | inl before ↦ omega (arith, so_far.bound other before, more)
    | inr same ↦ subst (λ (n : FileName). n.max ≤ next) same own
  ];
  there = λ positive. elim is [
    | inl same ↦
        let found = so_far.there (omega (arith, positive, same)) in
        (found.0, Contains-append_left names (name ∷ []) found.0 found.1, found.2 ∙ sym same)
    | inr same ↦ (name, Contains-push names name, sym same)
  ];
}

-- ---- the last file of a level, with one name more

of_level_cases : (names : List FileName) (level : ℕ) (name other : FileName)
    → IsOfLevel (names ++ name ∷ []) level other → IsOfLevel names level other ⊎ (name ≡ other)
of_level_cases names level name other is = elim (Contains-push_cases names name other is.there) [
  | inl before ↦ inl (record { there = before; of_level = is.of_level })
  | inr same ↦ inr same
]

more_of_level : (names : List FileName) (level : ℕ) (name other : FileName)
    → IsOfLevel names level other → IsOfLevel (names ++ name ∷ []) level other
more_of_level names level name other is =
    record { there = Contains-append_left names (name ∷ []) other is.there; of_level = is.of_level }

-- a name of another level
pub last_passed : (names : List FileName) (level : ℕ) (name : FileName) (last : Option FileName)
    → (name.level ≡ level → ⊥) → IsLastSoFar names level last → IsLastSoFar (names ++ name ∷ []) level last
last_passed names level name None apart none = λ other is. elim (of_level_cases names level name other is) [
  | inl before ↦ none other before
  | inr same ↦ apart (ap (λ (n : FileName). n.level) same ∙ is.of_level)
]
last_passed names level name (Some last) apart so_far = record {
  is = more_of_level names level name last so_far.is;
  farthest = λ other is. elim (of_level_cases names level name other is) [
    | inl before ↦ so_far.farthest other before
    | inr same ↦ absurd (apart (ap (λ (n : FileName). n.level) same ∙ is.of_level))
  ];
  first = λ other is e. elim (of_level_cases names level name other is) [
    | inl before ↦ so_far.first other before e
    | inr same ↦ absurd (apart (ap (λ (n : FileName). n.level) same ∙ is.of_level))
  ];
}

-- the first name of the level
pub last_begins : (names : List FileName) (level : ℕ) (name : FileName) → name.level ≡ level
    → IsLastSoFar names level None → IsLastSoFar (names ++ name ∷ []) level (Some name)
last_begins names level name own none = record {
  is = record { there = Contains-push names name; of_level = own };
  farthest = λ other is. elim (of_level_cases names level name other is) [
    | inl before ↦ absurd (none other before)
    | inr same ↦ omega (arith, ap (λ (n : FileName). n.max) same)
  ];
  first = λ other is e. elim (of_level_cases names level name other is) [
    | inl before ↦ absurd (none other before)
    | inr same ↦ omega (arith, ap (λ (n : FileName). n.min) same)
  ];
}

-- a later one
pub last_taken : (names : List FileName) (level : ℕ) (name last : FileName) → name.level ≡ level
    → (last.max < name.max) ⊎ ((name.max ≡ last.max) × (name.min < last.min))
    → IsLastSoFar names level (Some last) → IsLastSoFar (names ++ name ∷ []) level (Some name)
last_taken names level name last own later so_far = record {
  is = record { there = Contains-push names name; of_level = own };
  farthest = λ other is. elim (of_level_cases names level name other is) [
    | inl before ↦ elim later [
      | inl beyond ↦ omega (arith, so_far.farthest other before, beyond)
      | inr (same, low) ↦ omega (arith, so_far.farthest other before, same)
    ]
    | inr same ↦ omega (arith, ap (λ (n : FileName). n.max) same)
  ];
  first = λ other is e. elim (of_level_cases names level name other is) [
    | inl before ↦ elim later [
      | inl beyond ↦ absurd (omega (arith, so_far.farthest other before, beyond, e))
      | inr (same, low) ↦ omega (arith, so_far.first other before (e ∙ same), low)
    ]
    | inr same ↦ omega (arith, ap (λ (n : FileName). n.min) same)
  ];
}

-- one that isn't later
pub last_kept : (names : List FileName) (level : ℕ) (name last : FileName)
    → ((last.max < name.max) ⊎ ((name.max ≡ last.max) × (name.min < last.min)) → ⊥)
    → IsLastSoFar names level (Some last) → IsLastSoFar (names ++ name ∷ []) level (Some last)
last_kept names level name last early so_far = record {
  is = more_of_level names level name last so_far.is;
  farthest = λ other is. elim (of_level_cases names level name other is) [
    | inl before ↦ so_far.farthest other before
    | inr same ↦ subst (λ (n : FileName). n.max ≤ last.max) same (elim (cases_lt last.max name.max) [
      | inl beyond ↦ absurd (early (inl beyond))
      | inr within ↦ within
    ])
  ];
  first = λ other is e. elim (of_level_cases names level name other is) [
    | inl before ↦ so_far.first other before e
    | inr same ↦ elim (cases_lt name.min last.min) [
      | inl low ↦ absurd (early (inr (ap (λ (n : FileName). n.max) same ∙ e, low)))
      | inr high ↦ omega (arith, high, ap (λ (n : FileName). n.min) same)
    ]
  ];
}

pub not_some : {T : Type 0} (o : Option T) → ((x : T) → o ≡ Some x → ⊥) → o ≡ None
not_some None none = refl
not_some (Some x) none = absurd (none x refl)
