-- Small lists worked out by hand, so that a wrong definition doesn't check.
use Rattle.std.proofs.Common.{◌<◌, ◌≤◌, inr, zero, suc, List, [], ◌∷◌, refl, subst, arith}
use Rattle.std.specs.List.{Contains}
use Rattle.replica_store.specs.declared.file_name.FileName.{FileName}
use Rattle.restore_plan.specs.Choice.{IsAsGood}
use Rattle.restore_plan.specs.ChosenChain.{MayLead, IsBestNext, IsChosenChain}
use Rattle.restore_plan.specs.Retained.{IsGreatestRetainedBelow}

-- of level 0 from transaction 2 to 4, of level 1 from 2 to 4, and of level 1 from 3 to 4
abbrev low : FileName
low = record {
  level = 0;
  min = 2;
  max = 4;
  on_level = refl;
  in_order = omega arith;
  from_first = λ h. absurd
      (omega (arith, h));
}

abbrev high : FileName
high = record {
  level = 1;
  min = 2;
  max = 4;
  on_level = refl;
  in_order = omega arith;
  from_first = λ h. absurd
      (omega (arith, h));
}

abbrev late : FileName
late = record {
  level = 1;
  min = 3;
  max = 4;
  on_level = refl;
  in_order = omega arith;
  from_first = λ h. absurd
      (omega (arith, h));
}

-- of level 0 from 2 to 5
abbrev far : FileName
far = record {
  level = 0;
  min = 2;
  max = 5;
  on_level = refl;
  in_order = omega arith;
  from_first = λ h. absurd
      (omega (arith, h));
}

-- the higher level is preferred, in one level the later beginning, and before both the further end
higher : (IsAsGood high low) × (IsAsGood low high → ⊥)
higher = (
  record { farthest = omega arith; highest = λ _. omega arith; latest = λ _ e. absurd (omega (arith, e)) },
  λ h. absurd (omega (arith, h.highest refl)),
)

later : (IsAsGood late high) × (IsAsGood high late → ⊥)
later = (
  record { farthest = omega arith; highest = λ _. omega arith; latest = λ _ _. omega arith },
  λ h. absurd
      (omega (arith, h.latest refl refl)),
)

further : (IsAsGood far late) × (IsAsGood late far → ⊥)
further = (
  record {
    farthest = omega arith;
    highest = λ e. absurd (omega (arith, e));
    latest = λ e _. absurd
        (omega (arith, e));
  },
  λ h. absurd (omega (arith, h.farthest)),
)

-- the files 1/5-6 and 9/1-4
abbrev five_six : FileName
five_six = record {
  level = 1;
  min = 5;
  max = 6;
  on_level = refl;
  in_order = omega arith;
  from_first = λ h. absurd
      (omega (arith, h));
}

abbrev one_four : FileName
one_four = record { level = 9; min = 1; max = 4; on_level = refl; in_order = omega arith; from_first = λ _. refl }

abbrev both : List FileName
both = five_six ∷ one_four ∷ []

first : Contains both five_six
first = (0, omega arith, refl)

second : Contains both one_four
second = (1, omega arith, refl)

-- each name of them is one of the two
which : (P : FileName → Type 0) (name : FileName) → Contains both name → P five_six → P one_four → P name
which P name (zero, low, e) here there = subst P e here
which P name (suc zero, low, e) here there = subst P e there
which P name (suc (suc k), low, e) here there = absurd (omega (arith, low))

-- from nothing to 6 the first step is the whole database: the other file begins too late
first_step : IsBestNext both 6 0 one_four
first_step = record {
  leads = record {
    there = second;
    next = record { begins = omega arith; goes_on = omega arith };
    within = omega arith;
  };
  best = λ other leads. which (λ name. name.min ≤ 1 → IsAsGood one_four name) other leads.there
      (λ low. absurd (omega (arith, low)))
      (λ _. record { farthest = omega arith; highest = λ _. omega arith; latest = λ _ _. omega arith })
      leads.next.begins;
}

second_step : IsBestNext both 6 4 five_six
second_step = record {
  leads = record { there = first; next = record { begins = omega arith; goes_on = omega arith }; within = omega arith };
  best = λ other leads. which (λ name. 4 < name.max → IsAsGood five_six name) other leads.there
      (λ _. record { farthest = omega arith; highest = λ _. omega arith; latest = λ _ _. omega arith })
      (λ beyond. absurd (omega (arith, beyond))) leads.next.goes_on;
}

to_six : IsChosenChain both 6 (one_four ∷ five_six ∷ [])
to_six = (first_step, (second_step, refl))

-- on the way to 5 the file that ends at 6 may not be taken
none_past_five : (name : FileName) → MayLead both 5 4 name → ⊥
none_past_five name leads = which (λ name. 4 < name.max → name.max ≤ 5 → ⊥) name leads.there
    (λ _ within. absurd (omega (arith, within))) (λ beyond _. absurd (omega (arith, beyond))) leads.next.goes_on
    leads.within

-- the greatest retained transaction below 5 is 4
below_five : IsGreatestRetainedBelow both 5 4
below_five = record {
  is = inr (record {
    positive = omega arith;
    chain = one_four ∷ [];
    leads =
        (second, record { begins = omega arith; goes_on = omega arith }, refl);
  });
  below = omega arith;
  others = λ other _ low. omega (arith, low);
}
