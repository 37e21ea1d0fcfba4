-- Small lists worked out by hand, so that a wrong definition doesn't check. The lists are of the files 1/5-6 and
-- 9/1-4, of level 1 from transaction 5 to 6 and of level 9 from 1 to 4.
use Rattle.std.proofs.Common.{◌≡◌, ℕ, zero, suc, ◌⊎◌, inl, inr, List, [], ◌∷◌, Some, None, refl, sym, ap, arith}
use Rattle.std.specs.List.{Contains}
use Rattle.replica_store.specs.declared.file_name.FileName.{FileName}
use Rattle.replica_store.specs.Chain.{IsListOrdered, LeadsTo, IsChain, IsRetained, moment_of}

abbrev five_six : FileName
five_six = record {
  level = 1;
  min = 5;
  max = 6;
  on_level = refl;
  in_order = omega arith;
  from_first = λ h. absurd
      (omega (arith, h));
}

abbrev one_four : FileName
one_four = record { level = 9; min = 1; max = 4; on_level = refl; in_order = omega arith; from_first = λ _. refl }

abbrev both : List FileName
both = five_six ∷ one_four ∷ []

first : Contains both five_six
first = (0, omega arith, refl)

second : Contains both one_four
second = (1, omega arith, refl)

in_order : IsListOrdered both
in_order zero d low high = refl
in_order (suc k) d low high = absurd (omega arith)

-- the other way round they aren't in order
not_in_order : IsListOrdered (one_four ∷ five_six ∷ []) → ⊥
not_in_order h = let e = h 0 one_four (omega arith) (omega arith) in cc

-- the whole database, then the file from 5 on
to_six : IsChain both 6 (one_four ∷ five_six ∷ [])
to_six = (
  second,
  record { begins = omega arith; goes_on = omega arith },
  (first, record { begins = omega arith; goes_on = omega arith }, refl),
)

to_four : IsRetained both 4
to_four = record {
  positive = omega arith;
  chain = one_four ∷ [];
  leads =
      (second, record { begins = omega arith; goes_on = omega arith }, refl);
}

-- a name of both ends at 6 or 4
ends : (name : FileName) → Contains both name → (name.max ≡ 6) ⊎ (name.max ≡ 4)
ends name (zero, low, e) = inl (sym (ap (λ n. n.max) e))
ends name (suc zero, low, e) = inr (sym (ap (λ n. n.max) e))
ends name (suc (suc k), low, e) = absurd (omega (arith, low))

none_to_five_from : (from : ℕ) (chain : List FileName) → (from ≡ 5 → ⊥) → LeadsTo both from chain 5 → ⊥
none_to_five_from from [] other leads = other leads
none_to_five_from from (name ∷ chain) other leads =
    none_to_five_from name.max chain
    (λ e. elim (ends name leads.0)
    [ inl six ↦ absurd (omega (arith, six, e)) | inr four ↦ absurd (omega (arith, four, e)) ]) leads.2

-- no chain to 5, though a file holds it
none_to_five : IsRetained both 5 → ⊥
none_to_five is = none_to_five_from 0 is.chain (λ e. absurd (omega (arith, e))) is.leads

-- of two names that end with one transaction the first tells its moment
first_tells : moment_of (record { name = five_six; moment = 9 } ∷ record { name = one_four; moment = 7 } ∷ record
    { name = five_six; moment = 8 } ∷ []) 6 ≡ Some 9
first_tells = refl

no_moment : moment_of (record { name = one_four; moment = 7 } ∷ []) 3 ≡ None
no_moment = refl
