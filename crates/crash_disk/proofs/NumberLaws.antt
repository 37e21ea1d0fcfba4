-- The numbers of files: each is below the next one, and no two names have the same.
use Rattle.std.proofs.Common.{◌≡◌, ◌≢◌, ℕ, suc, ◌<◌, List, [], ◌∷◌, length, Bool, true, false, cond, Option, Some, None}
use Rattle.std.proofs.Common.{IfSome, refl, ap, sym, subst, ◌∙◌, arith}
use Rattle.std.specs.Prelude.{unwrap_or}
use Rattle.std.specs.Option.{option_or}
use Rattle.std.specs.declared.cmp.Ordering.TheVariants.{Less, Equal, Greater}
use Rattle.std.specs.Ordering.{nat_cmp, is_eq}
use Rattle.std.specs.Cmp.Lexicographic.{slice_cmp}
use Rattle.std.specs.FinMap.{nat_cmp-IsAntisymmetric, slice_cmp-IsAntisymmetric}
use Rattle.crash_disk.specs.declared.event.Event.{Event}
use Rattle.crash_disk.specs.declared.event.Event.TheVariants.{Placed, Created, Appended, Wrote, Cut, Synced, Renamed}
use Rattle.crash_disk.specs.declared.event.Event.TheVariants.{Removed, NamesSynced}
use Rattle.crash_disk.specs.Files.{is_name}
use Rattle.crash_disk.proofs.FileLaws.{is_name-same, at_name, at_other}
use Rattle.crash_disk.specs.Numbers.{number_at}

apart_by : (q name : List ℕ) → is_name q name ≡ false → q ≢ name
apart_by q name differ is = subst (λ b. cond b (Unit {0}) ⊥) (sym (is_name-same q) ∙ ap (is_name q) is ∙ differ) tt

-- two names are the same or not
pub by_names : {P : Type 0} (q name : List ℕ) → (q ≡ name → P) → (q ≢ name → P) → P
by_names {P} q name same apart =
    elim (slice_cmp nat_cmp q name) as (λ r. slice_cmp nat_cmp q name ≡ r → P) [
      | Less ↦ λ e. apart (apart_by q name (ap is_eq e))
      | Equal ↦ λ e. same (slice_cmp-IsAntisymmetric nat_cmp-IsAntisymmetric q name e)
      | Greater ↦ λ e. apart (apart_by q name (ap is_eq e))
    ] refl

-- of a choice by a test, both cases
pub on_cond : {A : Type 0} (P : A → Type 0) (b : Bool) (x y : A) → P x → P y → P (cond b x y)
on_cond P true x y p q = p
on_cond P false x y p q = q

module _ (events : List Event) where
  -- the number at the name that the change speaks of
  pub number_at-Placed-here : (name bytes : List ℕ) → number_at (Placed name bytes ∷ events) name ≡ Some (length events)
  unfolding number_at
  number_at-Placed-here name bytes = at_name name _ _

  pub number_at-Created-here : (name : List ℕ) → number_at (Created name ∷ events) name ≡ Some
      (unwrap_or (number_at events name) (length events))
  unfolding number_at
  number_at-Created-here name = at_name name _ _

  pub number_at-Renamed-to : (from to : List ℕ) → number_at (Renamed from to ∷ events) to ≡ option_or
      (number_at events from) (number_at events to)
  unfolding number_at
  number_at-Renamed-to from to = at_name to _ _

  pub number_at-Renamed-from : (from to : List ℕ) → from ≢ to → number_at (Renamed from to ∷ events) from ≡ None
  unfolding number_at
  number_at-Renamed-from from to apart = at_other from to _ _ apart ∙ at_name from _ _

  pub number_at-Removed-here : (name : List ℕ) → number_at (Removed name ∷ events) name ≡ None
  unfolding number_at
  number_at-Removed-here name = at_name name _ _

  -- and at another name
  pub number_at-Placed-other : (name bytes q : List ℕ) → q ≢ name
      → number_at (Placed name bytes ∷ events) q ≡ number_at events q
  unfolding number_at
  number_at-Placed-other name bytes q apart = at_other q name _ _ apart

  pub number_at-Created-other : (name q : List ℕ) → q ≢ name → number_at (Created name ∷ events) q ≡ number_at events q
  unfolding number_at
  number_at-Created-other name q apart = at_other q name _ _ apart

  pub number_at-Renamed-other : (from to q : List ℕ) → q ≢ from → q ≢ to
      → number_at (Renamed from to ∷ events) q ≡ number_at events q
  unfolding number_at
  number_at-Renamed-other from to q apart-from apart-to = at_other q to _ _ apart-to ∙ at_other q from _ _ apart-from

  pub number_at-Removed-other : (name q : List ℕ) → q ≢ name → number_at (Removed name ∷ events) q ≡ number_at events q
  unfolding number_at
  number_at-Removed-other name q apart = at_other q name _ _ apart

one_below : (number : Option ℕ) (m : ℕ) → IfSome number (λ n. n < m) → IfSome number (λ n. n < suc m)
one_below None m h = tt
one_below (Some n) m h = omega arith

created_below : (number : Option ℕ) (m : ℕ) → IfSome number (λ n. n < m) → unwrap_or number m < suc m
created_below None m h = omega arith
created_below (Some n) m h = omega arith

either_below : (a b : Option ℕ) (m : ℕ) → IfSome a (λ n. n < m) → IfSome b (λ n. n < m) → IfSome (option_or a b)
    (λ n. n < m)
either_below None b m h k = k
either_below (Some n) b m h k = h

-- each number is below the length of the record, which the next new file gets
pub number_at-below : (events : List Event) (q : List ℕ) → IfSome (number_at events q) (λ n. n < length events)
unfolding number_at
number_at-below [] q = tt
number_at-below (Placed name bytes ∷ events) q = on_cond
    (λ number. IfSome number (λ n. n < length (Placed name bytes ∷ events))) (is_name q name) (Some (length events))
    (number_at events q) (omega arith) (one_below _ _ (number_at-below events q))
number_at-below (Created name ∷ events) q =
    on_cond (λ number. IfSome number (λ n. n < length (Created name ∷ events))) (is_name q name)
    (Some (unwrap_or (number_at events name) (length events))) (number_at events q)
    (created_below _ _ (number_at-below events name)) (one_below _ _ (number_at-below events q))
number_at-below (Appended name bytes ∷ events) q = one_below _ _ (number_at-below events q)
number_at-below (Wrote name at bytes ∷ events) q = one_below _ _ (number_at-below events q)
number_at-below (Cut name size ∷ events) q = one_below _ _ (number_at-below events q)
number_at-below (Synced name ∷ events) q = one_below _ _ (number_at-below events q)
number_at-below (Renamed from to ∷ events) q =
    one_below _ _ (on_cond (λ number. IfSome number (λ n. n < length events)) (is_name q to)
    (option_or (number_at events from) (number_at events q)) (cond (is_name q from) None (number_at events q))
    (either_below (number_at events from) (number_at events q) _ (number_at-below events from)
    (number_at-below events q))
    (on_cond (λ number. IfSome number (λ n. n < length events)) (is_name q from) None (number_at events q) tt
    (number_at-below events q)))
number_at-below (Removed name ∷ events) q = on_cond
    (λ number. IfSome number (λ n. n < length (Removed name ∷ events))) (is_name q name) None (number_at events q) tt
    (one_below _ _ (number_at-below events q))
number_at-below (NamesSynced ∷ events) q = one_below _ _ (number_at-below events q)
