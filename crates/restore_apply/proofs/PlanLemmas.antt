-- The last transaction of a plan, and errors that are passed on.
use Rattle.std.proofs.Common.{◌≡◌, ◌≢◌, ℕ, ◌+◌, ◌-◌, ◌<◌, List, [], ◌∷◌, length, get_or, take, refl, sym, ap, subst}
use Rattle.std.proofs.Common.{◌∙◌, arith}
use Rattle.std.specs.Prelude.{Result, Ok, Err, IfErr, IsErrAnd}
use Rattle.std.proofs.lemmas.List.{take_more, take_all}
use Rattle.replica_store.specs.declared.file_name.FileName.{FileName}
use Rattle.restore_apply.specs.Restoring.{IsLastOf}

-- what holds of the error that a call passed on
pub err_is : {T E : Type 0} (r : Result T E) (e : E) (P : E → Type 0) → IsErrAnd r (λ x. x ≡ e) → P e → IfErr r P
err_is (Ok x) e P is holds = tt
err_is (Err x) e P is holds = subst P (sym is) holds

some_length : (plan : List FileName) → plan ≢ [] → 0 < length plan
some_length [] some = absurd (some refl)
some_length (name ∷ plan) some = omega arith

-- the last name of a plan
pub last_of : (plan : List FileName) (name : FileName) → plan ≢ []
    → IsLastOf plan (get_or plan (length plan - 1) name).max
last_of plan name some =
    let positive : 0 < length plan = some_length plan some in
    let last : length plan - 1 < length plan = omega (arith, positive) in
    let count : length plan - 1 + 1 ≡ length plan = omega (arith, positive) in
    record {
      before = take (length plan - 1) plan;
      last = get_or plan (length plan - 1) name;
      split =
          sym (take_all (length plan) plan (omega arith)) ∙ ap (λ (n : ℕ). take n plan) (sym count)
          ∙ take_more plan (length plan - 1) name last;
      is = refl;
    }

pub err_each : {T E : Type 0} (r : Result T E) (P : Type 0) → P → IfErr r (λ _. P)
err_each (Ok x) P holds = tt
err_each (Err e) P holds = holds
