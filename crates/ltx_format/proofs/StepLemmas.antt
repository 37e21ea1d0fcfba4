-- Readers one after another.
use Rattle.std.proofs.Common.{◌≡◌, Bool, true, false, Result, Ok, Err, refl}
use Rattle.ltx_format.specs.declared.fault.LtxFault.{LtxFault}
use Rattle.ltx_format.specs.Reading.{◌>>=◌, where_true}

abbrev done : {A : Type 0} → A → Result A LtxFault
done x = Ok x

abbrev failed : {A : Type 0} → LtxFault → Result A LtxFault
failed fault = Err fault

pub same_ok : {A : Type 0} (x y : A) → done x ≡ done y → x ≡ y
same_ok x y e = cc

-- what a reader that went well read, and that the next one went well too
pub bind_ok : {A B : Type 0} (r : Result A LtxFault) (next : A → Result B LtxFault) (y : B) → (r >>= next) ≡ Ok y
    → (x : A) × (r ≡ Ok x) × (next x ≡ Ok y)
bind_ok (Ok x) next y e = (x, refl, e)
bind_ok (Err fault) next y e = absurd cc

-- a test that passed
pub where_true-ok : {A : Type 0} (test : Bool) (fault : LtxFault) (x y : A) → where_true test fault x ≡ Ok y
    → (test ≡ true) × (x ≡ y)
where_true-ok true fault x y e = (refl, cc)
where_true-ok false fault x y e = absurd cc

-- the same, with what was read as a variable of the proof that goes on
pub bind_then : {A B P : Type 0} (r : Result A LtxFault) (next : A → Result B LtxFault) (y : B) → (r >>= next) ≡ Ok y
    → ((x : A) → r ≡ Ok x → next x ≡ Ok y → P) → P
bind_then (Ok x) next y e proof = proof x refl e
bind_then (Err fault) next y e proof = absurd cc

pub err_is_not_ok : {A : Type 0} (fault : LtxFault) (x : A) → failed {A = A} fault ≡ Ok x → ⊥
err_is_not_ok fault x e = absurd cc
