-- Readers and tests go in step.
use Rattle.std.proofs.Common.{◌≡◌, ℕ, ◌+◌, ◌%◌, ◌<◌, ◌≤◌, Bool, true, false, eqb, ltb, List, [], ◌∷◌, length, drop}
use Rattle.std.proofs.Common.{Option, Some, None, Result, Ok, Err, refl, ap, ◌∙◌, arith}
use Rattle.std.specs.Option.{option_or}
use Rattle.std.specs.Int.{Width, byte_len}
use Rattle.std.proofs.lemmas.Bool.{lt-ltb, le-ltb}
use Rattle.std.proofs.lemmas.List.{length-drop, drop-drop}
use Rattle.ltx_format.specs.declared.fault.LtxFault.{LtxFault}
use Rattle.ltx_format.specs.declared.fault.LtxFault.TheVariants.{Short, Compressed, BadFlags}
use Rattle.ltx_format.specs.FirstFault.{Tests, first_failed, number}
use Rattle.ltx_format.specs.Reading.{◌>>=◌, where_true, number_at, behind, flags_from}

-- the fault of what was read
abbrev pub fault_of : {A : Type 0} → Result A LtxFault → Option LtxFault
fault_of (Ok x) = None
fault_of (Err fault) = Some fault

pub bind_assoc : {A B C : Type 0} (r : Result A LtxFault) (f : A → Result B LtxFault) (g : B → Result C LtxFault)
    → ((r >>= f) >>= g) ≡ (r >>= λ x. f x >>= g)
bind_assoc (Ok x) f g = refl
bind_assoc (Err fault) f g = refl

-- one test that a reader makes
pub step : {A B : Type 0} (test : Bool) (fault : LtxFault) (x : A) (next : A → Result B LtxFault)
    (rest : Option LtxFault)
    → (test ≡ true → fault_of (next x) ≡ rest) → fault_of (where_true test fault x >>= next) ≡ option_or
    (first_failed ((test, fault) ∷ [])) rest
step true fault x next rest proof = proof refl
step false fault x next rest proof = refl

-- the tests behind the first
pub first_then : (test : Bool) (fault : LtxFault) (tests : Tests)
    → option_or (first_failed ((test, fault) ∷ [])) (first_failed tests) ≡ first_failed ((test, fault) ∷ tests)
first_then true fault tests = refl
first_then false fault tests = refl

pub first_then-or : (test : Bool) (fault : LtxFault) (tests : Tests) (rest : Option LtxFault)
    → option_or (first_failed ((test, fault) ∷ [])) (option_or (first_failed tests) rest) ≡ option_or
    (first_failed ((test, fault) ∷ tests)) rest
first_then-or true fault tests rest = refl
first_then-or false fault tests rest = refl

-- one test, and the others
pub step_then : {A B : Type 0} (test : Bool) (fault : LtxFault) (x : A) (next : A → Result B LtxFault) (tests : Tests)
    → (test ≡ true → fault_of (next x) ≡ first_failed tests)
    → fault_of (where_true test fault x >>= next) ≡ first_failed ((test, fault) ∷ tests)
step_then true fault x next tests proof = proof refl
step_then false fault x next tests proof = refl

pub last_step : {A : Type 0} (test : Bool) (fault : LtxFault) (x : A)
    → fault_of (where_true test fault x) ≡ first_failed ((test, fault) ∷ [])
last_step true fault x = refl
last_step false fault x = refl

-- ---- numbers by their offset

abbrev read_to : ℕ → List ℕ → Result (ℕ × List ℕ) LtxFault
read_to n rest = Ok (n, rest)

module _ (w : Width) (at : ℕ) (bytes : List ℕ) where
  pub number_here : at + byte_len w ≤ length bytes → number_at w (drop at bytes) ≡ Ok
      (number w at bytes, drop (at + byte_len w) bytes)
  unfolding number_at
  number_here long =
      let enough : ltb (length (drop at bytes)) (byte_len w) ≡ false =
      le-ltb _ _ (omega (arith, length-drop at bytes)) in
      rw (enough, drop-drop (byte_len w) at bytes) refl

  pub number_short : at ≤ length bytes → length bytes < at + byte_len w → number_at w (drop at bytes) ≡ Err Short
  unfolding number_at
  number_short within short =
      let less : ltb (length (drop at bytes)) (byte_len w) ≡ true = lt-ltb _ _ (omega (arith, length-drop at bytes)) in
      rw less refl

  pub behind_here : (n : ℕ) (fault : LtxFault) → at + byte_len w ≤ length bytes
      → behind w n fault (drop at bytes) ≡ where_true (eqb (number w at bytes) n) fault (drop (at + byte_len w) bytes)
  unfolding behind
  behind_here n fault long = rw (number_here long) refl

-- the same to a named end
pub number_to : (w : Width) (at end : ℕ) (bytes : List ℕ) → at + byte_len w ≡ end → end ≤ length bytes
    → number_at w (drop at bytes) ≡ Ok (number w at bytes, drop end bytes)
number_to w at end bytes same long =
    number_here w at bytes (omega (arith, same, long)) ∙ ap (λ (n : ℕ). read_to (number w at bytes) (drop n bytes)) same

-- flags, which are these
pub flags_steps : {B : Type 0} (flags found : ℕ) (next : Unit {0} → Result B LtxFault) (tests : Tests)
    → fault_of (next tt) ≡ first_failed tests
    → fault_of (flags_from flags found >>= next) ≡ first_failed
    ((eqb (found % 2) 0, Compressed) ∷ (eqb found flags, BadFlags) ∷ tests)
unfolding flags_from
flags_steps flags found next tests proof =
    ap fault_of (bind_assoc (where_true (eqb (found % 2) 0) Compressed tt)
    (λ plain. where_true (eqb found flags) BadFlags tt) next)
    ∙ step_then (eqb (found % 2) 0) Compressed tt (λ plain. where_true (eqb found flags) BadFlags tt >>= next)
    ((eqb found flags, BadFlags) ∷ tests) (λ plain. step_then (eqb found flags) BadFlags tt next tests
    (λ same. proof))

pub flags_steps-or : {B : Type 0} (flags found : ℕ) (next : Unit {0} → Result B LtxFault) (rest : Option LtxFault)
    → fault_of (next tt) ≡ rest
    → fault_of (flags_from flags found >>= next) ≡ option_or
    (first_failed ((eqb (found % 2) 0, Compressed) ∷ (eqb found flags, BadFlags) ∷ [])) rest
unfolding flags_from
flags_steps-or flags found next rest proof =
    ap fault_of (bind_assoc (where_true (eqb (found % 2) 0) Compressed tt)
    (λ plain. where_true (eqb found flags) BadFlags tt) next)
    ∙ step (eqb (found % 2) 0) Compressed tt (λ plain. where_true (eqb found flags) BadFlags tt >>= next)
    (option_or (first_failed ((eqb found flags, BadFlags) ∷ [])) rest)
    (λ plain. step (eqb found flags) BadFlags tt next rest (λ same. proof))
    ∙ first_then-or (eqb (found % 2) 0) Compressed ((eqb found flags, BadFlags) ∷ []) rest
