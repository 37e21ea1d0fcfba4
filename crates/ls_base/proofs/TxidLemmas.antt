-- Texts of transaction numbers.
use Rattle.std.proofs.Common.{◌≡◌, ℕ, ◌^◌, ◌<◌, ◌≤◌, Bool, true, false, cond, eqb, leb, List, [], ◌∷◌, length, get_or}
use Rattle.std.proofs.Common.{drop, Option, Some, None, Result, Ok, Err, Decides, refl, sym, ap, subst, ◌∙◌, arith}
use Rattle.std.specs.Prelude.{slice_index}
use Rattle.std.specs.Option.{SomeIff}
use Rattle.std.specs.Result.{result_ok}
use Rattle.std.specs.Char.{digit_value, is_digit}
use Rattle.std.specs.List.{list_all}
use Rattle.std.specs.Str.Parse.{AllDigits, IsNumeral, digits_value, without_leading_plus, ParsesUnsigned}
use Rattle.std.proofs.Math.Nat.{pow-le-pow_right}
use Rattle.std.proofs.lemmas.Int.Digits.{digits_value-lt}
use Rattle.std.proofs.lemmas.Bool.{ne_eqb, false≢true, and_from, and_parts, lt-ltb, ltb-true, le-leb, leb-true}
use Rattle.ls_base.specs.Txid.{IsTxidText, is_txid_text, txid_of}

-- a text without a plus is read whole
no_plus : (text : List ℕ) → eqb (slice_index text 0) 43 ≡ false → without_leading_plus text ≡ text
no_plus text e = ap (λ b. drop (cond b 1 0) text) e

-- 16 digits fit
fits : (text : List ℕ) → IsNumeral 16 text → length text ≤ 16 → digits_value 16 text < 2 ^ 64
fits text digits short =
    let bound : 16 ^ length text ≤ 16 ^ 16 = pow-le-pow_right {n = 16} (omega arith) short in
    omega (arith, digits_value-lt 16 text digits.1, bound)

-- what can't be parsed is no such text
pub none_from_err : {E : Type 0} (text : List ℕ) (r : Result ℕ E) → eqb (slice_index text 0) 43 ≡ false
    → length text ≤ 16 → ParsesUnsigned 64 16 text r → result_ok r ≡ None → IsTxidText text → ⊥
none_from_err text (Ok n) plain short parses none is = absurd cc
none_from_err text (Err e) plain short parses none is =
    parses (subst (λ t. IsNumeral 16 t × (digits_value 16 t < 2 ^ 64)) (sym (no_plus text plain))
    (is.digits, fits text is.digits short))

abbrev given : ℕ → Option ℕ
given n = Some n

same_some : (m n : ℕ) → given m ≡ given n → m ≡ n
same_some m n e = cc

-- the condition said in another way
narrowed : (o : Option ℕ) (P Q : Type 0) (n m : ℕ) → n ≡ m → (P → Q) → (Q → P) → SomeIff o P n → SomeIff o Q m
narrowed None P Q n m e there back is = λ q. is (back q)
narrowed (Some x) P Q n m e there back is = (there is.0, is.1 ∙ e)

-- a text that the search for a plus did not find at its front
pub no_plus_first : (text : List ℕ) (found : Bool) → Decides found (get_or text 0 0 ≡ 43) → found ≡ false
    → eqb (slice_index text 0) 43 ≡ false
no_plus_first text found decides not_found = ne_eqb (get_or text 0 0) 43
    (λ e. absurd (false≢true (sym not_found ∙ decides.1 e)))

-- and what is parsed is one unless it is 0
pub some_from_ok : {E : Type 0} (text : List ℕ) (r : Result ℕ E) (n : ℕ) (o : Option ℕ)
    → eqb (slice_index text 0) 43 ≡ false → length text ≤ 16 → ParsesUnsigned 64 16 text r → result_ok r ≡ Some n
    → SomeIff o (0 < n) n → SomeIff o (IsTxidText text) (digits_value 16 text)
some_from_ok text (Err e) n o plain short parses some is = absurd cc
some_from_ok text (Ok m) n o plain short parses some is =
    let whole = subst (λ t. (IsNumeral 16 t × (digits_value 16 t < 2 ^ 64)) × (m ≡ digits_value 16 t))
    (no_plus text plain) parses in
    let n-is : n ≡ digits_value 16 text = omega (arith, whole.1, same_some m n some) in
    narrowed o (0 < n) (IsTxidText text) n (digits_value 16 text) n-is
    (λ positive. record { digits = whole.0.0; short = short; positive = omega arith })
    (λ is. omega (arith, is.positive)) is

all_digits : (text : List ℕ) → AllDigits 16 text → list_all (λ c. is_digit c 16) text ≡ true
all_digits [] h = refl
all_digits (c ∷ cs) h = and_from _ _ (lt-ltb (digit_value c) 16 h.0) (all_digits cs h.1)

digits_all : (text : List ℕ) → list_all (λ c. is_digit c 16) text ≡ true → AllDigits 16 text
digits_all [] h = tt
digits_all (c ∷ cs) h = let parts = and_parts (is_digit c 16) _ h in
    (ltb-true (digit_value c) 16 parts.0, digits_all cs parts.1)

not_empty : (text : List ℕ) → 0 < digits_value 16 text → 0 < length text
not_empty [] h = absurd (omega arith)
not_empty (c ∷ cs) h = omega arith

test_passes : (text : List ℕ) → IsTxidText text → is_txid_text text ≡ true
test_passes text is = and_from _ _ (le-leb _ _ is.short)
    (and_from _ _ (all_digits text is.digits.1) (lt-ltb _ _ is.positive))

from_test : (text : List ℕ) → is_txid_text text ≡ true → IsTxidText text
from_test text e =
    let a = and_parts (leb (length text) 16) _ e in
    let b = and_parts (list_all (λ c. is_digit c 16) text) _ a.1 in
    let positive = ltb-true 0 (digits_value 16 text) b.1 in
    record { digits = (not_empty text positive, digits_all text b.0); short = leb-true _ _ a.0; positive = positive }

chosen : (b : Bool) (text : List ℕ) (o : Option ℕ) → (IsTxidText text → b ≡ true) → (b ≡ true → IsTxidText text)
    → SomeIff o (IsTxidText text) (digits_value 16 text) → o ≡ cond b (Some (digits_value 16 text)) None
chosen true text None there back is = absurd (is (back refl))
chosen true text (Some x) there back is = ap (λ n. Some n) is.1
chosen false text None there back is = refl
chosen false text (Some x) there back is = absurd (false≢true (there is.0))

-- what reads such texts exactly gives what they write
pub txid_of-from_iff : (text : List ℕ) (o : Option ℕ) → SomeIff o (IsTxidText text) (digits_value 16 text)
    → o ≡ txid_of text
unfolding txid_of
txid_of-from_iff text o is = chosen (is_txid_text text) text o (test_passes text) (from_test text) is

plus_first : (text : List ℕ) → AllDigits 16 text → 0 < length text → get_or text 0 0 ≡ 43 → ⊥
plus_first [] h some e = omega arith
plus_first (c ∷ cs) h some e = absurd (omega (arith, subst (λ d. digit_value d < 16) e h.0))

-- a text that begins with a plus is no such text
pub plus_is_no_digit : (text : List ℕ) → IsTxidText text → (found : Bool) → Decides found (get_or text 0 0 ≡ 43)
    → found ≡ true → ⊥
plus_is_no_digit text is found decides e = plus_first text is.digits.1 is.digits.0 (decides.0 e)
