-- Numbers and durations.
use Rattle.std.proofs.Common.{◌≡◌, ◌≢◌, ℕ, ◌+◌, ◌-◌, ◌^◌, ◌<◌, ◌≤◌, Bool, true, false, cond, ◌&&◌, eqb, ltb, leb, List}
use Rattle.std.proofs.Common.{[], ◌∷◌, ◌++◌, length, take, Option, Some, None, Result, Ok, Err, refl, sym, ap, ◌∙◌}
use Rattle.std.proofs.Common.{eq-eqb, arith, Bor}
use Rattle.std.specs.Prelude.{MatchOption, option_copied}
use Rattle.std.specs.Result.{OkIff, result_ok}
use Rattle.std.specs.Str.Parse.{digits_value, ParsesUnsigned}
use Rattle.std.proofs.lemmas.Bool.{ne_eqb, and_parts, leb-true, ltb-true}
use Rattle.std.proofs.Math.Seq.{take-append_seam}
use Rattle.std.proofs.lemmas.List.{take_more, take_all, length_push, get_or_push}
use Rattle.std.proofs.lemmas.Str.Parse.{parse_digits}
use Rattle.ls_words.specs.Digit.{all_digits}
use Rattle.ls_words.specs.Value.{is_number, is_within, number_of, last_of, before_last, without_last, timed}
use Rattle.ls_words.specs.Value.{duration_of}
use Rattle.ls_words.proofs.DigitLemmas.{numerals}

-- what isn't a number's digits
pub no_number : (most low high : ℕ) (text : List ℕ) → is_number most text ≡ false → None ≡ number_of most low high text
unfolding number_of
no_number most low high text e = rw e refl

and_false : (b c : Bool) → c ≡ false → (b && c) ≡ false
and_false true c e = e
and_false false c e = refl

-- a number out of range
pub out_of_range : (most low high : ℕ) (text : List ℕ) → is_within low high (digits_value 10 text) ≡ false
    → None ≡ number_of most low high text
unfolding number_of
out_of_range most low high text e = rw (and_false (is_number most text) _ e) refl

pub in_range : (most low high : ℕ) (text : List ℕ) → is_number most text ≡ true
    → is_within low high (digits_value 10 text) ≡ true → Some (digits_value 10 text) ≡ number_of most low high text
unfolding number_of
in_range most low high text number within = rw (number, within) refl

above : (low high n : ℕ) → high < n → is_within low high n ≡ false
unfolding is_within
above low high n lt = and_false (leb low n) (leb n high) (grind (arith, leb-true))

-- what `parse` reads of a number's digits
parsed : {E : Type 0} (most : ℕ) (text : List ℕ) (r : Result ℕ E) → is_number most text ≡ true
    → ParsesUnsigned 64 10 text r → OkIff r ((0 < length text) × (digits_value 10 text < 2 ^ 64)) (digits_value 10 text)
unfolding is_number
parsed most text r number parses = parse_digits numerals 64 text r parses (and_parts (all_digits text) _ number).0

some_digits : (most : ℕ) (text : List ℕ) → is_number most text ≡ true → 0 < length text
unfolding is_number
some_digits most text number = ltb-true 0 (length text)
    (and_parts (ltb 0 (length text)) _ (and_parts (all_digits text) _ number).1).0

too_large : {E : Type 0} (text : List ℕ) (r : Result ℕ E) → 0 < length text
    → OkIff r ((0 < length text) × (digits_value 10 text < 2 ^ 64)) (digits_value 10 text) → result_ok r ≡ None
    → 2 ^ 64 ≤ digits_value 10 text
too_large text (Ok n) some reads none = absurd cc
too_large text (Err e) some reads none = grind (arith, reads)

read_value : {E : Type 0} (text : List ℕ) (r : Result ℕ E) (n : ℕ)
    → OkIff r ((0 < length text) × (digits_value 10 text < 2 ^ 64)) (digits_value 10 text) → result_ok r ≡ Some n
    → n ≡ digits_value 10 text
read_value text (Ok m) n reads some = let e : ◌≡◌ {A = Option ℕ} (Some m) (Some n) = some in cc
read_value text (Err e) n reads some = absurd cc

-- digits that `parse` doesn't read write a number out of range
pub not_read : {E : Type 0} (most low high : ℕ) (text : List ℕ) (r : Result ℕ E) → is_number most text ≡ true
    → high < 2 ^ 64 → ParsesUnsigned 64 10 text r → result_ok r ≡ None → None ≡ number_of most low high text
not_read most low high text r number fits parses none =
    let large = too_large text r (some_digits most text number) (parsed most text r number parses) none in
    out_of_range most low high text (above low high (digits_value 10 text) (omega arith))

-- and what it reads is what they write
pub value_read : {E : Type 0} (most : ℕ) (text : List ℕ) (r : Result ℕ E) (n : ℕ) → is_number most text ≡ true
    → ParsesUnsigned 64 10 text r → result_ok r ≡ Some n → n ≡ digits_value 10 text
value_read most text r n number parses some = read_value text r n (parsed most text r number parses) some

last-push : (front : List ℕ) (c : ℕ) → last_of (front ++ c ∷ []) ≡ c
last-push front c = let e = length_push front c in get_or_push front c 0 (length (front ++ c ∷ []) - 1) (omega arith)

front-push : (front : List ℕ) (c : ℕ) → before_last (front ++ c ∷ []) ≡ front
front-push front c =
    let e : length (front ++ c ∷ []) - 1 ≡ length front = omega (arith, length_push front c) in
    ap (λ n. take n (front ++ c ∷ [])) e ∙ take-append_seam front (c ∷ [])

cut_last : (text : List ℕ) (c : ℕ) → 0 < length text → last_of text ≡ c → text ≡ before_last text ++ c ∷ []
cut_last text c some e =
    sym (take_all (length text - 1 + 1) text (omega arith)) ∙ take_more text (length text - 1) 0 (omega arith)
    ∙ ap (λ d. before_last text ++ d ∷ []) e

not_empty : (text : List ℕ) (c : ℕ) → 0 < c → last_of text ≡ c → 0 < length text
not_empty [] c some e = absurd (omega arith)
not_empty (d ∷ ds) c some e = omega arith

-- what a search for a last character leaves
pub without-from_strip : (c : ℕ) (text : List ℕ) (r : Option (Bor (List ℕ))) → 0 < c
    → MatchOption r ((front : List ℕ) → text ≢ front ++ c ∷ []) (λ x. text ≡ x.now ++ c ∷ [])
    → option_copied r ≡ without_last c text
unfolding without_last
without-from_strip c text None some strips =
    let other : eqb (last_of text) c ≡ false = ne_eqb (last_of text) c
    (λ e. strips (before_last text) (cut_last text c (not_empty text c some e) e)) in
    rw other refl
without-from_strip c text (Some x) some strips =
    let here : eqb (last_of text) c ≡ true = eq-eqb (last_of text) c (ap last_of strips ∙ last-push x.now c) in
    let front : before_last text ≡ x.now = ap before_last strips ∙ front-push x.now c in
    rw (here, front) refl

picked : (b : Bool) (x d : List ℕ) → Some d ≡ cond b (Some x) None → (b ≡ true) × (d ≡ x)
picked true x d e = (refl, cc)
picked false x d e = absurd cc

passed : (b : Bool) (x : List ℕ) → None ≡ cond b (Some x) None → b ≡ false
passed true x e = absurd cc
passed false x e = refl

pub found_last : (c : ℕ) (text digits : List ℕ) → Some digits ≡ without_last c text → (eqb (last_of text) c ≡ true)
    × (digits ≡ before_last text)
unfolding without_last
found_last c text digits e = picked (eqb (last_of text) c) (before_last text) digits e

pub no_last : (c : ℕ) (text : List ℕ) → None ≡ without_last c text → eqb (last_of text) c ≡ false
unfolding without_last
no_last c text e = passed (eqb (last_of text) c) (before_last text) e

-- an answer that is none of the values
pub none_from : (r : Option (Bor (List ℕ))) (o : Option (List ℕ)) → option_copied r ≡ o
    → ((x : Bor (List ℕ)) → r ≢ Some x) → None ≡ o
none_from None o e none = e
none_from (Some x) o e none = absurd (none x refl)

pub hours : (text digits : List ℕ) → Some digits ≡ without_last 104 text → timed 3600000 digits ≡ duration_of text
unfolding duration_of
hours text digits e = let f = found_last 104 text digits e in rw f.1 (rw f.0 refl)

pub minutes : (text digits : List ℕ) → None ≡ without_last 104 text → Some digits ≡ without_last 109 text
    → timed 60000 digits ≡ duration_of text
unfolding duration_of
minutes text digits h e = let n = no_last 104 text h in let f = found_last 109 text digits e in rw f.1
    (rw (n, f.0) refl)

pub no_unit : (text : List ℕ) → None ≡ without_last 104 text → None ≡ without_last 109 text
    → None ≡ without_last 115 text → None ≡ duration_of text
unfolding duration_of
no_unit text h m s = rw (no_last 104 text h, no_last 109 text m, no_last 115 text s) refl

pub millis : (text front digits : List ℕ) → None ≡ without_last 104 text → None ≡ without_last 109 text
    → Some front ≡ without_last 115 text → Some digits ≡ without_last 109 front → timed 1 digits ≡ duration_of text
unfolding duration_of
millis text front digits h m s e =
    let f = found_last 115 text front s in
    let g = found_last 109 front digits e in
    let ends : eqb (last_of (before_last text)) 109 ≡ true = ap (λ t. eqb (last_of t) 109) (sym f.1) ∙ g.0 in
    rw (g.1, f.1) (rw (no_last 104 text h, no_last 109 text m, f.0, ends) refl)

pub seconds : (text front : List ℕ) → None ≡ without_last 104 text → None ≡ without_last 109 text
    → Some front ≡ without_last 115 text → None ≡ without_last 109 front → timed 1000 front ≡ duration_of text
unfolding duration_of
seconds text front h m s e =
    let f = found_last 115 text front s in
    let ends : eqb (last_of (before_last text)) 109 ≡ false = ap (λ t. eqb (last_of t) 109) (sym f.1)
    ∙ no_last 109 front e in
    rw f.1 (rw (no_last 104 text h, no_last 109 text m, f.0, ends) refl)
