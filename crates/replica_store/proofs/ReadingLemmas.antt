-- Why a text that a name writes is read.
use Rattle.std.proofs.Common.{◌≡◌, ℕ, ◌+◌, ◌-◌, ◌^◌, ◌<◌, ◌≤◌, ◌≢◌, Bool, true, false, not, List, get_or, Option, Some}
use Rattle.std.proofs.Common.{None, refl, sym, ap, subst, ◌∙◌, arith}
use Rattle.std.specs.Option.{IfNone, SomeIff}
use Rattle.std.specs.Prelude.{IsUtf8}
use Rattle.std.specs.Str.{bytes_eq}
use Rattle.std.proofs.lemmas.Slice.Eq.{bytes_eq-Decides}
use Rattle.std.specs.List.{slice_range}
use Rattle.std.proofs.lemmas.Str.{IsUtf8-from_ascii}
use Rattle.std.proofs.lemmas.Option.{none-some}
use Rattle.ls_base.specs.Txid.{hex_digits}
use Rattle.replica_store.specs.NameText.{IsName, file_path}
use Rattle.replica_store.proofs.PathLemmas.{level_part, min_part, max_part}
use Rattle.replica_store.proofs.NameLemmas.{ascii_digits}

-- what is to be shown where a text isn't read
abbrev NoName : List ℕ → Type 0
NoName text = (level min max : ℕ) → IsName level min max → text ≢ file_path level min max

pub if_none : {T : Type 0} (o : Option T) (text : List ℕ)
    → ((level min max : ℕ) → IsName level min max → text ≡ file_path level min max → ⊥) → IfNone o (NoName text)
if_none None text h = h
if_none (Some x) text h = tt

-- the text isn't another one
pub is_same : (written text : List ℕ) → true ≡ not (bytes_eq written text) → written ≡ text → ⊥
is_same written text other same = let found : bytes_eq written text ≡ true = (bytes_eq-Decides written text).1 same in
    absurd (subst (λ b. true ≡ not b → ⊥) (sym found) (λ e. cc) other)

by_answer : {P : Type 0} (b : Bool) → false ≡ not b → (b ≡ true → P) → P
by_answer true e f = f refl
by_answer false e f = absurd cc

-- and where it isn't another one, it is that one
pub are_same : (written text : List ℕ) → false ≡ not (bytes_eq written text) → written ≡ text
are_same written text same = by_answer (bytes_eq written text) same (bytes_eq-Decides written text).0

pub utf8_digits : (n : ℕ) (digits : List ℕ) → digits ≡ hex_digits n → IsUtf8 digits
utf8_digits n digits same = subst IsUtf8 (sym same) (IsUtf8-from_ascii (hex_digits n) (ascii_digits n))

-- a transaction of the name wasn't read, although it was there
pub not_read : (n : ℕ) (o : Option ℕ) → (0 < n → n < 2 ^ 64 → o ≡ Some n) → o ≡ None → 0 < n → n < 2 ^ 64 → ⊥
not_read n o reads none positive fits = none-some n (sym none ∙ reads positive fits)

pub min_of : (text : List ℕ) (level min max : ℕ) → text ≡ file_path level min max
    → slice_range text 6 22 ≡ hex_digits min
min_of text level min max same = ap (λ t. slice_range t 6 22) same ∙ min_part level min max

pub max_of : (text : List ℕ) (level min max : ℕ) → text ≡ file_path level min max
    → slice_range text 23 39 ≡ hex_digits max
max_of text level min max same = ap (λ t. slice_range t 23 39) same ∙ max_part level min max

-- the level's digit is there
pub level_is : (text : List ℕ) (level min max : ℕ) → text ≡ file_path level min max → get_or text 4 0 ≡ 48 + level
level_is text level min max same = ap (λ t. get_or t 4 0) same ∙ level_part level min max

pub no_level : (n level : ℕ) (o : Option ℕ) → SomeIff o (48 ≤ n) (n - 48) → o ≡ None → n ≡ 48 + level → ⊥
no_level n level None is none e = is (omega (arith, e))
no_level n level (Some x) is none e = none-some x (sym none)

pub same_level : (n level found : ℕ) (o : Option ℕ) → SomeIff o (48 ≤ n) (n - 48) → o ≡ Some found → n ≡ 48 + level
    → found ≡ level
same_level n level found None is some e = absurd (none-some found some)
same_level n level found (Some x) is some e = let given : x ≡ found = cc in omega (arith, is.1, given, e)

pub same_txid : (n found : ℕ) (o : Option ℕ) → (0 < n → n < 2 ^ 64 → o ≡ Some n) → o ≡ Some found → 0 < n → n < 2 ^ 64
    → found ≡ n
same_txid n found o reads some positive fits = let e : Some found ≡ Some n = sym some ∙ reads positive fits in cc

pub same_name : (level min max l m x : ℕ) → l ≡ level → m ≡ min → x ≡ max → IsName level min max → IsName l m x
same_name level min max l m x a b c is = rw (a, b, c) is

pub same_path : (level min max l m x : ℕ) → l ≡ level → m ≡ min → x ≡ max → file_path l m x ≡ file_path level min max
same_path level min max l m x a b c = rw (a, b, c) refl
