-- The text of a name is ASCII.
use Rattle.std.proofs.Common.{◌≡◌, ℕ, ◌+◌, ◌-◌, ◌*◌, ◌/◌, ◌%◌, ◌^◌, ◌<◌, ◌≤◌, Bool, true, false, ltb, eqb, ◌||◌, List}
use Rattle.std.proofs.Common.{[], ◌∷◌, ◌++◌, map, refl, ⊎_elim, arith}
use Rattle.std.specs.Prelude.{IsAscii, codes}
use Rattle.std.specs.List.{list_all, range_with_len}
use Rattle.std.proofs.lemmas.Bool.{ltb-true, and_parts, or_cases, eqb-true}
use Rattle.std.proofs.lemmas.Bool.Decides.{nat_tests}
use Rattle.std.proofs.lemmas.Str.{IsAscii-append}
use Rattle.std.proofs.lemmas.Str.Ascii.{IsAscii-nil, IsAscii-cons}
use Rattle.ls_base.specs.Txid.{hex_digit, hex_digits}
use Rattle.replica_store.specs.NameText.{is_level, file_path}
use Rattle.replica_store.specs.Putting.{draft_path}

ascii_tested : (bs : List ℕ) → list_all (λ b. ltb b 128) bs ≡ true → IsAscii bs
ascii_tested [] e = IsAscii-nil
ascii_tested (b ∷ bs) e = let parts = and_parts (ltb b 128) _ e in IsAscii-cons b bs (ltb-true b 128 parts.0)
    (ascii_tested bs parts.1)

ascii_mapped : (f : ℕ → ℕ) (xs : List ℕ) → ((x : ℕ) → f x < 128) → IsAscii (map f xs)
ascii_mapped f [] small = IsAscii-nil
ascii_mapped f (x ∷ xs) small = IsAscii-cons (f x) (map f xs) (small x) (ascii_mapped f xs small)

digit_small : (n : ℕ) → hex_digit (n % 16) < 128
digit_small n = let below : n % 16 < 16 = omega arith in grind (arith, nat_tests)

pub ascii_digits : (n : ℕ) → IsAscii (hex_digits n)
unfolding hex_digits
ascii_digits n = ascii_mapped _ (range_with_len 0 16) (λ k. digit_small (n / 2 ^ (4 * (15 - k))))

level_small : (level : ℕ) → is_level level ≡ true → level ≤ 9
level_small level e =
    let next : (known : ℕ) → known ≤ 9 → (b : Bool) → (b ≡ true → level ≤ 9) → (eqb known level || b) ≡ true → level ≤ 9
    = λ known small b later is. ⊎_elim (λ same. omega (arith, eqb-true known level same)) later
    (or_cases (eqb known level) b is) in
    next 0 (omega arith) _ (next 1 (omega arith) _
    (next 2 (omega arith) _ (next 3 (omega arith) _ (next 9 (omega arith) false (λ no. absurd cc))))) e

pub ascii_path : (level min max : ℕ) → is_level level ≡ true → IsAscii (file_path level min max)
unfolding file_path
ascii_path level min max known =
    let start = codes "ltx/" in
    let middle = (48 + level) ∷ codes "/" in
    let dash = codes "-" in
    let end = codes ".ltx" in
    let a = IsAscii-append start middle (ascii_tested start refl)
    (IsAscii-cons (48 + level) (codes "/") (omega (arith, level_small level known))
    (ascii_tested (codes "/") refl)) in
    let b = IsAscii-append (start ++ middle) (hex_digits min) a (ascii_digits min) in
    let c = IsAscii-append (start ++ middle ++ hex_digits min) dash b (ascii_tested dash refl) in
    let d = IsAscii-append (start ++ middle ++ hex_digits min ++ dash) (hex_digits max) c (ascii_digits max) in
    IsAscii-append (start ++ middle ++ hex_digits min ++ dash ++ hex_digits max) end d (ascii_tested end refl)

-- and so is that of its temporary name
pub ascii_draft : (level min max : ℕ) → is_level level ≡ true → IsAscii (draft_path (file_path level min max))
ascii_draft level min max known = IsAscii-append (file_path level min max) (codes ".tmp")
    (ascii_path level min max known) (ascii_tested (codes ".tmp") refl)
