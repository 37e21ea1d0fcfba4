-- The laws of the reader of an index.
use Rattle.std.proofs.Common.{◌≡◌, ℕ, ◌^◌, ◌<◌, Bool, true, false, eqb, List, [], ◌∷◌, ◌++◌, length, Ok, refl, subst}
use Rattle.std.proofs.Common.{ap, ◌∙◌, append_assoc}
use Rattle.std.specs.List.{flat_map}
use Rattle.std.specs.Int.{w32, to_be_bytes}
use Rattle.std.proofs.lemmas.Bool.{eqb-true, eq-eqb}
use Rattle.ltx_format.specs.declared.fault.LtxFault.TheVariants.{BadIndex}
use Rattle.ltx_format.specs.LtxFormat.{index_part}
use Rattle.ltx_format.specs.Reading.{number_at, entry_at, numbers_at, index_at, index_part_at}
use Rattle.ltx_format.proofs.StepLemmas.{bind_then, where_true-ok, same_ok}
use Rattle.ltx_format.proofs.FieldLaws.{AreBytes, BeginsWith, BeginsWith-then, numbers32, number-read, number-again}
use Rattle.ltx_format.proofs.FieldLaws.{behind-read, behind-again}

-- the numbers' bytes
abbrev pub number_fields : List ℕ → List ℕ
number_fields = flat_map (to_be_bytes w32)

numbers-read : (numbers bytes rest : List ℕ) → AreBytes bytes → numbers_at numbers bytes ≡ Ok rest
    → BeginsWith bytes (number_fields numbers) rest
unfolding numbers_at entry_at
numbers-read [] bytes rest small e = record {
  whole = same_ok bytes rest e;
  small =
      subst AreBytes (same_ok bytes rest e) small;
}
numbers-read (n ∷ numbers) bytes rest small e =
    bind_then (entry_at n bytes) _ rest e (λ others others_is e.
    bind_then (number_at w32 bytes) _ others others_is (λ found found_is f.
    let same = where_true-ok (eqb found.0 n) (BadIndex found.0) found.1 others f in
    let read = number-read numbers32 bytes found small found_is in
    let begins : BeginsWith bytes (to_be_bytes w32 n) others =
    subst (λ (m : ℕ). BeginsWith bytes (to_be_bytes w32 m) others) (eqb-true found.0 n same.0)
    (subst (λ (r : List ℕ). BeginsWith bytes (to_be_bytes w32 found.0) r) same.1 read.0) in
    BeginsWith-then bytes (to_be_bytes w32 n) others (number_fields numbers) rest begins
    (numbers-read numbers others rest begins.small e)))

-- every number has 32 bits
abbrev pub AllFit : List ℕ → Type 0
AllFit [] = Unit {0}
AllFit (n ∷ numbers) = (n < 2 ^ 32) × AllFit numbers

entry-again : (n : ℕ) (rest : List ℕ) → n < 2 ^ 32 → entry_at n (to_be_bytes w32 n ++ rest) ≡ Ok rest
unfolding entry_at
entry-again n rest fits = rw (number-again numbers32 n rest fits, eq-eqb n n refl) refl

numbers-again : (numbers rest : List ℕ) → AllFit numbers → numbers_at numbers (number_fields numbers ++ rest) ≡ Ok rest
unfolding numbers_at
numbers-again [] rest fit = refl
numbers-again (n ∷ numbers) rest fit =
    ap (numbers_at (n ∷ numbers)) (append_assoc (to_be_bytes w32 n) (number_fields numbers) rest)
    ∙ rw (entry-again n (number_fields numbers ++ rest) fit.0) (numbers-again numbers rest fit.1)

pub index_part-read : (index : Bool) (numbers bytes rest : List ℕ) → AreBytes bytes
    → index_part_at index numbers bytes ≡ Ok rest → BeginsWith bytes (index_part index numbers) rest
unfolding index_part_at index_at
index_part-read true numbers bytes rest small e =
    bind_then (numbers_at numbers bytes) _ rest e (λ last last_is e.
    let first = numbers-read numbers bytes last small last_is in
    BeginsWith-then bytes (number_fields numbers) last (to_be_bytes w32 (length numbers)) rest first
    (behind-read numbers32 (length numbers) (BadIndex 0) last rest first.small e))
index_part-read false numbers bytes rest small e = record {
  whole = same_ok bytes rest e;
  small =
      subst AreBytes (same_ok bytes rest e) small;
}

pub index_part-again : (index : Bool) (numbers rest : List ℕ) → AllFit numbers → length numbers < 2 ^ 32
    → index_part_at index numbers (index_part index numbers ++ rest) ≡ Ok rest
unfolding index_part_at index_at
index_part-again true numbers rest fit few =
    ap (index_at numbers) (append_assoc (number_fields numbers) (to_be_bytes w32 (length numbers)) rest)
    ∙ rw (numbers-again numbers (to_be_bytes w32 (length numbers) ++ rest) fit)
    (behind-again numbers32 (length numbers) (BadIndex 0) rest few)
index_part-again false numbers rest fit few = refl
