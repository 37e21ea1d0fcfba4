-- The parts of a path, and that a path is that of one name.
use Rattle.std.proofs.Common.{◌≡◌, ℕ, ◌+◌, ◌^◌, ◌<◌, length, get_or, Some, refl, sym, ap, ◌∙◌, arith}
use mathlib.Core.HLevel.{is_prop→PathP}
use Rattle.std.proofs.Props.{props}
use Rattle.std.specs.List.{slice_range}
use Rattle.std.specs.Prelude.{◌≤◌, IsTrue}
use Rattle.ls_base.specs.Txid.{hex_digits, txid_of}
use Rattle.ls_base.specs.TxidLaws.{txid_of-hex_digits}
use Rattle.replica_store.specs.declared.file_name.FileName.{FileName}
use Rattle.replica_store.specs.Listing.{path_of, IsValid}
use Rattle.replica_store.specs.NameText.{is_level, IsName, file_path}

pub length-file_path : (level min max : ℕ) → length (file_path level min max) ≡ 43
unfolding file_path hex_digits
length-file_path level min max = refl

pub level_part : (level min max : ℕ) → get_or (file_path level min max) 4 0 ≡ 48 + level
unfolding file_path hex_digits
level_part level min max = refl

pub min_part : (level min max : ℕ) → slice_range (file_path level min max) 6 22 ≡ hex_digits min
unfolding file_path hex_digits
min_part level min max = refl

pub max_part : (level min max : ℕ) → slice_range (file_path level min max) 23 39 ≡ hex_digits max
unfolding file_path hex_digits
max_part level min max = refl

same_number : (m n : ℕ) → 0 < m → m < 2 ^ 64 → 0 < n → n < 2 ^ 64 → hex_digits m ≡ hex_digits n → m ≡ n
same_number m n m_positive m_fits n_positive n_fits same =
    let e : Some m ≡ Some n = sym (txid_of-hex_digits m m_positive m_fits) ∙ ap txid_of same
    ∙ txid_of-hex_digits n n_positive n_fits in cc

-- a text is the name of one file
pub one_name : (level min max other_level other_min other_max : ℕ) → IsName level min max
    → IsName other_level other_min other_max → file_path level min max ≡ file_path other_level other_min other_max
    → (level ≡ other_level) × (min ≡ other_min) × (max ≡ other_max)
one_name l m x l' m' x' is is' same =
    let level : 48 + l ≡ 48 + l' = sym (level_part l m x) ∙ ap (λ t. get_or t 4 0) same ∙ level_part l' m' x' in
    let min : hex_digits m ≡ hex_digits m' = sym (min_part l m x) ∙ ap (λ t. slice_range t 6 22) same
    ∙ min_part l' m' x' in
    let max : hex_digits x ≡ hex_digits x' = sym (max_part l m x) ∙ ap (λ t. slice_range t 23 39) same
    ∙ max_part l' m' x' in (
      omega (arith, level),
      same_number m m' (omega (arith, is.from_first)) (omega (arith, is.in_order, is.max_fits))
          (omega (arith, is'.from_first)) (omega (arith, is'.in_order, is'.max_fits)) min,
      same_number x x' (omega (arith, is.from_first, is.in_order)) is.max_fits
          (omega (arith, is'.from_first, is'.in_order)) is'.max_fits max,
    )

known_prop : (level : ℕ) → IsProp (IsTrue (is_level level))
known_prop level = hlevel props

order_prop : (min max : ℕ) → IsProp (min ≤ max)
order_prop min max = hlevel props

first_prop : (level min : ℕ) → IsProp (level ≡ 9 → min ≡ 1)
first_prop level min = hlevel props

-- names of the same parts are one
pub same_parts : (x y : FileName) → x.level ≡ y.level → x.min ≡ y.min → x.max ≡ y.max → x ≡ y
same_parts x y level min max = λ i. record {
  level = level i;
  min = min i;
  max = max i;
  on_level = is_prop→PathP (λ j. IsTrue (is_level (level j))) (λ j. known_prop (level j)) x.on_level y.on_level i;
  in_order = is_prop→PathP (λ j. min j ≤ max j) (λ j. order_prop (min j) (max j)) x.in_order y.in_order i;
  from_first = is_prop→PathP (λ j. level j ≡ 9 → min j ≡ 1) (λ j. first_prop (level j) (min j)) x.from_first
      y.from_first i;
}

-- and so are valid names of one path
pub one_file_name : (x y : FileName) → IsValid x → IsValid y → path_of x ≡ path_of y → x ≡ y
one_file_name x y valid-x valid-y same =
    let parts = one_name x.level x.min x.max y.level y.min y.max valid-x valid-y same in
    same_parts x y parts.0 parts.1 parts.2
