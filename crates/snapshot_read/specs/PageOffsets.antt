-- What contracts see of a map from page numbers to offsets in a log.
use Rattle.std.specs.Prelude.{◌≡◌, ℕ, refl}
use Rattle.std.specs.Option.{option_or}
use Rattle.std.specs.Ordering.{nat_cmp}
use Rattle.std.specs.FinMap.{FinMap, get, code}
use Rattle.std.specs.Coded.{Coded, code_by, coded×, coded_ℕ}

abbrev pub Offsets : Type 0
Offsets = FinMap nat_cmp ℕ

pub record PageOffsets : Type 0 where
  -- by the page's number, the offset in the log, in bytes from its start, at which the page begins
  pub offsets : Offsets
  -- at least so many further numbers find room without taking memory
  pub spare : ℕ

-- it is stored as the pair of its fields
abbrev pub page_offsets_code : Coded PageOffsets
page_offsets_code =
    code_by (Offsets × ℕ) (coded× (code coded_ℕ coded_ℕ) coded_ℕ) (λ m. (m.offsets, m.spare))
    (λ p. record { offsets = p.0; spare = p.1 }) (λ _. refl)

-- each number has what the newer map has there, else what the old one has
pub record IsTakenIn (old newer new : Offsets) : Type 0 where
  pub each : (number : ℕ) → get new number ≡ option_or (get newer number) (get old number)
