-- The page size of a header.
use Rattle.std.proofs.Common.{◌≡◌, ℕ, List, ◌^◌, ◌<◌, Option, Some, None, Err, false, refl, arith}
use Rattle.std.specs.Option.{SomeIff}
use Rattle.std.proofs.lemmas.Bool.{false_from_ne_true}
use Rattle.std.proofs.Math.Pow.{pow-lt}
use Rattle.ls_base.specs.PageSize.{IsPageSize, is_page_size}
use Rattle.ls_base.proofs.PageSizeLemmas.{size_from_test}
use Rattle.ls_sums.specs.declared.order.Order.{Order}
use Rattle.wal_frames.specs.declared.fault.WalHeaderFault.TheVariants.{BadSize}
use Rattle.wal_frames.specs.WalFormat.{field_at, read_behind_magic}

-- where no size was made of a number, it is none
is_no_size : (n : ℕ) (size : Option ℕ) → SomeIff size (IsPageSize n) n → size ≡ None → is_page_size n ≡ false
is_no_size n None none e = false_from_ne_true _ (λ passes. none (size_from_test n passes))
is_no_size n (Some size) some e = absurd cc

pub no_size_read : (order : Order) (bytes : List ℕ) (size : Option ℕ) → field_at bytes 4 ≡ 3007000
    → SomeIff size (IsPageSize (field_at bytes 8)) (field_at bytes 8) → size ≡ None
    → read_behind_magic (Some order) bytes ≡ Err BadSize
no_size_read order bytes size version made none = rw (version, is_no_size (field_at bytes 8) size made none) refl

-- a page size fits four bytes
pub page_size_fits : (n : ℕ) → IsPageSize n → n < 256 ^ 4
page_size_fits n size = rw size.3 (pow-lt {i = size.0} {j = 32} (omega (arith, size.2)))
