-- Input may be cut into pieces anywhere.
use Rattle.std.specs.Prelude.{◌≡◌, ℕ, ◌%◌, List, ◌++◌, length}
use Rattle.ls_sums.specs.declared.order.Order.{Order}
use Rattle.ls_sums.specs.declared.wal_sum.WalSum.{WalSum}
use Rattle.ls_sums.specs.Crc64.{after_bytes}
use Rattle.ls_sums.specs.WalSum.{words, after_words}

-- the register after one piece of a message and then another is that after both
abbrev pub RegisterOfPieces : Type 0
RegisterOfPieces =
    (register : ℕ) (front back : List ℕ)
    → after_bytes (after_bytes register front) back ≡ after_bytes register (front ++ back)

-- the same of the sums of a log, where the first piece is a number of whole pairs of words
abbrev pub SumsOfPieces : Type 0
SumsOfPieces =
    (order : Order) (sum : WalSum) (front back : List ℕ) → length front % 8 ≡ 0
    → after_words (after_words sum (words order front)) (words order back) ≡ after_words sum
    (words order (front ++ back))
