-- The checksum of a log: SQLite database file format, section 4.2.
use Rattle.std.specs.Prelude.{ℕ, ◌+◌, ◌*◌, ◌%◌, ◌^◌, List, [], ◌∷◌}
use Rattle.ls_sums.specs.declared.order.Order.{Order}
use Rattle.ls_sums.specs.declared.order.Order.TheVariants.{Little, Big}
use Rattle.ls_sums.specs.declared.wal_sum.WalSum.{WalSum}

-- four bytes as one word
abbrev pub word : Order → ℕ → ℕ → ℕ → ℕ → ℕ
word Little a b c d = a + 0x100 * b + 0x1_0000 * c + 0x100_0000 * d
word Big a b c d = 0x100_0000 * a + 0x1_0000 * b + 0x100 * c + d

-- the words that the bytes hold, one behind the other
abbrev pub words : Order → List ℕ → List ℕ
words order (a ∷ b ∷ c ∷ d ∷ bytes) = word order a b c d ∷ words order bytes
words order _ = []

-- The sums after two more words x and y, modulo 2^32: x and the second sum are added to the first, and
-- then y and the new first sum to the second.
abbrev pub after_pair : WalSum → ℕ → ℕ → WalSum
after_pair sum x y =
    let first = (sum.s0 + x + sum.s1) % 2 ^ 32 in record { s0 = first; s1 = (sum.s1 + y + first) % 2 ^ 32 }

-- the sums after the words, two at a time
abbrev pub after_words : WalSum → List ℕ → WalSum
after_words sum (x ∷ y ∷ words) = after_words (after_pair sum x y) words
after_words sum _ = sum
