-- The generator: a linear congruential generator of 64 bits. This project's rule.
use Rattle.std.specs.Prelude.{ℕ, zero, suc, ◌+◌, ◌*◌, ◌/◌, ◌%◌, ◌^◌}

-- the number that follows
unfoldable pub advanced : ℕ → ℕ
advanced x = (x * 6364136223846793005 + 1442695040888963407) % 2 ^ 64

-- the number that follows after so many steps
unfoldable pub advanced_by : ℕ → ℕ → ℕ
advanced_by zero x = x
advanced_by (suc n) x = advanced (advanced_by n x)

-- a number below the bound: the high bits of the number that follows
abbrev pub drawn : ℕ → ℕ → ℕ
drawn x bound = advanced x / 2 ^ 33 % bound
