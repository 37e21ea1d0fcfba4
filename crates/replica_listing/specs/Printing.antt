-- A text that goes out in pieces.
use Rattle.std.specs.Prelude.{◌≡◌, ℕ, List, ◌++◌, Option}
use Rattle.crash_disk.specs.Output.{gains_text}

-- of the bytes the rest is held back, and what stands before it was put
pub record HasPutUpTo (before now : Option (List ℕ)) (bytes rest : List ℕ) : Type 0 where
  pub sent : List ℕ
  pub text : now ≡ gains_text before sent
  pub split : sent ++ rest ≡ bytes
