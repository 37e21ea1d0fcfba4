-- The bytes of a frame that hasn't come whole yet.
use Rattle.std.specs.Prelude.{ℕ, List}

pub record PartState : Type 0 where
  -- how many bytes there is room for
  pub room : ℕ
  pub bytes : List ℕ
