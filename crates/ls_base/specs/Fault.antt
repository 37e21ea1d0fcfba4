-- What a fault of the outside rests on: a count of faults that contracts see.
use Rattle.std.specs.Prelude.{ℕ, ◌+◌, ◌-◌, ◌^◌, ◌≤◌, min, Result, IsErr}

-- the count rose, or stands at its last value
pub record Rose (before now : ℕ) : Type 0 where
  pub least : min (before + 1) (2 ^ 64 - 1) ≤ now

-- the count never falls, and a fault comes only where it rose
pub record HasCause {T E : Type 0} (before now : ℕ) (result : Result T E) : Type 0 where
  pub later : before ≤ now
  pub rose : IsErr result → Rose before now
