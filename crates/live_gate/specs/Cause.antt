-- What a fault of a call that takes memory rests on.
use Rattle.std.specs.Prelude.{ℕ, ◌≤◌, Result, IsErrOf}
use Rattle.ls_base.specs.Fault.{Rose}
use Rattle.live_gate.specs.declared.fault.LiveFault.{LiveFault}
use Rattle.live_gate.specs.declared.fault.PassFault.{PassFault}
use Rattle.live_gate.specs.declared.fault.PassFault.TheVariants.{Live}

-- the count never falls, and a fault of the live database comes only where it rose
pub record PassHasCause {T : Type 0} (before now : ℕ) (result : Result T PassFault) : Type 0 where
  pub later : before ≤ now
  pub rose : (fault : LiveFault) → IsErrOf result (Live fault) → Rose before now
