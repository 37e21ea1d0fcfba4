-- What a call is handed: its objects of the outside.
use Rattle.live_gate.specs.declared.live.Live.{Ghosts as OfLive}
use Rattle.crash_disk.specs.declared.disk.Disk.{Ghosts as OfDisk}
use Rattle.crash_disk.specs.declared.out.Out.{Ghosts as OfOut}

-- the objects, before a call or after it
pub record Objects (L S T O : Type 0) : Type 0 where
  pub live : L
  pub store : S
  pub target : T
  pub out : O

-- what each of them tells
pub record Kinds (L S T O : Type 0) : Type 1 where
  pub live : OfLive L
  pub store : OfDisk S
  pub target : OfDisk T
  pub out : OfOut O
