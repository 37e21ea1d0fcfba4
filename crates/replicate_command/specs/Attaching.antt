-- Attaching the live database and the replica's disk.
use Rattle.std.specs.Prelude.{◌≡◌, ◌≢◌, ℕ, ◌≤◌, List, Bool, false, Option, Some, None, Result, Ok, Err}
use Rattle.ls_base.specs.Fault.{Rose}
use Rattle.live_gate.specs.LiveRecord.{Told, Attachment, LiveRecord, IfTold}
use Rattle.replicate_command.specs.Asked.{Asked}
use Rattle.replica_round.specs.Later.{IsLater}
use Rattle.replicate_command.specs.declared.stop.ReplicateStop.{ReplicateStop}
use Rattle.replicate_command.specs.declared.stop.ReplicateStop.TheVariants.{NoDatabase, Live, Store, Memory}

-- no hold is left, unless the live database failed or there was no memory
abbrev pub HoldsNone : Result (Unit {0}) ReplicateStop → LiveRecord → Type 0
HoldsNone (Ok done) r = r.database.held ≡ None
HoldsNone (Err Live) r = Unit {0}
HoldsNone (Err Memory) r = Unit {0}
HoldsNone (Err other) r = r.database.held ≡ None

pub record AttachesBoth (result : Result (Unit {0}) ReplicateStop) (old new : LiveRecord) : Type 0 where
  pub later : IsLater old.database new.database
  pub asked : new.asked ≡ old.asked
  pub holds : HoldsNone result new

-- both are attached to what is asked for
pub record IsBound (asked : Asked) (attached : Option Attachment) (folder : Option (List ℕ)) : Type 0 where
  pub live : attached ≡ Some (record { path = asked.db; at_rest = asked.at_rest })
  pub store : folder ≡ Some asked.replica

-- what a stop there means
abbrev pub ExplainsAttach : Told → Bool → ℕ → ℕ → ℕ → ℕ → Result (Unit {0}) ReplicateStop → Type 0
ExplainsAttach live there live_before live_now store_before store_now (Ok done) =
    IfTold live (λ r. there ≢ false)
ExplainsAttach live there live_before live_now store_before store_now (Err NoDatabase) =
    IfTold live (λ r. there ≡ false)
ExplainsAttach live there live_before live_now store_before store_now (Err Live) = Rose live_before live_now
ExplainsAttach live there live_before live_now store_before store_now (Err Store) =
    Rose store_before store_now × IfTold live (λ r. there ≢ false)
ExplainsAttach live there live_before live_now store_before store_now (Err Memory) = Unit {0}
ExplainsAttach live there live_before live_now store_before store_now (Err other) = ⊥

pub record AttachHasCause (live : Told) (there : Bool) (live_before live_now store_before store_now : ℕ)
    (result : Result (Unit {0}) ReplicateStop) : Type 0 where
  pub live_later : live_before ≤ live_now
  pub store_later : store_before ≤ store_now
  pub explained : ExplainsAttach live there live_before live_now store_before store_now result
