-- What the objects of a replication tell, before it and after it.
use Rattle.std.specs.Prelude.{◌≡◌, ℕ, ◌≤◌, List, Bool, Option, Some}
use Rattle.crash_disk.specs.declared.disk.Disk.{Ghosts as OfDisk}
use Rattle.crash_disk.specs.declared.out.Out.{Ghosts as OfOut}
use Rattle.crash_disk.specs.Told.{Told}
use Rattle.live_gate.specs.declared.live.Live.{Ghosts as OfLive}
use Rattle.live_gate.specs.LiveRecord.{Told as LiveTold, Attachment}
use Rattle.replicate_command.specs.Asked.{Asked}

pub record Seen : Type 0 where
  pub asked : Asked
  -- the database at the path, whether one is there, and what the live database is attached to afterwards
  pub live : LiveTold
  pub live_after : LiveTold
  pub is_there : Bool
  pub attached_after : Option Attachment
  -- what lies in the replica's folder, and where the disk is attached afterwards
  pub store : Told
  pub store_after : Told
  pub folder_after : Option (List ℕ)
  -- what was printed
  pub text : Option (List ℕ)
  pub text_after : Option (List ℕ)
  -- the counts of faults
  pub live_faults : ℕ
  pub live_faults_after : ℕ
  pub store_faults : ℕ
  pub store_faults_after : ℕ
  pub sink_faults : ℕ
  pub sink_faults_after : ℕ

-- the objects of a replication, before it and after it
abbrev pub seen_of : {L S O : Type 0} → OfLive L → OfDisk S → OfOut O → Asked → L → L → S → S → O → O → Seen
seen_of of_live of_store of_out asked live live_after store store_after out out_after = record {
  asked = asked;
  live = of_live.content live asked.db;
  live_after = of_live.content live_after asked.db;
  is_there = of_live.is_there live asked.db;
  attached_after = of_live.attached live_after;
  store = of_store.content store asked.replica;
  store_after = of_store.content store_after asked.replica;
  folder_after = of_store.folder store_after;
  text = of_out.text out;
  text_after = of_out.text out_after;
  live_faults = of_live.fault_count live;
  live_faults_after = of_live.fault_count live_after;
  store_faults = of_store.fault_count store;
  store_faults_after = of_store.fault_count store_after;
  sink_faults = of_out.fault_count out;
  sink_faults_after = of_out.fault_count out_after;
}

-- no count of faults falls
pub record FaultsStay (seen : Seen) : Type 0 where
  pub live : seen.live_faults ≤ seen.live_faults_after
  pub store : seen.store_faults ≤ seen.store_faults_after
  pub sink : seen.sink_faults ≤ seen.sink_faults_after

-- the live database and the disk are attached to what is asked for
pub record AreAttached (seen : Seen) : Type 0 where
  pub live : seen.attached_after ≡ Some (record { path = seen.asked.db; at_rest = seen.asked.at_rest })
  pub store : seen.folder_after ≡ Some seen.asked.replica
