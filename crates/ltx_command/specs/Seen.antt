-- What the objects of a listing tell, before it and after it.
use Rattle.std.specs.Prelude.{ℕ, ◌≤◌, List, Option}
use Rattle.crash_disk.specs.declared.disk.Disk.{Ghosts as OfDisk}
use Rattle.crash_disk.specs.declared.out.Out.{Ghosts as OfOut}
use Rattle.crash_disk.specs.Told.{Told}

-- what lies in the replica's folder, what was printed, the counts of faults, and where the disk is attached
pub record Seen : Type 0 where
  pub replica : List ℕ
  pub folder_after : Option (List ℕ)
  pub store : Told
  pub store_after : Told
  pub text : Option (List ℕ)
  pub text_after : Option (List ℕ)
  pub store_faults : ℕ
  pub store_faults_after : ℕ
  pub sink_faults : ℕ
  pub sink_faults_after : ℕ

-- the objects of a listing of the replica in this folder
abbrev pub seen_of : {S O : Type 0} → OfDisk S → OfOut O → List ℕ → S → S → O → O → Seen
seen_of of_store of_out replica store store_after out out_after = record {
  replica = replica;
  folder_after = of_store.folder store_after;
  store = of_store.content store replica;
  store_after = of_store.content store_after replica;
  text = of_out.text out;
  text_after = of_out.text out_after;
  store_faults = of_store.fault_count store;
  store_faults_after = of_store.fault_count store_after;
  sink_faults = of_out.fault_count out;
  sink_faults_after = of_out.fault_count out_after;
}

-- no count of faults falls
pub record FaultsStay (seen : Seen) : Type 0 where
  pub store : seen.store_faults ≤ seen.store_faults_after
  pub sink : seen.sink_faults ≤ seen.sink_faults_after
