-- What the objects of a call tell, before it and after it.
use Rattle.std.specs.Prelude.{ℕ, ◌≤◌, List, Option}
use Rattle.crash_disk.specs.declared.disk.Disk.{Ghosts as OfDisk}
use Rattle.crash_disk.specs.declared.out.Out.{Ghosts as OfOut}
use Rattle.crash_disk.specs.Told.{Told}
use Rattle.litestream_core.specs.Request.{Request}

-- What lies in the folders that the words name, what was printed, and the counts of faults.
pub record Scene : Type 0 where
  pub store : Told
  pub store_after : Told
  pub target : Told
  pub target_after : Told
  pub text : Option (List ℕ)
  pub text_after : Option (List ℕ)
  pub store_faults : ℕ
  pub store_faults_after : ℕ
  pub target_faults : ℕ
  pub target_faults_after : ℕ
  pub sink_faults : ℕ
  pub sink_faults_after : ℕ

-- the objects of a call for the request, before it and after it
abbrev pub scene_of : {S T O : Type 0} → OfDisk S → OfDisk T → OfOut O → Request → S → S → T → T → O → O → Scene
scene_of of_store of_target of_out r store store_after target target_after out out_after = record {
  store = of_store.content store r.replica;
  store_after = of_store.content store_after r.replica;
  target = of_target.content target r.folder;
  target_after = of_target.content target_after r.folder;
  text = of_out.text out;
  text_after = of_out.text out_after;
  store_faults = of_store.fault_count store;
  store_faults_after = of_store.fault_count store_after;
  target_faults = of_target.fault_count target;
  target_faults_after = of_target.fault_count target_after;
  sink_faults = of_out.fault_count out;
  sink_faults_after = of_out.fault_count out_after;
}

-- no count of faults falls
pub record FaultsStay (scene : Scene) : Type 0 where
  pub store : scene.store_faults ≤ scene.store_faults_after
  pub target : scene.target_faults ≤ scene.target_faults_after
  pub sink : scene.sink_faults ≤ scene.sink_faults_after
