use Rattle.std.proofs.Common.{◌≡◌, ℕ, ◌<◌, ◌≤◌, get_or}
use Rattle.std.specs.List.{Contains}
use Rattle.replica_store.specs.declared.file_name.FileName.{FileName}
use Rattle.litestream_core.proofs.asked.newest.Given as goal

abbrev pub invariant-loop-name : goal.invariant-loop-name
invariant-loop-name l = record {
  found : (name : FileName) × Contains l.names name × (name.max ≡ l.newest);
  greatest : (k : ℕ) (d : FileName) → k < l.name-index → (get_or l.names k d).max ≤ l.newest;
}
