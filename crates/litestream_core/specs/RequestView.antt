-- A request as the code holds it, without where its texts lie in memory.
use Rattle.std.specs.Prelude.{ℕ, List}
use Rattle.std.specs.Borrow.{Bor}
use Rattle.ls_words.specs.Path.{Output}
use Rattle.litestream_core.specs.declared.request.Request.{Request as Held}
use Rattle.litestream_core.specs.Request.{Request}

abbrev pub as_request : Held → Request
as_request r = record {
  folder = r.folder.now;
  output = r.output.now;
  replica = r.replica.now;
  target = r.target;
  if_db_not_exists = r.if_db_not_exists;
  if_replica_exists = r.if_replica_exists;
}

abbrev pub as_output : Bor (List ℕ) × Bor (List ℕ) → Output
as_output cut = record { folder = cut.0.now; name = cut.1.now }
