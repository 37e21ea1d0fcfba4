-- What was asked, as it is told.
use Rattle.std.specs.Prelude.{[], take, false, None, option_map}
use Rattle.live_gate.specs.LiveRecord.{Asked}
use Rattle.sim_writer.specs.declared.questions.Head.{Head}
use Rattle.sim_writer.specs.declared.questions.Questions.{Questions}

abbrev pub asked_of : Questions → Asked
asked_of q = record {
  aimed = q.aimed;
  answered = q.answered;
  gave_none = q.gave_none;
  head = option_map (λ (head : Head). take head.count head.bytes) q.head;
  db_size = q.db_size;
  wal_size = q.wal_size;
  taken = q.taken;
  passes_asked = q.passes;
  passes_done = q.passed;
}

abbrev pub nothing_asked : Asked
nothing_asked = record {
  aimed = 0;
  answered = [];
  gave_none = false;
  head = None;
  db_size = None;
  wal_size = None;
  taken = 0;
  passes_asked = 0;
  passes_done = 0;
}
