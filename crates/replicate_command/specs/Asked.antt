-- What is asked of a replication.
use Rattle.std.specs.Prelude.{ℕ, ◌-◌, List, Bool}
use Rattle.replicate_command.specs.declared.request.Request.{Request}

-- the paths of the database and of the replica's folder, whether nobody else has the database open, how many rounds are
-- done, how long a transaction is retained, and the moment of the call
pub record Asked : Type 0 where
  pub db : List ℕ
  pub replica : List ℕ
  pub at_rest : Bool
  pub rounds : ℕ
  pub keep : ℕ
  pub now : ℕ

-- the request as the code holds it, without where its texts lie in memory
abbrev pub asked_by : Request → ℕ → Asked
asked_by r now = record {
  db = r.db.now;
  replica = r.replica.now;
  at_rest = r.at_rest;
  rounds = r.rounds;
  keep = r.keep;
  now = now;
}

-- what was recorded at or after this moment is retained
abbrev pub cut_of : Asked → ℕ
cut_of asked = asked.now - asked.keep
