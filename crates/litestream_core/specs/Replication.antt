-- What the words ask of a replication.
use Rattle.std.specs.Prelude.{ℕ, List, Bool, Option, Some, None}
use Rattle.ls_words.specs.declared.command.Command.{Command}
use Rattle.ls_words.specs.declared.command.Command.TheVariants.{Replicate, Restore, Ltx, Demo}
use Rattle.replicate_command.specs.Asked.{Asked}

-- the replication of these words, at the moment that the clock told
abbrev pub replication_for : List ℕ → List ℕ → ℕ → ℕ → Bool → ℕ → Asked
replication_for db replica rounds keep at_rest now = record {
  db = db;
  replica = replica;
  rounds = rounds;
  keep = keep;
  at_rest = at_rest;
  now = now;
}

-- the replication that a command is at that moment, if it is one
abbrev pub replication_in : ℕ → Command → Option Asked
replication_in now (Replicate db replica rounds keep at_rest) =
    Some (replication_for db replica rounds keep at_rest now)
replication_in now (Restore output replica target if_db_not_exists if_replica_exists) = None
replication_in now (Ltx replica) = None
replication_in now (Demo seed rounds) = None
