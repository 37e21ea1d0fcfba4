-- What the words ask of a restore.
use Rattle.std.specs.Prelude.{ℕ, List, Bool, Option, Some, None}
use Rattle.ls_words.specs.declared.command.Command.{Command}
use Rattle.ls_words.specs.declared.command.Command.TheVariants.{Replicate, Restore, Ltx, Demo}
use Rattle.ls_words.specs.declared.command.Target.{Target}
use Rattle.ls_words.specs.Path.{placed, cut_at_last_slash}

-- a restore: where its output lies, and what it restores from which replica
pub record Request : Type 0 where
  pub folder : List ℕ
  pub output : List ℕ
  pub replica : List ℕ
  pub target : Target
  pub if_db_not_exists : Bool
  pub if_replica_exists : Bool

-- the restore of these words
abbrev pub request_for : List ℕ → List ℕ → Target → Bool → Bool → Request
request_for output replica target if_db_not_exists if_replica_exists =
    let at = placed output (cut_at_last_slash output) in
    record {
      folder = at.folder;
      output = at.name;
      replica = replica;
      target = target;
      if_db_not_exists = if_db_not_exists;
      if_replica_exists = if_replica_exists;
    }

-- the restore that a command is, if it is one
abbrev pub request_in : Command → Option Request
request_in (Restore output replica target if_db_not_exists if_replica_exists) =
    Some (request_for output replica target if_db_not_exists if_replica_exists)
request_in (Replicate db replica rounds keep at_rest) = None
request_in (Ltx replica) = None
request_in (Demo seed rounds) = None
