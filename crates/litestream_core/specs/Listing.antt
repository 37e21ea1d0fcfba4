-- What the words ask of a listing.
use Rattle.std.specs.Prelude.{ℕ, List, Option, Some, None}
use Rattle.ls_words.specs.declared.command.Command.{Command}
use Rattle.ls_words.specs.declared.command.Command.TheVariants.{Replicate, Restore, Ltx, Demo}

-- the replica that a command lists, if it lists one
abbrev pub listed_in : Command → Option (List ℕ)
listed_in (Ltx replica) = Some replica
listed_in (Replicate db replica rounds keep at_rest) = None
listed_in (Restore output replica target if_db_not_exists if_replica_exists) = None
listed_in (Demo seed rounds) = None
