-- What holds of each command that words ask for.
use Rattle.std.specs.Prelude.{◌<◌, ◌≤◌, length, IsTrue}
use Rattle.ls_words.specs.declared.command.Command.{Command}
use Rattle.ls_words.specs.declared.command.Command.TheVariants.{Replicate, Restore, Ltx, Demo}
use Rattle.ls_words.specs.Path.{is_path}

-- the rounds lie in the command's range, an output's path leads to a file, and no path is empty
abbrev pub IsWellFormed : Command → Type 0
IsWellFormed (Replicate db replica rounds keep at_rest) = (0 < length db) × (0 < length replica) × (1 ≤ rounds)
    × (rounds ≤ 1000000)
IsWellFormed (Restore output replica target if_db_not_exists if_replica_exists) = IsTrue (is_path output)
    × (0 < length replica)
IsWellFormed (Ltx replica) = 0 < length replica
IsWellFormed (Demo seed rounds) = (1 ≤ rounds) × (rounds ≤ 1000)
