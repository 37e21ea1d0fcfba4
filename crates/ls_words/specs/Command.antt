-- Which command words ask for, or their first fault.
use Rattle.std.specs.Prelude.{ℕ, ◌+◌, List, [], ◌∷◌, length, Option, Some, None, Result, Ok, ℤ}
use Rattle.std.specs.List.{slice_index_or}
use Rattle.ls_words.specs.declared.verb.Verb.{Verb}
use Rattle.ls_words.specs.declared.verb.Verb.TheVariants as verb
use Rattle.ls_words.specs.declared.command.Command.{Command}
use Rattle.ls_words.specs.declared.command.Command.TheVariants.{Replicate, Restore, Ltx, Demo}
use Rattle.ls_words.specs.declared.command.Target.{Target}
use Rattle.ls_words.specs.declared.command.Target.TheVariants.{Newest, At, Moment}
use Rattle.ls_words.specs.declared.settings.Settings.{Settings}
use Rattle.ls_words.specs.declared.usage.Usage.{Usage}
use Rattle.ls_words.specs.declared.usage.UsageWhy.TheVariants.{NoCommand, UnknownCommand, NeedsOutput, BothGiven}
use Rattle.ls_words.specs.Fault.{refusal, or_fault, result_then}
use Rattle.ls_words.specs.Verb.{verb_of, plain_words}
use Rattle.ls_words.specs.Settings.{flags_of}
use Rattle.ls_words.specs.Plain.{counted, replica_at, database_at}

-- which transaction a restore asks for
abbrev pub target_of : ℕ → Option ℕ → Option ℤ → Result Target Usage
target_of count None None = Ok Newest
target_of count (Some txid) None = Ok (At txid)
target_of count None (Some moment) = Ok (Moment moment)
target_of count (Some txid) (Some moment) = refusal count BothGiven

-- a replication's two plain words are a database and a replica
unfoldable pub replicate_of : List (List ℕ) → ℕ → Settings → Result Command Usage
replicate_of words first settings =
    result_then (database_at first (slice_index_or words first []))
    (λ db. result_then (replica_at (first + 1) (slice_index_or words (first + 1) []))
    (λ replica. Ok (Replicate db replica settings.rounds settings.keep settings.at_rest)))

-- a restore needs an output, and has one target
unfoldable pub restore_of : List (List ℕ) → ℕ → Settings → Result Command Usage
restore_of words first settings =
    result_then (replica_at first (slice_index_or words first []))
    (λ replica. result_then (or_fault (length words) NeedsOutput settings.output)
    (λ output. result_then (target_of (length words) settings.txid settings.moment)
    (λ target. Ok (Restore output replica target settings.if_db_not_exists settings.if_replica_exists))))

-- a listing has a replica
unfoldable pub ltx_of : List (List ℕ) → ℕ → Result Command Usage
ltx_of words first = result_then (replica_at first (slice_index_or words first [])) (λ replica. Ok (Ltx replica))

-- what the settings and as many plain words as the command takes ask for
abbrev pub command_of_verb : Verb → List (List ℕ) → ℕ → Settings → Result Command Usage
command_of_verb verb.Replicate words first settings = replicate_of words first settings
command_of_verb verb.Restore words first settings = restore_of words first settings
command_of_verb verb.Ltx words first settings = ltx_of words first
command_of_verb verb.Demo words first settings = Ok (Demo settings.seed settings.rounds)

-- what the settings and the plain words from a place on ask for
unfoldable pub command_from : Verb → List (List ℕ) → ℕ → Settings → Result Command Usage
command_from verb words first settings =
    result_then (counted (length words) first (plain_words verb)) (λ enough. command_of_verb verb words first settings)

-- what the flags and the plain words of a command ask for
abbrev pub command_with : Verb → List (List ℕ) → List (List ℕ) → Result Command Usage
command_with verb words rest = result_then (flags_of verb rest)
    (λ flagged. command_from verb words flagged.first flagged.settings)

-- the command that words ask for, or their first fault with the index of its word: the first word names it, and flags
-- and then plain words follow
abbrev pub command_of : List (List ℕ) → Result Command Usage
command_of [] = refusal 0 NoCommand
command_of (word ∷ rest) = result_then (or_fault 0 UnknownCommand (verb_of word))
    (λ verb. command_with verb (word ∷ rest) rest)
