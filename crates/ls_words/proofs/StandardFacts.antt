-- Argument lists worked out by hand, so that a wrong rule in the specs does not check.
use Rattle.std.proofs.Common.{◌≡◌, [], ◌∷◌, true, false, Some, None, Ok, refl, pos, negsuc}
use Rattle.std.specs.Prelude.{codes}
use Rattle.jiff_core.specs.Calendar.{days_from_civil, day_count, days_of_years, days_of_months}
use Rattle.ls_base.specs.Txid.{txid_of}
use Rattle.ls_words.specs.declared.command.Command.TheVariants.{Replicate, Restore, Ltx, Demo}
use Rattle.ls_words.specs.declared.command.Target.TheVariants.{Newest, At}
use Rattle.ls_words.specs.declared.usage.UsageWhy.TheVariants.{NoCommand, UnknownCommand, BadSyntax, UnknownFlag}
use Rattle.ls_words.specs.declared.usage.UsageWhy.TheVariants.{NeedsValue, BadNumber, BadTxid, BadPath, RemoteStore}
use Rattle.ls_words.specs.declared.usage.UsageWhy.TheVariants.{MissingWord, ExtraWord, NeedsOutput}
use Rattle.ls_words.specs.Command.{replicate_of, restore_of, ltx_of, command_from, command_of}
use Rattle.ls_words.specs.Clock.{clock_at, second_of}
use Rattle.ls_words.specs.Digit.{decimal_of}
use Rattle.ls_words.specs.Fault.{refusal}
use Rattle.ls_words.specs.Flag.{flag_of}
use Rattle.ls_words.specs.FlagWord.{named_of}
use Rattle.ls_words.specs.Given.{given_at}
use Rattle.ls_words.specs.Moment.{day_number, day_of, fraction_behind, fraction_of, offset_of, moment_of}
use Rattle.ls_words.specs.Path.{is_file_name, is_path, path_of}
use Rattle.ls_words.specs.Plain.{counted, replica_of, replica_at, database_at}
use Rattle.ls_words.specs.Settings.{flags_of}
use Rattle.ls_words.specs.Value.{is_true_word, is_false_word, is_number, is_within, number_of, timed, duration_of}

-- flags in both spellings, with one dash and two, and of repeats the last
pub flags : (command_of (codes "restore" ∷ codes "-txid=5" ∷ codes "--o" ∷ codes "x" ∷ codes "r" ∷ []) ≡ Ok
    (Restore (codes "x") (codes "r") (At 5) false false))
    × (command_of (codes "restore" ∷ codes "-o" ∷ codes "x" ∷ codes "--o=y" ∷ codes "-if-db-not-exists" ∷ codes "r"
    ∷ []) ≡ Ok (Restore (codes "y") (codes "r") Newest true false))
    × (command_of (codes "restore" ∷ codes "-o" ∷ codes "x" ∷ codes "--" ∷ codes "-r" ∷ []) ≡ Ok
    (Restore (codes "x") (codes "-r") Newest false false))
    × (command_of (codes "replicate" ∷ codes "-retention" ∷ codes "5ms" ∷ codes "-at-rest=0" ∷ codes "d" ∷ codes
    "file://r" ∷ []) ≡ Ok (Replicate (codes "d") (codes "r") 1 5 false))
    × (command_of (codes "demo" ∷ codes "-rounds=20" ∷ []) ≡ Ok (Demo 1 20))
    × (command_of (codes "ltx" ∷ codes "r" ∷ []) ≡ Ok (Ltx (codes "r")))
unfolding command_from restore_of replicate_of ltx_of counted replica_of replica_at database_at flags_of flag_of
    named_of given_at txid_of path_of is_path is_file_name is_true_word is_false_word is_number is_within number_of
    timed duration_of
flags = (refl, refl, refl, refl, refl, refl)

-- each with the index of the word that holds the fault
pub faults : (command_of [] ≡ refusal 0 NoCommand)
    × (command_of (codes "restor" ∷ []) ≡ refusal 0 UnknownCommand)
    × (command_of (codes "restore" ∷ codes "-o" ∷ []) ≡ refusal 2 NeedsValue)
    × (command_of (codes "restore" ∷ codes "---o" ∷ []) ≡ refusal 1 BadSyntax)
    × (command_of (codes "restore" ∷ codes "-help" ∷ []) ≡ refusal 1 UnknownFlag)
    × (command_of (codes "restore" ∷ codes "-txid" ∷ codes "0" ∷ codes "-txid" ∷ codes "5" ∷ []) ≡ refusal 2 BadTxid)
    × (command_of (codes "restore" ∷ codes "-o=a/.." ∷ []) ≡ refusal 1 BadPath)
    × (command_of (codes "replicate" ∷ codes "-at-rest" ∷ codes "true" ∷ codes "d" ∷ codes "r" ∷ []) ≡ refusal 4
    ExtraWord)
    × (command_of (codes "demo" ∷ codes "-rounds" ∷ codes "1001" ∷ []) ≡ refusal 2 BadNumber)
    × (command_of (codes "ltx" ∷ codes "s3://b" ∷ []) ≡ refusal 1 RemoteStore)
    × (command_of (codes "restore" ∷ codes "r" ∷ []) ≡ refusal 2 NeedsOutput)
    × (command_of (codes "ltx" ∷ []) ≡ refusal 1 MissingWord)
unfolding command_from restore_of replicate_of ltx_of counted replica_of replica_at database_at flags_of flag_of
    named_of given_at txid_of path_of is_path is_file_name is_true_word is_false_word is_number is_within number_of
    timed duration_of
faults = (refl, refl, refl, refl, refl, refl, refl, refl, refl, refl, refl, refl)

-- rounded down to ms, before 1970 too, and an offset is taken off
pub moments : (moment_of (codes "1970-01-01T00:00:00.0019Z") ≡ Some (pos 1))
    × (moment_of (codes "1969-12-31T23:59:59.9999Z") ≡ Some (negsuc 0))
    × (moment_of (codes "2023-11-14T23:13:20+01:00") ≡ Some (pos 1_700_000_000_000))
    × (moment_of (codes "2023-02-29T00:00:00Z") ≡ None) × (moment_of (codes "2024-02-29T00:00:60Z") ≡ None)
unfolding moment_of day_of day_number second_of clock_at fraction_of fraction_behind offset_of decimal_of is_within
    days_from_civil day_count days_of_years days_of_months
moments = (refl, refl, refl, refl, refl)
