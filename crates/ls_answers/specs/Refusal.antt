-- What a refusal says. This project's rule.
use Rattle.std.specs.Prelude.{ℕ, List, [], ◌++◌, Option, Some, None, codes, decimal}
use Rattle.std.specs.List.{slice_index_or}
use Rattle.ls_base.specs.Txid.{hex_digits}
use Rattle.db_page.specs.declared.fault.HeaderFault.{HeaderFault}
use Rattle.db_page.specs.declared.fault.HeaderFault.TheVariants as header
use Rattle.ls_words.specs.declared.usage.UsageWhy.{UsageWhy}
use Rattle.ls_words.specs.declared.usage.UsageWhy.TheVariants as word
use Rattle.ltx_format.specs.declared.fault.LtxFault.{LtxFault}
use Rattle.ltx_format.specs.declared.fault.LtxFault.TheVariants as file
use Rattle.replica_store.specs.declared.error.Damage.{Damage}
use Rattle.replica_store.specs.declared.error.Damage.TheVariants as damage
use Rattle.replica_store.specs.declared.file_name.FileName.{FileName}
use Rattle.replica_store.specs.NameText.{file_path}
use Rattle.ls_answers.specs.declared.outcome.Broken.{Broken}
use Rattle.ls_answers.specs.declared.outcome.Broken.TheVariants.{Salts, Short}
use Rattle.ls_answers.specs.declared.outcome.Why.{Why}
use Rattle.ls_answers.specs.declared.outcome.Why.TheVariants.{Done, SkippedOutput, SkippedReplica, NotBuilt, Usage}
use Rattle.ls_answers.specs.declared.outcome.Why.TheVariants.{NoReplica, MissingRange, NoMoment, Damaged, PageMissing}
use Rattle.ls_answers.specs.declared.outcome.Why.TheVariants.{OutputExists, StoreFault, TargetFault, SinkFault, Memory}
use Rattle.ls_answers.specs.declared.outcome.Why.TheVariants.{NoDatabase, Header, SizesDiffer, WalTooLong, TooLarge}
use Rattle.ls_answers.specs.declared.outcome.Why.TheVariants.{GateBroken, TxidSpent, LiveFault}

-- what is wrong with a word
abbrev pub usage_text : UsageWhy → List ℕ
usage_text word.NoCommand = codes "no command"
usage_text word.UnknownCommand = codes "unknown command"
usage_text word.BadSyntax = codes "bad flag syntax"
usage_text word.UnknownFlag = codes "unknown flag"
usage_text word.NeedsValue = codes "flag needs a value"
usage_text word.BadTruth = codes "bad truth value"
usage_text word.BadNumber = codes "bad number"
usage_text word.BadTxid = codes "bad txid"
usage_text word.BadMoment = codes "bad timestamp"
usage_text word.BadDuration = codes "bad duration"
usage_text word.BadPath = codes "bad path"
usage_text word.RemoteStore = codes "remote store"
usage_text word.MissingWord = codes "missing word"
usage_text word.ExtraWord = codes "extra word"
usage_text word.NeedsOutput = codes "-o is needed"
usage_text word.BothGiven = codes "-txid and -timestamp"

-- what is wrong with the bytes of a file
abbrev pub fault_text : LtxFault → List ℕ
fault_text file.Short = codes "short"
fault_text file.BadMagic = codes "bad magic"
fault_text file.Compressed = codes "compressed"
fault_text file.BadFlags = codes "bad flags"
fault_text file.BadPageSize = codes "bad page size"
fault_text file.BadCommit = codes "bad commit"
fault_text file.BadRange = codes "bad range"
fault_text file.BadReserved = codes "bad reserved field"
fault_text (file.BadOrder number) = codes "bad page order at " ++ decimal number
fault_text (file.BadSum kept found) = codes "bad checksum"
fault_text file.Extra = codes "extra bytes"
fault_text (file.BadIndex number) = codes "bad index at " ++ decimal number

-- what is wrong with a file
abbrev pub damage_text : Damage → List ℕ
damage_text (damage.File fault) = fault_text fault
damage_text damage.NameDiffers = codes "name differs"
damage_text damage.SizeDiffers = codes "page size differs"

-- a file's name
abbrev pub name_text : FileName → List ℕ
name_text name = file_path name.level name.min name.max

-- what is wrong with the header of a database file
abbrev pub header_text : HeaderFault → List ℕ
header_text (header.Short bytes) = decimal bytes ++ codes " bytes"
header_text header.NotDatabase = codes "not a database"
header_text (header.BadPageSize field) = codes "page size field " ++ decimal field
header_text (header.NotWalMode write read) =
    codes "not in WAL mode (" ++ decimal write ++ codes ", " ++ decimal read ++ codes ")"

-- how the gate was broken
abbrev pub broken_text : Broken → List ℕ
broken_text (Salts was now) = codes "WAL salts changed"
broken_text (Short at) = codes "WAL ends at " ++ decimal at

-- What was refused and where, for each answer but bad words. None where nothing was refused.
abbrev pub reason_text : Why → Option (List ℕ)
reason_text Done = None
reason_text SkippedOutput = None
reason_text SkippedReplica = None
reason_text (Usage usage) = None
reason_text NotBuilt = Some (codes "not built yet")
reason_text NoDatabase = Some (codes "no database")
reason_text (Header fault) = Some (codes "database header: " ++ header_text fault)
reason_text (SizesDiffer db wal) =
    Some (codes "page sizes differ: database " ++ decimal db ++ codes ", WAL " ++ decimal wal)
reason_text (WalTooLong size) = Some (codes "WAL too long: " ++ decimal size ++ codes " bytes")
reason_text (TooLarge size) = Some (codes "database too large: " ++ decimal size ++ codes " bytes")
reason_text (GateBroken broken) = Some (codes "gate broken: " ++ broken_text broken)
reason_text NoReplica = Some (codes "no replica")
reason_text (MissingRange after) = Some (codes "missing range after " ++ hex_digits after)
reason_text NoMoment = Some (codes "nothing kept at or before that moment")
reason_text (Damaged name damage) = Some (codes "damaged " ++ name_text name ++ codes ": " ++ damage_text damage)
reason_text (PageMissing name number) =
    Some (codes "page " ++ decimal number ++ codes " missing in " ++ name_text name)
reason_text (OutputExists size) = Some (codes "output exists: " ++ decimal size ++ codes " bytes")
reason_text TxidSpent = Some (codes "no TXID left")
reason_text LiveFault = Some (codes "database fault")
reason_text StoreFault = Some (codes "replica fault")
reason_text TargetFault = Some (codes "output file fault")
reason_text SinkFault = Some (codes "output fault")
reason_text Memory = Some (codes "out of memory")

-- the word at this place as it was given, empty where none is there
abbrev pub blamed_word : List (List ℕ) → ℕ → List ℕ
blamed_word words at = slice_index_or words at []

-- the text of each refusal
abbrev pub refusal_text : List (List ℕ) → Why → Option (List ℕ)
refusal_text words (Usage usage) =
    Some (codes "usage: " ++ usage_text usage.why ++ codes ": " ++ blamed_word words usage.word)
refusal_text words why = reason_text why

-- a refusal stands on a line of its own; nothing is said where nothing was refused
abbrev pub line_of : Option (List ℕ) → List ℕ
line_of (Some text) = codes "litestream: " ++ text ++ codes "\n"
line_of None = []

-- what is said of an answer to the words
abbrev pub said_text : List (List ℕ) → Why → List ℕ
said_text words why = line_of (refusal_text words why)
