-- A flag's word as the code holds it, without where its texts lie in memory.
use Rattle.std.specs.Prelude.{option_copied}
use Rattle.ls_words.specs.declared.flag_word.Named.{Named as Held}
use Rattle.ls_words.specs.FlagWord.{Named}

abbrev pub as_named : Held → Named
as_named named = record { name = named.name.now; value = option_copied named.value }
