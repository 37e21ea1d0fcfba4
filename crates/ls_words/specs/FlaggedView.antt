-- What the flags set as the code holds it.
use Rattle.ls_words.specs.declared.reading.Flagged.{Flagged as Held}
use Rattle.ls_words.specs.Settings.{Flagged}

abbrev pub as_flagged : Held → Flagged
as_flagged flagged = record { settings = flagged.settings; first = flagged.first }
