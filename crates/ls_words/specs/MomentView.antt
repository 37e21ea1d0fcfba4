-- A fraction as the code holds it.
use Rattle.ls_words.specs.declared.moment.Fraction.{Fraction as Held}
use Rattle.ls_words.specs.Moment.{Fraction}

abbrev pub as_fraction : Held → Fraction
as_fraction fraction = record { ms = fraction.ms; len = fraction.len }
