-- A flag with its value as the code holds it, without where its text lies in memory.
use Rattle.ls_words.specs.declared.given.Given.{Given as Held}
use Rattle.ls_words.specs.Given.{Given}

abbrev pub as_given : Held → Given
as_given given = record { flag = given.flag; text = given.text.now; word = given.word }
