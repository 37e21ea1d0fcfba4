-- The text of a round. This project's rule.
use Rattle.std.specs.Prelude.{ℕ, Bool, true, false, List, ◌++◌, Option, Some, None, codes, decimal}
use Rattle.replica_store.specs.declared.file_name.FileName.{FileName}
use Rattle.replica_store.specs.NameText.{file_path}
use Rattle.round_line.specs.declared.round.Round.{Round}
use Rattle.round_line.specs.declared.round.Synced.{Synced}
use Rattle.round_line.specs.declared.round.Synced.TheVariants.{Same, Piece, Whole}

-- what a sync stored, in a word
abbrev pub word_of : Synced → List ℕ
word_of Same = codes "same"
word_of (Piece name) = codes "piece"
word_of (Whole name) = codes "whole"

-- the name of the stored file, where one was stored
abbrev pub name_in : Synced → Option FileName
name_in Same = None
name_in (Piece name) = Some name
name_in (Whole name) = Some name

-- the whole name of a file
abbrev pub name_text : Option FileName → List ℕ
name_text None = codes "-"
name_text (Some name) = file_path name.level name.min name.max

-- the word and the name
abbrev pub synced_text : Synced → List ℕ
synced_text sync = word_of sync ++ codes " " ++ name_text (name_in sync)

abbrev pub truth_text : Bool → List ℕ
truth_text true = codes "1"
truth_text false = codes "0"

-- what else the round did
abbrev pub counts_text : Round → List ℕ
counts_text round =
    codes " passed " ++ truth_text round.passed ++ codes " merged " ++ decimal round.merged ++ codes " dropped "
    ++ decimal round.dropped ++ codes " lost " ++ decimal round.lost

-- the line of the round with this number
abbrev pub round_text : ℕ → Round → List ℕ
round_text number round =
    codes "round " ++ decimal number ++ codes " " ++ synced_text round.sync ++ counts_text round ++ codes "\n"
