-- How the words behind the command split into flags and plain words: as by Go's package flag.
use Rattle.std.specs.Prelude.{ℕ, ◌+◌, Bool, true, false, not, if◌then◌else◌, List, [], ◌∷◌, Option, Some, None}
use Rattle.std.specs.Prelude.{Result, Ok, Err, nat_lt}
use Rattle.ls_words.specs.declared.verb.Verb.{Verb}
use Rattle.ls_words.specs.declared.usage.Usage.{Usage}
use Rattle.ls_words.specs.FlagWord.{is_flag, is_end}
use Rattle.ls_words.specs.Given.{Given, given_at}

-- the flags in their order with their values, the fault of the word that ended them, where one did, and where the
-- plain words begin
pub record Split : Type 0 where
  pub given : List Given
  pub fault : Option Usage
  pub first : ℕ

-- all words from a place on are plain
abbrev pub plain_from : ℕ → Split
plain_from at = record { given = []; fault = None; first = at }

-- a flag in front of the rest; a word that gives none ends the flags by its fault
abbrev pub split_at : ℕ → Result Given Usage → (Given → Split) → Split
split_at at (Err usage) rest = record { given = []; fault = Some usage; first = at }
split_at at (Ok given) rest = let split = rest given in record
    { given = given ∷ split.given; fault = split.fault; first = split.first }

-- the split from a place on: the first word that is no flag, or the one behind `--`, is the first plain word, and a
-- word that was taken as a value is passed over
abbrev pub split_words : Verb → ℕ → Bool → List (List ℕ) → Split
split_words verb at taken [] = plain_from at
split_words verb at true (word ∷ rest) = split_words verb (at + 1) false rest
split_words verb at false (word ∷ rest) =
    if not (is_flag word) then plain_from at
    else (if is_end word then plain_from (at + 1)
    else split_at at (given_at verb at word rest) (λ given. split_words verb (at + 1) (nat_lt at given.word) rest))
