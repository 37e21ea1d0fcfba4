-- A flag with its value: as Go's package flag reads them.
use Rattle.std.specs.Prelude.{ℕ, ◌+◌, List, [], ◌∷◌, codes, Option, Some, None, Result, Ok}
use Rattle.ls_words.specs.declared.verb.Verb.{Verb}
use Rattle.ls_words.specs.declared.flag.Flag.{Flag}
use Rattle.ls_words.specs.declared.flag.Flag.TheVariants.{Truth, Valued}
use Rattle.ls_words.specs.declared.usage.Usage.{Usage}
use Rattle.ls_words.specs.declared.usage.UsageWhy.TheVariants.{BadSyntax, UnknownFlag, NeedsValue}
use Rattle.ls_words.specs.Fault.{refusal, or_fault, result_then}
use Rattle.ls_words.specs.Flag.{flag_of}
use Rattle.ls_words.specs.FlagWord.{Named, named_of}

-- a flag, its value, and the index of the word that holds the value
pub record Given : Type 0 where
  pub flag : Flag
  pub text : List ℕ
  pub word : ℕ

-- a flag without `=` that takes a value takes the next word, whatever it is
abbrev pub next_word : ℕ → Flag → List (List ℕ) → Result Given Usage
next_word at flag [] = refusal (at + 1) NeedsValue
next_word at flag (text ∷ rest) = Ok (record { flag = flag; text = text; word = at + 1 })

-- a value stands behind `=`; a truth flag without one is true
abbrev pub value_at : ℕ → Flag → Option (List ℕ) → List (List ℕ) → Result Given Usage
value_at at flag (Some text) rest = Ok (record { flag = flag; text = text; word = at })
value_at at (Truth flag) None rest = Ok (record { flag = Truth flag; text = codes "true"; word = at })
value_at at (Valued flag) None rest = next_word at (Valued flag) rest

-- the flag of a command that a word names, with its value
abbrev pub named_at : Verb → ℕ → List (List ℕ) → Named → Result Given Usage
named_at verb at rest named = result_then (or_fault at UnknownFlag (flag_of verb named.name))
    (λ flag. value_at at flag named.value rest)

-- the flag that a word and the words behind it give
unfoldable pub given_at : Verb → ℕ → List ℕ → List (List ℕ) → Result Given Usage
given_at verb at word rest = result_then (or_fault at BadSyntax (named_of word)) (named_at verb at rest)
