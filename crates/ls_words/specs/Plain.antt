-- The plain words behind the flags. This project's rule.
use Rattle.std.specs.Prelude.{ℕ, ◌+◌, ◌-◌, ◌==◌, if◌then◌else◌, List, length, drop, codes, Result, Ok, Err, nat_eq}
use Rattle.std.specs.Prelude.{nat_lt}
use Rattle.std.specs.List.{starts_with}
use Rattle.ls_words.specs.declared.usage.Usage.{Usage}
use Rattle.ls_words.specs.declared.usage.UsageWhy.{UsageWhy}
use Rattle.ls_words.specs.declared.usage.UsageWhy.TheVariants.{BadPath, RemoteStore, MissingWord, ExtraWord}
use Rattle.ls_words.specs.Fault.{refusal}
use Rattle.ls_words.specs.Path.{names_scheme}

-- of `count` words those from `first` on are plain; too few miss a word behind the last, and of too many the first
-- too many is refused
unfoldable pub counted : ℕ → ℕ → ℕ → Result (Unit {0}) Usage
counted count first takes =
    if nat_lt (count - first) takes then refusal count MissingWord
    else (if nat_lt takes (count - first) then refusal (first + takes) ExtraWord else Ok tt)

-- a path that isn't empty
abbrev pub not_empty : List ℕ → Result (List ℕ) UsageWhy
not_empty path = if length path == 0 then Err BadPath else Ok path

-- the folder of a replica: `file://` is taken off, and no other scheme is known
unfoldable pub replica_of : List ℕ → Result (List ℕ) UsageWhy
replica_of word =
    if length word == 0 then Err BadPath
    else (if starts_with nat_eq word (codes "file://") then not_empty (drop 7 word)
    else (if names_scheme word then Err RemoteStore else Ok word))

-- a fault of a word at its place
abbrev pub at_word : ℕ → Result (List ℕ) UsageWhy → Result (List ℕ) Usage
at_word at (Ok text) = Ok text
at_word at (Err why) = refusal at why

-- the replica that a word at a place names
unfoldable pub replica_at : ℕ → List ℕ → Result (List ℕ) Usage
replica_at at word = at_word at (replica_of word)

-- the database that a word at a place names
unfoldable pub database_at : ℕ → List ℕ → Result (List ℕ) Usage
database_at at word = at_word at (not_empty word)
