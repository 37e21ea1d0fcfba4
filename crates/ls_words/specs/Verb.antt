-- The commands. This project's rule.
use Rattle.std.specs.Prelude.{ℕ, List, codes, Option, Some, None, if◌then◌else◌, bytes_eq}
use Rattle.ls_words.specs.declared.verb.Verb.{Verb}
use Rattle.ls_words.specs.declared.verb.Verb.TheVariants.{Replicate, Restore, Ltx, Demo}

-- the command that a word names
abbrev pub verb_of : List ℕ → Option Verb
verb_of word =
    if bytes_eq word (codes "replicate") then Some Replicate
    else (if bytes_eq word (codes "restore") then Some Restore
    else (if bytes_eq word (codes "ltx") then Some Ltx
    else (if bytes_eq word (codes "demo") then Some Demo else None)))

-- how many plain words a command takes
abbrev pub plain_words : Verb → ℕ
plain_words Replicate = 2
plain_words Restore = 1
plain_words Ltx = 1
plain_words Demo = 0
