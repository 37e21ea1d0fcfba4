-- The flags of each command. This project's rule.
use Rattle.std.specs.Prelude.{ℕ, List, codes, Option, Some, None, if◌then◌else◌, bytes_eq}
use Rattle.ls_words.specs.declared.verb.Verb.{Verb}
use Rattle.ls_words.specs.declared.verb.Verb.TheVariants.{Replicate, Restore, Ltx, Demo}
use Rattle.ls_words.specs.declared.flag.Flag.{Flag}
use Rattle.ls_words.specs.declared.flag.Flag.TheVariants.{Truth, Valued}
use Rattle.ls_words.specs.declared.flag.TruthFlag.TheVariants.{AtRest, IfDbNotExists, IfReplicaExists}
use Rattle.ls_words.specs.declared.flag.ValuedFlag.TheVariants.{Rounds, Retention, Output, Txid, Timestamp, Seed}
use Rattle.ls_words.specs.declared.flag.ValuedFlag.TheVariants.{DemoRounds}

-- the flags of `replicate`
abbrev pub replicate_flag : List ℕ → Option Flag
replicate_flag name =
    if bytes_eq name (codes "rounds") then Some (Valued Rounds)
    else (if bytes_eq name (codes "retention") then Some (Valued Retention)
    else (if bytes_eq name (codes "at-rest") then Some (Truth AtRest) else None))

-- the flags of `restore`
abbrev pub restore_flag : List ℕ → Option Flag
restore_flag name =
    if bytes_eq name (codes "o") then Some (Valued Output)
    else (if bytes_eq name (codes "txid") then Some (Valued Txid)
    else (if bytes_eq name (codes "timestamp") then Some (Valued Timestamp)
    else (if bytes_eq name (codes "if-db-not-exists") then Some (Truth IfDbNotExists)
    else (if bytes_eq name (codes "if-replica-exists") then Some (Truth IfReplicaExists) else None))))

-- the flags of `demo`
abbrev pub demo_flag : List ℕ → Option Flag
demo_flag name =
    if bytes_eq name (codes "seed") then Some (Valued Seed)
    else (if bytes_eq name (codes "rounds") then Some (Valued DemoRounds) else None)

-- the flag of a command that a name names; `ltx` has none
unfoldable pub flag_of : Verb → List ℕ → Option Flag
flag_of Replicate name = replicate_flag name
flag_of Restore name = restore_flag name
flag_of Ltx name = None
flag_of Demo name = demo_flag name
