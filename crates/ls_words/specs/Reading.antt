-- The flags as the code reads them: one after the other, each value at once. That this gives what the definitions
-- of settings give is proved in proofs/.
use Rattle.std.specs.Prelude.{ℕ, ◌+◌, ◌-◌, ◌^◌, Bool, true, false, not, if◌then◌else◌, List, [], ◌∷◌, Option, Some}
use Rattle.std.specs.Prelude.{None, Result, Ok, nat_lt}
use Rattle.ls_base.specs.Txid.{txid_of}
use Rattle.ls_words.specs.declared.verb.Verb.{Verb}
use Rattle.ls_words.specs.declared.flag.Flag.{Flag}
use Rattle.ls_words.specs.declared.flag.Flag.TheVariants.{Truth, Valued}
use Rattle.ls_words.specs.declared.flag.TruthFlag.{TruthFlag}
use Rattle.ls_words.specs.declared.flag.TruthFlag.TheVariants.{AtRest, IfDbNotExists, IfReplicaExists}
use Rattle.ls_words.specs.declared.flag.ValuedFlag.{ValuedFlag}
use Rattle.ls_words.specs.declared.flag.ValuedFlag.TheVariants.{Rounds, Retention, Output, Txid, Timestamp, Seed}
use Rattle.ls_words.specs.declared.flag.ValuedFlag.TheVariants.{DemoRounds}
use Rattle.ls_words.specs.declared.settings.Settings.{Settings}
use Rattle.ls_words.specs.declared.usage.Usage.{Usage}
use Rattle.ls_words.specs.declared.usage.UsageWhy.{UsageWhy}
use Rattle.ls_words.specs.declared.usage.UsageWhy.TheVariants.{BadTruth, BadNumber, BadTxid, BadMoment, BadDuration}
use Rattle.ls_words.specs.declared.usage.UsageWhy.TheVariants.{BadPath}
use Rattle.ls_words.specs.Fault.{or_fault, result_then}
use Rattle.ls_words.specs.FlagWord.{is_flag, is_end}
use Rattle.ls_words.specs.Given.{Given, given_at}
use Rattle.ls_words.specs.Moment.{moment_of}
use Rattle.ls_words.specs.Path.{path_of}
use Rattle.ls_words.specs.Settings.{default_rounds, Flagged}
use Rattle.ls_words.specs.Value.{truth_of, number_of, duration_of}

-- before any flag
abbrev pub default_settings : Verb → Settings
default_settings verb = record {
  rounds = default_rounds verb;
  keep = 86400000;
  at_rest = false;
  output = None;
  txid = None;
  moment = None;
  if_db_not_exists = false;
  if_replica_exists = false;
  seed = 1;
}

-- after a truth flag
abbrev pub with_truth : TruthFlag → Bool → Settings → Settings
with_truth AtRest truth settings = record settings { at_rest = truth }
with_truth IfDbNotExists truth settings = record settings { if_db_not_exists = truth }
with_truth IfReplicaExists truth settings = record settings { if_replica_exists = truth }

-- what was read from a word, put into the settings, or the fault of that word
abbrev pub put : {A : Type 0} → ℕ → UsageWhy → Option A → (A → Settings) → Result Settings Usage
put word why read set = result_then (or_fault word why read) (λ x. Ok (set x))

-- after a flag with a value
abbrev pub with_value : ValuedFlag → List ℕ → ℕ → Settings → Result Settings Usage
with_value Rounds text word settings = put word BadNumber (number_of 7 1 1000000 text)
    (λ n. record settings { rounds = n })
with_value DemoRounds text word settings = put word BadNumber (number_of 4 1 1000 text)
    (λ n. record settings { rounds = n })
with_value Seed text word settings = put word BadNumber (number_of 20 0 (2 ^ 64 - 1) text)
    (λ n. record settings { seed = n })
with_value Retention text word settings = put word BadDuration (duration_of text) (λ ms. record settings { keep = ms })
with_value Txid text word settings = put word BadTxid (txid_of text) (λ n. record settings { txid = Some n })
with_value Timestamp text word settings = put word BadMoment (moment_of text)
    (λ ms. record settings { moment = Some ms })
with_value Output text word settings = put word BadPath (path_of text) (λ path. record settings { output = Some path })

-- after a flag
abbrev pub with_flag : Flag → List ℕ → ℕ → Settings → Result Settings Usage
with_flag (Truth flag) text word settings = put word BadTruth (truth_of text) (λ truth. with_truth flag truth settings)
with_flag (Valued flag) text word settings = with_value flag text word settings

unfoldable pub with_given : Given → Settings → Result Settings Usage
with_given given settings = with_flag given.flag given.text given.word settings

-- after the flags from a place on
abbrev pub flagged : Verb → ℕ → Bool → Settings → List (List ℕ) → Result Flagged Usage
flagged verb at taken settings [] = Ok (record { settings = settings; first = at })
flagged verb at true settings (word ∷ rest) = flagged verb (at + 1) false settings rest
flagged verb at false settings (word ∷ rest) =
    if not (is_flag word) then Ok (record { settings = settings; first = at })
    else (if is_end word then Ok (record { settings = settings; first = at + 1 })
    else result_then (given_at verb at word rest)
    (λ given. result_then (with_given given settings)
    (λ settings. flagged verb (at + 1) (nat_lt at given.word) settings rest)))
