-- What flags set. The ranges and the defaults are this project's rule.
use Rattle.std.specs.Prelude.{ℕ, ◌-◌, ◌^◌, Bool, false, List, [], ◌∷◌, Option, Some, None, Result, Ok, Err}
use Rattle.std.specs.Prelude.{option_map, unwrap_or, ℤ}
use Rattle.std.specs.Option.{option_or}
use Rattle.ls_base.specs.Txid.{txid_of}
use Rattle.ls_words.specs.declared.verb.Verb.{Verb}
use Rattle.ls_words.specs.declared.verb.Verb.TheVariants.{Demo}
use Rattle.ls_words.specs.declared.flag.Flag.{Flag}
use Rattle.ls_words.specs.declared.flag.Flag.TheVariants.{Truth, Valued}
use Rattle.ls_words.specs.declared.flag.TruthFlag.TheVariants.{AtRest, IfDbNotExists, IfReplicaExists}
use Rattle.ls_words.specs.declared.flag.ValuedFlag.TheVariants.{Rounds, Retention, Output, Txid, Timestamp, Seed}
use Rattle.ls_words.specs.declared.flag.ValuedFlag.TheVariants.{DemoRounds}
use Rattle.ls_words.specs.declared.settings.Settings.{Settings}
use Rattle.ls_words.specs.declared.usage.Usage.{Usage}
use Rattle.ls_words.specs.declared.usage.UsageWhy.{UsageWhy}
use Rattle.ls_words.specs.declared.usage.UsageWhy.TheVariants.{BadTruth, BadNumber, BadTxid, BadMoment, BadDuration}
use Rattle.ls_words.specs.declared.usage.UsageWhy.TheVariants.{BadPath}
use Rattle.ls_words.specs.Given.{Given}
use Rattle.ls_words.specs.Moment.{moment_of}
use Rattle.ls_words.specs.Path.{path_of}
use Rattle.ls_words.specs.Split.{split_words}
use Rattle.ls_words.specs.Value.{truth_of, number_of, duration_of}

-- the rounds that a flag sets: 1 to 7 digits up to 1000000, and of `demo` 1 to 4 up to 1000
abbrev pub rounds_in : Flag → List ℕ → Option ℕ
rounds_in (Valued Rounds) text = number_of 7 1 1000000 text
rounds_in (Valued DemoRounds) text = number_of 4 1 1000 text
rounds_in flag text = None

-- how long files are retained, in ms
abbrev pub keep_in : Flag → List ℕ → Option ℕ
keep_in (Valued Retention) text = duration_of text
keep_in flag text = None

-- whether the database is at rest
abbrev pub at_rest_in : Flag → List ℕ → Option Bool
at_rest_in (Truth AtRest) text = truth_of text
at_rest_in flag text = None

-- the path of the output
abbrev pub output_in : Flag → List ℕ → Option (List ℕ)
output_in (Valued Output) text = path_of text
output_in flag text = None

-- the transaction
abbrev pub txid_in : Flag → List ℕ → Option ℕ
txid_in (Valued Txid) text = txid_of text
txid_in flag text = None

-- the moment, in ms
abbrev pub moment_in : Flag → List ℕ → Option ℤ
moment_in (Valued Timestamp) text = moment_of text
moment_in flag text = None

-- whether an output that exists is left as it is
abbrev pub if_db_not_exists_in : Flag → List ℕ → Option Bool
if_db_not_exists_in (Truth IfDbNotExists) text = truth_of text
if_db_not_exists_in flag text = None

-- whether a replica without files is no fault
abbrev pub if_replica_exists_in : Flag → List ℕ → Option Bool
if_replica_exists_in (Truth IfReplicaExists) text = truth_of text
if_replica_exists_in flag text = None

-- the seed: 1 to 20 digits of 64 bits
abbrev pub seed_in : Flag → List ℕ → Option ℕ
seed_in (Valued Seed) text = number_of 20 0 (2 ^ 64 - 1) text
seed_in flag text = None

-- of repeats the last wins
abbrev pub last_in : {A : Type 0} → (Flag → List ℕ → Option A) → List Given → Option A
last_in value [] = None
last_in value (given ∷ rest) = option_or (last_in value rest) (value given.flag given.text)

-- one round, and ten of `demo`, where no flag says
abbrev pub default_rounds : Verb → ℕ
default_rounds Demo = 10
default_rounds verb = 1

-- what flags set; without them files are retained for 24 hours, the seed is 1, and the truths are false
abbrev pub settings_of : Verb → List Given → Settings
settings_of verb given = record {
  rounds = unwrap_or (last_in rounds_in given) (default_rounds verb);
  keep = unwrap_or (last_in keep_in given) 86400000;
  at_rest = unwrap_or (last_in at_rest_in given) false;
  output = last_in output_in given;
  txid = last_in txid_in given;
  moment = last_in moment_in given;
  if_db_not_exists = unwrap_or (last_in if_db_not_exists_in given) false;
  if_replica_exists = unwrap_or (last_in if_replica_exists_in given) false;
  seed = unwrap_or (last_in seed_in given) 1;
}

-- a value that can't be read is refused for this reason
abbrev pub refused : {A : Type 0} → UsageWhy → Option A → Option UsageWhy
refused why None = Some why
refused why (Some x) = None

-- why the value of a flag is refused, by the kind of value that the flag takes
abbrev pub value_fault : Flag → List ℕ → Option UsageWhy
value_fault (Truth flag) text = refused BadTruth (truth_of text)
value_fault (Valued Rounds) text = refused BadNumber (rounds_in (Valued Rounds) text)
value_fault (Valued DemoRounds) text = refused BadNumber (rounds_in (Valued DemoRounds) text)
value_fault (Valued Seed) text = refused BadNumber (seed_in (Valued Seed) text)
value_fault (Valued Retention) text = refused BadDuration (duration_of text)
value_fault (Valued Output) text = refused BadPath (path_of text)
value_fault (Valued Txid) text = refused BadTxid (txid_of text)
value_fault (Valued Timestamp) text = refused BadMoment (moment_of text)

-- a reason with the word that it speaks of
abbrev pub at_value : Given → UsageWhy → Usage
at_value given why = record { word = given.word; why = why }

-- the first fault of flags: of their values in order, each refused though a later one sets the same, and then of the
-- word that ended them
abbrev pub first_fault : List Given → Option Usage → Option Usage
first_fault [] fault = fault
first_fault (given ∷ rest) fault = option_or (option_map (at_value given) (value_fault given.flag given.text))
    (first_fault rest fault)

-- what the flags set, and where the plain words begin
pub record Flagged : Type 0 where
  pub settings : Settings
  pub first : ℕ

-- a fault, or else the answer
abbrev pub unless : {A : Type 0} → Option Usage → A → Result A Usage
unless (Some usage) x = Err usage
unless None x = Ok x

-- what the words behind the first one set as flags, or the first fault of the flags
unfoldable pub flags_of : Verb → List (List ℕ) → Result Flagged Usage
flags_of verb rest =
    let split = split_words verb 1 false rest in
    unless (first_fault split.given split.fault)
    (record { settings = settings_of verb split.given; first = split.first })
