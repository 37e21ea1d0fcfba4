-- Flags read one after the other give what the definitions of settings give.
use Rattle.std.proofs.Common.{◌≡◌, ℕ, ◌+◌, Bool, true, false, cond, not, ltb, List, [], ◌∷◌, Option, Some, None, Result}
use Rattle.std.proofs.Common.{Ok, Err, refl, ap, ◌∙◌}
use Rattle.std.specs.Prelude.{unwrap_or, option_map}
use Rattle.std.specs.Option.{option_or}
use Rattle.ls_words.specs.declared.verb.Verb.{Verb}
use Rattle.ls_words.specs.declared.flag.Flag.{Flag}
use Rattle.ls_words.specs.declared.flag.Flag.TheVariants.{Truth, Valued}
use Rattle.ls_words.specs.declared.flag.TruthFlag.TheVariants.{AtRest, IfDbNotExists, IfReplicaExists}
use Rattle.ls_words.specs.declared.flag.ValuedFlag.TheVariants.{Rounds, Retention, Output, Txid, Timestamp, Seed}
use Rattle.ls_words.specs.declared.flag.ValuedFlag.TheVariants.{DemoRounds}
use Rattle.ls_words.specs.declared.settings.Settings.{Settings}
use Rattle.ls_words.specs.declared.usage.Usage.{Usage}
use Rattle.ls_words.specs.declared.usage.UsageWhy.{UsageWhy}
use Rattle.ls_words.specs.declared.usage.UsageWhy.TheVariants.{BadTruth, BadNumber, BadTxid, BadMoment, BadDuration}
use Rattle.ls_words.specs.declared.usage.UsageWhy.TheVariants.{BadPath}
use Rattle.ls_base.specs.Txid.{txid_of}
use Rattle.ls_words.specs.Fault.{result_then}
use Rattle.ls_words.specs.FlagWord.{is_flag, is_end}
use Rattle.ls_words.specs.Given.{Given, given_at}
use Rattle.ls_words.specs.Moment.{moment_of}
use Rattle.ls_words.specs.Path.{path_of}
use Rattle.ls_words.specs.Split.{Split, plain_from, split_at, split_words}
use Rattle.ls_words.specs.Settings.{rounds_in, keep_in, at_rest_in, output_in, txid_in, moment_in, if_db_not_exists_in}
use Rattle.ls_words.specs.Settings.{if_replica_exists_in, seed_in, last_in, settings_of, refused, value_fault, at_value}
use Rattle.ls_words.specs.Settings.{first_fault, Flagged, unless, flags_of}
use Rattle.ls_words.specs.Reading.{default_settings, put, with_flag, with_given, flagged}
use Rattle.ls_words.specs.Value.{truth_of, duration_of}

-- settings after further flags
abbrev later : Settings → List Given → Settings
later s given = record {
  rounds = unwrap_or (last_in rounds_in given) s.rounds;
  keep = unwrap_or (last_in keep_in given) s.keep;
  at_rest = unwrap_or (last_in at_rest_in given) s.at_rest;
  output = option_or (last_in output_in given) s.output;
  txid = option_or (last_in txid_in given) s.txid;
  moment = option_or (last_in moment_in given) s.moment;
  if_db_not_exists = unwrap_or (last_in if_db_not_exists_in given) s.if_db_not_exists;
  if_replica_exists = unwrap_or (last_in if_replica_exists_in given) s.if_replica_exists;
  seed = unwrap_or (last_in seed_in given) s.seed;
}

-- and after one
abbrev after : Settings → Flag → List ℕ → Settings
after s flag text = record {
  rounds = unwrap_or (rounds_in flag text) s.rounds;
  keep = unwrap_or (keep_in flag text) s.keep;
  at_rest = unwrap_or (at_rest_in flag text) s.at_rest;
  output = option_or (output_in flag text) s.output;
  txid = option_or (txid_in flag text) s.txid;
  moment = option_or (moment_in flag text) s.moment;
  if_db_not_exists = unwrap_or (if_db_not_exists_in flag text) s.if_db_not_exists;
  if_replica_exists = unwrap_or (if_replica_exists_in flag text) s.if_replica_exists;
  seed = unwrap_or (seed_in flag text) s.seed;
}

abbrev at_word : ℕ → UsageWhy → Usage
at_word word why = record { word = word; why = why }

put_is : {A : Type 0} (word : ℕ) (why : UsageWhy) (read : Option A) (set : A → Settings) (whole : Option A → Settings)
    → ((x : A) → set x ≡ whole (Some x)) → put word why read set ≡ unless
    (option_map (at_word word) (refused why read)) (whole read)
put_is word why None set whole e = refl
put_is word why (Some x) set whole e = ap (λ s. Ok s) (e x)

one_flag : (flag : Flag) (text : List ℕ) (word : ℕ) (s : Settings)
    → with_flag flag text word s ≡ unless (option_map (at_word word) (value_fault flag text)) (after s flag text)
one_flag (Truth AtRest) text word s = put_is word BadTruth (truth_of text) (λ b. record s { at_rest = b })
    (λ o. record s { at_rest = unwrap_or o s.at_rest }) (λ x. refl)
one_flag (Truth IfDbNotExists) text word s = put_is word BadTruth (truth_of text)
    (λ b. record s { if_db_not_exists = b }) (λ o. record s { if_db_not_exists = unwrap_or o s.if_db_not_exists })
    (λ x. refl)
one_flag (Truth IfReplicaExists) text word s = put_is word BadTruth (truth_of text)
    (λ b. record s { if_replica_exists = b }) (λ o. record s { if_replica_exists = unwrap_or o s.if_replica_exists })
    (λ x. refl)
one_flag (Valued Rounds) text word s = put_is word BadNumber (rounds_in (Valued Rounds) text)
    (λ n. record s { rounds = n }) (λ o. record s { rounds = unwrap_or o s.rounds }) (λ x. refl)
one_flag (Valued DemoRounds) text word s = put_is word BadNumber (rounds_in (Valued DemoRounds) text)
    (λ n. record s { rounds = n }) (λ o. record s { rounds = unwrap_or o s.rounds }) (λ x. refl)
one_flag (Valued Seed) text word s = put_is word BadNumber (seed_in (Valued Seed) text) (λ n. record s { seed = n })
    (λ o. record s { seed = unwrap_or o s.seed }) (λ x. refl)
one_flag (Valued Retention) text word s = put_is word BadDuration (duration_of text) (λ n. record s { keep = n })
    (λ o. record s { keep = unwrap_or o s.keep }) (λ x. refl)
one_flag (Valued Txid) text word s = put_is word BadTxid (txid_of text) (λ n. record s { txid = Some n })
    (λ o. record s { txid = option_or o s.txid }) (λ x. refl)
one_flag (Valued Timestamp) text word s = put_is word BadMoment (moment_of text) (λ z. record s { moment = Some z })
    (λ o. record s { moment = option_or o s.moment }) (λ x. refl)
one_flag (Valued Output) text word s = put_is word BadPath (path_of text) (λ p. record s { output = Some p })
    (λ o. record s { output = option_or o s.output }) (λ x. refl)

default_of_default : {A : Type 0} (o p : Option A) (d : A) → unwrap_or o (unwrap_or p d) ≡ unwrap_or (option_or o p) d
default_of_default None p d = refl
default_of_default (Some x) p d = refl

or_or : {A : Type 0} (o p q : Option A) → option_or o (option_or p q) ≡ option_or (option_or o p) q
or_or None p q = refl
or_or (Some x) p q = refl

or_none : {A : Type 0} (o : Option A) → option_or o None ≡ o
or_none None = refl
or_none (Some x) = refl

-- a flag and then further ones
later-after : (s : Settings) (g : Given) (given : List Given)
    → later (after s g.flag g.text) given ≡ later s (g ∷ given)
later-after s g given = simp (default_of_default, or_or)

-- what a split gives from settings on
abbrev from_split : Settings → Split → Result Flagged Usage
from_split s split = unless (first_fault split.given split.fault)
    (record { settings = later s split.given; first = split.first })

flag_then : (s : Settings) (g : Given) (split : Split) (fault : Option UsageWhy)
    (read : Settings → Result Flagged Usage) → ((t : Settings) → read t ≡ from_split t split)
    → result_then (unless (option_map (at_word g.word) fault) (after s g.flag g.text)) read ≡ unless
    (option_or (option_map (at_value g) fault) (first_fault split.given split.fault))
    (record { settings = later s (g ∷ split.given); first = split.first })
flag_then s g split (Some why) read reads = refl
flag_then s g split None read reads =
    reads (after s g.flag g.text) ∙ ap
    (λ t. unless (first_fault split.given split.fault) (record { settings = t; first = split.first }))
    (later-after s g split.given)

given_then : (s : Settings) (at : ℕ) (r : Result Given Usage) (rest : Given → Split)
    (read : Given → Settings → Result Flagged Usage) → ((g : Given) (t : Settings) → read g t ≡ from_split t (rest g))
    → result_then r (λ g. result_then (with_given g s) (read g)) ≡ from_split s (split_at at r rest)
unfolding with_given
given_then s at (Err usage) rest read reads = refl
given_then s at (Ok g) rest read reads =
    ap (λ r. result_then r (read g)) (one_flag g.flag g.text g.word s)
    ∙ flag_then s g (rest g) (value_fault g.flag g.text) (read g) (reads g)

word_then : (s : Settings) (at : ℕ) (is ends : Bool) (r : Result Given Usage) (rest : Given → Split)
    (read : Given → Settings → Result Flagged Usage) → ((g : Given) (t : Settings) → read g t ≡ from_split t (rest g))
    → cond (not is) (Ok (record { settings = s; first = at }))
    (cond ends (Ok (record { settings = s; first = at + 1 }))
    (result_then r (λ g. result_then (with_given g s) (read g))))
    ≡ from_split s (cond (not is) (plain_from at) (cond ends (plain_from (at + 1)) (split_at at r rest)))
word_then s at false ends r rest read reads = refl
word_then s at true true r rest read reads = refl
word_then s at true false r rest read reads = given_then s at r rest read reads

flagged-split : (verb : Verb) (at : ℕ) (taken : Bool) (s : Settings) (words : List (List ℕ))
    → flagged verb at taken s words ≡ from_split s (split_words verb at taken words)
flagged-split verb at taken s [] = refl
flagged-split verb at true s (word ∷ rest) = flagged-split verb (at + 1) false s rest
flagged-split verb at false s (word ∷ rest) =
    word_then s at (is_flag word) (is_end word) (given_at verb at word rest)
    (λ g. split_words verb (at + 1) (ltb at g.word) rest) (λ g t. flagged verb (at + 1) (ltb at g.word) t rest)
    (λ g t. flagged-split verb (at + 1) (ltb at g.word) t rest)

from_defaults : (verb : Verb) (given : List Given) → later (default_settings verb) given ≡ settings_of verb given
from_defaults verb given = simp or_none

-- flags read in turn are the flags of the definition
pub read_in_turn : (verb : Verb) (rest : List (List ℕ)) → flagged verb 1 false (default_settings verb) rest ≡ flags_of
    verb rest
unfolding flags_of
read_in_turn verb rest =
    let split = split_words verb 1 false rest in
    flagged-split verb 1 false (default_settings verb) rest
    ∙ ap (λ t. unless (first_fault split.given split.fault) (record { settings = t; first = split.first }))
    (from_defaults verb split.given)
