-- What holds of each command that words ask for.
use Rattle.std.proofs.Common.{◌≡◌, ◌≢◌, ℕ, ◌+◌, ◌<◌, ◌≤◌, Bool, true, false, cond, not, ◌&&◌, eqb, ltb, leb, List, []}
use Rattle.std.proofs.Common.{◌∷◌, length, get_or, drop, Option, Some, None, Result, Ok, Err, refl, sym, ap, subst, ◌∙◌}
use Rattle.std.proofs.Common.{arith}
use Rattle.std.specs.Prelude.{IfOk, unwrap_or, codes, nat_eq, bytes_eq}
use Rattle.std.specs.Option.{option_or}
use Rattle.std.specs.List.{starts_with}
use Rattle.std.specs.Str.Parse.{digits_value}
use Rattle.std.proofs.lemmas.Bool.{and_parts, leb-true}
use Rattle.std.proofs.lemmas.Bool.Decides.{nat_tests}
use Rattle.ls_words.specs.declared.verb.Verb.{Verb}
use Rattle.ls_words.specs.declared.verb.Verb.TheVariants as verb
use Rattle.ls_words.specs.declared.command.Command.{Command}
use Rattle.ls_words.specs.declared.flag.Flag.{Flag}
use Rattle.ls_words.specs.declared.flag.Flag.TheVariants.{Truth, Valued}
use Rattle.ls_words.specs.declared.flag.ValuedFlag.TheVariants.{Rounds, Retention, Output, Txid, Timestamp, Seed}
use Rattle.ls_words.specs.declared.flag.ValuedFlag.TheVariants.{DemoRounds}
use Rattle.ls_words.specs.declared.settings.Settings.{Settings}
use Rattle.ls_words.specs.declared.usage.Usage.{Usage}
use Rattle.ls_words.specs.declared.usage.WordsFault.{WordsFault}
use Rattle.ls_words.specs.declared.usage.UsageWhy.{UsageWhy}
use Rattle.ls_words.specs.declared.usage.UsageWhy.TheVariants.{BadPath, RemoteStore, BadSyntax, UnknownFlag}
use Rattle.ls_words.specs.declared.usage.UsageWhy.TheVariants.{UnknownCommand, NeedsOutput}
use Rattle.ls_words.specs.Command.{target_of, replicate_of, restore_of, ltx_of, command_of_verb, command_from}
use Rattle.ls_words.specs.Command.{command_with, command_of}
use Rattle.ls_words.specs.CommandFacts.{IsWellFormed}
use Rattle.ls_words.specs.Fault.{Agrees, or_fault, result_then}
use Rattle.ls_words.specs.Flag.{flag_of}
use Rattle.ls_words.specs.FlagWord.{named_of, is_flag, is_end}
use Rattle.ls_words.specs.Given.{Given, given_at, next_word, value_at, named_at}
use Rattle.ls_words.specs.Path.{is_path, path_of, names_scheme}
use Rattle.ls_words.specs.Plain.{not_empty, replica_of, at_word, replica_at, database_at}
use Rattle.ls_words.specs.Settings.{rounds_in, output_in, last_in, default_rounds, settings_of, first_fault, Flagged}
use Rattle.ls_words.specs.Settings.{unless, flags_of}
use Rattle.ls_words.specs.Split.{Split, plain_from, split_at, split_words}
use Rattle.ls_words.specs.Verb.{verb_of}
use Rattle.ls_words.specs.Value.{is_number, is_within, number_of}

-- P holds of what a first answer gave, where an answer follows from it
then_ok : {A B : Type 0} (P : B → Type 0) (r : Result A Usage) (next : A → Result B Usage) (x : B)
    → ((y : A) → r ≡ Ok y → next y ≡ Ok x → P x) → result_then r next ≡ Ok x → P x
then_ok P (Ok y) next x from e = from y refl e
then_ok P (Err usage) next x from e = absurd cc

or_fault_ok : {A : Type 0} (word : ℕ) (why : UsageWhy) (o : Option A) (x : A) → or_fault word why o ≡ Ok x → o ≡ Some x
or_fault_ok word why None x e = absurd cc
or_fault_ok word why (Some y) x e = let same : y ≡ x = cc in ap (λ z. Some z) same

same_ok : {A E : Type 0} (x y : A) → ◌≡◌ {A = Result A E} (Ok x) (Ok y) → x ≡ y
same_ok x y e = cc

same_given : (g h : Given) → ◌≡◌ {A = Result Given Usage} (Ok g) (Ok h) → g ≡ h
same_given g h e = cc

some_same : {A : Type 0} (x y : A) → ◌≡◌ {A = Option A} (Some x) (Some y) → x ≡ y
some_same x y e = cc

some_length : (b : Bool) (text t : List ℕ) (why : UsageWhy) → eqb (length text) 0 ≡ b
    → cond b (Err why) (Ok text) ≡ Ok t → 0 < length t
some_length true text t why is e = absurd cc
some_length false text t why is e = let same = ap length (same_ok text t e) in grind (arith, nat_tests)

longer : (text : List ℕ) (t : List ℕ) → not_empty text ≡ Ok t → 0 < length t
longer text t e = some_length (eqb (length text) 0) text t BadPath refl e

at_word_ok : (at : ℕ) (r : Result (List ℕ) UsageWhy) (t : List ℕ) → at_word at r ≡ Ok t → r ≡ Ok t
at_word_ok at (Ok u) t e = ap (λ v. Ok v) (same_ok u t e)
at_word_ok at (Err why) t e = absurd cc

folder_ok : (empty file scheme : Bool) (word rest t : List ℕ) (why other : UsageWhy) → eqb (length word) 0 ≡ empty
    → cond empty (Err other) (cond file (not_empty rest) (cond scheme (Err why) (Ok word))) ≡ Ok t → 0 < length t
folder_ok true file scheme word rest t why other is e = absurd cc
folder_ok false true scheme word rest t why other is e = longer rest t e
folder_ok false false true word rest t why other is e = absurd cc
folder_ok false false false word rest t why other is e = some_length false word t why is e

folder_of : (word t : List ℕ) → replica_of word ≡ Ok t → 0 < length t
unfolding replica_of
folder_of word t e = folder_ok (eqb (length word) 0) (starts_with nat_eq word (codes "file://")) (names_scheme word)
    word (drop 7 word) t RemoteStore BadPath refl e

replica_ok : (at : ℕ) (word t : List ℕ) → replica_at at word ≡ Ok t → 0 < length t
unfolding replica_at
replica_ok at word t e = folder_of word t (at_word_ok at (replica_of word) t e)

database_ok : (at : ℕ) (word t : List ℕ) → database_at at word ≡ Ok t → 0 < length t
unfolding database_at
database_ok at word t e = longer word t (at_word_ok at (not_empty word) t e)

within_ok : (b : Bool) (n m : ℕ) → cond b (Some n) None ≡ Some m → (b ≡ true) × (n ≡ m)
within_ok true n m e = (refl, some_same n m e)
within_ok false n m e = absurd cc

-- a number lies in its range
number_ok : (most low high : ℕ) (text : List ℕ) (n : ℕ) → number_of most low high text ≡ Some n → (low ≤ n) × (n ≤ high)
unfolding number_of is_within
number_ok most low high text n e =
    let v = digits_value 10 text in
    let p = within_ok (is_number most text && (leb low v && leb v high)) v n e in
    let q = and_parts (leb low v) (leb v high) (and_parts (is_number most text) _ p.0).1 in
    let a = leb-true low v q.0 in
    let b = leb-true v high q.1 in
    omega (arith, p.1)

kept : (b : Bool) (text p : List ℕ) → is_path text ≡ b → cond b (Some text) None ≡ Some p → is_path p ≡ true
kept true text p is e = ap is_path (sym (some_same text p e)) ∙ is
kept false text p is e = absurd cc

path_ok : (text p : List ℕ) → path_of text ≡ Some p → is_path p ≡ true
unfolding path_of
path_ok text p e = kept (is_path text) text p refl e

one_or : {A : Type 0} (o p : Option A) (Q : A → Type 0) → ((x : A) → o ≡ Some x → Q x) → ((x : A) → p ≡ Some x → Q x)
    → (x : A) → option_or o p ≡ Some x → Q x
one_or None p Q a b x e = b x e
one_or (Some y) p Q a b x e = a x e

-- P holds of each
AllOf : (Given → Type 0) → List Given → Type 0
AllOf P [] = Unit {0}
AllOf P (g ∷ given) = P g × AllOf P given

-- what a value gives of each flag, the last gives
last_from : {A : Type 0} (value : Flag → List ℕ → Option A) (P : Given → Type 0) (Q : A → Type 0)
    → ((g : Given) (x : A) → P g → value g.flag g.text ≡ Some x → Q x) → (given : List Given) → AllOf P given
    → (x : A) → last_in value given ≡ Some x → Q x
unfolding AllOf
last_from value P Q each [] all x e = absurd cc
last_from value P Q each (g ∷ given) all x e = one_or (last_in value given) (value g.flag g.text) Q
    (λ y. last_from value P Q each given all.1 y) (λ y. each g y all.0) x e

-- the rounds in any command
rounds_ok : (flag : Flag) (text : List ℕ) (n : ℕ) → rounds_in flag text ≡ Some n → (1 ≤ n) × (n ≤ 1000000)
rounds_ok (Truth flag) text n e = absurd cc
rounds_ok (Valued Rounds) text n e = number_ok 7 1 1000000 text n e
rounds_ok (Valued DemoRounds) text n e = let b = number_ok 4 1 1000 text n e in omega arith
rounds_ok (Valued Seed) text n e = absurd cc
rounds_ok (Valued Retention) text n e = absurd cc
rounds_ok (Valued Output) text n e = absurd cc
rounds_ok (Valued Txid) text n e = absurd cc
rounds_ok (Valued Timestamp) text n e = absurd cc

-- the rounds of `demo`, which lacks the flag of `replicate`
IsOfDemo : Given → Type 0
IsOfDemo g = g.flag ≢ Valued Rounds

demo_rounds_ok : (flag : Flag) (text : List ℕ) (n : ℕ) → flag ≢ Valued Rounds → rounds_in flag text ≡ Some n → (1 ≤ n)
    × (n ≤ 1000)
demo_rounds_ok (Truth flag) text n other e = absurd cc
demo_rounds_ok (Valued Rounds) text n other e = absurd (other refl)
demo_rounds_ok (Valued DemoRounds) text n other e = number_ok 4 1 1000 text n e
demo_rounds_ok (Valued Seed) text n other e = absurd cc
demo_rounds_ok (Valued Retention) text n other e = absurd cc
demo_rounds_ok (Valued Output) text n other e = absurd cc
demo_rounds_ok (Valued Txid) text n other e = absurd cc
demo_rounds_ok (Valued Timestamp) text n other e = absurd cc

demo_flag_other : (a b : Bool) (flag : Flag) → cond a (Some (Valued Seed)) (cond b (Some (Valued DemoRounds)) None)
    ≡ Some flag → flag ≢ Valued Rounds
demo_flag_other true b flag e is = absurd cc
demo_flag_other false true flag e is = absurd cc
demo_flag_other false false flag e is = absurd cc

named_other : (name : List ℕ) (flag : Flag) → flag_of verb.Demo name ≡ Some flag → flag ≢ Valued Rounds
unfolding flag_of
named_other name flag e = demo_flag_other (bytes_eq name (codes "seed")) (bytes_eq name (codes "rounds")) flag e

next_flag : (at : ℕ) (flag : Flag) (rest : List (List ℕ)) (g : Given) → next_word at flag rest ≡ Ok g → g.flag ≡ flag
next_flag at flag [] g e = absurd cc
next_flag at flag (text ∷ rest) g e = sym (ap (λ h. h.flag) (same_given _ g e))

value_flag : (at : ℕ) (flag : Flag) (value : Option (List ℕ)) (rest : List (List ℕ)) (g : Given)
    → value_at at flag value rest ≡ Ok g → g.flag ≡ flag
value_flag at flag (Some text) rest g e = sym (ap (λ h. h.flag) (same_given _ g e))
value_flag at (Truth flag) None rest g e = sym (ap (λ h. h.flag) (same_given _ g e))
value_flag at (Valued flag) None rest g e = next_flag at (Valued flag) rest g e

given_other : (at : ℕ) (word : List ℕ) (rest : List (List ℕ)) (g : Given) → given_at verb.Demo at word rest ≡ Ok g
    → IsOfDemo g
unfolding given_at IsOfDemo
given_other at word rest g e =
    then_ok (λ (h : Given). h.flag ≢ Valued Rounds) (or_fault at BadSyntax (named_of word))
    (named_at verb.Demo at rest) g
    (λ named had e2. then_ok (λ (h : Given). h.flag ≢ Valued Rounds)
    (or_fault at UnknownFlag (flag_of verb.Demo named.name)) (λ flag. value_at at flag named.value rest) g
    (λ flag found e3. (λ is. named_other named.name flag
    (or_fault_ok at UnknownFlag (flag_of verb.Demo named.name) flag found)
    (sym (value_flag at flag named.value rest g e3) ∙ is))) e2) e

split_then : (at : ℕ) (is ends : Bool) (r : Result Given Usage) (rest : Given → Split)
    → ((g : Given) → r ≡ Ok g → IsOfDemo g) → ((g : Given) → AllOf IsOfDemo (rest g).given)
    → AllOf IsOfDemo (cond (not is) (plain_from at) (cond ends (plain_from (at + 1)) (split_at at r rest))).given
unfolding AllOf
split_then at false ends r rest one all = tt
split_then at true true r rest one all = tt
split_then at true false (Err usage) rest one all = tt
split_then at true false (Ok g) rest one all = (one g refl, all g)

split_demo : (at : ℕ) (taken : Bool) (words : List (List ℕ))
    → AllOf IsOfDemo (split_words verb.Demo at taken words).given
unfolding AllOf
split_demo at taken [] = tt
split_demo at true (word ∷ rest) = split_demo (at + 1) false rest
split_demo at false (word ∷ rest) =
    split_then at (is_flag word) (is_end word) (given_at verb.Demo at word rest)
    (λ g. split_words verb.Demo (at + 1) (ltb at g.word) rest) (given_other at word rest)
    (λ g. split_demo (at + 1) (ltb at g.word) rest)

IsAny : Given → Type 0
IsAny g = Unit {0}

all_any : (given : List Given) → AllOf IsAny given
unfolding AllOf IsAny
all_any [] = tt
all_any (g ∷ given) = (tt, all_any given)

default_or : (o : Option ℕ) (d high : ℕ) → 1 ≤ d → d ≤ high → ((n : ℕ) → o ≡ Some n → (1 ≤ n) × (n ≤ high))
    → (1 ≤ unwrap_or o d) × (unwrap_or o d ≤ high)
default_or None d high a b all = (a, b)
default_or (Some n) d high a b all = all n refl

default_in : (v : Verb) → (1 ≤ default_rounds v) × (default_rounds v ≤ 10)
default_in verb.Replicate = omega arith
default_in verb.Restore = omega arith
default_in verb.Ltx = omega arith
default_in verb.Demo = omega arith

settings_rounds : (v : Verb) (given : List Given) → (1 ≤ (settings_of v given).rounds)
    × ((settings_of v given).rounds ≤ 1000000)
settings_rounds v given =
    let d = default_in v in
    default_or (last_in rounds_in given) (default_rounds v) 1000000 (omega arith) (omega arith)
    (last_from rounds_in IsAny (λ (n : ℕ). (1 ≤ n) × (n ≤ 1000000))
    (λ g n any e. rounds_ok g.flag g.text n e) given (all_any given))

demo_rounds : (given : List Given) → AllOf IsOfDemo given → (1 ≤ (settings_of verb.Demo given).rounds)
    × ((settings_of verb.Demo given).rounds ≤ 1000)
unfolding IsOfDemo
demo_rounds given all =
    default_or (last_in rounds_in given) 10 1000 (omega arith) (omega arith)
    (last_from rounds_in IsOfDemo (λ (n : ℕ). (1 ≤ n) × (n ≤ 1000))
    (λ g n other e. demo_rounds_ok g.flag g.text n other e) given all)

output_path : (flag : Flag) (text p : List ℕ) → output_in flag text ≡ Some p → is_path p ≡ true
output_path (Truth flag) text p e = absurd cc
output_path (Valued Output) text p e = path_ok text p e
output_path (Valued Rounds) text p e = absurd cc
output_path (Valued DemoRounds) text p e = absurd cc
output_path (Valued Seed) text p e = absurd cc
output_path (Valued Retention) text p e = absurd cc
output_path (Valued Txid) text p e = absurd cc
output_path (Valued Timestamp) text p e = absurd cc

settings_output : (v : Verb) (given : List Given) (p : List ℕ) → (settings_of v given).output ≡ Some p
    → is_path p ≡ true
settings_output v given p e = last_from output_in IsAny (λ (q : List ℕ). is_path q ≡ true)
    (λ g q any f. output_path g.flag g.text q f) given (all_any given) p e

-- the most rounds of a command
limit : Verb → ℕ
limit verb.Replicate = 1000000
limit verb.Restore = 1000000
limit verb.Ltx = 1000000
limit verb.Demo = 1000

-- what holds of settings that flags gave
record AreSet (v : Verb) (s : Settings) : Type 0 where
  low : 1 ≤ s.rounds
  high : s.rounds ≤ limit v
  path : (p : List ℕ) → s.output ≡ Some p → is_path p ≡ true

are_set : (v : Verb) (at : ℕ) (words : List (List ℕ)) → AreSet v (settings_of v (split_words v at false words).given)
unfolding limit
are_set verb.Replicate at words = let given = (split_words verb.Replicate at false words).given in let r =
    settings_rounds verb.Replicate given in record
    { low = r.0; high = r.1; path = settings_output verb.Replicate given }
are_set verb.Restore at words = let given = (split_words verb.Restore at false words).given in let r = settings_rounds
    verb.Restore given in record { low = r.0; high = r.1; path = settings_output verb.Restore given }
are_set verb.Ltx at words = let given = (split_words verb.Ltx at false words).given in let r = settings_rounds
    verb.Ltx given in record { low = r.0; high = r.1; path = settings_output verb.Ltx given }
are_set verb.Demo at words = let given = (split_words verb.Demo at false words).given in let r = demo_rounds given
    (split_demo at false words) in record { low = r.0; high = r.1; path = settings_output verb.Demo given }

unless_ok : (v : Verb) (o : Option Usage) (x f : Flagged) → AreSet v x.settings → unless o x ≡ Ok f
    → AreSet v f.settings
unless_ok v (Some usage) x f is e = absurd cc
unless_ok v None x f is e = subst (λ (g : Flagged). AreSet v g.settings) (same_ok x f e) is

flags_set : (v : Verb) (rest : List (List ℕ)) (f : Flagged) → flags_of v rest ≡ Ok f → AreSet v f.settings
unfolding flags_of
flags_set v rest f e =
    let split = split_words v 1 false rest in
    unless_ok v (first_fault split.given split.fault)
    (record { settings = settings_of v split.given; first = split.first }) f (are_set v 1 rest) e

replicate_formed : (words : List (List ℕ)) (first : ℕ) (s : Settings) (c : Command) → AreSet verb.Replicate s
    → replicate_of words first s ≡ Ok c → IsWellFormed c
unfolding replicate_of limit
replicate_formed words first s c is e =
    then_ok IsWellFormed (database_at first (get_or words first [])) _ c
    (λ db had e2. then_ok IsWellFormed (replica_at (first + 1) (get_or words (first + 1) [])) _ c
    (λ replica found e3. subst IsWellFormed (same_ok _ c e3)
    (database_ok first _ db had, replica_ok (first + 1) _ replica found, is.low, is.high)) e2) e

restore_formed : (words : List (List ℕ)) (first : ℕ) (s : Settings) (c : Command) → AreSet verb.Restore s
    → restore_of words first s ≡ Ok c → IsWellFormed c
unfolding restore_of
restore_formed words first s c is e =
    then_ok IsWellFormed (replica_at first (get_or words first [])) _ c
    (λ replica found e2. then_ok IsWellFormed (or_fault (length words) NeedsOutput s.output) _ c
    (λ output had e3. then_ok IsWellFormed (target_of (length words) s.txid s.moment) _ c
    (λ target one e4. subst IsWellFormed (same_ok _ c e4)
    (is.path output (or_fault_ok _ _ s.output output had), replica_ok first _ replica found)) e3) e2) e

ltx_formed : (words : List (List ℕ)) (first : ℕ) (c : Command) → ltx_of words first ≡ Ok c → IsWellFormed c
unfolding ltx_of
ltx_formed words first c e =
    then_ok IsWellFormed (replica_at first (get_or words first [])) _ c
    (λ replica found e2. subst IsWellFormed (same_ok _ c e2) (replica_ok first _ replica found)) e

of_verb : (v : Verb) (words : List (List ℕ)) (first : ℕ) (s : Settings) (c : Command) → AreSet v s
    → command_of_verb v words first s ≡ Ok c → IsWellFormed c
unfolding limit
of_verb verb.Replicate words first s c is e = replicate_formed words first s c is e
of_verb verb.Restore words first s c is e = restore_formed words first s c is e
of_verb verb.Ltx words first s c is e = ltx_formed words first c e
of_verb verb.Demo words first s c is e = subst IsWellFormed (same_ok _ c e) (is.low, is.high)

from_plain : (v : Verb) (words : List (List ℕ)) (first : ℕ) (s : Settings) (c : Command) → AreSet v s
    → command_from v words first s ≡ Ok c → IsWellFormed c
unfolding command_from
from_plain v words first s c is e = then_ok IsWellFormed _ _ c (λ enough had e2. of_verb v words first s c is e2) e

-- each command that words ask for is well formed
pub well_formed : (words : List (List ℕ)) (c : Command) → command_of words ≡ Ok c → IsWellFormed c
well_formed [] c e = absurd cc
well_formed (word ∷ rest) c e =
    then_ok IsWellFormed (or_fault 0 UnknownCommand (verb_of word)) (λ v. command_with v (word ∷ rest) rest) c
    (λ v named e2. then_ok IsWellFormed (flags_of v rest)
    (λ flagged. command_from v (word ∷ rest) flagged.first flagged.settings) c
    (λ f set e3. from_plain v (word ∷ rest) f.first f.settings c (flags_set v rest f set) e3) e2) e

-- and so is each that an answer holds
pub well_formed_answer : (r : Result Command WordsFault) (words : List (List ℕ)) → Agrees r (command_of words)
    → IfOk r IsWellFormed
well_formed_answer (Ok c) words e = well_formed words c e
well_formed_answer (Err fault) words e = tt
