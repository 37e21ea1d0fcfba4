-- Logs that agree, and histories that grow.
use Rattle.std.proofs.Common.{◌≡◌, ℕ, zero, suc, ◌+◌, ◌<◌, ◌≤◌, true, false, List, [], ◌∷◌, ◌++◌, length, take, Option}
use Rattle.std.proofs.Common.{Some, None, refl, sym, ap, ◌∙◌, append_assoc, length-append, arith}
use Rattle.std.specs.Prelude.{IsSome, is_some, option_and_then, option_map, find}
use Rattle.std.specs.List.{AllByRecursion, slice_get}
use Rattle.std.specs.Option.{option_or}
use Rattle.std.proofs.lemmas.List.Folds.{find-append}
use Rattle.std.proofs.lemmas.List.{take-append-le, append-nil}
use Rattle.std.proofs.lemmas.Option.{slice_get_within, none-some}
use Rattle.ls_base.specs.declared.entry.Entry.{Entry}
use Rattle.ls_base.specs.declared.line.Line.{Line}
use Rattle.ls_base.specs.declared.place.Place.{Place}
use Rattle.ls_base.specs.History.{History, state_of, state_at}
use Rattle.ls_base.specs.Place.{is_same_place}
use Rattle.ls_base.specs.State.{State}
use Rattle.ls_base.specs.SyncLog.{SyncLog, line_of, recorded_state}
use Rattle.replica_store.specs.CarriesOn.{IsYoung, IsLonger}

-- ---- lines

get-take : {X : Type 0} (xs : List X) (n t : ℕ) → t < n → slice_get (take n xs) t ≡ slice_get xs t
get-take [] zero t below = refl
get-take [] (suc n) t below = refl
get-take (x ∷ xs) zero t below = absurd (omega (arith, below))
get-take (x ∷ xs) (suc n) zero below = refl
get-take (x ∷ xs) (suc n) (suc t) below = get-take xs n t (omega (arith, below))

get-append : {X : Type 0} (xs ys : List X) (t : ℕ) → t < length xs → slice_get (xs ++ ys) t ≡ slice_get xs t
get-append [] ys t below = absurd (omega (arith, below))
get-append (x ∷ xs) ys zero below = refl
get-append (x ∷ xs) ys (suc t) below = get-append xs ys t (omega (arith, below))

-- a front of a log has the lines of the log
pub line_of-take : (log : SyncLog) (n t : ℕ) → t ≤ n → line_of (take n log) t ≡ line_of log t
line_of-take log n zero below = refl
line_of-take log n (suc t) below = get-take log n t (omega (arith, below))

-- and so has a longer one
pub line_of-longer : (log later : SyncLog) (t : ℕ) → IsLonger log later → t ≤ length log
    → line_of later t ≡ line_of log t
line_of-longer log later zero longer below = refl
line_of-longer log later (suc t) longer below = ap (λ lines. slice_get lines t) longer.is
    ∙ get-append log longer.more t (omega (arith, below))

pub longer_by : (log later : SyncLog) → IsLonger log later → length log ≤ length later
longer_by log later longer =
    let e : length later ≡ length log + length longer.more = ap length longer.is
    ∙ length-append log longer.more in omega (arith, e)

pub longer_same : (log : SyncLog) → IsLonger log log
longer_same log = record { more = []; is = sym (append-nil log) }

pub longer_then : (a b c : SyncLog) → IsLonger a b → IsLonger b c → IsLonger a c
longer_then a b c first second = record {
  more = first.more ++ second.more;
  is = second.is ∙ ap (λ lines. lines ++ second.more) first.is ∙ append_assoc a first.more second.more;
}

-- a front within the log is one of the longer log
pub take-longer : (log later : SyncLog) (n : ℕ) → IsLonger log later → n ≤ length log → take n later ≡ take n log
take-longer log later n longer within = ap (take n) longer.is ∙ take-append-le n log longer.more within

pub young_longer : (log later : SyncLog) (cut t : ℕ) → IsLonger log later → t ≤ length log → IsYoung log cut t
    → IsYoung later cut t
young_longer log later cut t longer within young = record
    { line = young.line; is = line_of-longer log later t longer within ∙ young.is; late = young.late }

-- a transaction with a line is within the log
pub line_within : (log : SyncLog) (t : ℕ) (line : Line) → line_of log t ≡ Some line → (1 ≤ t) × (t ≤ length log)
line_within log zero line is = absurd (none-some line is)
line_within log (suc t) line is = let below = slice_get_within log t line is in (omega arith, omega (arith, below))

-- ---- recorded states

pub recorded_by_line : (history : History) (log other : SyncLog) (s : ℕ) → line_of log s ≡ line_of other s
    → recorded_state history log s ≡ recorded_state history other s
recorded_by_line history log other zero same = refl
recorded_by_line history log other (suc s) same = ap (option_and_then (λ (line : Line). state_at history line.place))
    same

first_of : (found rest : Option Entry) (s : State) → option_map state_of found ≡ Some s
    → option_map state_of (option_or found rest) ≡ Some s
first_of None rest s is = absurd (none-some s is)
first_of (Some entry) rest s is = is

-- a longer history has the states of the shorter one
pub state_at-longer : (history more : History) (place : Place) (s : State) → state_at history place ≡ Some s
    → state_at (history ++ more) place ≡ Some s
state_at-longer history more place s is =
    let test = λ (entry : Entry). is_same_place entry.place place in
    ap (option_map state_of) (find-append test history more) ∙ first_of (find test history) (find test more) s is

at_line : (history more : History) (s : State) (found : Option Line) → option_and_then
    (λ line. state_at history line.place) found ≡ Some s
    → option_and_then (λ line. state_at (history ++ more) line.place) found ≡ Some s
at_line history more s None is = absurd (none-some s is)
at_line history more s (Some line) is = state_at-longer history more line.place s is

pub recorded_longer : (history more : History) (log : SyncLog) (t : ℕ) (s : State)
    → recorded_state history log t ≡ Some s → recorded_state (history ++ more) log t ≡ Some s
recorded_longer history more log zero s is = is
recorded_longer history more log (suc t) s is = at_line history more s (line_of log (suc t)) is

by_option : {X P : Type 0} (o : Option X) → (o ≡ None → P) → ((x : X) → o ≡ Some x → P) → P
by_option None none some = none refl
by_option (Some x) none some = some x refl

no_state : false ≡ true → ⊥
no_state e = absurd cc

some_longer : (history more : History) (place : Place) → IsSome (state_at history place)
    → IsSome (state_at (history ++ more) place)
some_longer history more place there = by_option (state_at history place)
    (λ none. absurd (no_state (sym (ap is_some none) ∙ there)))
    (λ s some. ap is_some (state_at-longer history more place s some))

pub placed_longer : (history more : History) (log : SyncLog) → AllByRecursion
    (λ line. IsSome (state_at history line.place)) log → AllByRecursion
    (λ line. IsSome (state_at (history ++ more) line.place)) log
placed_longer history more [] all = tt
placed_longer history more (line ∷ log) all =
    (some_longer history more line.place all.0, placed_longer history more log all.1)
