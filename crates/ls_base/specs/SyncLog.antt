-- What was recorded of each transaction.
use Rattle.std.specs.Prelude.{ℕ, zero, suc, List, map, Option, Some, None, option_and_then}
use Rattle.std.specs.List.{slice_get}
use Rattle.std.specs.List.Sorted.{IsNonDecreasing}
use Rattle.ls_base.specs.declared.line.Line.{Line}
use Rattle.ls_base.specs.State.{State, empty_state}
use Rattle.ls_base.specs.History.{History, state_at}

-- The line of each transaction, that of transaction 1 first.
abbrev pub SyncLog : Type 0
SyncLog = List Line

-- the moments never fall
abbrev pub IsSyncLog : SyncLog → Type 0
IsSyncLog log = IsNonDecreasing (map (λ line. line.moment) log)

-- the line of transaction t, from 1
abbrev pub line_of : SyncLog → ℕ → Option Line
line_of log zero = None
line_of log (suc t) = slice_get log t

-- The state of transaction t: that at the place of its line. Before the first transaction it is empty.
abbrev pub recorded_state : History → SyncLog → ℕ → Option State
recorded_state history log zero = Some empty_state
recorded_state history log (suc t) = option_and_then (λ line. state_at history line.place) (line_of log (suc t))
