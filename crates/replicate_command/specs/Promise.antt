-- What is promised of a replication, whatever its answer.
use Rattle.std.specs.Prelude.{◌≡◌, ◌≢◌, ℕ, ◌+◌, ◌<◌, ◌≤◌, List, [], ◌∷◌, ◌++◌, length, Option, None}
use Rattle.crash_disk.specs.declared.event.Event.{Event}
use Rattle.crash_disk.specs.Output.{gains_text, GainsFront}
use Rattle.ls_base.specs.Fault.{Rose}
use Rattle.ls_base.specs.SyncLog.{SyncLog}
use Rattle.live_gate.specs.LiveRecord.{Database, IfTold}
use Rattle.replica_store.specs.CrashFaithful.{IsCrashFaithful}
use Rattle.round_line.specs.declared.round.Round.{Round}
use Rattle.round_line.specs.RoundText.{round_text}
use Rattle.replica_runs.specs.Rounds.{rounds_text, HasReplicated, WasRefused}
use Rattle.replica_sync.specs.Answers.{last_txid}
use Rattle.replica_sync.specs.Faith.{EndsSince, IfBothTell}
use Rattle.ls_answers.specs.declared.outcome.Why.{Why}
use Rattle.ls_answers.specs.declared.outcome.Why.TheVariants.{Done, TxidSpent, SinkFault, LiveFault, Memory}
use Rattle.replicate_command.specs.Answers.{IfLiveTells, IfStoreTells}
use Rattle.replicate_command.specs.Asked.{cut_of}
use Rattle.replicate_command.specs.Names.{MaintainsNames, CountsPasses}
use Rattle.replicate_command.specs.Seen.{Seen}

-- ---- how a replication ends

-- all rounds are done, the line of the last one couldn't be printed, no transaction number is left, or it was refused
-- otherwise
pub data Ending : Type 0 where
  Finished : Ending
  Unprinted : Ending
  Spent : Ending
  Refused : Ending

abbrev pub ending_of : Why → Ending
ending_of Done = Finished
ending_of SinkFault = Unprinted
ending_of TxidSpent = Spent
ending_of other = Refused

-- ---- what was printed

-- the lines of the earlier rounds, of which the first has this number, and a front of the last one's
pub record PrintsFront (number : ℕ) (text text_after : Option (List ℕ)) (rounds : List Round) : Type 0 where
  pub earlier : List Round
  pub last : Round
  pub split : rounds ≡ earlier ++ last ∷ []
  pub front :
      GainsFront (gains_text text (rounds_text number earlier)) text_after (round_text (number + length earlier) last)

-- the lines of the rounds that ended
abbrev pub Prints : Ending → ℕ → Option (List ℕ) → Option (List ℕ) → List Round → Type 0
Prints Unprinted number text text_after rounds = PrintsFront number text text_after rounds
Prints other number text text_after rounds = text_after ≡ gains_text text (rounds_text number rounds)

-- as many rounds ended as are asked for; fewer where the last transaction was spent in one, and no more otherwise
abbrev pub AreEnough : Ending → ℕ → List Round → Type 0
AreEnough Finished asked rounds = length rounds ≡ asked
AreEnough Spent asked rounds = length rounds < asked
AreEnough other asked rounds = length rounds ≤ asked

-- ---- what became of the replica

-- All rounds ended, and the newest transaction is the state of the last entry at the start or of a later one.
pub record HasFinished
    (cut : ℕ) (rounds : List Round) (log : SyncLog) (old new : Database) (before now : List Event) : Type 0 where
  pub ends : HasReplicated old.history new.history cut before now rounds log
  pub newest : rounds ≢ [] → EndsSince old.history new.history ends.later

-- A round's line wasn't printed: nothing but the rounds that ended is recorded.
pub record WasUnprinted
    (cut : ℕ) (rounds : List Round) (log : SyncLog) (old new : Database) (before now : List Event) : Type 0 where
  pub refused : WasRefused old.history new.history cut before now rounds log
  pub same : refused.later ≡ refused.ended

-- The last transaction that there can be is recorded.
pub record WasSpent
    (cut : ℕ) (rounds : List Round) (log : SyncLog) (old new : Database) (before now : List Event) : Type 0 where
  pub refused : WasRefused old.history new.history cut before now rounds log
  pub last : length refused.ended ≡ last_txid

abbrev pub EndsSo :
    Ending → ℕ → List Round → SyncLog → Database → Database → List Event → List Event → Type 0
EndsSo Finished cut rounds log old new before now = HasFinished cut rounds log old new before now
EndsSo Unprinted cut rounds log old new before now = WasUnprinted cut rounds log old new before now
EndsSo Spent cut rounds log old new before now = WasSpent cut rounds log old new before now
EndsSo Refused cut rounds log old new before now = WasRefused old.history new.history cut before now rounds log

-- Over a database of which no coincidence is counted at the end, and a replica that tells the truth whatever a crash
-- leaves.
abbrev pub KeepsFaith : Seen → Ending → List Round → Type 0
KeepsFaith seen ending rounds =
    IfBothTell seen.live seen.live_after seen.store seen.store_after
    (λ old new before now. (log : SyncLog) → new.database.chances ≡ 0
    → IsCrashFaithful before old.database.history log
    → EndsSo ending (cut_of seen.asked) rounds log old.database new.database before now)

-- ---- what the rounds tell

-- this holds where all rounds are done
abbrev pub Whole : Ending → Type 0 → Type 0
Whole Finished P = P
Whole other P = Unit {0}

-- The names of the replica's files are those that the rounds make of those before, and their counts are true; so is
-- each pass that they tell.
pub record TellsRounds (seen : Seen) (rounds : List Round) : Type 0 where
  pub names : IfStoreTells seen (MaintainsNames seen.asked rounds)
  pub passes : IfLiveTells seen (CountsPasses seen.attached_after rounds)

-- ---- the gate

-- The hold is given up, where the live database didn't fail.
abbrev pub LetsGo : Seen → Why → Type 0
LetsGo seen why =
    why ≢ LiveFault → why ≢ Memory → (Rose seen.live_faults seen.live_faults_after → ⊥)
    → IfTold seen.live_after (λ r. r.database.held ≡ None)

-- ---- all of it

-- The rounds that ended, what was printed of them, what the replica has of them, and the gate.
pub record ReplicatePromise (seen : Seen) (why : Why) : Type 0 where
  pub ended : List Round
  pub enough : AreEnough (ending_of why) seen.asked.rounds ended
  pub prints : Prints (ending_of why) 1 seen.text seen.text_after ended
  pub tells : Whole (ending_of why) (TellsRounds seen ended)
  pub faith : KeepsFaith seen (ending_of why) ended
  pub lets_go : LetsGo seen why
