-- Rounds that follow rounds.
use Rattle.std.proofs.Common.{◌≡◌, ℕ, ◌+◌, List, [], ◌∷◌, ◌++◌, length, Option, Some, None, refl, sym, ap, subst, ◌∙◌}
use Rattle.std.proofs.Common.{append_assoc, append-nil, length-append, arith}
use Rattle.std.specs.Prelude.{◌≢◌}
use Rattle.crash_disk.specs.declared.event.Event.{Event}
use Rattle.crash_disk.specs.GoesOn.{IsGrown}
use Rattle.crash_disk.specs.Output.{gains_text}
use Rattle.crash_disk.proofs.GoesOnLemmas.{grown_then}
use Rattle.ls_base.specs.History.{History}
use Rattle.ls_base.specs.SyncLog.{SyncLog, recorded_state}
use Rattle.live_gate.specs.LiveRecord.{IsPrefix}
use Rattle.replica_store.specs.CrashFaithful.{IsSettled}
use Rattle.replica_store.proofs.CarryLemmas.{carries_on_itself, carries_on_then, none_new}
use Rattle.replica_store.proofs.LogLemmas.{recorded_longer}
use Rattle.round_line.specs.declared.round.Round.{Round}
use Rattle.round_line.specs.RoundText.{round_text}
use Rattle.replica_runs.specs.Rounds.{rounds_text, RecordsRounds, HasRun}
use Rattle.replica_runs.proofs.RoundLemmas.{runs_outlast_moves}
use Rattle.replica_runs.proofs.RunLemmas.{new_ones_join, new_ones_stay}
use Rattle.replica_sync.specs.Faith.{EndsSince}
use Rattle.replica_sync.proofs.FaithSince.{since_later}
use Rattle.replicate_command.specs.Promise.{Ending}
use Rattle.replicate_command.specs.Promise.Ending.{Finished, Unprinted, Spent, Refused}
use Rattle.replicate_command.specs.Stage.{Premise, HasStopped, GoesSo}

-- ---- texts

pub gains_more : (text : Option (List ℕ)) (one two : List ℕ)
    → gains_text (gains_text text one) two ≡ gains_text text (one ++ two)
gains_more None one two = refl
gains_more (Some text) one two = ap (λ (bytes : List ℕ). Some bytes) (append_assoc text one two)

pub gains_none : (text : Option (List ℕ)) → text ≡ gains_text text []
gains_none None = refl
gains_none (Some text) = ap (λ (bytes : List ℕ). Some bytes) (sym (append-nil text))

pub texts_join : (number : ℕ) (one two : List Round)
    → rounds_text number (one ++ two) ≡ rounds_text number one ++ rounds_text (number + length one) two
texts_join number [] two =
    let e : number + 0 ≡ number = omega arith in ap (λ (n : ℕ). rounds_text n two) (sym e)
texts_join number (round ∷ one) two =
    let e : number + 1 + length one ≡ number + length (round ∷ one) = omega arith in
    ap (λ text. round_text number round ++ text)
    (texts_join (number + 1) one two ∙ ap (λ (n : ℕ). rounds_text (number + 1) one ++ rounds_text n two) e)
    ∙ sym (append_assoc (round_text number round) (rounds_text (number + 1) one)
    (rounds_text (number + length (round ∷ one)) two))

-- ---- what rounds record

records_join : (one two : List Round) (log mid later : SyncLog) → RecordsRounds one log mid
    → RecordsRounds two mid later → RecordsRounds (one ++ two) log later
records_join [] two log mid later first second =
    subst (λ (l : SyncLog). RecordsRounds two l later) first second
records_join (round ∷ one) two log mid later (next, added, recorded) second =
    (next, added, records_join one two next mid later recorded second)

pub run_begins : (history : History) (cut : ℕ) (settled : List Event) (log : SyncLog) → IsSettled settled history log
    → HasRun history cut settled settled [] log log
run_begins history cut settled log is = record {
  records = refl;
  carries = carries_on_itself history cut settled log is;
  settles = is;
  retains = λ t above within. none_new log t above within;
}

pub runs_then : (history : History) (cut : ℕ) (settled mid now : List Event) (one two : List Round)
    (log ended later : SyncLog) → IsGrown settled mid → IsGrown mid now
    → HasRun history cut settled mid one log ended → HasRun history cut mid now two ended later
    → HasRun history cut settled now (one ++ two) log later
runs_then history cut settled mid now one two log ended later up on first second = record {
  records = records_join one two log ended later first.records second.records;
  carries = carries_on_then history cut settled mid now log ended later up on first.carries second.carries;
  settles = second.settles;
  retains = new_ones_join now log ended later
      (new_ones_stay history cut settled mid now log ended later on first.carries first.retains second.carries)
      second.retains;
}

-- ---- while the database goes on

pub run_outlasts : (old new : History) (cut : ℕ) (settled now : List Event) (rounds : List Round) (log ended : SyncLog)
    → IsPrefix old new → HasRun old cut settled now rounds log ended → HasRun new cut settled now rounds log ended
run_outlasts old new cut settled now rounds log ended prefix run =
    subst (λ (h : History). HasRun h cut settled now rounds log ended) (sym prefix.is)
    (runs_outlast_moves old prefix.rest cut settled now rounds log ended run)

pub ends_longer : (old mid new : History) (log : SyncLog) → IsPrefix mid new → EndsSince old mid log
    → EndsSince old new log
ends_longer old mid new log prefix is = record {
  state = is.state;
  recorded = ap (λ (h : History). recorded_state h log (length log)) prefix.is
      ∙ recorded_longer mid prefix.rest log (length log) is.state is.recorded;
  since = since_later old mid new prefix.rest is.state prefix.is is.since;
}

pub ends_earlier : (old mid new : History) (log : SyncLog) → IsPrefix old mid → EndsSince mid new log
    → EndsSince old new log
ends_earlier old mid new log prefix is =
    let longer : length mid ≡ length old + length prefix.rest
    = ap (λ (h : History). length h) prefix.is ∙ length-append old prefix.rest in
    record {
      state = is.state;
      recorded = is.recorded;
      since = record {
        index = is.since.index;
        entry = is.since.entry;
        there = is.since.there;
        since = omega (arith, is.since.since, longer);
        same = is.since.same;
      };
    }

newest_then : (old mid new : History) (one two : List Round) (ended later : SyncLog) → IsPrefix old mid
    → IsPrefix mid new → RecordsRounds two ended later → (one ≢ [] → EndsSince old mid ended)
    → (two ≢ [] → EndsSince mid new later) → one ++ two ≢ [] → EndsSince old new later
newest_then old mid new one [] ended later up on recorded first second some =
    subst (λ (l : SyncLog). EndsSince old new l) (sym recorded)
    (ends_longer old mid new ended on (first (λ none. some (append-nil one ∙ none))))
newest_then old mid new one (round ∷ two) ended later up on recorded first second some =
    ends_earlier old mid new later up (second (λ none. absurd cc))

-- ---- one part of a run after another

module _ (to : Premise) (old mid new : History) (cut : ℕ) (settled at now : List Event) (one : List Round)
    (log ended : SyncLog) (up : IsGrown settled at) (on : IsGrown at now) (before : IsPrefix old mid)
    (behind : IsPrefix mid new) (run : HasRun mid cut settled at one log ended)
    (newest : one ≢ [] → EndsSince old mid ended) where
  abbrev so_far : HasRun new cut settled at one log ended
  so_far = run_outlasts mid new cut settled at one log ended behind run

  abbrev stopped_then : (two : List Round) → HasStopped new cut at now two ended
      → HasStopped new cut settled now (one ++ two) log
  stopped_then two stop = record {
    mid = stop.mid;
    up = grown_then settled at stop.mid up stop.up;
    on = stop.on;
    ended = stop.ended;
    run = runs_then new cut settled at stop.mid one two log ended stop.ended up stop.up so_far stop.run;
    later = stop.later;
    one = stop.one;
    carries = stop.carries;
    faithful = stop.faithful;
  }

  pub goes_then : (ending : Ending) (two : List Round) → GoesSo ending to mid new cut at now two ended
      → GoesSo ending to old new cut settled now (one ++ two) log
  goes_then Finished two goes = record {
    ended = goes.ended;
    run = runs_then new cut settled at now one two log ended goes.ended up on so_far goes.run;
    fits = goes.fits;
    newest = newest_then old mid new one two ended goes.ended before behind goes.run.records newest goes.newest;
  }
  goes_then Unprinted two goes = record { stopped = stopped_then two goes.stopped; same = goes.same }
  goes_then Spent two goes = record { stopped = stopped_then two goes.stopped; last = goes.last }
  goes_then Refused two goes = stopped_then two goes
