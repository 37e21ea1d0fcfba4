-- How a run goes from one round to the next, and how it ends.
use Rattle.std.proofs.Common.{◌≡◌, ℕ, ◌+◌, List, [], ◌∷◌, ◌++◌, length, refl, sym, ap, subst, ◌∙◌, append_assoc}
use Rattle.std.proofs.Common.{append-nil, arith}
use Rattle.crash_disk.proofs.GoesOnLemmas.{grown_then}
use Rattle.ls_base.specs.SyncLog.{SyncLog}
use Rattle.replica_store.proofs.CarryLemmas.{carries_on_then, none_new}
use Rattle.replica_store.proofs.ExtendedLemmas.{faithful_files_extend}
use Rattle.replica_store.proofs.GrowthLemmas.{longer_history_keeps}
use Rattle.round_line.specs.declared.round.Round.{Round}
use Rattle.round_line.specs.RoundText.{name_in, round_text}
use Rattle.replica_runs.specs.Rounds.{rounds_text, AddsLineOf, RecordsRounds}
use Rattle.replica_runs.specs.RoundLaws.{OneMoreLine, RunsBegin, RunsOutlastMoves, OneMoreRound, RunsEnd}
use Rattle.replica_runs.specs.RoundLaws.{RunsAreRefused, RunsAreRefusedAtOnce}
use Rattle.replica_runs.proofs.RunLemmas.{carried_on_extends, carried_on_keeps, new_ones_join, new_ones_stay}
use Rattle.replica_runs.proofs.RunLemmas.{nothing_done_keeps, synced_names_begin}

pub one_more_line : OneMoreLine
one_more_line number [] round =
    let e : number + 0 ≡ number = omega arith in
    append-nil (round_text number round) ∙ ap (λ (n : ℕ). round_text n round) (sym e)
one_more_line number (first ∷ rounds) round =
    let e : number + 1 + length rounds ≡ number + length (first ∷ rounds) = omega arith in
    ap (λ text. round_text number first ++ text)
    (one_more_line (number + 1) rounds round
    ∙ ap (λ (n : ℕ). rounds_text (number + 1) rounds ++ round_text n round) e)
    ∙ sym (append_assoc (round_text number first) (rounds_text (number + 1) rounds)
    (round_text (number + length (first ∷ rounds)) round))

one_more_recorded : (rounds : List Round) (round : Round) (log ended later : SyncLog) → RecordsRounds rounds log ended
    → AddsLineOf (name_in round.sync) ended later → RecordsRounds (rounds ++ round ∷ []) log later
one_more_recorded [] round log ended later none adds =
    (later, subst (λ (l : SyncLog). AddsLineOf (name_in round.sync) l later) none adds, refl)
one_more_recorded (first ∷ rounds) round log ended later (mid, added, recorded) adds =
    (mid, added, one_more_recorded rounds round mid ended later recorded adds)

pub runs_begin : RunsBegin
runs_begin history cut before settled log faithful grown synced =
    let begun = synced_names_begin history cut before settled log faithful grown synced in
    record {
      records = refl;
      carries = begun.1;
      settles = begun.0;
      retains = λ t above within. none_new log t above within;
    }

pub runs_outlast_moves : RunsOutlastMoves
runs_outlast_moves history more cut settled now rounds log ended run =
    let keeps = longer_history_keeps history more cut settled now log ended in
    let stays = longer_history_keeps history more cut settled now ended ended in
    record {
      records = run.records;
      carries = keeps.2 run.carries;
      settles = stays.1 run.settles;
      retains = run.retains;
    }

pub one_more_round : OneMoreRound
one_more_round history cut settled mid now rounds round log ended later up on run adds carries settles retains =
    record {
      records = one_more_recorded rounds round log ended later run.records adds;
      carries = carries_on_then history cut settled mid now log ended later up on run.carries carries;
      settles = settles;
      retains = new_ones_join now log ended later
          (new_ones_stay history cut settled mid now log ended later on run.carries run.retains carries) retains;
    }

pub runs_end : RunsEnd
runs_end old more cut before settled now rounds log later up on synced run = record {
  later = later;
  records = run.records;
  keeps = carried_on_keeps old more cut before settled now log later up on synced run.carries;
  settles = run.settles;
  extends = carried_on_extends (old ++ more) cut settled now log later run.carries run.settles.faithful.files;
  retains = run.retains;
}

pub runs_are_refused : RunsAreRefused
runs_are_refused old more cut before settled mid now rounds log ended later up on further synced run one carries
    faithful =
    let all = carries_on_then (old ++ more) cut settled mid now log ended later on further run.carries carries in
    let since = grown_then settled mid now on further in
    record {
      ended = ended;
      records = run.records;
      later = later;
      more = carries.lines;
      one = one;
      keeps = carried_on_keeps old more cut before settled now log later up since synced all;
      faithful = faithful;
      extends = carried_on_extends (old ++ more) cut settled now log later all faithful.files;
      retains = new_ones_stay (old ++ more) cut settled mid now log ended later further run.carries run.retains carries;
    }

pub runs_are_refused_at_once : RunsAreRefusedAtOnce
runs_are_refused_at_once old more cut before log faithful =
    let longer = longer_history_keeps old more cut before before log log in
    let still = longer.0 faithful in
    let keeps = nothing_done_keeps old more cut before log in
    record {
      ended = log;
      records = refl;
      later = log;
      more = keeps.lines;
      one = omega arith;
      keeps = keeps;
      faithful = still;
      extends = faithful_files_extend _ (old ++ more) log log still.files keeps.lines
          (λ t above within. none_new log t above within);
      retains = λ t above within. none_new log t above within;
    }
