-- How runs begin, what they keep, and how they follow one another.
use Rattle.std.proofs.Common.{ℕ, ◌≤◌, List, ◌++◌, length, take, inl, inr, arith}
use Rattle.std.proofs.lemmas.Bool.{cases_lt}
use Rattle.crash_disk.specs.declared.event.Event.{Event}
use Rattle.crash_disk.specs.Files.{Files, files_after}
use Rattle.crash_disk.specs.Images.{IsCrashImage}
use Rattle.crash_disk.proofs.ImageLaws.{IsCrashImage-reads}
use Rattle.crash_disk.proofs.Moments.{since_now, since_start}
use Rattle.ls_base.specs.History.{History}
use Rattle.ls_base.specs.SyncLog.{SyncLog}
use Rattle.replica_store.specs.Faithful.{IsFaithfulToFront}
use Rattle.replica_store.specs.Putting.{HasSyncedNames}
use Rattle.replica_store.specs.Retained.{IsRetainedIn}
use Rattle.replica_store.proofs.CarryLemmas.{carries_on_itself, fewer_lines, front_of_longer}
use Rattle.replica_store.proofs.CrashLemmas.{grown_longer, since_split}
use Rattle.replica_store.proofs.DropCarryLemmas.{no_new_image, placed_settled, synced_settles}
use Rattle.replica_store.proofs.ExtendedLemmas.{faithful_files_extend}
use Rattle.replica_store.proofs.FaithLemmas.{faithful_longer, front_longer, in_same, retained_more}
use Rattle.replica_store.proofs.GrowthLemmas.{longer_history_keeps}
use Rattle.replica_store.proofs.LogLemmas.{line_within, longer_same, longer_then, young_longer}
use Rattle.replica_runs.specs.RunLaws.{SyncedNamesBegin, NothingDoneKeeps, CarriedOnKeeps, NewOnesStay}
use Rattle.replica_runs.specs.RunLaws.{NewOnesJoin, CarriedOnExtends, CrashesAreFitStarts, EndsAreFitStarts, RunsJoin}

-- ---- how a run begins

pub synced_names_begin : SyncedNamesBegin
synced_names_begin history cut before settled log faithful grown synced =
    let is = synced_settles history before settled log grown faithful synced in
    (is, carries_on_itself history cut settled log is)

pub nothing_done_keeps : NothingDoneKeeps
nothing_done_keeps old more cut before log = record {
  lines = longer_same log;
  images = λ least had image was. front_longer image old more log least (had image (since_start before image was));
  kept = λ t young had image was. had image (since_start before image was);
}

-- ---- what it keeps

-- each crash before left a front of the log with so many lines, so the log has as many
enough_lines : (old : History) (before : List Event) (log : SyncLog) (least : ℕ)
    → ((image : Files) → IsCrashImage before image → IsFaithfulToFront image old log least) → least ≤ length log
enough_lines old before log least had =
    let front = had (files_after before) (IsCrashImage-reads before) in omega (arith, front.enough, front.within)

-- what each crash before left retained is retained in the files after a sync of the names
retained_synced : (before settled : List Event) (t : ℕ) → HasSyncedNames before settled
    → ((image : Files) → IsCrashImage before image → IsRetainedIn image t) → IsRetainedIn (files_after settled) t
retained_synced before settled t synced had =
    retained_more (files_after before) (files_after settled) t
    (in_same (files_after before) (files_after settled) (λ q is. synced.files q))
    (had (files_after before) (IsCrashImage-reads before))

pub carried_on_keeps : CarriedOnKeeps
carried_on_keeps old more cut before settled now log later start rest synced carries = record {
  lines = carries.lines;
  images = λ least had image was. elim (since_split settled now (length before) image rest was) [
    | inl late ↦ fewer_lines image (old ++ more) later (length log) least (enough_lines old before log least had)
        (carries.images image late)
    | inr early ↦ front_of_longer image (old ++ more) log later least least carries.lines (omega arith)
        (front_longer image old more log least (had image (no_new_image before settled image synced early)))
  ];
  kept = λ t young had image was. elim (since_split settled now (length before) image rest was) [
    | inl late ↦ carries.kept image late t young (retained_synced before settled t synced had)
    | inr early ↦ had image (no_new_image before settled image synced early)
  ];
}

pub new_ones_stay : NewOnesStay
new_ones_stay history cut settled mid now log ended later grown first retains second t above within image crash =
    second.kept image (since_now now (length mid) image (grown_longer mid now grown) crash) t
    (first.told t above within).0 (retains t above within (files_after mid) (IsCrashImage-reads mid))

pub new_ones_join : NewOnesJoin
new_ones_join now log ended later first second t above within image crash =
    elim (cases_lt (length ended) t) [
      | inl behind ↦ second t behind within image crash
      | inr upto ↦ first t above upto image crash
    ]

pub carried_on_extends : CarriedOnExtends
carried_on_extends history cut settled now log later carries faithful =
    faithful_files_extend (files_after now) history log later faithful carries.lines
    (λ t above within. (carries.told t above within).1)

-- ---- how the next run follows

pub crashes_are_fit_starts : CrashesAreFitStarts
crashes_are_fit_starts old new more cut least before now after log later keeps had was placed =
    let front = keeps.images least had (files_after after) was in (
      front.lines,
      front.enough,
      front.within,
      placed_settled after (new ++ more) (take front.lines later) placed
          (faithful_longer (files_after after) new more (take front.lines later) front.faithful),
    )

pub ends_are_fit_starts : EndsAreFitStarts
ends_are_fit_starts history more now later = (longer_history_keeps history more 0 now now later later).0

pub runs_join : RunsJoin
runs_join first second between more cut a b c log mid later up on one two = record {
  lines = longer_then log mid later one.lines two.lines;
  images = λ least had image was. elim (since_split b c (length a) image on was) [
    | inl late ↦ two.images least
        (λ left crash. front_longer left second between mid least
        (one.images least had left (since_now b (length a) left (grown_longer a b up) crash))) image late
    | inr early ↦ front_of_longer image ((second ++ between) ++ more) mid later least least two.lines (omega arith)
        (front_longer image (second ++ between) more mid least
        (front_longer image second between mid least (one.images least had image early)))
  ];
  kept = λ t young had image was.
      let within = (line_within log t young.line young.is).1 in
      elim (since_split b c (length a) image on was) [
        | inl late ↦ two.kept t (young_longer log mid cut t one.lines within young)
            (λ left crash. one.kept t young had left (since_now b (length a) left (grown_longer a b up) crash)) image
            late
        | inr early ↦ one.kept t young had image early
      ];
}
