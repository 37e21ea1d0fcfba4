-- What a longer history keeps, and where a replica begins.
use Rattle.std.proofs.Common.{List, [], ◌∷◌, ◌++◌}
use Rattle.crash_disk.specs.declared.event.Event.{Event}
use Rattle.crash_disk.specs.declared.event.Event.TheVariants.{Placed}
use Rattle.crash_disk.specs.Files.{files_after}
use Rattle.ls_base.specs.History.{History}
use Rattle.ls_base.specs.SyncLog.{SyncLog}
use Rattle.replica_store.specs.CarryLaws.{LongerHistoryKeeps, EmptyIsSettled, WholeIsSettled}
use Rattle.replica_store.specs.CrashFaithful.{IsCrashFaithful}
use Rattle.replica_store.specs.NameText.{whole_path}
use Rattle.replica_store.proofs.DropCarryLemmas.{placed_settled}
use Rattle.replica_store.proofs.FaithLawLemmas.{empty_is_faithful, whole_is_faithful}
use Rattle.replica_store.proofs.FaithLemmas.{faithful_longer, front_longer}

crash_faithful_longer : (history more : History) (now : List Event) (log : SyncLog) → IsCrashFaithful now history log
    → IsCrashFaithful now (history ++ more) log
crash_faithful_longer history more now log is = record {
  files = faithful_longer (files_after now) history more log is.files;
  images = λ image crash. front_longer image history more log 0 (is.images image crash);
  stable = is.stable;
}

pub longer_history_keeps : LongerHistoryKeeps
longer_history_keeps history more cut before now log later = (
  λ is. crash_faithful_longer history more now log is,
  λ is. record { faithful = crash_faithful_longer history more now log is.faithful; names = is.names },
  λ is. record {
    lines = is.lines;
    images = λ image was. front_longer image history more later _ (is.images image was);
    kept = is.kept;
    stays = is.stays;
    told = is.told;
  },
)

pub empty_is_settled : EmptyIsSettled
empty_is_settled history = placed_settled [] history [] tt (empty_is_faithful history)

pub whole_is_settled : WholeIsSettled
unfolding files_after
whole_is_settled history whole h c is stood = placed_settled (Placed (whole_path 1) whole ∷ []) history _ tt
    (whole_is_faithful history whole h c is stood)
