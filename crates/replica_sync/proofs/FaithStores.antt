-- The stored file is exactly what was found.
use Rattle.std.proofs.Common.{◌≡◌, ℕ, false, List, Some, Ok, refl, sym, ap, subst, ◌∙◌, inl, inr}
use Rattle.std.specs.Prelude.{◌⊎◌}
use Rattle.crash_disk.specs.declared.event.Event.{Event}
use Rattle.crash_disk.specs.Files.{files_after, file_at}
use Rattle.ls_base.specs.declared.line.Line.{Line}
use Rattle.ls_base.specs.History.{state_at}
use Rattle.ls_base.specs.State.{State}
use Rattle.ls_base.specs.SyncLog.{SyncLog}
use Rattle.live_gate.specs.LiveRecord.{LiveRecord, Told}
use Rattle.live_gate.specs.Legal.{IsLegal}
use Rattle.live_gate.specs.Step.{IsWriterStep}
use Rattle.replica_store.specs.declared.dated_names.Dated.{Dated}
use Rattle.replica_store.specs.declared.file_name.FileName.{FileName}
use Rattle.replica_store.specs.FileOf.{IsFileOf}
use Rattle.replica_store.specs.Listing.{path_of, IsValid}
use Rattle.wal_follow.specs.declared.answer.Found.{Found}
use Rattle.wal_follow.specs.declared.answer.Next.{Next}
use Rattle.wal_follow.specs.declared.answer.Wanted.{Wanted}
use Rattle.wal_follow.specs.declared.answer.Wanted.TheVariants.{All, Listed}
use Rattle.wal_follow.specs.declared.following.Following.{Following}
use Rattle.wal_follow.specs.Answers.{Answers, LeadsOn, LosesAtMark, LosesAtRest}
use Rattle.wal_follow.specs.Calls.{target_of}
use Rattle.wal_follow.specs.Following.{Fits}
use Rattle.wal_follow.specs.Piece.{IsWhole}
use Rattle.replica_sync.specs.Faith.{IsFollowed, StoresRight, StoresPiece, StoresWhole}
use Rattle.replica_sync.specs.LiveSide.{found_of}
use Rattle.replica_sync.specs.Newest.{next_moment}
use Rattle.replica_sync.specs.Pages.{IsShown}
use Rattle.replica_sync.specs.Storing.{IsNextName, synced_of, IsFileOfFound}
use Rattle.replica_sync.proofs.FaithNext as next
use Rattle.replica_sync.proofs.FaithNext.{found_case}
use Rattle.replica_sync.proofs.FaithPiece.{HasPagesOf}
use Rattle.replica_sync.proofs.FaithTurns.{the_piece, lost, lost_whole}
use Rattle.replica_sync.proofs.LiveLemmas.{state_stays}

not_listed : (numbers : List ℕ) → ◌≡◌ {A = Wanted} All (Listed numbers) → ⊥
not_listed numbers e = cc

module _ (f : Following) (dated : List Dated) (now : ℕ) (log : SyncLog) (answer : Next) (found : Found)
    (name : FileName)
    (old mid new : LiveRecord) (live_mid live_new : Told) (told_mid : live_mid ≡ Some mid)
    (told_new : live_new ≡ Some new)
    (before : List Event) (followed : IsFollowed old.database.history before log f.place dated)
    (first : IsWriterStep old.database mid.database) (second : IsWriterStep mid.database new.database)
    (awake : mid.database.stopped ≡ false) (fits : Fits f old.database) (legal : IsLegal old.database)
    (calm : new.database.chances ≡ 0) (is : found_of answer ≡ Some found)
    (answers : Answers f (Ok answer) old.database mid.database) (valid : IsValid name)
    (is_next : IsNextName dated found.wanted name)
    (file : IsFileOfFound found name (next_moment dated now) live_mid live_new)
    (current : List Event) (there : file_at current (path_of name) ≡ Some file.bytes) where
  abbrev line : Line
  line = record { place = found.place; moment = next_moment dated now }

  has : (s : State) → IsShown (target_of found) mid.database s → HasPagesOf found file.change s
  has = next.has f dated now log answer found name old mid new live_mid live_new told_mid told_new before followed
      first second awake fits legal calm is answers valid is_next file

  is_file : IsFileOf file.bytes name.min name.max file.header file.change
  is_file = file.file (next.fit f dated now log answer found name old mid new live_mid live_new told_mid told_new before
      followed
      first second awake fits legal calm is answers valid is_next file).whole

  piece : LeadsOn f found old.database mid.database → StoresPiece f name old.database new.database current
  piece on = record {
    bytes = file.bytes;
    there = there;
    header = file.header;
    change = file.change;
    file = is_file;
    at = mid.database;
    between = record { to = first; on = second };
    h = on.h;
    q = on.q;
    finds = on.finds;
    place = file.place ∙ on.describes.place;
    follows = on.follows;
    later = on.later;
    start = on.start;
    since = on.since;
    are_since = on.are_since;
    piece = the_piece f found log line refl file.change old.database mid.database new.database first second awake fits
        legal calm has (files_after before) followed.newest on;
  }

  whole : LosesAtMark f found old.database mid.database ⊎ LosesAtRest f found old.database mid.database
      → found.wanted ≡ All → StoresWhole f name old.database new.database current
  whole loses all =
      let l = lost f found log line refl file.change old.database mid.database new.database first second awake fits
      legal
      calm has loses in
      record {
        bytes = file.bytes;
        there = there;
        header = file.header;
        change = file.change;
        file = is_file;
        at = mid.database;
        between = record { to = first; on = second };
        found = found;
        loses = loses;
        place = file.place;
        state = l.state;
        recorded = ap (state_at new.database.history) file.place
            ∙ state_stays mid.database new.database found.place l.state second l.shown.recorded;
        whole = subst (λ (n : ℕ). IsWhole n l.state file.change) (sym file.size)
            (lost_whole f found log line refl file.change old.database mid.database new.database first second awake fits
            legal calm has loses all);
      }

  pub stores_by : (w : Wanted) → found.wanted ≡ w → LeadsOn f found old.database mid.database
      ⊎ ((LosesAtMark f found old.database mid.database ⊎ LosesAtRest f found old.database mid.database)
      × (found.wanted ≡ All)) → StoresRight f (synced_of w name) old.database new.database current
  stores_by All is (inl on) = absurd (not_listed on.numbers (sym is ∙ on.listed))
  stores_by All is (inr lost) = whole lost.0 lost.1
  stores_by (Listed numbers) is (inl on) = piece on
  stores_by (Listed numbers) is (inr lost) = absurd (not_listed numbers (sym lost.1 ∙ is))

  -- what is stored is the piece or the whole state
  pub stores : StoresRight f (synced_of found.wanted name) old.database new.database current
  stores = stores_by found.wanted refl (found_case f old.database mid.database answer found is answers)
