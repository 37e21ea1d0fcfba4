-- The file that a round stored stands when its upkeep is done: it isn't old.
use Rattle.std.proofs.Math.Nat.{le-max_left}
use Rattle.std.proofs.lemmas.List.{length_push}
use Rattle.std.proofs.Common.{◌≡◌, ℕ, ◌+◌, ◌≤◌, ◌<◌, List, [], length, Option, Some}
use Rattle.std.proofs.Common.{sym, ap, subst, ◌∙◌, ⊎_elim, arith}
use Rattle.std.specs.Prelude.{unwrap_or}
use Rattle.crash_disk.specs.declared.event.Event.{Event}
use Rattle.crash_disk.specs.Files.{files_after, file_at}
use Rattle.ls_base.specs.declared.line.Line.{Line}
use Rattle.ls_base.specs.Change.{Change}
use Rattle.ls_base.specs.History.{History}
use Rattle.ls_base.specs.SyncLog.{SyncLog, line_of}
use Rattle.live_gate.specs.LiveRecord.{Database}
use Rattle.ltx_format.specs.declared.header.LtxHeader.{LtxHeader}
use Rattle.ltx_format.specs.LtxFormat.{HasHeader}
use Rattle.ltx_format.proofs.FrontLemmas.{same_header}
use Rattle.replica_store.specs.declared.file_name.FileName.{FileName}
use Rattle.replica_store.specs.Faithful.{IsFaithful}
use Rattle.replica_store.specs.FileOf.{IsFileOf}
use Rattle.replica_store.specs.Listing.{IsValid, path_of}
use Rattle.replica_store.proofs.ExtendedLemmas.{begins_with_header}
use Rattle.replica_store.proofs.FaithLemmas.{is_there}
use Rattle.round_line.specs.declared.round.Synced.{Synced}
use Rattle.round_line.specs.declared.round.Synced.TheVariants.{Same, Piece, Whole}
use Rattle.wal_follow.specs.declared.following.Following.{Following}
use Rattle.replica_sync.specs.Faith.{AddsLine, AddsLines, StoresRight}
use Rattle.replica_sync.specs.Newest.{moment_behind}
use Rattle.replica_sync.proofs.FaithLog.{next_line}
use Rattle.replica_upkeep.specs.Kept.{KeepsFiles, WasOld}

-- the name of a file of the format under it is valid
valid_of : (name : FileName) (bytes : List ℕ) (h : LtxHeader) (c : Change) → IsFileOf bytes name.min name.max h c
    → IsValid name
valid_of name bytes h c is = record {
  known = name.on_level;
  from_first = omega (arith, is.file.header.from_first, is.from_min);
  in_order = name.in_order;
  max_fits = subst (λ (n : ℕ). n < 18446744073709551616) is.to_max is.file.header.max_fits;
  whole = name.from_first;
}

some_same : (a b : Line) → ◌≡◌ {A = Option Line} (Some a) (Some b) → a ≡ b
some_same a b e = cc

module _ (log later : SyncLog) (history : History) (now cut : ℕ) (low : cut ≤ now) (stored current : List Event)
    (read : IsFaithful (files_after stored) history later) (keeps : KeepsFiles cut stored current) (name : FileName)
    (adds : AddsLine (moment_behind log now) name log later) (bytes : List ℕ) (h : LtxHeader) (c : Change)
    (file : IsFileOf bytes name.min name.max h c) (there : file_at stored (path_of name) ≡ Some bytes) where
  valid : IsValid name
  valid = valid_of name bytes h c file

  -- the file's own line is the last one, and that is not before now
  not_old : now ≤ h.moment
  not_old =
      let own = read.each name bytes valid there in
      let same : own.header ≡ h = same_header bytes own.header h
      (begins_with_header bytes own.header own.change own.file.file) (begins_with_header bytes h c file.file) in
      let count : length later ≡ length log + 1 = ap length adds.is ∙ length_push log adds.line in
      let last : line_of later name.max ≡ Some adds.line =
      ap (λ (lines : SyncLog). line_of lines name.max) adds.is ∙ next_line log adds.line name.max (adds.last ∙ count) in
      let is = some_same _ _ (sym own.line ∙ last) in
      let moment : h.moment ≡ moment_behind log now =
      ap (λ (x : LtxHeader). x.moment) (sym same) ∙ ap (λ (l : Line). l.moment) is ∙ adds.dated in
      subst (λ (m : ℕ). now ≤ m) (sym moment) (le-max_left now _)

  gone : WasOld (files_after stored) cut name → ⊥
  gone was =
      let under : HasHeader bytes was.header =
      subst (λ (found : Option (List ℕ)). HasHeader (unwrap_or found []) was.header) there was.under.has in
      let same : was.header ≡ h = same_header bytes was.header h under (begins_with_header bytes h c file.file) in
      let moment : was.header.moment ≡ h.moment = ap (λ (x : LtxHeader). x.moment) same in
      omega (arith, was.old, moment, not_old, low)

  pub stays_there : file_at current (path_of name) ≡ Some bytes
  stays_there =
      ⊎_elim (λ same. same ∙ there) (λ was. absurd (gone was.0))
      (keeps.old name (record { valid = valid; there = is_there (file_at stored (path_of name)) bytes there }))

module _ (f : Following) (log later : SyncLog) (history : History) (now cut : ℕ) (low : cut ≤ now)
    (old mid : Database) (stored current : List Event) (read : IsFaithful (files_after stored) history later)
    (keeps : KeepsFiles cut stored current) where
  pub stores_still : (synced : Synced) → AddsLines (moment_behind log now) synced log later
      → StoresRight f synced old mid stored → StoresRight f synced old mid current
  stores_still Same adds is = tt
  stores_still (Piece name) adds is = record {
    bytes = is.bytes;
    there = stays_there log later history now cut low stored current read keeps name adds is.bytes is.header is.change
        is.file is.there;
    header = is.header;
    change = is.change;
    file = is.file;
    at = is.at;
    between = is.between;
    h = is.h;
    q = is.q;
    finds = is.finds;
    place = is.place;
    follows = is.follows;
    later = is.later;
    start = is.start;
    since = is.since;
    are_since = is.are_since;
    piece = is.piece;
  }
  stores_still (Whole name) adds is = record {
    bytes = is.bytes;
    there = stays_there log later history now cut low stored current read keeps name adds is.bytes is.header is.change
        is.file is.there;
    header = is.header;
    change = is.change;
    file = is.file;
    at = is.at;
    between = is.between;
    found = is.found;
    loses = is.loses;
    place = is.place;
    state = is.state;
    recorded = is.recorded;
    whole = is.whole;
  }
