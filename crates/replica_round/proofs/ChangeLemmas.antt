-- What storing the changes leaves: the stored file joins the replica's files, and the follower knows its place.
use Rattle.std.proofs.Common.{◌≡◌, ℕ, ◌+◌, ◌≤◌, List, [], ◌∷◌, Option, Some, None, Ok, refl, sym, ap, subst}
use Rattle.std.proofs.Common.{Bool, true, false, inl, inr, arith}
use Rattle.std.specs.Prelude.{IsTrue, unwrap_or}
use Rattle.std.specs.FinMap.{get}
use Rattle.std.specs.List.{Contains}
use Rattle.crash_disk.specs.declared.event.Event.{Event}
use Rattle.crash_disk.specs.Files.{files_after}
use Rattle.crash_disk.specs.GoesOn.{GoesOn}
use Rattle.crash_disk.specs.Told.{Told, IfTold}
use Rattle.crash_disk.proofs.GoesOnLemmas.{told_now}
use Rattle.ls_base.specs.declared.place.Place.{Place}
use Rattle.ls_base.specs.declared.place.Place.TheVariants.{Wal, Rest}
use Rattle.ltx_format.specs.declared.header.LtxHeader.{LtxHeader}
use Rattle.ltx_format.specs.LtxFormat.{HasHeader}
use Rattle.replica_store.specs.declared.dated_names.Dated.{Dated}
use Rattle.replica_store.specs.declared.file_name.FileName.{FileName}
use Rattle.replica_store.specs.Chain.{names_of}
use Rattle.replica_store.specs.Dating.{IsHeaderUnder}
use Rattle.replica_store.specs.Listing.{IsValid, bytes_under, path_of}
use Rattle.replica_store.specs.NameText.{is_level}
use Rattle.replica_store.specs.Putting.{IsAbsent, HasPut}
use Rattle.replica_store.proofs.FaithLemmas.{is_there}
use Rattle.round_line.specs.declared.round.Synced.{Synced}
use Rattle.round_line.specs.declared.round.Synced.TheVariants.{Same, Piece, Whole}
use Rattle.round_line.specs.RoundText.{name_in}
use Rattle.wal_follow.specs.declared.following.Following.{Following}
use Rattle.wal_follow.specs.Calls.{KnowsPlace, frames_at, frames_of}
use Rattle.wal_follow.specs.Following.{is_in_log}
use Rattle.replica_sync.specs.Answers.{IsNamed}
use Rattle.replica_sync.specs.Newest.{newest_of, next_moment, IsPieceName, IsWholeName}
use Rattle.replica_sync.specs.StoreSide.{HasStored, Stores}
use Rattle.replica_upkeep.specs.Kept.{AreFiles}
use Rattle.replica_upkeep.specs.Levels.{IsWith}
use Rattle.replica_upkeep.proofs.ListedLemmas.{files_more, head_or_tail, in_listed}
use Rattle.replica_upkeep.proofs.MergedLemmas.{more_by_put}
use Rattle.replica_round.specs.declared.changing.Changed.{Changed}
use Rattle.replica_round.specs.ChangesStore.{HasStoredChanges}
use Rattle.replica_round.specs.Keeping.{AreFilesWith}
use Rattle.replica_round.specs.Passing.{HasPages}
use Rattle.replica_round.specs.StoreSide.{JoinsStored}

-- ---- the name

-- no file of the list ends beyond the newest transaction
ends_low : (dated : List Dated) (name : FileName) → Contains (names_of dated) name → name.max ≤ newest_of dated
ends_low [] name has = absurd (omega (arith, has.1))
ends_low (d ∷ dated) name has = elim (head_or_tail d.name name (names_of dated) has) [
  | inl is ↦ let same = ap (λ (n : FileName). n.max) is in omega (arith, same)
  | inr later ↦ let low = ends_low dated name later in omega (arith, low)
]

-- the name is a piece's or a whole state's, of the transaction behind the newest one
pub record IsNext (dated : List Dated) (name : FileName) : Type 0 where
  pub known : IsTrue (is_level name.level)
  pub next : name.max ≡ newest_of dated + 1
  pub whole : name.level ≡ 9 → name.min ≡ 1

next_piece : (dated : List Dated) (name : FileName) → IsPieceName name (newest_of dated + 1) → IsNext dated name
next_piece dated name is = record {
  known = subst (λ (level : ℕ). IsTrue (is_level level)) (sym is.level) refl;
  next = is.max;
  whole = λ nine. let low = is.level in absurd (omega (arith, nine, low));
}

next_whole : (dated : List Dated) (name : FileName) → IsWholeName name (newest_of dated + 1) → IsNext dated name
next_whole dated name is = record {
  known = subst (λ (level : ℕ). IsTrue (is_level level)) (sym is.level) refl;
  next = is.max;
  whole = λ nine. is.min;
}

-- ---- the file

abbrev pub TellsName : (bytes : List ℕ) (header : LtxHeader) → FileName → Type 0
TellsName bytes header name = HasHeader bytes header × (header.min ≡ name.min) × (header.max ≡ name.max)

module _ (before now : List Event) (dated : List Dated) (name : FileName) (bytes : List ℕ)
    (are : AreFiles (files_after before) dated) (is_next : IsNext dated name)
    (header : LtxHeader) (under : TellsName bytes header name) (put : HasPut (path_of name) bytes before now) where
  valid : IsValid name
  valid =
      let h = under.0.header in
      let first = h.from_first in
      let order = h.in_order in
      let fits = h.max_fits in
      let least = under.1 in
      let most = under.2 in
      record {
        known = is_next.known;
        from_first = omega (arith, first, least);
        in_order = omega (arith, order, least, most);
        max_fits = omega (arith, fits, most);
        whole = is_next.whole;
      }

  not_listed : Contains (names_of dated) name → ⊥
  not_listed has = let low = ends_low dated name has in let next = is_next.next in omega (arith, low, next)

  absent : IsAbsent before (path_of name)
  absent = by (get (files_after before) (path_of name)) refl
    where
      by : (found : Option (List ℕ)) → get (files_after before) (path_of name) ≡ found → IsAbsent before (path_of name)
      by None is = is
      by (Some old) is =
          absurd (not_listed (in_listed (files_after before) (names_of dated) are.listed name
          (record { valid = valid; there = is_there (get (files_after before) (path_of name)) old is })))

  is_under : IsHeaderUnder (files_after now) name header
  is_under =
      let same : bytes_under (files_after now) (path_of name) ≡ bytes
      = ap (λ (o : Option (List ℕ)). unwrap_or o []) put.puts.file in
      record {
        has = subst (λ (b : List ℕ). HasHeader b header) (sym same) under.0;
        from_min = under.1;
        to_max = under.2;
      }

  pub are_more : (moment : ℕ) → header.moment ≡ moment → (longer : List Dated)
      → IsWith dated (record { name = name; moment = moment }) longer → AreFiles (files_after now) longer
  are_more moment is longer with =
      files_more (files_after before) (files_after now) (record { name = name; moment = moment }) bytes dated longer
      (more_by_put before now name bytes valid absent put.puts) are with header is_under is

stored_with : (before now : List Event) (dated longer : List Dated) (name : FileName) (moment : ℕ)
    → AreFiles (files_after before) dated → IsNext dated name → HasStored moment name before now
    → IsWith dated (record { name = name; moment = moment }) longer → AreFiles (files_after now) longer
stored_with before now dated longer name moment are next stored with =
    are_more before now dated name stored.bytes are next stored.file.header stored.file.under stored.put moment
    stored.file.dated longer with

-- the files are those of the list that the stored name joined
pub files_with : (before now : List Event) (dated longer : List Dated) (synced : Synced) (moment : ℕ)
    → AreFiles (files_after before) dated → IsNamed dated (Ok synced) → Stores dated moment (Ok synced) before now
    → JoinsStored (name_in synced) moment dated longer → AreFiles (files_after now) longer
files_with before now dated longer Same moment are named same joins =
    subst (λ (events : List Event). AreFiles (files_after events) longer) (sym same)
    (subst (λ (ds : List Dated). AreFiles (files_after before) ds) (sym joins) are)
files_with before now dated longer (Piece name) moment are named stored joins =
    stored_with before now dated longer name moment are (next_piece dated name named) stored joins
files_with before now dated longer (Whole name) moment are named stored joins =
    stored_with before now dated longer name moment are (next_whole dated name named) stored joins

-- over the list that is handed out
pub are_with : (now : ℕ) (changed : Changed) (old new : Told) → GoesOn old new (HasStoredChanges now changed)
    → IfTold new (AreFilesWith changed now)
are_with now changed old new goes =
    told_now old new (HasStoredChanges now changed) (AreFilesWith changed now) goes (λ before after stored longer joins.
    let syncs = stored.syncs in
    files_with before after syncs.dated longer changed.sync (next_moment syncs.dated now) syncs.files syncs.named
    syncs.stores
    (subst (λ (files : List Dated). JoinsStored (name_in changed.sync) (next_moment files now) files longer)
    (sym stored.list) joins))

-- ---- the pages at the follower's place

-- frames stand before a place in the log alone
in_log : (place : Place) (size : Option ℕ) → 1000 ≤ frames_at (Some place) size → is_in_log (Some place) ≡ true
in_log (Wal a b end s0 s1) size long = refl
in_log (Rest sum) size long = absurd (omega (arith, long))

-- a follower that knows them at its place knows them where the log is long
pub pages_known : (f : Following) → KnowsPlace f → HasPages f
pages_known f knows long = by f.passed refl long
  where
    by : (passed : Bool) → f.passed ≡ passed → 1000 ≤ frames_of f passed → (pages : ℕ) × (f.pages ≡ Some pages)
    by true stays many = absurd (omega (arith, many))
    by false stays many =
        knows.pages stays
        (in_log knows.place f.size (subst (λ (p : Option Place). 1000 ≤ frames_at p f.size) knows.is_place many))
