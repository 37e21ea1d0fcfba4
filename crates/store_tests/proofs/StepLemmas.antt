-- Steps of a replica, by the laws of a replica that no stop harms.
use Rattle.std.proofs.Common.{◌≡◌, ℕ, ◌≤◌, List, [], ◌∷◌, ◌++◌, Option, Some, refl, sym, subst, ◌∙◌, inl, inr, ⊎_elim}
use Rattle.std.proofs.Common.{arith}
use Rattle.std.specs.Prelude.{◌⊎◌}
use Rattle.std.specs.List.{Contains}
use Rattle.crash_disk.specs.declared.event.Event.{Event}
use Rattle.crash_disk.specs.Files.{files_after}
use Rattle.crash_disk.specs.GoesOn.{GoesOn, IsGrown}
use Rattle.crash_disk.specs.Told.{Told}
use Rattle.crash_disk.proofs.GoesOnLemmas.{grown_then}
use Rattle.ls_base.specs.declared.line.Line.{Line}
use Rattle.ls_base.specs.History.{History}
use Rattle.ls_base.specs.SyncLog.{SyncLog}
use Rattle.replica_store.specs.declared.file_name.FileName.{FileName}
use Rattle.replica_store.specs.CarriesOn.{IsLonger, CarriesOn}
use Rattle.replica_store.specs.CrashFaithful.{IsCrashFaithful, IsSettled}
use Rattle.replica_store.specs.Dropping.{MayDropAll, MayGo}
use Rattle.replica_store.specs.Listing.{path_of}
use Rattle.replica_store.specs.PutFiles.{IsNextFile}
use Rattle.replica_store.specs.Putting.{KeepsOthers, Puts, MayPut, HasPut, MayDrop, HasDropped, HasSyncedNames}
use Rattle.replica_store.proofs.CarryLemmas.{carries_on_itself, carries_on_then}
use Rattle.replica_store.proofs.DropCarryLemmas.{none_dropped, one_more_dropped, drops_carry_on, drops_crash_faithful}
use Rattle.replica_store.proofs.DropCarryLemmas.{synced_settles, synced_carries_on}
use Rattle.replica_store.proofs.FaithLemmas.{is_path}
use Rattle.replica_store.proofs.LogLemmas.{longer_same, longer_then}
use Rattle.replica_store.proofs.NextFileLemmas.{next_file_carries_on, next_file_settles}
use Rattle.replica_store.proofs.PutCarryLemmas.{kept_carries_on, kept_settled}
use Rattle.store_tests.specs.Steps.{Went, HasCarriedOn, MayCarryOn, PutsBoth, MayPutBoth, DropsBoth, MayDropBoth}

pub some_same : (a b : List Event) → ◌≡◌ {A = Told} (Some a) (Some b) → a ≡ b
some_same a b e = cc

-- what a call on a disk in memory says
pub went : (before now : List Event) (P : List Event → List Event → Type 0) → GoesOn (Some before) (Some now) P
    → Went before now P
went before now P goes =
    let found = goes.told before refl in
    let same : found.0 ≡ now = sym (some_same now found.0 found.1) in
    record {
      grown = subst (λ (events : List Event). IsGrown before events) same found.3;
      holds = subst (P before)
          same found.2;
    }

-- a drop that was answered Ok
pub dropped : (before now : List Event) (path : List ℕ) → GoesOn (Some before) (Some now) (HasDropped path)
    → Went before now (MayDrop path)
dropped before now path goes = let is = went before now (HasDropped path) goes in record
    { grown = is.grown; holds = is.holds.may }

-- ---- two files are put

module _ (a b : FileName) (first second : List ℕ) (before mid now : List Event) where
  pub puts_both : Went before mid (HasPut (path_of a) first) → Went mid now (HasPut (path_of b) second)
      → PutsBoth a first b second before now
  puts_both one two history cut log line next settled is then young next_young =
      let between = (next_file_settles history before mid log line a first settled is one.holds).0 in
      let start = (next_file_carries_on history cut before mid log line a first settled is young one.holds.puts).0 in
      let rest = (next_file_carries_on history cut mid now (log ++ line ∷ []) next b second between then next_young
      two.holds.puts).0 in
      record {
        carries_on = carries_on_then history cut before mid now log (log ++ line ∷ [])
            ((log ++ line ∷ []) ++ next ∷ []) one.grown two.grown start rest;
        settled = (next_file_settles history mid now (log ++ line ∷ []) next b second between then two.holds).0;
      }

  -- the second may be there
  pub second_failed : Went before mid (HasPut (path_of a) first) → Went mid now (MayPut (path_of b) second)
      → MayPutBoth a first b second before now
  second_failed one two history cut log line next settled is then young next_young =
      let so_far = log ++ line ∷ [] in
      let between = (next_file_settles history before mid log line a first settled is one.holds).0 in
      let start = (next_file_carries_on history cut before mid log line a first settled is young one.holds.puts).0 in
      ⊎_elim
      (λ kept. (
        so_far,
        record { more = next ∷ []; is = refl },
        record {
          carries_on = carries_on_then history cut before mid now log so_far so_far one.grown two.grown start
              (kept_carries_on history cut mid now so_far between (path_of b) (is_path b then.valid) kept);
          faithful = (kept_settled history cut mid now so_far between (path_of b) (is_path b then.valid) kept).faithful;
        },
      ))
      (λ puts.
      let rest = next_file_carries_on history cut mid now so_far next b second between then next_young puts in (
        so_far ++ next ∷ [],
        longer_same (so_far ++ next ∷ []),
        record {
          carries_on = carries_on_then history cut before mid now log so_far (so_far ++ next ∷ []) one.grown
              two.grown start rest.0;
          faithful = rest.1;
        },
      ))
      two.holds

-- the first may be there
pub first_failed : (a b : FileName) (first second : List ℕ) (before now : List Event)
    → Went before now (MayPut (path_of a) first) → MayPutBoth a first b second before now
first_failed a b first second before now one history cut log line next settled is then young next_young =
    ⊎_elim
    (λ kept. (
      log,
      longer_then log (log ++ line ∷ []) ((log ++ line ∷ []) ++ next ∷ []) (record { more = line ∷ []; is = refl })
          (record { more = next ∷ []; is = refl }),
      record {
        carries_on = kept_carries_on history cut before now log settled (path_of a) (is_path a is.valid) kept;
        faithful = (kept_settled history cut before now log settled (path_of a) (is_path a is.valid) kept).faithful;
      },
    ))
    (λ puts.
    let new = next_file_carries_on history cut before now log line a first settled is young puts in
    (log ++ line ∷ [], record { more = next ∷ []; is = refl }, record { carries_on = new.0; faithful = new.1 }))
    one.holds

-- ---- two files are dropped

module _ (a b : FileName) (before mid now : List Event) where
  abbrev paths : List (List ℕ)
  paths = path_of a ∷ path_of b ∷ []

  has_first : Contains paths (path_of a)
  has_first = (0, omega arith, refl)

  has_second : Contains paths (path_of b)
  has_second = (1, omega arith, refl)

  one_dropped : Went before mid (MayDrop (path_of a)) → MayDropAll paths before mid
  one_dropped one = one_more_dropped paths (path_of a) before before mid one.grown has_first
      (none_dropped paths before) one.holds

  two_dropped : Went before mid (MayDrop (path_of a)) → Went mid now (MayDrop (path_of b)) → MayDropAll paths before now
  two_dropped one two = one_more_dropped paths (path_of b) before mid now two.grown has_second (one_dropped one)
      two.holds

  pub first_drop_failed : Went before mid (MayDrop (path_of a)) → MayDropBoth a b before mid
  first_drop_failed one history cut log settled go = record {
    carries_on = drops_carry_on history cut before mid log paths settled go (one_dropped one);
    faithful = drops_crash_faithful history cut before mid log paths settled go (one_dropped one);
  }

  pub second_drop_failed : Went before mid (MayDrop (path_of a)) → Went mid now (MayDrop (path_of b))
      → MayDropBoth a b before now
  second_drop_failed one two history cut log settled go = record {
    carries_on = drops_carry_on history cut before now log paths settled go (two_dropped one two);
    faithful = drops_crash_faithful history cut before now log paths settled go (two_dropped one two);
  }

  pub drops_both : (after : List Event) → Went before mid (MayDrop (path_of a)) → Went mid now (MayDrop (path_of b))
      → Went now after HasSyncedNames → DropsBoth a b before after
  drops_both after one two synced history cut log settled go =
      let dropped = second_drop_failed one two history cut log settled go in
      record {
        carries_on = synced_carries_on history cut before now after log log
            (grown_then before mid now one.grown two.grown) synced.grown dropped.carries_on synced.holds;
        settled = synced_settles history now after log synced.grown dropped.faithful synced.holds;
      }
