-- A sync keeps the faith of the replica, at each of its exits.
use Rattle.std.proofs.Common.{◌≡◌, ℕ, List, Option, Some, Result, Ok, Err, refl, sym, subst, ◌∙◌, ⊎_elim}
use Rattle.crash_disk.specs.declared.event.Event.{Event}
use Rattle.crash_disk.specs.Files.{files_after}
use Rattle.crash_disk.specs.GoesOn as disk
use Rattle.crash_disk.specs.Told as store
use Rattle.ls_base.specs.declared.place.Place.{Place}
use Rattle.live_gate.specs.LiveRecord.{LiveRecord, Told, GoesOn, IfTold}
use Rattle.live_gate.specs.Step.{IsWriterStep}
use Rattle.live_gate.proofs.StepLemmas.{step_join}
use Rattle.replica_store.specs.declared.dated_names.Dated.{Dated}
use Rattle.replica_store.specs.declared.file_name.FileName.{FileName}
use Rattle.replica_store.specs.Listing.{path_of}
use Rattle.replica_store.specs.Putting.{MayPut, HasPut}
use Rattle.wal_follow.specs.declared.answer.Found.{Found}
use Rattle.wal_follow.specs.declared.answer.Next.{Next}
use Rattle.wal_follow.specs.declared.following.Following.{Following}
use Rattle.wal_follow.specs.declared.answer.Next.TheVariants as answer
use Rattle.wal_follow.specs.Answers.{Answers}
use Rattle.wal_follow.specs.Calls.{Follows}
use Rattle.wal_follow.specs.Following.{Fits}
use Rattle.round_line.specs.declared.round.Synced.{Synced}
use Rattle.round_line.specs.declared.round.Synced.TheVariants.{Same}
use Rattle.replica_sync.specs.declared.answer.SyncFault.{SyncFault}
use Rattle.replica_sync.specs.Faith.{IsPlaceOfNewest, MayHaveSynced, HasSynced, IfBothTell, SyncKeepsFaith}
use Rattle.replica_sync.specs.LiveSide.{found_of}
use Rattle.replica_sync.specs.Newest.{next_moment}
use Rattle.replica_sync.specs.Storing.{synced_of, MayStoreNext, StoresNext}
use Rattle.replica_sync.proofs.FaithSince.{stays_since}
use Rattle.replica_sync.proofs.FaithSync.{unchanged, kept, same, may_be_stored, stored}
use Rattle.replica_sync.proofs.LiveLemmas.{calm_before}

same_record : (a b : LiveRecord) → ◌≡◌ {A = Option LiveRecord} (Some a) (Some b) → a ≡ b
same_record a b e = cc

same_events : (a b : List Event) → ◌≡◌ {A = Option (List Event)} (Some a) (Some b) → a ≡ b
same_events a b e = cc

live_told : (a b : Told) (P : LiveRecord → LiveRecord → Type 0) (r s : LiveRecord) → GoesOn a b P → a ≡ Some r
    → b ≡ Some s → P r s
live_told a b P r s goes is there =
    let went = goes.told r is in
    subst (λ (x : LiveRecord). P r x) (same_record went.0 s (sym went.1 ∙ there)) went.2

disk_told : (a b : store.Told) (P : List Event → List Event → Type 0) (before now : List Event) → disk.GoesOn a b P
    → a ≡ Some before → b ≡ Some now → P before now
disk_told a b P before now goes is there =
    let went = goes.told before is in
    subst (λ (x : List Event). P before x) (same_events went.0 now (sym went.1 ∙ there)) went.2

-- the follower's refusal leaves the replica
pub faith_unchanged : (f after : Following) (dated : List Dated) (now : ℕ) (result : Result Synced SyncFault)
    (e : SyncFault)
    (live_old live_new : Told) (told : store.Told) (P : LiveRecord → LiveRecord → Type 0) → result ≡ Err e
    → GoesOn live_old live_new P → ((r s : LiveRecord) → P r s → IsWriterStep r.database s.database)
    → IfBothTell live_old live_new told told (SyncKeepsFaith f after dated now result)
faith_unchanged f after dated now result e live_old live_new told P was goes step =
    subst (λ (r : Result Synced SyncFault). IfBothTell live_old live_new told told (SyncKeepsFaith f after dated now r))
    (sym was)
    (λ old new before current l0 l1 s0 s1 log legal calm followed.
    subst (λ (x : List Event). MayHaveSynced now log old.database new.database before x)
    (same_events before current (sym s0 ∙ s1))
    (unchanged now log old.database new.database (step old new (live_told live_old live_new P old new goes l0 l1))
    before
    followed.faithful))

-- where nothing changed, nothing is stored
pub faith_same : (f after : Following) (dated : List Dated) (now : ℕ) (next : Next) (live_old live_new : Told)
    (told : store.Told) → next ≡ answer.Same → after.place ≡ f.place → IfTold live_old (λ r. Fits f r.database)
    → GoesOn live_old live_new (Follows f after (Ok next))
    → IfBothTell live_old live_new told told (SyncKeepsFaith f after dated now (Ok Same))
faith_same f after dated now next live_old live_new told is place fits goes old new before current l0 l1 s0 s1 log legal
    calm
    followed =
    let follows = live_told live_old live_new (Follows f after (Ok next)) old new goes l0 l1 in
    subst (λ (x : List Event). HasSynced f after now Same log old.database new.database before x)
    (same_events before current (sym s0 ∙ s1))
    (same now log old.database new.database follows.step before followed.faithful f after
    (subst (λ (p : Option Place). IsPlaceOfNewest (files_after before) log p) (sym place) followed.newest)
    (stays_since f (files_after before) log old.database new.database (fits old l0) follows.step
    (follows.awake refl) legal
    calm followed.newest
    (subst (λ (n : Next). Answers f (Ok n) old.database new.database) is (follows.answers legal calm))))

module _ (f kept_f after : Following) (dated : List Dated) (now : ℕ) (answer : Next) (found : Found)
    (live_old live_mid live_new : Told) (store_old store_new : store.Told) (Q : LiveRecord → LiveRecord → Type 0)
    (fits : IfTold live_old (λ r. Fits f r.database)) (first : GoesOn live_old live_mid (Follows f kept_f (Ok answer)))
    (is : found_of answer ≡ Some found) (second : GoesOn live_mid live_new Q)
    (step : (r s : LiveRecord) → Q r s → IsWriterStep r.database s.database) where
  -- a refusal leaves the replica, or puts one file
  pub faith_refused : (result : Result Synced SyncFault) (e : SyncFault) → result ≡ Err e
      → MayStoreNext dated found (next_moment dated now) store_old store_new live_mid live_new
      → IfBothTell live_old live_new store_old store_new (SyncKeepsFaith f after dated now result)
  faith_refused result e was may =
      subst (λ (r : Result Synced SyncFault). IfBothTell live_old live_new store_old store_new
      (SyncKeepsFaith f after dated now r))
      (sym was)
      (λ old new before current l0 l1 s0 s1 log legal calm followed.
      let went = first.told old l0 in
      let mid = went.0 in
      let on = step mid new (live_told live_mid live_new Q mid new second went.1 l1) in
      let all = step_join old.database mid.database new.database went.2.step on in
      ⊎_elim
      (λ (nothing : store_new ≡ store_old).
      subst (λ (x : List Event). MayHaveSynced now log old.database new.database before x)
      (same_events before current (sym s0 ∙ sym nothing ∙ s1))
      (unchanged now log old.database new.database all before followed.faithful))
      (λ put.
      ⊎_elim
      (λ others.
      ⊎_elim
      (λ (nothing : current ≡ before).
      subst (λ (x : List Event). MayHaveSynced now log old.database new.database before x) (sym nothing)
      (unchanged now log old.database new.database all before followed.faithful))
      (λ kept_others. kept now log old.database new.database all before followed.faithful put.0 current put.1
      kept_others)
      (disk_told store_old store_new _ before current others s0 s1))
      (λ file.
      ⊎_elim
      (λ kept_others. kept now log old.database new.database all before followed.faithful put.0 current put.1
      kept_others)
      (λ puts. may_be_stored f after dated now log answer found put.0 old mid new live_mid live_new went.1 l1 before
      current
      followed went.2.step on (went.2.awake refl) (fits old l0) legal calm is
      (went.2.answers legal (calm_before mid.database new.database on calm)) put.1 put.2 file.0 puts)
      (disk_told store_old store_new (MayPut (path_of put.0) file.0.bytes) before current file.1 s0 s1))
      put.3.either)
      may.either)

  -- what was found is stored as the next file
  pub faith_stored : (name : FileName) → after.place ≡ Some found.place
      → StoresNext dated found name (next_moment dated now) store_old store_new live_mid live_new
      → IfBothTell live_old live_new store_old store_new (SyncKeepsFaith f after dated now
      (Ok (synced_of found.wanted name)))
  faith_stored name place stores old new before current l0 l1 s0 s1 log legal calm followed =
      let went = first.told old l0 in
      let mid = went.0 in
      let on = step mid new (live_told live_mid live_new Q mid new second went.1 l1) in
      stored f after dated now log answer found name old mid new live_mid live_new went.1 l1 before current followed
      went.2.step on (went.2.awake refl) (fits old l0) legal calm is
      (went.2.answers legal (calm_before mid.database new.database on calm)) stores.valid stores.is_next
      stores.stores.stored
      place
      (disk_told store_old store_new (HasPut (path_of name) stores.stores.stored.bytes) before current stores.stores.put
      s0 s1)
