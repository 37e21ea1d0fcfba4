-- A sync of the replica's disk, step by step.
use Rattle.std.proofs.Common.{◌≡◌, ℕ, ◌+◌, ◌<◌, List, Option, Some, None, Result, Ok, Err, refl, sym, ap, subst, inl}
use Rattle.std.proofs.Common.{inr, ⊎_elim, arith}
use Rattle.std.specs.Prelude.{◌⊎◌}
use Rattle.crash_disk.specs.GoesOn as disk
use Rattle.crash_disk.specs.Told as store
use Rattle.crash_disk.proofs.GoesOnLemmas as steps
use Rattle.live_gate.specs.LiveRecord.{Told}
use Rattle.replica_store.specs.declared.dated_names.Dated.{Dated}
use Rattle.replica_store.specs.declared.file_name.FileName.{FileName}
use Rattle.replica_store.specs.Listing.{path_of}
use Rattle.replica_store.specs.Putting.{MayPut, HasPut}
use Rattle.wal_follow.specs.declared.answer.Found.{Found}
use Rattle.wal_follow.specs.declared.answer.Next.{Next}
use Rattle.wal_follow.specs.declared.answer.Next.TheVariants as next
use Rattle.wal_follow.specs.declared.answer.Wanted.{Wanted}
use Rattle.wal_follow.specs.declared.answer.Wanted.TheVariants.{All, Listed}
use Rattle.wal_follow.specs.Calls.{target_of, found_in}
use Rattle.round_line.specs.declared.round.Synced.{Synced}
use Rattle.replica_sync.specs.declared.answer.SyncFault.{SyncFault}
use Rattle.replica_sync.specs.LiveSide.{found_of}
use Rattle.replica_sync.specs.Newest.{newest_of}
use Rattle.replica_sync.specs.StoreSide.{IsStoredFile, HasStored, Stores}
use Rattle.replica_sync.specs.Storing.{IsNextName, synced_of, IsFileOfFound, StoresNext, MayStoreNext}

-- ---- the store

is_stored_file : (dated : List Dated) (found : Found) (name : FileName) (moment : ℕ) (live_old live_new : Told)
    → IsNextName dated found.wanted name → (stored : IsFileOfFound found name moment live_old live_new)
    → IsStoredFile name moment stored.bytes
is_stored_file dated found name moment live_old live_new is stored = record {
  header = stored.header;
  change = stored.change;
  under = (stored.head, stored.min, stored.max);
  file = λ which. stored.file (by found.wanted refl is which);
  dated = stored.dated;
}
  where
    by : (w : Wanted) → found.wanted ≡ w → IsNextName dated w name → (name.level ≡ 9) ⊎ (1 < name.min) → name.min ≡ 1
        → found.wanted ≡ All
    by All kind is which first = kind
    by (Listed numbers) kind is (inl nine) first = let level = is.level in absurd (omega (arith, nine, level))
    by (Listed numbers) kind is (inr more) first = absurd (omega (arith, more, first))

pub next_max : (dated : List Dated) (wanted : Wanted) (name : FileName) → IsNextName dated wanted name
    → name.max ≡ newest_of dated + 1
next_max dated All name is = is.max
next_max dated (Listed numbers) name is = is.max

pub store_unchanged : (dated : List Dated) (moment : ℕ) (result : Result Synced SyncFault) (e : SyncFault)
    (told : store.Told) → result ≡ Err e
    → disk.GoesOn told told (Stores dated moment result)
store_unchanged dated moment result e told was =
    subst (λ (r : Result Synced SyncFault). disk.GoesOn told told (Stores dated moment r)) (sym was)
    (steps.goes_on-same told told (Stores dated moment (Err e)) refl (λ events. inl refl))

pub store_refused : (dated : List Dated) (found : Found) (moment : ℕ) (e : SyncFault) (old new : store.Told)
    (live_old live_new : Told)
    → MayStoreNext dated found moment old new live_old live_new → disk.GoesOn old new (Stores dated moment (Err e))
store_refused dated found moment e old new live_old live_new may =
    ⊎_elim
    (λ (same : new ≡ old). steps.goes_on-same old new (Stores dated moment (Err e)) same (λ events. inl refl))
    (λ next.
    ⊎_elim
    (λ kept. steps.goes_on-weaker old new _ (Stores dated moment (Err e)) kept
    (λ x y either. ⊎_elim (λ same. inl same)
    (λ k. inr (record {
      name = next.0;
      valid = next.1;
      next = next_max dated found.wanted next.0 next.2;
      puts = inl k;
    })) either))
    (λ put. steps.goes_on-weaker old new (MayPut (path_of next.0) put.0.bytes) (Stores dated moment (Err e)) put.1
    (λ x y either. inr (record {
      name = next.0;
      valid = next.1;
      next = next_max dated found.wanted next.0 next.2;
      puts = ⊎_elim (λ k. inl k)
          (λ p. inr (put.0.bytes, is_stored_file dated found next.0 moment live_old live_new next.2 put.0, p)) either;
    })))
    next.3.either)
    may.either

pub store_stored : (dated : List Dated) (found : Found) (name : FileName) (moment : ℕ) (old new : store.Told)
    (live_old live_new : Told)
    → StoresNext dated found name moment old new live_old live_new
    → disk.GoesOn old new (Stores dated moment (Ok (synced_of found.wanted name)))
store_stored dated found name moment old new live_old live_new is =
    let stored = is.stores.stored in
    let whole = steps.goes_on-weaker old new (HasPut (path_of name) stored.bytes) (HasStored moment name) is.stores.put
    (λ x y put. record {
      bytes = stored.bytes;
      file = is_stored_file dated found name moment live_old live_new
          is.is_next stored;
      put = put;
    }) in
    by found.wanted whole
  where
    by : (w : Wanted) → disk.GoesOn old new (HasStored moment name)
        → disk.GoesOn old new (Stores dated moment (Ok (synced_of w name)))
    by All whole = whole
    by (Listed numbers) whole = whole

pub found_target : (answer : Next) (found : Found) → found_of answer ≡ Some found
    → found_in answer ≡ Some (target_of found)
found_target next.Same found is = absurd (by is)
  where
    by : ◌≡◌ {A = Option Found} None (Some found) → ⊥
    by e = cc
found_target (next.Piece f) found is = ap (λ (g : Found). Some (target_of g)) (by is)
  where
    by : ◌≡◌ {A = Option Found} (Some f) (Some found) → f ≡ found
    by e = cc
found_target (next.Lost f) found is = ap (λ (g : Found). Some (target_of g)) (by is)
  where
    by : ◌≡◌ {A = Option Found} (Some f) (Some found) → f ≡ found
    by e = cc

pub none_is_same : (answer : Next) → found_of answer ≡ None → answer ≡ next.Same
none_is_same next.Same is = refl
none_is_same (next.Piece f) is = absurd (by is)
  where
    by : ◌≡◌ {A = Option Found} (Some f) None → ⊥
    by e = cc
none_is_same (next.Lost f) is = absurd (by is)
  where
    by : ◌≡◌ {A = Option Found} (Some f) None → ⊥
    by e = cc
