-- The file of what was found, stored.
use Rattle.std.proofs.Common.{◌≡◌, ℕ, ◌<◌, List, refl, sym, ap, subst, ◌∙◌, inl, inr, ⊎_elim, arith}
use Rattle.std.specs.Prelude.{◌↔◌, ◌⊎◌, IsSome}
use Rattle.std.specs.FinMap.{get, empty}
use Rattle.crash_disk.specs.GoesOn.{GoesOn}
use Rattle.crash_disk.specs.Told.{Told}
use Rattle.crash_disk.proofs.GoesOnLemmas.{goes_on-weaker, goes_on-same}
use Rattle.ls_base.specs.PageSize.{lock_page}
use Rattle.live_gate.specs.LiveRecord as live
use Rattle.ltx_format.specs.declared.header.LtxHeader.{LtxHeader}
use Rattle.ltx_format.specs.LtxFormat.{HasHeader, IsLtxFile}
use Rattle.ltx_format.specs.Writing.{PageMap, IsWhole, change_with}
use Rattle.replica_store.specs.declared.file_name.FileName.{FileName}
use Rattle.replica_store.specs.Listing.{path_of}
use Rattle.replica_store.specs.Putting.{KeepsOthers, MayPut, HasPut}
use Rattle.wal_follow.specs.declared.answer.Found.{Found}
use Rattle.wal_follow.specs.declared.answer.Wanted.{Wanted}
use Rattle.wal_follow.specs.declared.answer.Wanted.TheVariants.{All}
use Rattle.replica_sync.specs.declared.page_file.PageFile.{PageFile}
use Rattle.replica_sync.specs.PageFile.{HasPages, EndsAs, PutsFile, MayPutFile, KeepsBegun, PutsPages}
use Rattle.replica_sync.specs.Pages.{IsStorable, IsToStore, IsWanted, number_at, count_of}
use Rattle.replica_sync.specs.Storing.{HasBytes, PutsFound, MayPutFound, IsFileOfFound, StoresFound, MayStoreFound}
use Rattle.replica_sync.proofs.NumberLemmas.{found_is_stored, found_has_place}

-- ---- the pages are those that are wanted

module _ (found : Found) (storable : IsStorable found) where
  pub all_numbers : (pages : PageMap)
      → ((p : ℕ) → IsSome (get pages p) ↔ ((k : ℕ) × (k < count_of found) × (number_at found k ≡ p)))
      → (p : ℕ) → IsSome (get pages p) ↔ IsWanted found p
  all_numbers pages numbers p = (
    λ there. let k = (numbers p).0 there in subst (λ (q : ℕ). IsWanted found q) k.2
        (found_is_stored found storable k.0 k.1),
    λ wanted. (numbers p).1 (found_has_place found storable p wanted),
  )

-- ---- a file that was written

module _ (before after : PageFile) (found : Found) (storable : IsStorable found) (old mid new : Told)
    (live_old live_new : live.Told) (path : after.put ≡ before.put)
    (header : after.writer.header ≡ before.writer.header)
    (puts : PutsPages found (count_of found) before after old mid live_old live_new) where
  has_bytes : (begun : Told) (has : HasPages before begun old empty)
      → (bytes : List ℕ) → EndsAs after (puts begun has).pages bytes → HasBytes before found live_old live_new
  has_bytes begun has bytes ends = record {
    bytes = bytes;
    pages = (puts begun has).pages;
    head = subst (λ (h : LtxHeader). HasHeader bytes h) header ends.head;
    ends = subst (λ (h : LtxHeader). IsWhole h (puts begun has).pages
        → IsLtxFile bytes h (change_with h (puts begun has).pages)) header ends.is;
    numbers = all_numbers found storable (puts begun has).pages (puts begun has).numbers;
    shows = (puts begun has).shows;
  }

  pub written : PutsFile after mid new → PutsFound before found old new live_old live_new
  unfolding has_bytes
  written put begun has =
      let first = puts begun has in
      let end = put begun first.pages first.has in
      (has_bytes begun has end.0 end.1, subst (λ (p : List ℕ). GoesOn begun new (HasPut p end.0)) path end.2)

  pub may_be_written : MayPutFile after mid new → MayPutFound before found old new live_old live_new
  unfolding has_bytes
  may_be_written put begun has =
      let first = puts begun has in
      let end = put begun first.pages first.has in
      inr (has_bytes begun has end.0 end.1, subst (λ (p : List ℕ). GoesOn begun new (MayPut p end.0)) path end.2)

pub given_up : (file : PageFile) (found : Found) (old mid new : Told) (live_old live_new : live.Told)
    → KeepsBegun file old mid
    → ((begun : Told) → GoesOn begun mid (KeepsOthers file.put) → GoesOn begun new (KeepsOthers file.put))
    → MayPutFound file found old new live_old live_new
given_up file found old mid new live_old live_new kept still begun has = inl (still begun (kept begun has))

-- ---- under its name

module _ (file : PageFile) (found : Found) (name : FileName) (h : LtxHeader) (moment : ℕ)
    (live_old live_new : live.Told) (storable : IsStorable found) (header : file.writer.header ≡ h)
    (size : h.size ≡ found.size) (commit : h.commit ≡ found.commit) (place : h.place ≡ found.place)
    (min : h.min ≡ name.min) (max : h.max ≡ name.max) (dated : h.moment ≡ moment) where
  whole_pages : (has : HasBytes file found live_old live_new) → (name.min ≡ 1 → found.wanted ≡ All)
      → IsWhole h has.pages
  whole_pages has all first number stored =
      let every = all (sym min ∙ first) in
      (has.numbers number).1
      (subst (λ (w : Wanted). IsToStore w found.size found.commit number) (sym every)
      (stored.some, omega (arith, stored.at_most, commit), λ same. stored.unlocked (same ∙ sym (ap lock_page size))))

  pub file_of_found : HasBytes file found live_old live_new → IsFileOfFound found name moment live_old live_new
  file_of_found has = record {
    bytes = has.bytes;
    header = h;
    change = change_with h has.pages;
    head = subst (λ (k : LtxHeader). HasHeader has.bytes k) header has.head;
    min = min;
    max = max;
    file = λ all. record {
      file = subst (λ (k : LtxHeader). IsWhole k has.pages → IsLtxFile has.bytes k (change_with k has.pages)) header
          has.ends
          (whole_pages has all);
      from_min = min;
      to_max = max;
    };
    size = size;
    commit = commit;
    place = place;
    dated = dated;
    change_size = size;
    change_commit = commit;
    numbers = has.numbers;
    shows = has.shows;
  }

  module _ (old mid new : Told) (path : file.put ≡ path_of name) (has : HasPages file old mid empty) where
    pub stores : PutsFound file found mid new live_old live_new
        → StoresFound found name moment old new live_old live_new
    unfolding file_of_found
    stores puts =
        let put = puts old has in
        record {
          stored = file_of_found put.0;
          put = subst (λ (p : List ℕ). GoesOn old new (HasPut p put.0.bytes)) path put.1;
        }

    pub may_store : MayPutFound file found mid new live_old live_new
        → MayStoreFound found name moment old new live_old live_new
    unfolding file_of_found
    may_store puts = record {
      either = ⊎_elim
          (λ kept. inl (subst (λ (p : List ℕ). GoesOn old new
          (λ before now. (now ≡ before) ⊎ KeepsOthers p before now)) path
          (goes_on-weaker old new (KeepsOthers file.put)
          (λ before now. (now ≡ before) ⊎ KeepsOthers file.put before now) kept (λ x y k. inr k))))
          (λ put. inr (file_of_found put.0, subst (λ (p : List ℕ). GoesOn old new (MayPut p put.0.bytes)) path put.1))
          (puts old has);
    }

pub store_same : (found : Found) (name : FileName) (moment : ℕ) (told : Told) (live_old live_new : live.Told)
    → MayStoreFound found name moment told told live_old live_new
store_same found name moment told live_old live_new = record {
  either = inl (goes_on-same told told (λ before now. (now ≡ before) ⊎ KeepsOthers (path_of name) before now) refl
      (λ events. inl refl));
}

pub store_kept : (found : Found) (name : FileName) (moment : ℕ) (old new : Told) (live_old live_new : live.Told)
    → GoesOn old new (KeepsOthers (path_of name)) → MayStoreFound found name moment old new live_old live_new
store_kept found name moment old new live_old live_new kept = record {
  either = inl (goes_on-weaker old new (KeepsOthers (path_of name))
      (λ before now. (now ≡ before) ⊎ KeepsOthers (path_of name) before now) kept (λ x y k. inr k));
}
