-- The place of a database at rest, read page by page.
use Rattle.std.specs.Prelude.{◌≡◌, ℕ, ◌≤◌, List, false, map, bit_xor, Some, Result, IsOk, IfOk, OnOk, ◌⊎◌}
use Rattle.std.specs.List.{range_with_len}
use Rattle.ls_base.specs.PageSize.{IsPageSize, lock_page}
use Rattle.ls_base.specs.declared.place.Place.{Place}
use Rattle.ls_base.specs.declared.place.Place.TheVariants.{Rest}
use Rattle.ls_sums.specs.PageSum.{counted_sum, rest_sum}
use Rattle.wal_frames.specs.View.{page_at_rest}
use Rattle.live_gate.specs.declared.fault.LiveFault.{LiveFault}
use Rattle.live_gate.specs.LiveRecord.{LiveRecord}
use Rattle.live_gate.specs.Step.{IsWriterStep}

-- The place of so many pages of a database file. As many as the file has make the place of its view.
abbrev pub place_of_pages : ℕ → ℕ → List ℕ → Place
place_of_pages size pages file = Rest (rest_sum size (map (page_at_rest size file) (range_with_len 1 pages)))

-- a place at rest
pub record IsRest (place : Place) : Type 0 where
  pub sum : ℕ
  pub is : place ≡ Rest sum

-- One page more: its sum is added, but that of the lock page, which isn't read.
pub record AddsPage (size number sum : ℕ) (result : Result ℕ LiveFault) (old new : LiveRecord) : Type 0 where
  pub step : IsWriterStep old.database new.database
  pub asked : new.asked ≡ old.asked
  pub awake : IsOk result → (new.database.stopped ≡ false) ⊎ ((number ≡ lock_page size) × (new ≡ old))
  pub hold : old.database.held ≡ Some 0
      → OnOk result ((new.database.held ≡ Some 0) × (new.database.file ≡ old.database.file))
  pub value : old.database.held ≡ Some 0
      → IfOk result
      (λ now. now ≡ bit_xor sum (counted_sum (lock_page size) number (page_at_rest size old.database.file number)))

-- No byte of the log is read. While the gate is held at no mark, the database file stays.
pub record ReadsRest (size pages : ℕ) (result : Result Place LiveFault) (old new : LiveRecord) : Type 0 where
  pub step : IsWriterStep old.database new.database
  pub awake : IsPageSize size → 1 ≤ pages → IsOk result → new.database.stopped ≡ false
  pub asked : new.asked ≡ old.asked
  pub value : old.database.held ≡ Some 0
      → IfOk result (λ place. place ≡ place_of_pages size pages old.database.file)
