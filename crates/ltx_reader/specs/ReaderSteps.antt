-- The steps of a reader, each with the tests of the file that it makes.
use Rattle.std.specs.Prelude.{◌≡◌, ℕ, zero, suc, ◌+◌, ◌-◌, ◌<◌, min, List, [], ◌∷◌, length, take, drop, Option, Some}
use Rattle.std.specs.Prelude.{None, Result, Ok, Err, IfOk, nat_le, ◌==◌, if◌then◌else◌, ⊤}
use Rattle.std.specs.Option.{option_or}
use Rattle.std.specs.Int.{w32}
use Rattle.ltx_format.specs.declared.fault.LtxFault.{LtxFault}
use Rattle.ltx_format.specs.declared.fault.LtxFault.TheVariants.{Short, BadOrder}
use Rattle.ltx_reader.specs.declared.read_fault.ReadFault.{ReadFault}
use Rattle.ltx_reader.specs.declared.read_fault.ReadFault.TheVariants.{Disk, Fault, Memory}
use Rattle.ltx_reader.specs.declared.progress.Progress.TheVariants.{Failed}
use Rattle.ltx_format.specs.FirstFault.{first_failed, number, page_size, commit, is_next, end_fault, block_tests}
use Rattle.ltx_reader.specs.Reader.{Reader, IsSummed, next_block, AreBytes, Announces}

-- the front of the buffer was filled from the offset on, whole or up to the file's end
pub record IsFilled (bytes : List ℕ) (at room : ℕ) (into : List ℕ) (n : ℕ) : Type 0 where
  pub count : n ≡ min room (length bytes - at)
  pub same : take n into ≡ take n (drop at bytes)

-- a fault of the file is this one, and where there is none, the answer is right
abbrev pub Passes : {T : Type 0} → (T → Type 0) → Option LtxFault → Result T ReadFault → Type 0
Passes P fault (Ok x) = (fault ≡ None) × P x
Passes P fault (Err (Disk why)) = ⊤
Passes P fault (Err (Fault found)) = fault ≡ Some found
Passes P fault (Err Memory) = ⊤

-- so many bytes are there from the offset on
abbrev pub reaches : List ℕ → ℕ → ℕ → Option LtxFault
reaches bytes at n = first_failed ((nat_le (at + n) (length bytes), Short) ∷ [])

-- these are the n bytes from the offset on
pub record StandAt (bytes : List ℕ) (at n : ℕ) (piece : List ℕ) : Type 0 where
  pub stand : piece ≡ take n (drop at bytes)
  pub are_bytes : AreBytes piece

-- the first fault up to the next page, or of the end where no page comes
abbrev pub next_fault : List ℕ → Reader → ℕ → Option LtxFault
next_fault bytes reader at =
    option_or (first_failed (block_tests bytes at)) (
    if number w32 at bytes == 0 then end_fault bytes reader.count at
    else first_failed ((
      is_next (page_size bytes) (commit bytes) reader.last (number w32 at bytes),
      BadOrder
          (number w32 at bytes),
    ) ∷ [])
    )

-- the fault of this test, where it fails
abbrev pub HasFault : Option LtxFault → Result (Unit {0}) LtxFault → Type 0
HasFault fault (Ok done) = fault ≡ None
HasFault fault (Err found) = fault ≡ Some found

-- the bytes are those from the offset on, up to 17 of them
pub record IsTrailer (bytes : List ℕ) (at : ℕ) (trailer : List ℕ) : Type 0 where
  pub stand : trailer ≡ take (min 17 (length bytes - at)) (drop at bytes)

-- a number read is the next block's, and the sum goes up to its page; 0 stands for the end
pub record IsNext (bytes : List ℕ) (reader : Reader) (read : ℕ × ℕ) : Type 0 where
  pub is : number w32 (next_block reader) bytes ≡ read.0
  pub summed : IsSummed bytes (next_block reader + 6) read.1
  pub ended : read.0 ≡ 0 → AreBytes bytes

-- the number is 0, or above the last one
abbrev pub IsAboveOrEnd : ℕ → ℕ → Type 0
IsAboveOrEnd last zero = ⊤
IsAboveOrEnd last (suc n) = last < suc n

-- the reader stopped by a fault of its file; another fault leaves it
abbrev pub stopped : ReadFault → Reader → Reader
stopped (Disk why) reader = reader
stopped (Fault found) reader = record reader { progress = Failed found }
stopped Memory reader = reader

abbrev pub after_page_read : Result (Unit {0}) ReadFault → Reader → Reader
after_page_read (Ok done) reader = reader
after_page_read (Err fault) reader = stopped fault reader

-- what is said of a number that was answered
abbrev pub IfAnnounced : List ℕ → Reader → Reader → Result (Option ℕ) ReadFault → Type 0
IfAnnounced bytes old new result = IfOk result (Announces bytes old new)
