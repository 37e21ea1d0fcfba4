-- Bytes without a fault are the files, and those without a fault in the header have one.
use Rattle.std.specs.Prelude.{◌≡◌, ◌↔◌, ℕ, ◌^◌, ◌<◌, List, take, None, slice_index}
use Rattle.ls_base.specs.Change.{Change}
use Rattle.ltx_format.specs.declared.header.LtxHeader.{LtxHeader}
use Rattle.ltx_format.specs.LtxFormat.{HasHeader, IsLtxFile}
use Rattle.ltx_format.specs.FirstFault.{header_fault, first_fault}

-- bytes have no fault exactly where they are the file of some header and change
abbrev pub FaultlessFiles : Type 0
FaultlessFiles =
    (bytes : List ℕ) → ((k : ℕ) → slice_index bytes k < 2 ^ 8)
    → (first_fault bytes ≡ None) ↔ ((h : LtxHeader) × (c : Change) × IsLtxFile bytes h c)

-- a file has no fault
abbrev pub FilesHaveNoFault : Type 0
FilesHaveNoFault = (bytes : List ℕ) (h : LtxHeader) (c : Change) → IsLtxFile bytes h c → first_fault bytes ≡ None

-- the first 100 bytes have no fault exactly where they are some header's
abbrev pub FaultlessHeaders : Type 0
FaultlessHeaders =
    (bytes : List ℕ) → ((k : ℕ) → slice_index bytes k < 2 ^ 8)
    → (header_fault (take 100 bytes) ≡ None) ↔ ((h : LtxHeader) × HasHeader bytes h)

-- a header has no fault
abbrev pub HeadersHaveNoFault : Type 0
HeadersHaveNoFault = (bytes : List ℕ) (h : LtxHeader) → HasHeader bytes h → header_fault (take 100 bytes) ≡ None
