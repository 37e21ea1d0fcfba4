-- Files and values fit one to one.
use Rattle.std.specs.Prelude.{◌≡◌, ℕ, ◌^◌, ◌<◌, List, slice_index}
use Rattle.ls_base.specs.Change.{Change}
use Rattle.ltx_format.specs.declared.header.LtxHeader.{LtxHeader}
use Rattle.ltx_format.specs.LtxFormat.{HasHeader, IsLtxFile}

-- two files of one header and change are the same bytes
abbrev pub OneSpelling : Type 0
OneSpelling = (a b : List ℕ) (h : LtxHeader) (c : Change) → IsLtxFile a h c → IsLtxFile b h c → a ≡ b

-- bytes are the file of at most one header and change
abbrev pub OneValue : Type 0
OneValue =
    (bytes : List ℕ) (h i : LtxHeader) (c d : Change) → IsLtxFile bytes h c → IsLtxFile bytes i d → (h ≡ i) × (c ≡ d)

-- bytes begin with at most one header
abbrev pub OneHeader : Type 0
OneHeader = (bytes : List ℕ) (h i : LtxHeader) → HasHeader bytes h → HasHeader bytes i → h ≡ i

-- each item of a file is a byte
abbrev pub FilesAreBytes : Type 0
FilesAreBytes =
    (bytes : List ℕ) (h : LtxHeader) (c : Change) → IsLtxFile bytes h c → (k : ℕ) → slice_index bytes k < 2 ^ 8
