-- Files that are written page by page: their header's bytes, the block of each page, and what ends them.
use Rattle.std.specs.Prelude.{◌≡◌, ℕ, ◌^◌, ◌<◌, ◌≤◌, List, ◌++◌, length, replicate}
use Rattle.std.specs.Prelude.{slice_index, slice_get, Some, IsSome}
use Rattle.std.specs.Ordering.{nat_cmp}
use Rattle.std.specs.FinMap.{FinMap, get, insert, keys}
use Rattle.byteorder.specs.Endian.{big_bytes}
use Rattle.ls_base.specs.Change.{Change}
use Rattle.ls_sums.specs.Crc64.{IsBehind}
use Rattle.ltx_format.specs.declared.header.LtxHeader.{LtxHeader}
use Rattle.ltx_format.specs.LtxFormat.{header_bytes, page_blocks, IsHeader, IsStored, IsLtxFile}

-- pages by their numbers
abbrev pub PageMap : Type 0
PageMap = FinMap nat_cmp (List ℕ)

-- what a writer keeps
pub record Written : Type 0 where
  pub header : LtxHeader
  -- the number of the last page, 0 before the first
  pub last : ℕ
  -- the check of all bytes so far
  pub check : ℕ

-- The writer has written the header and these pages, each of which may stand in its file.
pub record HasWritten (w : Written) (pages : PageMap) : Type 0 where
  pub header : IsHeader w.header
  pub sized : (number : ℕ) (page : List ℕ) → get pages number ≡ Some page → length page ≡ w.header.size
  pub bytes : (number : ℕ) (page : List ℕ) → get pages number ≡ Some page → (k : ℕ) → slice_index page k < 2 ^ 8
  pub numbered : (number : ℕ) → IsSome (get pages number) → IsStored w.header number
  pub up_to : (number : ℕ) → IsSome (get pages number) → number ≤ w.last
  pub check : IsBehind (header_bytes w.header ++ page_blocks pages) w.check

-- what a writer of a file with an index keeps: the numbers of the pages too
pub record Indexed : Type 0 where
  pub written : Written
  pub numbers : List ℕ

-- none of the numbers is above the last one
abbrev pub AreUpTo : ℕ → List ℕ → Type 0
AreUpTo last numbers = (at number : ℕ) → slice_get numbers at ≡ Some number → number ≤ last

-- such a writer has written the header and these pages, and keeps their numbers
pub record HasIndexed (w : Indexed) (pages : PageMap) : Type 0 where
  pub written : HasWritten w.written pages
  pub numbers : w.numbers ≡ keys pages

-- what stands before the page in its block: its number and flags 0
abbrev pub block_front : ℕ → List ℕ
block_front number = big_bytes 4 number ++ replicate 2 0

-- whatever pages were there before, this one is there afterwards too
abbrev pub GainsPage : (PageMap → Type 0) → (PageMap → Type 0) → ℕ → List ℕ → Type 0
GainsPage Before After number page = (pages : PageMap) → Before pages → After (insert pages number page)

-- behind the blocks of the pages before, this front and the page are its block
abbrev pub IsLastBlock : (PageMap → Type 0) → ℕ → List ℕ → List ℕ → Type 0
IsLastBlock Before number page front =
    (pages : PageMap) → Before pages → page_blocks (insert pages number page) ≡ page_blocks pages ++ front ++ page

-- a file that begins at transaction 1 has each page that a file may hold
abbrev pub IsWhole : LtxHeader → PageMap → Type 0
IsWhole h pages = h.min ≡ 1 → (number : ℕ) → IsStored h number → IsSome (get pages number)

-- the change of a header and pages
abbrev pub change_with : LtxHeader → PageMap → Change
change_with h pages = record { page_size = h.size; commit = h.commit; pages = pages }

-- the header's bytes, the blocks of the pages that are written, and these bytes are together their file
abbrev pub EndsFile : (PageMap → Type 0) → LtxHeader → List ℕ → Type 0
EndsFile Has h end =
    (pages : PageMap) → Has pages → IsWhole h pages
    → IsLtxFile (header_bytes h ++ page_blocks pages ++ end) h (change_with h pages)
