-- What may be committed, and the frames of a commit: SQLite database file format, section 4.
use Rattle.std.specs.Prelude.{◌≡◌, ◌≢◌, ℕ, ◌≤◌, List, [], ◌∷◌, ◌++◌, length, take, Some, unwrap_or}
use Rattle.std.specs.Ordering.{nat_cmp}
use Rattle.std.specs.FinMap.{FinMap, get, keys}
use Rattle.ls_sums.specs.declared.wal_sum.WalSum.{WalSum}
use Rattle.db_page.specs.DatabaseHeader.{IsWalDatabase, page_size_field, page_size_of}
use Rattle.wal_frames.specs.declared.header.WalHeader.{WalHeader}
use Rattle.wal_frames.specs.declared.frame.Frame.TheVariants.{Valid}
use Rattle.wal_frames.specs.WalFrame.{frame_front, frame_bytes, sums_after, checked}

-- pages by their numbers
abbrev pub PagesByNumber : Type 0
PagesByNumber = FinMap nat_cmp (List ℕ)

-- where the page begins with an accepted database header, that says this page size
abbrev pub SaysSize : ℕ → List ℕ → Type 0
SaysSize page_size page = IsWalDatabase (take 100 page) → page_size_of (page_size_field (take 100 page)) ≡ page_size

-- the page has the page size, and page 1 says no other
pub record HasSize (page_size number : ℕ) (page : List ℕ) : Type 0 where
  pub long : length page ≡ page_size
  pub says : number ≡ 1 → SaysSize page_size page

-- its number is one of a database with so many pages
pub record IsCommittable (page_size size number : ℕ) (page : List ℕ) : Type 0 where
  pub from : 1 ≤ number
  pub upto : number ≤ size
  pub sized : HasSize page_size number page

-- there is a page, and each may stand in the commit
pub record IsCommit (page_size : ℕ) (pages : PagesByNumber) (size : ℕ) : Type 0 where
  pub some : keys pages ≢ []
  pub each : (n : ℕ) (page : List ℕ) → get pages n ≡ Some page → IsCommittable page_size size n page

abbrev pub page_in : PagesByNumber → ℕ → List ℕ
page_in pages n = unwrap_or (get pages n) []

-- the size of the database in the commit's last frame, and 0 in each before it
abbrev pub size_before : ℕ → List ℕ → ℕ
size_before size [] = size
size_before size (n ∷ ns) = 0

-- the sums up to and with the frame of this page
abbrev pub frame_sums : WalHeader → WalSum → PagesByNumber → ℕ → ℕ → WalSum
frame_sums h sums pages n commit = sums_after h.order sums (frame_front n commit ++ page_in pages n)

-- the frames of the pages of these numbers, where these are the sums before them
abbrev pub commit_frames : WalHeader → WalSum → PagesByNumber → ℕ → List ℕ → List (List ℕ)
commit_frames h sums pages size [] = []
commit_frames h sums pages size (n ∷ ns) =
    let now = frame_sums h sums pages n (size_before size ns) in
    frame_bytes h now n (size_before size ns) (page_in pages n) ∷ commit_frames h now pages size ns

-- the sums behind them
abbrev pub commit_sums : WalHeader → WalSum → PagesByNumber → ℕ → List ℕ → WalSum
commit_sums h sums pages size [] = sums
commit_sums h sums pages size (n ∷ ns) = commit_sums h (frame_sums h sums pages n (size_before size ns)) pages size ns

-- each of them is valid behind those before it
abbrev pub AreChecked : WalHeader → WalSum → PagesByNumber → ℕ → List ℕ → Type 0
AreChecked h sums pages size [] = Unit {0}
AreChecked h sums pages size (n ∷ ns) =
    let commit = size_before size ns in
    let now = frame_sums h sums pages n commit in
    (checked h sums (frame_bytes h now n commit (page_in pages n)) ≡ Valid n commit now)
    × AreChecked h now pages size ns
