-- What a database of pages of 4096 bytes takes as a commit.
use Rattle.std.specs.Prelude.{◌≡◌, ◌≢◌, ℕ, ◌≤◌, List, [], length, take, Some}
use Rattle.std.specs.FinMap.{get, keys}
use Rattle.demo_draws.specs.declared.commit.DrawnCommit.{DrawnCommit}
use Rattle.demo_draws.specs.DrawnPage.{page_bytes, database_header}

-- the page has the length of a page and a number up to the size, and page 1 begins with the header
pub record IsPageUpTo (size number : ℕ) (page : List ℕ) : Type 0 where
  pub from : 1 ≤ number
  pub upto : number ≤ size
  pub sized : length page ≡ page_bytes
  pub headed : number ≡ 1 → take 100 page ≡ database_header

-- there is a page, and each is one of a database of the size that the commit leaves
pub record IsDatabaseCommit (commit : DrawnCommit) : Type 0 where
  pub some : keys commit.pages ≢ []
  pub each : (n : ℕ) (page : List ℕ) → get commit.pages n ≡ Some page → IsPageUpTo commit.size n page
