-- The newest transaction of a replica, and the name and the moment of the next one. This project's rule.
use Rattle.std.specs.Prelude.{◌≡◌, ℕ, max, List, [], ◌∷◌, length, option_map, unwrap_or}
use Rattle.ls_base.specs.SyncLog.{SyncLog, line_of}
use Rattle.replica_store.specs.declared.dated_names.Dated.{Dated}
use Rattle.replica_store.specs.declared.file_name.FileName.{FileName}
use Rattle.replica_store.specs.Chain.{moment_of}

-- the greatest transaction with which a file ends, 0 where there is no file
abbrev pub newest_of : List Dated → ℕ
newest_of [] = 0
newest_of (d ∷ rest) = max d.name.max (newest_of rest)

-- The moment of what is stored now: never before that of the newest file.
abbrev pub next_moment : List Dated → ℕ → ℕ
next_moment dated now = max now (unwrap_or (moment_of dated (newest_of dated)) 0)

-- the same behind a log: never before the moment of its last line
abbrev pub moment_behind : SyncLog → ℕ → ℕ
moment_behind log now = max now (unwrap_or (option_map (λ line. line.moment) (line_of log (length log))) 0)

-- a piece is a file of level 0 with its transaction alone
pub record IsPieceName (name : FileName) (t : ℕ) : Type 0 where
  pub level : name.level ≡ 0
  pub min : name.min ≡ t
  pub max : name.max ≡ t

-- a whole state is a file of level 9 from the first transaction on
pub record IsWholeName (name : FileName) (t : ℕ) : Type 0 where
  pub level : name.level ≡ 9
  pub min : name.min ≡ 1
  pub max : name.max ≡ t
