-- Files by name, as a tree of names and contents keeps them.
use Rattle.std.specs.Prelude.{ℕ, ◌<◌, ◌^◌, List, map, length, String, string_bytes, IfSome}
use Rattle.std.specs.FinMap.{from_entries, get}
use Rattle.crash_disk.specs.Files.{Files}

-- the tree's entries as a map from the bytes of a name
abbrev pub by_name : {A : Type 0} → List (String A × List ℕ) → Files
by_name entries = from_entries (map (λ entry. (string_bytes entry.0, entry.1)) entries)

-- each file is shorter than 2^63 bytes
pub record IsShort (files : Files) : Type 0 where
  pub each : (name : List ℕ) → IfSome (get files name) (λ bytes. length bytes < 2 ^ 63)
