-- The database header: SQLite database file format, section 1.3.
use Rattle.std.specs.Prelude.{◌≡◌, ℕ, ◌+◌, ◌*◌, ◌<◌, ◌≤◌, ◌==◌, if◌then◌else◌, List, [], ◌∷◌, ◌++◌, length, take}
use Rattle.std.specs.Prelude.{slice_index, codes}
use Rattle.ls_base.specs.PageSize.{IsPageSize}
use Rattle.db_page.specs.declared.fault.HeaderFault.{HeaderFault}
use Rattle.db_page.specs.declared.fault.HeaderFault.TheVariants.{Short, NotDatabase, BadPageSize, NotWalMode}

-- The header string at offset 0: 15 characters and a zero byte.
abbrev pub HasHeaderString : List ℕ → Type 0
HasHeaderString bytes = take 16 bytes ≡ codes "SQLite format 3" ++ 0 ∷ []

-- the page size field: two bytes at offset 16, the highest first
abbrev pub page_size_field : List ℕ → ℕ
page_size_field bytes = slice_index bytes 16 * 256 + slice_index bytes 17

-- the page size that the field stands for: 1 means 65536, which two bytes can't hold
abbrev pub page_size_of : ℕ → ℕ
page_size_of field = if field == 1 then 65536 else field

-- the file format write version at offset 18, and the read version at offset 19: 2 means WAL
abbrev pub IsWalMode : List ℕ → Type 0
IsWalMode bytes = (slice_index bytes 18 ≡ 2) × (slice_index bytes 19 ≡ 2)

-- the bytes begin with the header of a database in WAL mode
pub record IsWalDatabase (bytes : List ℕ) : Type 0 where
  pub whole : 100 ≤ length bytes
  pub string : HasHeaderString bytes
  pub size : IsPageSize (page_size_of (page_size_field bytes))
  pub mode : IsWalMode bytes

-- The fault is that of the first test that fails: length, header string, page size, versions. It holds
-- what was found in their place.
abbrev pub IsFirstFault : List ℕ → HeaderFault → Type 0
IsFirstFault bytes (Short n) = (length bytes < 100) × (n ≡ length bytes)
IsFirstFault bytes NotDatabase = (100 ≤ length bytes) × ¬ HasHeaderString bytes
IsFirstFault bytes (BadPageSize field) =
    (100 ≤ length bytes) × HasHeaderString bytes × (field ≡ page_size_field bytes)
    × ¬ IsPageSize (page_size_of field)
IsFirstFault bytes (NotWalMode write read) =
    (100 ≤ length bytes) × HasHeaderString bytes × IsPageSize (page_size_of (page_size_field bytes))
    × (write ≡ slice_index bytes 18) × (read ≡ slice_index bytes 19) × ¬ IsWalMode bytes
