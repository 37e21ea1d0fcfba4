-- How large a database and its log may be, in bytes. This project's rule.
use Rattle.std.specs.Prelude.{ℕ, ◌^◌}

abbrev pub database_limit : ℕ
database_limit = 2 ^ 40

abbrev pub log_limit : ℕ
log_limit = 2 ^ 32
