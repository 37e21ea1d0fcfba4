-- How far in a log a page may stand.
use Rattle.std.specs.Prelude.{ℕ, ◌+◌, ◌^◌}

-- behind the header and fewer than 2^63 bytes of frames
abbrev pub offset_limit : ℕ
offset_limit = 2 ^ 63 + 32
