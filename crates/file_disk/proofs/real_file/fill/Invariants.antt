use Rattle.std.proofs.Common.{◌≤◌, length, ◌≡◌}
use Rattle.file_disk.proofs.real_file.fill.Given as goal

-- the bytes that were read stand in the buffer, whose length stays
abbrev pub invariant-loop : goal.invariant-loop
invariant-loop l = (l.count ≤ length l.into) × (length l.into ≡ length l.fn.into)
