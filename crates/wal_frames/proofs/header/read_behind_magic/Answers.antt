use Rattle.std.proofs.Common.{sym, ◌∙◌}
use Rattle.wal_frames.proofs.HeaderLemmas.{no_size_read}
use Rattle.wal_frames.proofs.header.read_behind_magic.Goals as goal

pub returns-in_default : goal.returns-in_default
returns-in_default c =
    sym (no_size_read c.args.order c.args.bytes.now c.from_u32.result
    (sym c.field_at.ensures ∙ c.if-field_at-ne-VERSION.false) (rw (← c.field_at-2.ensures) c.from_u32.ensures)
    c.in_default.is)
