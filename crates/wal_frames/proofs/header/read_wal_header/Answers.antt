use Rattle.std.proofs.Common.{◌≡◌, ◌∙◌, Some, sym, ap, arith}
use Rattle.wal_frames.specs.WalFormat.{order_of, field_at}
use Rattle.wal_frames.proofs.AcceptedLemmas.{sums_read, read_named}
use Rattle.wal_frames.proofs.header.read_wal_header.Goals as goal

pub returns-in-Some-clause-sums : goal.returns-in-Some-clause-sums
returns-in-Some-clause-sums c =
    let bytes = c.args.bytes.now in
    let named : order_of (field_at bytes 0) ≡ Some c.in-Some.order = ap order_of (sym c.field_at.ensures)
    ∙ sym c.order_of.ensures ∙ c.in-Some.is in
    let read = read_named bytes c.in-Some.order c.if-bytes-lt-HEADER_BYTES.false named in
    sums_read bytes c.read_behind_magic.result (λ k. omega (arith, c.type_inv.bytes k))
    (read ∙ sym c.read_behind_magic.ensures)
