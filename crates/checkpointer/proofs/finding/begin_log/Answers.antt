use Rattle.std.proofs.Common.{◌∙◌, refl, ap, sym, arith}
use Rattle.wal_frames.specs.WalFormat.{read_header}
use Rattle.checkpointer.specs.PairState.{bytes_at}
use Rattle.checkpointer.proofs.FindLemmas.{short_has_none, refused_has_none, front_is}
use Rattle.checkpointer.proofs.finding.begin_log.Goals as goal

pub returns-then-count-lt32-clause-value : goal.returns-then-count-lt32-clause-value
returns-then-count-lt32-clause-value g c events told mark is_mark =
    let is = c.in-Ok.ensures.value events told in
    short_has_none (bytes_at events c.args.wal.now) mark (omega (arith, is.count, c.if-count-lt32.true)) is_mark

pub returns-in-Err-read_wal_header-clause-value : goal.returns-in-Err-read_wal_header-clause-value
returns-in-Err-read_wal_header-clause-value g c events told mark is_mark =
    let is = c.in-Ok.ensures.value events told in
    let front = front_is (bytes_at events c.args.wal.now) _ c.read_at.new.into c.in-Ok.count refl is.count is.bytes
    c.if-count-lt32.false in
    refused_has_none (bytes_at events c.args.wal.now) c.in-Err-read_wal_header.field-0 mark front.0
    (ap read_header (sym front.1) ∙ sym c.in-Err-read_wal_header.ensures.value) is_mark
