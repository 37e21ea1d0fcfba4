use Rattle.std.proofs.Common.{◌≡◌, ◌∙◌, Err, Some, length, sym, subst, arith}
use Rattle.crash_disk.specs.Files.{file_at}
use Rattle.wal_frames.proofs.LogLemmas.{ends_within}
use Rattle.checkpointer.specs.declared.fault.BackfillFault.{BackfillFault}
use Rattle.checkpointer.specs.declared.fault.BackfillFault.TheVariants.{NotMark}
use Rattle.checkpointer.specs.Finding.{Begins}
use Rattle.checkpointer.specs.PairState.{bytes_at}
use Rattle.checkpointer.proofs.ReadingLemmas.{size_is}
use Rattle.checkpointer.proofs.FindLemmas.{ends_long}
use Rattle.checkpointer.proofs.CauseLemmas.{cause_after}
use Rattle.checkpointer.proofs.finding.find.Goals as goal

pub returns-in-Err-clause-not_mark : goal.returns-in-Err-clause-not_mark
returns-in-Err-clause-not_mark g c events told is mark is_mark end =
    let log = bytes_at events c.args.wal.now in
    let same : c.in-Err.fault ≡ NotMark = cc in
    let begins : Begins log (Err NotMark) = subst (λ (e : BackfillFault). Begins log (Err e)) same
    (c.in-Err.ensures.value events told) in
    begins mark is_mark

pub returns-then-upto-lt-HEADER_BYTES-clause-not_mark : goal.returns-then-upto-lt-HEADER_BYTES-clause-not_mark
returns-then-upto-lt-HEADER_BYTES-clause-not_mark g c events told is mark is_mark end =
    let long = ends_long (bytes_at events c.args.wal.now) mark is_mark in
    omega (arith, long, end, c.if-upto-lt-HEADER_BYTES.true)

pub returns-then-end-upto-clause-not_mark : goal.returns-then-end-upto-clause-not_mark
returns-then-end-upto-clause-not_mark g c events told is mark is_mark end =
    let log = bytes_at events c.args.wal.now in
    let size : c.unwrap_or-end.result ≡ length log = c.unwrap_or-end.ensures
    ∙ size_is (file_at events c.args.wal.now) c.in-Ok-size.size
    (c.in-Ok-size.ensures.value events (c.in-Ok.ensures.unchanged ∙ told)) in
    let within = ends_within log mark is_mark in
    omega (arith, within, size, end, c.if-end-upto.true)

pub find_at-requires-clause-log : goal.find_at-requires-clause-log
find_at-requires-clause-log g c events told =
    let log = bytes_at events c.args.wal.now in
    let first : g.D.Disk.told c.args.disk.now ≡ Some events = sym c.in-Ok.ensures.unchanged
    ∙ sym c.in-Ok-size.ensures.unchanged ∙ told in
    let begins = c.in-Ok.ensures.value events first in
    let size : c.unwrap_or-end.result ≡ length log =
    c.unwrap_or-end.ensures ∙ size_is (file_at events c.args.wal.now) c.in-Ok-size.size
    (c.in-Ok-size.ensures.value events (sym c.in-Ok-size.ensures.unchanged ∙ told)) in
    record { head = begins.1; long = omega (arith, size, c.if-end-upto.false) }

pub returns-clause-found : goal.returns-clause-found
returns-clause-found g c =
    let same : g.D.Disk.told c.size.new.self ≡ g.D.Disk.told c.args.disk.now = c.in-Ok-size.ensures.unchanged
    ∙ c.in-Ok.ensures.unchanged in
    rw same at c.find_at.ensures.found

pub returns-clause-not_mark : goal.returns-clause-not_mark
returns-clause-not_mark g c =
    let same : g.D.Disk.told c.size.new.self ≡ g.D.Disk.told c.args.disk.now = c.in-Ok-size.ensures.unchanged
    ∙ c.in-Ok.ensures.unchanged in
    rw same at c.find_at.ensures.not_mark

pub returns-clause-cause : goal.returns-clause-cause
returns-clause-cause g c =
    cause_after (g.D.Disk.fault_count c.args.disk.now) (g.D.Disk.fault_count c.size.new.self)
    (g.D.Disk.fault_count c.find_at.new.disk) c.find_at.result
    (omega (arith, c.in-Ok.ensures.cause.later, c.in-Ok-size.ensures.cause.later)) c.find_at.ensures.cause
