use Rattle.std.proofs.Common.{◌≡◌, ◌∙◌, Some, None, length, ap, sym, arith}
use Rattle.ls_base.specs.declared.mark.Mark.{Mark}
use Rattle.crash_disk.specs.Files.{file_at}
use Rattle.checkpointer.specs.PairState.{bytes_at}
use Rattle.checkpointer.proofs.ReadingLemmas.{size_is, read_whole}
use Rattle.checkpointer.proofs.reading.newer_mark.Goals as goal

pub returns-in_default-clause-value : goal.returns-in_default-clause-value
returns-in_default-clause-value g c events told within started last is =
    let log = bytes_at events c.args.wal.now in
    let end : c.unwrap_or-end.result ≡ length log = c.unwrap_or-end.ensures
    ∙ size_is (file_at events c.args.wal.now) c.in_ok-size.field-0 (c.in_ok-size.ensures.value events told) in
    let taken = read_whole log c.args.from c.unwrap_or-end.result c.args.scan.now c.scan_on.new.scan
    (c.in_ok-scan_on.ensures.value events (c.in_ok-size.ensures.unchanged ∙ told)) end within started in
    let none : None ≡ Some last = c.in_default.ensures.value log taken ∙ is in
    absurd cc

pub returns-then-last-from-clause-value : goal.returns-then-last-from-clause-value
returns-then-last-from-clause-value g c events told within started =
    let log = bytes_at events c.args.wal.now in
    let end : c.unwrap_or-end.result ≡ length log = c.unwrap_or-end.ensures
    ∙ size_is (file_at events c.args.wal.now) c.in_ok-size.field-0 (c.in_ok-size.ensures.value events told) in
    let taken = read_whole log c.args.from c.unwrap_or-end.result c.args.scan.now c.scan_on.new.scan
    (c.in_ok-scan_on.ensures.value events (c.in_ok-size.ensures.unchanged ∙ told)) end within started in
    (sym (c.in-Some.ensures.value log taken), c.if-last-from.true)

pub returns-clause-value : goal.returns-clause-value
returns-clause-value g c events told within started last is =
    let log = bytes_at events c.args.wal.now in
    let end : c.unwrap_or-end.result ≡ length log = c.unwrap_or-end.ensures
    ∙ size_is (file_at events c.args.wal.now) c.in_ok-size.field-0 (c.in_ok-size.ensures.value events told) in
    let taken = read_whole log c.args.from c.unwrap_or-end.result c.args.scan.now c.scan_on.new.scan
    (c.in_ok-scan_on.ensures.value events (c.in_ok-size.ensures.unchanged ∙ told)) end within started in
    let same : Some c.in-Some.last ≡ Some last = c.in-Some.ensures.value log taken ∙ is in
    let it : c.in-Some.last ≡ last = cc in
    omega (arith, c.if-last-from.false, ap (λ (m : Mark). m.end) it)
