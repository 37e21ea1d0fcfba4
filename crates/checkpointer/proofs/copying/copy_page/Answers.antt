use Rattle.std.proofs.Common.{◌≡◌, ◌∙◌, ◌-◌, ◌*◌, ℕ, length, take, drop, ap, arith}
use Rattle.checkpointer.specs.PairState.{bytes_at}
use Rattle.checkpointer.proofs.CopyLemmas.{page_is, page_copied, page_maybe}
use Rattle.checkpointer.proofs.copying.copy_page.Goals as goal

pub returns-in-Err-write_at-clause-err : goal.returns-in-Err-write_at-clause-err
returns-in-Err-write_at-clause-err g c =
    let long : length c.read_at.new.into ≡ length c.args.page.now = c.read_at.auto.into in
    page_maybe (g.D.Disk.told c.args.disk.now) (g.D.Disk.told c.read_at.new.self) (g.D.Disk.told c.write_at.new.self)
    c.args.db.now c.args.wal.now c.read_at.new.into (length c.args.page.now) c.args.number c.args.at
    (c.from.result * length c.read_at.new.into) c.in-Ok.ensures.unchanged
    (ap (λ (k : ℕ). k * length c.read_at.new.into) c.from.ensures ∙ ap (λ (n : ℕ). (c.args.number - 1) * n) long)
    long c.in-Err-write_at.ensures.err

pub returns-in-Ok-write_at-clause-ok : goal.returns-in-Ok-write_at-clause-ok
returns-in-Ok-write_at-clause-ok g c =
    let long : length c.read_at.new.into ≡ length c.args.page.now = c.read_at.auto.into in
    page_copied (g.D.Disk.told c.args.disk.now) (g.D.Disk.told c.read_at.new.self) (g.D.Disk.told c.write_at.new.self)
    c.args.db.now c.args.wal.now c.read_at.new.into (length c.args.page.now) c.args.number c.args.at
    (c.from.result * length c.read_at.new.into) c.in-Ok.ensures.unchanged
    (ap (λ (k : ℕ). k * length c.read_at.new.into) c.from.ensures ∙ ap (λ (n : ℕ). (c.args.number - 1) * n) long)
    long c.in-Ok-write_at.ensures.ok
    (λ x told fits.
    let file = bytes_at x c.args.wal.now in
    let is = c.in-Ok.ensures.value x told in
    let all : c.in-Ok.count ≡ length c.args.page.now = omega
    (arith, c.in-Ok.ensures.bound, c.if-count-page.false, long) in
    page_is file c.args.page.now c.read_at.new.into c.args.at c.in-Ok.count is.bytes (omega (arith, all))
    ∙ ap (λ (n : ℕ). take n (drop c.args.at file)) all)
