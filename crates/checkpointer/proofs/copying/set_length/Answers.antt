use Rattle.std.proofs.Common.{◌≡◌, ◌∙◌, ◌≤◌, ◌⊎◌, true, inl, inr, arith}
use Rattle.crash_disk.specs.Files.{file_at}
use Rattle.checkpointer.proofs.ReadingLemmas.{size_is}
use Rattle.checkpointer.proofs.CopyLemmas.{length_set, length_maybe}
use Rattle.checkpointer.proofs.copying.set_length.Goals.{else-bytes-now-via-then-bytes-now+else-not-may_shrink}
use Rattle.checkpointer.proofs.copying.set_length.Goals.{else-bytes-now-via-else-bytes-now}
use Rattle.checkpointer.proofs.copying.set_length.Goals as goal

pub returns-in-Ok-clause-ok : goal.returns-in-Ok-clause-ok
returns-in-Ok-clause-ok g c =
    let allowed : (c.args.may_shrink ≡ true) ⊎ (c.unwrap_or-now.result ≤ c.args.bytes) = elim c.else-bytes-now.branch [
      | else-bytes-now-via-then-bytes-now+else-not-may_shrink w ↦ inl (grind (arith, w.if-not-may_shrink.false))
      | else-bytes-now-via-else-bytes-now w ↦ inr (omega (arith, w.if-bytes-now.false))
    ] in
    length_set (g.D.Disk.told c.args.disk.now) (g.D.Disk.told c.size.new.self) (g.D.Disk.told c.cut.new.self)
    c.args.db.now c.args.bytes c.unwrap_or-now.result c.args.may_shrink c.in_ok-size.ensures.unchanged
    (λ x told. c.unwrap_or-now.ensures ∙ size_is (file_at x c.args.db.now) c.in_ok-size.field-0
    (c.in_ok-size.ensures.value x told)) allowed c.in-Ok.ensures.ok

pub returns-in-Err-clause-err : goal.returns-in-Err-clause-err
returns-in-Err-clause-err g c =
    let allowed : (c.args.may_shrink ≡ true) ⊎ (c.unwrap_or-now.result ≤ c.args.bytes) = elim c.else-bytes-now.branch [
      | else-bytes-now-via-then-bytes-now+else-not-may_shrink w ↦ inl (grind (arith, w.if-not-may_shrink.false))
      | else-bytes-now-via-else-bytes-now w ↦ inr (omega (arith, w.if-bytes-now.false))
    ] in
    length_maybe (g.D.Disk.told c.args.disk.now) (g.D.Disk.told c.size.new.self) (g.D.Disk.told c.cut.new.self)
    c.args.db.now c.args.bytes c.unwrap_or-now.result c.args.may_shrink c.in_ok-size.ensures.unchanged
    (λ x told. c.unwrap_or-now.ensures ∙ size_is (file_at x c.args.db.now) c.in_ok-size.field-0
    (c.in_ok-size.ensures.value x told)) allowed c.in-Err.ensures.err
