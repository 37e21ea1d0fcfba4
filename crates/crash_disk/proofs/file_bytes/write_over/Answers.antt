use Rattle.std.proofs.Common.{◌≡◌, ◌<◌, ◌+◌, List, ◌++◌, length, take, drop, ap, sym, ◌∙◌, subst, arith}
use Rattle.crash_disk.proofs.InPlaceLemmas.{written_in_grown, written_inside}
use Rattle.crash_disk.proofs.file_bytes.write_over.Goals as goal
use Rattle.crash_disk.proofs.file_bytes.write_over.Goals.{then-as_slice-end+in_ok-resize, else-as_slice-end}

pub returns-clause-ok : goal.returns-clause-ok
returns-clause-ok c =
    let at = c.args.at in
    let bytes = c.args.bytes.now in
    let end = at + length bytes in
    c.overwrite.ensures
    ∙ elim c.if-as_slice-end.branch [
      | then-as_slice-end+in_ok-resize w ↦
          ap (λ file. take at file ++ bytes ++ drop end file) (w.file-is ∙ w.in_ok-resize.ensures.ok)
          ∙ written_in_grown at bytes c.args.file.now
          (subst (λ old. length old < end) c.as_slice.ensures w.if-as_slice-end.true)
      | else-as_slice-end w ↦
          ap (λ file. take at file ++ bytes ++ drop end file) w.file-is
          ∙ written_inside at bytes c.args.file.now
          (omega (arith, ap length c.as_slice.ensures, w.if-as_slice-end.false))
    ]
