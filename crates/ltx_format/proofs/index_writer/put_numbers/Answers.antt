use Rattle.std.proofs.Common.{◌∙◌, ◌++◌, ◌<◌, ℕ, List, length, sym, ap, arith}
use Rattle.std.specs.List.{slice_get}
use Rattle.ltx_format.proofs.EntryLoop.{some_number, put_number}
use Rattle.ltx_format.proofs.index_writer.put_numbers.Goals.{in-Some+in_ok-extend, in_default}
use Rattle.ltx_format.proofs.index_writer.put_numbers.Goals as goal

pub loop-at-preserved : goal.loop-at-preserved
loop-at-preserved c =
    let numbers = c.args.numbers.now in
    let at = c.loop-at.at in
    let looked = c.get.ensures ∙ ap (λ (k : ℕ). slice_get numbers k) c.from.ensures in
    elim c.match-get.branch [
      | in-Some+in_ok-extend w ↦
          w.out-is ∙ w.in_ok-extend.ensures.ok ∙ ap (λ (x : List ℕ). c.loop-at.out ++ x) w.to_be_bytes.ensures
          ∙ put_number numbers c.args.out.now c.loop-at.out at w.in-Some.number (sym looked ∙ w.in-Some.is)
          c.loop-at.invariant
      | in_default w ↦
          let within : at < length numbers = omega (arith, c.loop-at-test.true, c.len-count.ensures.value) in
          absurd (some_number numbers at within (sym looked ∙ w.in_default.is))
    ]
