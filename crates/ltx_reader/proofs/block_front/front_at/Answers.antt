use Rattle.std.proofs.Common.{◌∙◌, arith, sym, ap}
use Rattle.ltx_reader.specs.Reader.{bytes_named}
use Rattle.ltx_format.proofs.TestSteps.{fault_of}
use Rattle.ltx_reader.proofs.ReaderTestLemmas.{filled_whole, block_flags, front_flags, front_stands, passes_err}
use Rattle.ltx_reader.proofs.block_front.front_at.Goals as goal

pub returns-in_err-check_flags-clause-value : goal.returns-in_err-check_flags-clause-value
returns-in_err-check_flags-clause-value g c = λ events told.
    let bytes = bytes_named events c.args.name.now in
    let filled = filled_whole bytes c.args.at 6 c.fill.new.into c.in_ok-count.count (omega arith)
    (c.in_ok-count.ensures.value events told) c.fill.auto.into c.if-count-lt6.false in
    passes_err _ _ c.from_residual-in_err-check_flags.result _ c.from_residual-in_err-check_flags.ensures.1
    (block_flags bytes c.args.at c.from.result (omega (arith, filled.inside, c.fill.auto.into))
    (front_flags bytes c.args.at c.fill.new.into filled c.fill.auto.into ∙ sym (c.from.ensures
    ∙ c.from_be_bytes.ensures)) ∙ ap fault_of c.in_err-check_flags.ensures)

pub returns-clause-value : goal.returns-clause-value
returns-clause-value g c = λ events told.
    let bytes = bytes_named events c.args.name.now in
    let filled = filled_whole bytes c.args.at 6 c.fill.new.into c.in_ok-count.count (omega arith)
    (c.in_ok-count.ensures.value events told) c.fill.auto.into c.if-count-lt6.false in (
      block_flags bytes c.args.at c.from.result (omega (arith, filled.inside, c.fill.auto.into))
          (front_flags bytes c.args.at c.fill.new.into filled c.fill.auto.into ∙ sym (c.from.ensures
          ∙ c.from_be_bytes.ensures)) ∙ ap fault_of c.in_ok-check_flags.ensures,
      front_stands bytes c.args.at 6
          c.fill.new.into filled c.fill.auto.into c.in_ok-count.ensures.are_bytes,
    )
