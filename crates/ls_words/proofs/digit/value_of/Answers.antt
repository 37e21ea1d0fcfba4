use Rattle.std.proofs.Common.{arith}
use Rattle.ls_words.proofs.DigitLemmas.{digit_of, value_more, bound_more, small}
use Rattle.ls_words.proofs.digit.value_of.Goals as goal

pub overflow_mul-number : goal.overflow_mul-number
overflow_mul-number c = omega (
  arith,
  small c.loop-digit.number c.loop-digit.digit-index c.loop-digit.invariant.bound
      (omega arith),
)

pub overflow_add-number : goal.overflow_add-number
overflow_add-number c =
    let is = digit_of c.args.digits.now c.loop-digit.digit-index c.requires.digits (omega arith) in
    omega (
      arith,
      c.from.ensures,
      small c.loop-digit.number c.loop-digit.digit-index c.loop-digit.invariant.bound
          (omega arith),
    )

pub loop-digit-preserved : goal.loop-digit-preserved
loop-digit-preserved c =
    let i = c.loop-digit.digit-index in
    let is = digit_of c.args.digits.now i c.requires.digits (omega arith) in
    record {
      value = omega (
        arith,
        c.from.ensures,
        value_more c.args.digits.now i (omega arith) is,
        c.loop-digit.invariant.value,
      );
      bound = bound_more c.loop-digit.number c.from.result i c.loop-digit.invariant.bound
          (omega (arith, c.from.ensures));
    }
