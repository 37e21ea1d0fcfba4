use Rattle.std.proofs.Common.{sym, ap, ◌∙◌, Some, arith}
use Rattle.ls_words.specs.Value.{is_within}
use Rattle.ls_words.proofs.ValueLemmas.{no_number, out_of_range, in_range, not_read, value_read}
use Rattle.ls_words.proofs.value.number_of.Goals as goal

pub returns-then-not-is_number-clause-value : goal.returns-then-not-is_number-clause-value
returns-then-not-is_number-clause-value c = no_number c.args.most c.args.low c.args.high c.args.text.now
    (sym c.is_number.ensures ∙ c.if-not-is_number.true)

pub returns-in_err-number-clause-value : goal.returns-in_err-number-clause-value
returns-in_err-number-clause-value c =
    c.from_residual.ensures ∙ not_read c.args.most c.args.low c.args.high c.args.text.now c.parse.result
    (sym c.is_number.ensures ∙ c.if-not-is_number.false) (omega arith) c.parse.ensures.value.0
    (sym c.ok.ensures.value ∙ c.in_err-number.was)

pub returns-then-not-is_within-clause-value : goal.returns-then-not-is_within-clause-value
returns-then-not-is_within-clause-value c =
    let e = value_read c.args.most c.args.text.now c.parse.result c.in_ok-number.number
    (sym c.is_number.ensures ∙ c.if-not-is_number.false) c.parse.ensures.value.0
    (sym c.ok.ensures.value ∙ c.in_ok-number.was) in
    out_of_range c.args.most c.args.low c.args.high c.args.text.now
    (ap (is_within c.args.low c.args.high) (sym e) ∙ sym c.is_within.ensures.value ∙ c.if-not-is_within.true)

pub returns-clause-value : goal.returns-clause-value
returns-clause-value c =
    let number = sym c.is_number.ensures ∙ c.if-not-is_number.false in
    let e = value_read c.args.most c.args.text.now c.parse.result c.in_ok-number.number number c.parse.ensures.value.0
    (sym c.ok.ensures.value ∙ c.in_ok-number.was) in
    ap (λ n. Some n) e ∙ in_range c.args.most c.args.low c.args.high c.args.text.now number
    (ap (is_within c.args.low c.args.high) (sym e) ∙ sym c.is_within.ensures.value ∙ c.if-not-is_within.false)
