use Rattle.std.proofs.Common.{sym, ◌∙◌, None, arith}
use Rattle.std.specs.Option.{SomeIff}
use Rattle.std.specs.Str.Parse.{digits_value}
use Rattle.std.proofs.lemmas.Str.Pattern.{starts_char}
use Rattle.ls_base.specs.Txid.{IsTxidText}
use Rattle.ls_base.proofs.TxidLemmas.{none_from_err, some_from_ok, no_plus_first, txid_of-from_iff, plus_is_no_digit}
use Rattle.ls_base.proofs.txid.Txid.from_hex.Goals as goal
use Rattle.ls_base.proofs.txid.Txid.from_hex.Goals.{then-text-gt16-via-then-text-gt16}
use Rattle.ls_base.proofs.txid.Txid.from_hex.Goals.{then-text-gt16-via-else-text-gt16+then-starts_with}

pub returns-in_err-number : goal.returns-in_err-number
returns-in_err-number c =
    let plain = no_plus_first c.args.text.now c.starts_with.result
    (starts_char 43 c.args.text.now c.starts_with.result c.starts_with.ensures.cases (omega arith) (omega arith))
    c.if-starts_with.false in
    let none = none_from_err c.args.text.now c.from_str_radix.result plain c.if-text-gt16.false
    c.from_str_radix.ensures.value (sym c.ok.ensures.value ∙ c.in_err-number.was) in
    let exact : SomeIff c.from_residual.result (IsTxidText c.args.text.now) (digits_value 16 c.args.text.now) =
    rw c.from_residual.ensures none in
    record { found = exact; value = txid_of-from_iff c.args.text.now c.from_residual.result exact }

pub returns : goal.returns
returns c =
    let plain = no_plus_first c.args.text.now c.starts_with.result
    (starts_char 43 c.args.text.now c.starts_with.result c.starts_with.ensures.cases (omega arith) (omega arith))
    c.if-starts_with.false in
    let exact = some_from_ok c.args.text.now c.from_str_radix.result c.in_ok-number.number c.new.result plain
    c.if-text-gt16.false c.from_str_radix.ensures.value (sym c.ok.ensures.value ∙ c.in_ok-number.was)
    c.new.ensures in
    record { found = exact; value = txid_of-from_iff c.args.text.now c.new.result exact }

pub returns-then-text-gt16-clause-value : goal.returns-then-text-gt16-clause-value
returns-then-text-gt16-clause-value c = txid_of-from_iff c.args.text.now None (λ is. elim c.then-text-gt16.branch [
  | then-text-gt16-via-then-text-gt16 w ↦ omega (arith, is.short)
  | then-text-gt16-via-else-text-gt16+then-starts_with w ↦ plus_is_no_digit c.args.text.now is w.starts_with.result
      (starts_char 43 c.args.text.now w.starts_with.result w.starts_with.ensures.cases (omega arith) (omega arith))
      w.if-starts_with.true
])
