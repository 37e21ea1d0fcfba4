use Rattle.std.proofs.Common.{◌≡◌, ◌-◌, ◌*◌, ◌/◌, ◌%◌, ◌^◌, ◌<◌, ap, ◌∙◌, rules, arith}
use Rattle.std.specs.Str.Parse.{digits_value}
use Rattle.std.proofs.lemmas.List.FromFn.{fill_by_all}
use Rattle.ls_base.specs.Txid.{hex_digit, hex_digits}
use Rattle.ls_base.specs.TxidLaws.{digits_value-hex_digits}
use Rattle.ls_base.proofs.txid.Txid.digits.Goals as goal

pub returns-clause-value : goal.returns-clause-value
unfolding hex_digits
returns-clause-value c = fill_by_all (λ k. hex_digit (c.args.self.now / 2 ^ (4 * (15 - k)) % 16)) c.loop-i.digits 16 0
    c.loop-i.invariant.0 (search rules)

pub returns-clause-reads_back : goal.returns-clause-reads_back
returns-clause-reads_back c =
    let written : c.loop-i.digits ≡ hex_digits c.args.self.now = unfold hex_digits in fill_by_all
    (λ k. hex_digit (c.args.self.now / 2 ^ (4 * (15 - k)) % 16)) c.loop-i.digits 16 0 c.loop-i.invariant.0
    (search rules) in
    let fits : c.args.self.now < 2 ^ 64 = omega arith in
    ap (digits_value 16) written ∙ digits_value-hex_digits c.args.self.now fits
