use Rattle.std.proofs.Common.{sym, ap, ◌∙◌}
use Rattle.std.specs.Prelude.{option_copied}
use Rattle.ls_words.proofs.ValueLemmas.{none_from, hours, minutes, no_unit, millis, seconds}
use Rattle.ls_words.specs.Value.{without_last}
use Rattle.ls_words.proofs.value.duration_of.Goals as goal

pub returns-in-Some : goal.returns-in-Some
returns-in-Some c = c.timed.ensures ∙ hours c.args.text.now c.in-Some.digits.now c.in-Some.ensures

pub returns-in-Some-without_last : goal.returns-in-Some-without_last
returns-in-Some-without_last c =
    let text = c.args.text.now in
    let h = none_from c.without_last.result (without_last 104 text) c.without_last.ensures c.in_default.not-Some in
    c.timed-in-Some-without_last.ensures ∙ minutes text c.in-Some-without_last.digits.now h
    c.in-Some-without_last.ensures

pub returns-in_err-front : goal.returns-in_err-front
returns-in_err-front c =
    let text = c.args.text.now in
    let h = none_from c.without_last.result (without_last 104 text) c.without_last.ensures c.in_default.not-Some in
    let m = none_from c.without_last-2.result (without_last 109 text) c.without_last-2.ensures
    c.in_default-without_last.not-Some in
    c.from_residual.ensures ∙ no_unit text h m (ap option_copied (sym c.in_err-front.was) ∙ c.without_last-3.ensures)

pub returns-in-Some-without_last-2 : goal.returns-in-Some-without_last-2
returns-in-Some-without_last-2 c =
    let text = c.args.text.now in
    let h = none_from c.without_last.result (without_last 104 text) c.without_last.ensures c.in_default.not-Some in
    let m = none_from c.without_last-2.result (without_last 109 text) c.without_last-2.ensures
    c.in_default-without_last.not-Some in
    let s = ap option_copied (sym c.in_ok-front.was) ∙ c.without_last-3.ensures in
    c.timed-in-Some-without_last-2.ensures ∙ millis text c.in_ok-front.front.now c.in-Some-without_last-2.digits.now h
    m s c.in-Some-without_last-2.ensures

pub returns : goal.returns
returns c =
    let text = c.args.text.now in
    let h = none_from c.without_last.result (without_last 104 text) c.without_last.ensures c.in_default.not-Some in
    let m = none_from c.without_last-2.result (without_last 109 text) c.without_last-2.ensures
    c.in_default-without_last.not-Some in
    let s = ap option_copied (sym c.in_ok-front.was) ∙ c.without_last-3.ensures in
    let e = none_from c.without_last-4.result (without_last 109 c.in_ok-front.front.now) c.without_last-4.ensures
    c.in_default-without_last-2.not-Some in
    c.timed-2.ensures ∙ seconds text c.in_ok-front.front.now h m s e
