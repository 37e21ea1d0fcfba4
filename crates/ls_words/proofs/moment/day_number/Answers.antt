use Rattle.std.proofs.Common.{◌∙◌, sym, ap, Some, FitsSigned, w32, rules}
use Rattle.std.proofs.lemmas.Int.{to_z-of_z}
use Rattle.ls_words.proofs.MomentLemmas.{no_day, some_day}
use Rattle.ls_words.proofs.moment.day_number.Goals as goal

pub returns-in_err-date-clause-value : goal.returns-in_err-date-clause-value
returns-in_err-date-clause-value c =
    c.from_residual.ensures ∙ no_day c.new.result c.args.year c.args.month c.args.day c.requires.year_in
    c.requires.month_in c.requires.day_in c.new.ensures.succeeds.1 (sym c.ok.ensures.value ∙ c.in_err-date.was)

pub returns-clause-value : goal.returns-clause-value
returns-clause-value c =
    let fits : FitsSigned w32 c.to_unix_epoch_day.result = search rules in
    ap (λ z. Some z) (to_z-of_z w32 c.to_unix_epoch_day.result fits ∙ c.to_unix_epoch_day.ensures.value)
    ∙ some_day c.new.result c.in_ok-date.date c.args.year c.args.month c.args.day c.requires.year_in
    c.requires.month_in c.requires.day_in c.new.ensures.succeeds.0 c.new.ensures.value
    (sym c.ok.ensures.value ∙ c.in_ok-date.was)
