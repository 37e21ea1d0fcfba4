use Rattle.std.proofs.Common.{rules, sym, ◌∙◌}
use Rattle.snapshot_read.proofs.TellLemmas.{goes_weaker, goes_nowhere, err_of}
use Rattle.snapshot_read.proofs.PageLemmas.{reads_locked, reads_log, reads_file, file_failed}
use Rattle.snapshot_read.proofs.page.page_at.Goals as goal

pub returns-in-Some-clause-told : goal.returns-in-Some-clause-told
returns-in-Some-clause-told g c =
    goes_weaker _ _ _ _ c.read_log.ensures.told (λ x y reads.
    reads_log c.args.map.now.offsets c.args.size c.args.number
    (search rules) c.in-Some.at c.read_log.result c.read_log.new.into x y (sym c.get.ensures ∙ c.in-Some.is)
    (search rules) reads)

pub returns-then-number-lock_page-clause-told : goal.returns-then-number-lock_page-clause-told
returns-then-number-lock_page-clause-told g c =
    goes_nowhere _ _ (λ x. reads_locked c.args.map.now.offsets c.args.size c.args.number _ x (search rules)
    (search rules))

pub returns-in_ok-read_page-in-None-clause-told : goal.returns-in_ok-read_page-in-None-clause-told
returns-in_ok-read_page-in-None-clause-told g c =
    goes_weaker _ _ _ _ c.in_ok-read_page-in-None.ensures.told (λ x y gives.
    reads_file c.args.map.now.offsets c.args.size c.args.number (search rules)
    (sym c.get.ensures ∙ c.in-None.is) c.read_page.new.into x y gives)

pub returns-in_err-read_page-in-None-clause-told : goal.returns-in_err-read_page-in-None-clause-told
returns-in_err-read_page-in-None-clause-told g c =
    goes_weaker _ _ _ _ c.in_err-read_page-in-None.ensures.told (λ x y gives.
    file_failed c.args.map.now.offsets c.args.size c.args.number (search rules)
    (sym c.get.ensures ∙ c.in-None.is) _ c.in_err-read_page-in-None.field-0.0 c.read_page.new.into x y
    (err_of _ _ c.from_residual.ensures.1) gives)
