use Rattle.std.proofs.Common.{◌∙◌, ap}
use Rattle.std.specs.Prelude.{Err}
use Rattle.restore_plan.specs.declared.chain.PlanFault.{PlanFault}
use Rattle.compact_levels.proofs.RunOfLemmas.{chain_files, run_retained}
use Rattle.compact_levels.proofs.run_files.chain_to.Goals as goal

pub unreachable-requires : goal.unreachable-requires
unreachable-requires c =
    absurd (c.in-Err-MissingRange.ensures.missing c.in-Err-MissingRange.field-0-0
    (ap (λ (e : PlanFault). Err e) c.in-Err-MissingRange.field-0-is)
    (run_retained c.args.names.now c.args.run.now c.requires.run c.requires.whole))

pub returns-in-Ok-clause-files : goal.returns-in-Ok-clause-files
returns-in-Ok-clause-files c =
    chain_files c.args.names.now c.args.run.now c.in-Ok.chain c.into_vec.result.items c.requires.run c.requires.whole
    c.in-Ok.ensures.chosen c.into_vec.ensures
