use Rattle.std.proofs.Common.{◌-◌, refl, arith}
use Rattle.compact_levels.proofs.RunOfLemmas.{pile_files}
use Rattle.compact_levels.proofs.run_files.files_of.Goals as goal

pub returns-clause-files : goal.returns-clause-files
returns-clause-files c =
    pile_files c.args.names.now c.args.run.now (c.args.run.now.level - 1) c.pile_from-pile.result.now
    c.in_ok-from_slice.field-0.items c.requires.run (λ is. omega (arith, is, c.if-run-eq9.false)) refl
    c.pile_from-pile.ensures c.in_ok-from_slice.ensures.items
