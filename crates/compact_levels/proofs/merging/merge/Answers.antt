use Rattle.std.proofs.Common.{List, ap, subst, sym, ◌∙◌}
use Rattle.page_cursors.proofs.NextLemmas.{err_is}
use Rattle.replica_store.specs.declared.file_name.FileName.{FileName}
use Rattle.compact_levels.specs.Merged.{AreRunFiles, IsNameOf}
use Rattle.compact_levels.proofs.MergeRunLemmas.{has_merged_run, leaves_unmerged, run_spans}
use Rattle.compact_levels.proofs.merging.merge.Goals as goal

pub merge_files-requires-clause-spans : goal.merge_files-requires-clause-spans
merge_files-requires-clause-spans g c =
    let named : IsNameOf c.args.run.now c.in-Some.name = record {
      level = c.in-Some.ensures.level;
      min = c.in-Some.ensures.min;
      max = c.in-Some.ensures.max;
    } in
    run_spans c.args.names.now c.args.run.now c.deref.result.now c.in-Some.name
    (subst (λ (plan : List FileName). AreRunFiles c.args.names.now c.args.run.now plan) (sym c.deref.ensures.value)
    c.in_ok-files.ensures.files) named

pub returns-in_err-merge_files-clause-err : goal.returns-in_err-merge_files-clause-err
returns-in_err-merge_files-clause-err g c =
    let named : IsNameOf c.args.run.now c.in-Some.name = record {
      level = c.in-Some.ensures.level;
      min = c.in-Some.ensures.min;
      max = c.in-Some.ensures.max;
    } in
    let fault = c.in_err-merge_files.field-0.0 in
    err_is c.from_residual-in_err-merge_files.result fault _ c.from_residual-in_err-merge_files.ensures.1
    (leaves_unmerged c.args.names.now c.args.run.now c.deref.result.now c.in-Some.name
    (subst (λ (plan : List FileName). AreRunFiles c.args.names.now c.args.run.now plan) (sym c.deref.ensures.value)
    c.in_ok-files.ensures.files) named (g.S.Disk.told c.args.store.now) (g.S.Disk.told c.merge_files.new.store) fault
    c.in_err-merge_files.ensures.err)

pub returns-clause-merged : goal.returns-clause-merged
returns-clause-merged g c =
    let named : IsNameOf c.args.run.now c.in-Some.name = record {
      level = c.in-Some.ensures.level;
      min = c.in-Some.ensures.min;
      max = c.in-Some.ensures.max;
    } in
    has_merged_run c.args.names.now c.args.run.now c.deref.result.now c.in-Some.name
    (subst (λ (plan : List FileName). AreRunFiles c.args.names.now c.args.run.now plan) (sym c.deref.ensures.value)
    c.in_ok-files.ensures.files) named (g.S.Disk.told c.args.store.now) (g.S.Disk.told c.merge_files.new.store)
    c.in_ok-merge_files.ensures.ok
