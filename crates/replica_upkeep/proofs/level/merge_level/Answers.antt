use Rattle.std.proofs.Common.{◌≡◌, List, refl, sym, ap, subst, ◌∙◌}
use Rattle.crash_disk.specs.GoesOn.{GoesOn}
use Rattle.crash_disk.specs.Told.{Told}
use Rattle.compact_levels.specs.Merged.{HasMerged, LeavesUnmerged}
use Rattle.compact_levels.proofs.RunOfLemmas.{due_is_run}
use Rattle.page_cursors.proofs.NextLemmas.{err_is}
use Rattle.replica_store.specs.declared.dated_names.Dated.{Dated}
use Rattle.replica_store.specs.declared.file_name.FileName.{FileName}
use Rattle.replica_store.specs.Chain.{names_of}
use Rattle.replica_upkeep.specs.declared.answer.UpkeepStop.TheVariants.{Memory}
use Rattle.replica_upkeep.specs.Answers.{stop_at, stop_of}
use Rattle.replica_upkeep.specs.Levels.{LacksDue}
use Rattle.replica_upkeep.specs.Turn.{HasTurned, StopsTurn}
use Rattle.replica_upkeep.proofs.MergedLemmas.{due_run, run_name, run_named}
use Rattle.replica_upkeep.proofs.TurnLemmas.{has_turned, no_memory, none_due, stops_at_header, stops_behind}
use Rattle.replica_upkeep.proofs.TurnLemmas.{stops_unmerged, turned_files}
use Rattle.replica_upkeep.proofs.level.merge_level.Goals as goal

pub returns-in_default-clause-ok : goal.returns-in_default-clause-ok
returns-in_default-clause-ok g c =
    none_due (g.S.Disk.told c.args.store.now) c.args.level c.args.now c.args.dated.now.items c.requires.files
    (subst (λ (ds : List Dated). LacksDue c.args.level c.args.now ds) c.deref.ensures.value c.in_default.ensures.none)

pub returns-in_err-names-clause-err : goal.returns-in_err-names-clause-err
returns-in_err-names-clause-err g c =
    err_is c.from_residual.result Memory _ c.from_residual.ensures.1
    (no_memory (g.S.Disk.told c.args.store.now) c.args.level c.args.now c.args.dated.now.items)

pub merge-requires-clause-run : goal.merge-requires-clause-run
merge-requires-clause-run g c =
    due_is_run c.deref.result.now c.args.now c.in-Some.run' c.deref-3.result.now c.in-Some.ensures.due
    (c.deref-3.ensures.value ∙ c.in_ok-names.ensures ∙ ap names_of c.deref-2.ensures.value
    ∙ sym (ap names_of c.deref.ensures.value))

pub returns-in_err-name-clause-err : goal.returns-in_err-name-clause-err
returns-in_err-name-clause-err g c =
    let dated = c.args.dated.now.items in
    let run = c.in-Some.run' in
    let old = g.S.Disk.told c.args.store.now in
    let new = g.S.Disk.told c.merge.new.store in
    let fault = c.in_err-name.field-0.0 in
    let due = c.in-Some.ensures in
    let names : c.deref-3.result.now ≡ names_of dated
    = c.deref-3.ensures.value ∙ c.in_ok-names.ensures ∙ ap names_of c.deref-2.ensures.value in
    err_is c.from_residual-in_err-name.result (stop_of fault) _ c.from_residual-in_err-name.ensures.1
    (stops_unmerged c.args.level c.args.now dated run (run_name run due.name)
    (due_run dated c.deref.result.now c.args.level c.args.now run (run_name run due.name) c.deref.ensures.value due.due
    due.level
    due.name due.new (run_named run due.name)) old new fault c.requires.files
    (subst (λ (ns : List FileName). GoesOn old new (LeavesUnmerged ns run fault)) names c.in_err-name.ensures.err))

pub returns-in_err-moment-clause-err : goal.returns-in_err-moment-clause-err
returns-in_err-moment-clause-err g c =
    let dated = c.args.dated.now.items in
    let run = c.in-Some.run' in
    let name = c.in_ok-name.name in
    let old = g.S.Disk.told c.args.store.now in
    let mid = g.S.Disk.told c.merge.new.store in
    let error = c.in_err-moment.field-0.0 in
    let due = c.in-Some.ensures in
    let names : c.deref-3.result.now ≡ names_of dated
    = c.deref-3.ensures.value ∙ c.in_ok-names.ensures ∙ ap names_of c.deref-2.ensures.value in
    err_is c.from_residual-in_err-moment.result (stop_at error) _ c.from_residual-in_err-moment.ensures.1
    (subst (λ (t : Told). GoesOn old t (StopsTurn c.args.level c.args.now dated (stop_at error)))
    (sym c.in_err-moment.ensures.unchanged)
    (stops_at_header c.args.level c.args.now dated run name
    (due_run dated c.deref.result.now c.args.level c.args.now run name c.deref.ensures.value due.due due.level due.name
    due.new
    c.in_ok-name.ensures.name) old mid error c.requires.files
    (subst (λ (ns : List FileName). GoesOn old mid (HasMerged ns run)) names c.in_ok-name.ensures.merged)
    c.in_err-moment.ensures.explained))

pub returns-in_err-add_name-clause-err : goal.returns-in_err-add_name-clause-err
returns-in_err-add_name-clause-err g c =
    let dated = c.args.dated.now.items in
    let run = c.in-Some.run' in
    let name = c.in_ok-name.name in
    let old = g.S.Disk.told c.args.store.now in
    let mid = g.S.Disk.told c.merge.new.store in
    let due = c.in-Some.ensures in
    let names : c.deref-3.result.now ≡ names_of dated
    = c.deref-3.ensures.value ∙ c.in_ok-names.ensures ∙ ap names_of c.deref-2.ensures.value in
    err_is c.from_residual-in_err-add_name.result Memory _ c.from_residual-in_err-add_name.ensures.1
    (subst (λ (t : Told). GoesOn old t (StopsTurn c.args.level c.args.now dated Memory))
    (sym c.in_ok-moment.ensures.unchanged)
    (stops_behind c.args.level c.args.now dated run name
    (due_run dated c.deref.result.now c.args.level c.args.now run name c.deref.ensures.value due.due due.level due.name
    due.new
    c.in_ok-name.ensures.name) old mid c.requires.files
    (subst (λ (ns : List FileName). GoesOn old mid (HasMerged ns run)) names c.in_ok-name.ensures.merged)))

pub returns-clause-ok : goal.returns-clause-ok
returns-clause-ok g c =
    let dated = c.args.dated.now.items in
    let longer = c.add_name.new.dated.items in
    let run = c.in-Some.run' in
    let name = c.in_ok-name.name in
    let header = c.in_ok-moment.field-0 in
    let old = g.S.Disk.told c.args.store.now in
    let mid = g.S.Disk.told c.merge.new.store in
    let due = c.in-Some.ensures in
    let names : c.deref-3.result.now ≡ names_of dated
    = c.deref-3.ensures.value ∙ c.in_ok-names.ensures ∙ ap names_of c.deref-2.ensures.value in
    subst (λ (t : Told). GoesOn old t (HasTurned c.args.level c.args.now dated longer 1))
    (sym c.in_ok-moment.ensures.unchanged)
    (has_turned c.args.level c.args.now dated run name
    (due_run dated c.deref.result.now c.args.level c.args.now run name c.deref.ensures.value due.due due.level due.name
    due.new
    c.in_ok-name.ensures.name) old mid (record { name = name; moment = header.moment }) longer header c.requires.files
    (subst (λ (ns : List FileName). GoesOn old mid (HasMerged ns run)) names c.in_ok-name.ensures.merged)
    c.in_ok-moment.ensures.value refl refl c.in_ok-add_name.ensures.ok)

pub returns-clause-files : goal.returns-clause-files
returns-clause-files g c =
    turned_files (g.S.Disk.told c.args.store.now) (g.S.Disk.told c.header_of.new.store) c.args.level c.args.now
    c.args.dated.now.items c.add_name.new.dated.items 1 (returns-clause-ok g c)
