use Rattle.std.proofs.Common.{◌∙◌, rules, arith, ◌<◌, ◌≤◌, ◌/◌, ◌^◌, refl, sym, subst}
use Rattle.std.proofs.lemmas.Bool.{false≢true}
use Rattle.replica_store.specs.Chain.{names_of}
use Rattle.restore_plan.proofs.RunLemmas.{none_then}
use Rattle.compact_levels.specs.Pile.{AreFilesFor}
use Rattle.compact_levels.specs.Level.{interval}
use Rattle.compact_levels.proofs.DueLemmas.{not_below, no_files, no_moment, not_late, is_due, is_known}
use Rattle.compact_levels.proofs.RunLemmas.{begins_with_one, ends_beyond, in_order}
use Rattle.compact_levels.proofs.due_run.due.Goals as goal

pub returns-in_err-files-clause-none : goal.returns-in_err-files-clause-none
returns-in_err-files-clause-none c =
    let names = names_of c.args.dated.now in
    let end = c.end_of.ensures names c.args.level c.last_of-last.ensures in
    none_then c.from_residual.result _
    (no_files c.args.dated.now c.args.level c.args.now c.end_of.result end c.in_err-files.ensures.only)

pub returns-in_err-moment-clause-none : goal.returns-in_err-moment-clause-none
returns-in_err-moment-clause-none c =
    let names = names_of c.args.dated.now in
    let end = c.end_of.ensures names c.args.level c.last_of-last.ensures in
    none_then c.from_residual-in_err-moment.result _
    (no_moment c.args.dated.now c.args.level c.args.now c.end_of.result c.last_of-last.result c.in_ok-files.files.first
    end c.last_of-last.ensures c.in_ok-files.ensures.only (sym c.in_err-moment.ensures))

pub returns-then-not-is_past-clause-none : goal.returns-then-not-is_past-clause-none
returns-then-not-is_past-clause-none c =
    let names = names_of c.args.dated.now in
    let end = c.end_of.ensures names c.args.level c.last_of-last.ensures in
    let early : c.args.now / interval c.args.level ≤ c.in_ok-moment.moment / interval c.args.level =
    not_below _ _ (λ late. false≢true (sym c.if-not-is_past.true ∙ c.is_past.ensures.1 late)) in
    not_late c.args.dated.now c.args.level c.args.now c.end_of.result c.last_of-last.result c.in_ok-files.files.first
    end c.last_of-last.ensures c.in_ok-files.ensures.only c.in_ok-moment.moment (sym c.in_ok-moment.ensures) early

pub returns-clause-due : goal.returns-clause-due
returns-clause-due c =
    let names = names_of c.args.dated.now in
    let end = c.end_of.ensures names c.args.level c.last_of-last.ensures in
    let late = c.is_past.ensures.0 c.if-not-is_past.false in
    is_due c.args.dated.now c.args.level c.args.now c.end_of.result c.last_of-last.result c.in_ok-files.files
    c.in_ok-moment.moment _ c.requires.level end c.last_of-last.ensures c.in_ok-files.ensures.found
    (sym c.in_ok-moment.ensures) late refl refl refl

pub returns-clause-name : goal.returns-clause-name
returns-clause-name c =
    let names = names_of c.args.dated.now in
    let found = c.in_ok-files.ensures.found in
    let positive : 1 ≤ c.in_ok-files.files.first.min = search rules in
    let fits : c.in_ok-files.files.end < 2 ^ 64 = search rules in
    record {
      known = is_known c.args.level c.requires.level;
      from_first = positive;
      in_order = in_order names c.args.level c.end_of.result c.in_ok-files.files c.requires.level found;
      max_fits = fits;
      whole = λ nine. begins_with_one names c.end_of.result c.in_ok-files.files positive
          (subst (λ l. AreFilesFor names l c.end_of.result c.in_ok-files.files) nine found);
    }

pub returns-clause-new : goal.returns-clause-new
returns-clause-new c = λ name is.
    let names = names_of c.args.dated.now in
    let end = c.end_of.ensures names c.args.level c.last_of-last.ensures in
    let beyond = ends_beyond names c.args.level c.end_of.result c.in_ok-files.files c.requires.level
    c.in_ok-files.ensures.found in
    omega (arith, end.bound name is, beyond)
