use Rattle.std.proofs.Common.{◌∙◌, arith}
use Rattle.crash_disk.specs.Files.{files_after}
use Rattle.replica_store.specs.Dating.{ExplainsDated}
use Rattle.replica_store.proofs.GivenLemmas.{gave_within, gave_then}
use Rattle.replica_store.proofs.HeaderLemmas.{dated_more, names_to, dated_error, error_goes_on}
use Rattle.replica_store.proofs.heading.dated.Goals as goal

pub returns-in_err-header-clause-explained : goal.returns-in_err-header-clause-explained
returns-in_err-header-clause-explained g c =
    error_goes_on c.from_residual.result c.in_err-header.field-0.0
    (ExplainsDated (g.S.Disk.told c.args.store.now) c.args.names.now) c.from_residual.ensures.1
    (dated_error (g.S.Disk.told c.args.store.now) (g.S.Disk.told c.loop-name.store) c.args.names.now
    c.loop-name.name-index c.loop-name.list c.name-item.result c.in_err-header.field-0.0 c.loop-name-test.true
    c.name-item.is c.loop-name.invariant.unchanged c.loop-name.invariant.dated c.in_err-header.ensures.explained)

pub loop-name-preserved : goal.loop-name-preserved
loop-name-preserved g c = record {
  unchanged = c.in_ok-header.ensures.unchanged ∙ c.loop-name.invariant.unchanged;
  same_folder = c.in_ok-header.ensures.same_folder ∙ c.loop-name.invariant.same_folder;
  gave = gave_within _ _ _ _ (omega arith)
      (gave_then _ 100 _ _ _ c.loop-name.invariant.gave c.in_ok-header.ensures.gave);
  later = omega (arith, c.in_ok-header.ensures.cause.later, c.loop-name.invariant.later);
  names = names_to c.args.names.now c.loop-name.name-index c.loop-name.list c.push.new.self c.name-item.result
      c.in_ok-header.header.moment c.loop-name-test.true c.name-item.is c.loop-name.invariant.names
      c.in_ok-push.ensures.ok;
  dated = λ events told.
      let now = c.loop-name.invariant.unchanged ∙ told in
      dated_more (files_after events) c.args.names.now c.loop-name.name-index c.loop-name.list c.push.new.self
      c.name-item.result c.in_ok-header.header c.loop-name-test.true c.name-item.is
      (c.loop-name.invariant.dated events told) (c.in_ok-header.ensures.value events now) c.in_ok-push.ensures.ok;
}

pub returns-in_err-header-clause-gave : goal.returns-in_err-header-clause-gave
returns-in_err-header-clause-gave g c = gave_within _ _ _ _ (omega (arith, c.loop-name-test.true))
    (gave_then _ 100 _ _ _ c.loop-name.invariant.gave c.in_err-header.ensures.gave)

pub returns-in_err-push-clause-gave : goal.returns-in_err-push-clause-gave
returns-in_err-push-clause-gave g c = gave_within _ _ _ _ (omega (arith, c.loop-name-test.true))
    (gave_then _ 100 _ _ _ c.loop-name.invariant.gave c.in_ok-header.ensures.gave)
