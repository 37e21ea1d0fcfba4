use Rattle.std.proofs.Common.{List, ℕ, refl, subst, ◌∙◌, arith}
use Rattle.crash_disk.proofs.GoesOnLemmas.{goes_on-then, goes_on-weaker}
use Rattle.crash_disk.specs.GoesOn.{GoesOn}
use Rattle.crash_disk.specs.Files.{files_after}
use Rattle.page_cursors.specs.Costs.{left_of_all}
use Rattle.page_cursors.specs.Cursors.{plan_of}
use Rattle.page_cursors.proofs.CostLemmas.{takes_none}
use Rattle.page_cursors.proofs.CostListLemmas.{takes_all}
use Rattle.restore_apply.specs.declared.restored.RestoreFault.TheVariants.{Target}
use Rattle.restore_apply.specs.Staging.{OnlyAppends, AppendsGathered}
use Rattle.restore_apply.proofs.FaultLemmas.{rests_later, rose_later}
use Rattle.restore_apply.proofs.PlanLemmas.{err_is, err_each}
use Rattle.restore_apply.proofs.StagingLemmas.{only_appends, only_appends-then, still_there, there_once_created, filled}
use Rattle.restore_apply.proofs.StagingLemmas.{there_once_filled, begun-not_created, begun-only_appends}
use Rattle.restore_apply.proofs.output.fill.Goals as goal

pub put_pages-requires-clause-there : goal.put_pages-requires-clause-there
put_pages-requires-clause-there g c = there_once_created (g.T.Disk.told c.args.target.now)
    (g.T.Disk.told c.create.new.self) c.args.name.now c.in_ok-create.ensures.ok

pub flush-requires : goal.flush-requires
flush-requires g c =
    let made = g.T.Disk.told c.create.new.self in
    let put = g.T.Disk.told c.put_pages.new.target in
    let name = c.args.name.now in
    record {
      there =
          still_there made put name
          (goes_on-weaker made put _ (OnlyAppends name) c.in_ok-put_pages.ensures.ok.puts (only_appends name _ _ _))
          (there_once_created (g.T.Disk.told c.args.target.now) made name c.in_ok-create.ensures.ok);
    }

pub returns-clause-ok : goal.returns-clause-ok
returns-clause-ok g c =
    let put = c.in_ok-put_pages.ensures.ok in
    let made = g.T.Disk.told c.create.new.self in
    let after = g.T.Disk.told c.put_pages.new.target in
    let name = c.args.name.now in
    record {
      bytes = put.bytes;
      fills =
          filled (g.T.Disk.told c.args.target.now) made after (g.T.Disk.told c.flush.new.disk) name put.bytes
          c.put_pages.new.gathered c.in_ok-create.ensures.ok
          (subst (λ (before : List ℕ). GoesOn made after (AppendsGathered name before put.bytes
          c.put_pages.new.gathered)) c.requires.empty put.puts) c.in_ok-flush.ensures.ok;
      state = put.state;
    }

pub returns-clause-there : goal.returns-clause-there
returns-clause-there g c =
    let put = c.in_ok-put_pages.ensures.ok in
    let made = g.T.Disk.told c.create.new.self in
    let after = g.T.Disk.told c.put_pages.new.target in
    let name = c.args.name.now in
    there_once_filled (g.T.Disk.told c.args.target.now) (g.T.Disk.told c.flush.new.disk) name put.bytes
    (filled (g.T.Disk.told c.args.target.now) made after (g.T.Disk.told c.flush.new.disk) name put.bytes
    c.put_pages.new.gathered c.in_ok-create.ensures.ok
    (subst (λ (before : List ℕ). GoesOn made after (AppendsGathered name before put.bytes c.put_pages.new.gathered))
    c.requires.empty put.puts) c.in_ok-flush.ensures.ok)

pub returns-in_err-create-clause-err : goal.returns-in_err-create-clause-err
returns-in_err-create-clause-err g c =
    err_each c.from_residual.result _ (begun-not_created (g.T.Disk.told c.args.target.now)
    (g.T.Disk.told c.create.new.self) c.args.name.now c.in_err-create.ensures.err)

pub returns-in_err-put_pages-clause-err : goal.returns-in_err-put_pages-clause-err
returns-in_err-put_pages-clause-err g c =
    err_each c.from_residual-in_err-put_pages.result _
    (begun-only_appends (g.T.Disk.told c.args.target.now) (g.T.Disk.told c.create.new.self)
    (g.T.Disk.told c.put_pages.new.target) c.args.name.now c.in_ok-create.ensures.ok c.in_err-put_pages.ensures.err)

pub returns-in_err-flush-clause-err : goal.returns-in_err-flush-clause-err
returns-in_err-flush-clause-err g c =
    let made = g.T.Disk.told c.create.new.self in
    let after = g.T.Disk.told c.put_pages.new.target in
    let name = c.args.name.now in
    err_each c.from_residual-in_err-flush.result _
    (begun-only_appends (g.T.Disk.told c.args.target.now) made (g.T.Disk.told c.flush.new.disk) name
    c.in_ok-create.ensures.ok
    (goes_on-then made after (g.T.Disk.told c.flush.new.disk) _ _ (OnlyAppends name)
    c.in_ok-put_pages.ensures.ok.puts c.in_err-flush.ensures.err
    (λ x y z first second. only_appends-then name x y z (only_appends name _ _ _ x y first) second)))

pub returns-in_err-create-clause-rests : goal.returns-in_err-create-clause-rests
returns-in_err-create-clause-rests g c =
    err_is c.from_residual.result (Target c.in_err-create.field-0.0) _ c.from_residual.ensures.1
    (c.in_err-create.ensures.cause.rose refl)

pub returns-in_err-put_pages-clause-rests : goal.returns-in_err-put_pages-clause-rests
returns-in_err-put_pages-clause-rests g c =
    err_is c.from_residual-in_err-put_pages.result c.in_err-put_pages.field-0.0 _
    c.from_residual-in_err-put_pages.ensures.1
    (rests_later (g.S.Disk.told c.args.store.now) (plan_of c.args.cursors.now) _ _ _ _ _ _ c.in_err-put_pages.field-0.0
    (omega arith) c.create.ensures.cause.later c.in_err-put_pages.ensures.rests)

pub returns-in_err-flush-clause-rests : goal.returns-in_err-flush-clause-rests
returns-in_err-flush-clause-rests g c =
    err_is c.from_residual-in_err-flush.result (Target c.in_err-flush.field-0.0) _
    c.from_residual-in_err-flush.ensures.1
    (rose_later _ _ _ (omega (arith, c.create.ensures.cause.later, c.put_pages.ensures.target_later))
    (c.in_err-flush.ensures.cause.rose refl))

pub returns-in_err-create-clause-takes : goal.returns-in_err-create-clause-takes
returns-in_err-create-clause-takes g c = λ events told counted.
    takes_all _ _ _ _ _ _ (takes_none (left_of_all (files_after events) c.args.cursors.now.cursors.items)
    c.args.steps.now c.args.steps.now (g.S.Disk.given c.args.store.now) (g.S.Disk.given c.args.store.now) refl refl)
