use Rattle.std.proofs.Common.{List, refl, subst}
use Rattle.crash_disk.specs.Files.{files_after}
use Rattle.page_cursors.specs.declared.cursor.Cursor.{Cursor}
use Rattle.page_cursors.specs.declared.cursors.Cursors.{Cursors}
use Rattle.page_cursors.specs.Cursors.{IsUntouched}
use Rattle.page_cursors.specs.Ending.{AllHold, LacksAt}
use Rattle.page_cursors.proofs.EndedLemmas.{have_read, blames_missing}
use Rattle.page_cursors.proofs.NextLemmas.{enter, leave, untouched_taken, err_is}
use Rattle.page_cursors.specs.Costs.{nothing}
use Rattle.page_cursors.proofs.CostLemmas.{takes_none}
use Rattle.page_cursors.proofs.CostListLemmas.{takes_all, err_each}
use Rattle.page_cursors.proofs.cursors.Cursors.next.Goals as goal

pub returns-in_err-lacking-clause-explained : goal.returns-in_err-lacking-clause-explained
returns-in_err-lacking-clause-explained g c =
    err_is c.from_residual.result c.in_err-lacking.field-0.0 _ c.from_residual.ensures.1 (λ events told given has.
    blames_missing (g.S.Disk.told c.args.store.now) events c.args.self.now given c.in_err-lacking.field-0.0 told has
    c.requires.ready.shape c.in_default.ensures.none
    (subst (λ (cs : List Cursor). LacksAt cs c.in_err-lacking.field-0.0) c.deref.ensures.value
    c.in_err-lacking.ensures.lacks))

pub returns-in_default-clause-ended : goal.returns-in_default-clause-ended
returns-in_default-clause-ended g c = λ events told given has.
    have_read (files_after events) c.args.self.now given has c.requires.ready.shape c.in_default.ensures.none
    (subst AllHold c.deref.ensures.value c.in_ok-lacking.ensures.whole)

pub returns-in_err-take_all-clause-explained : goal.returns-in_err-take_all-clause-explained
returns-in_err-take_all-clause-explained g c =
    err_is c.from_residual-in_err-take_all.result c.in_err-take_all.field-0.0 _
    c.from_residual-in_err-take_all.ensures.1 (λ events told given has.
    let old = c.args.self.now in
    let number = c.in-Some.number in
    let least = c.in-Some.ensures.some in
    let first : Cursors = record {
      cursors = old.cursors;
      waiting = c.least.new.self;
      page = old.page;
      size =
          old.size;
      commit = old.commit;
      last = old.last;
    } in
    let same : IsUntouched old first = record { is = refl; numbers = c.least.ensures.unchanged } in
    c.in_err-take_all.ensures.explained events told given
    (untouched_taken (files_after events) old first number 0 given same (enter
    (files_after events) old given number has (c.requires.ready.above least.0 number least.1.waits))))

pub returns-clause-gives : goal.returns-clause-gives
returns-clause-gives g c = λ events told given has.
    let old = c.args.self.now in
    let number = c.in-Some.number in
    let least = c.in-Some.ensures.some in
    let first : Cursors = record {
      cursors = old.cursors;
      waiting = c.least.new.self;
      page = old.page;
      size =
          old.size;
      commit = old.commit;
      last = old.last;
    } in
    let same : IsUntouched old first = record { is = refl; numbers = c.least.ensures.unchanged } in
    let taken = c.in_ok-take_all.ensures.taken in
    leave (files_after events) c.take_all.new.self _ given number taken.from
    (taken.takes events told given (untouched_taken (files_after events) old first number 0 given same (enter
    (files_after events) old given number has (c.requires.ready.above least.0 number least.1.waits))))
    taken.taking taken.some taken.none refl

pub returns-in_default-clause-takes : goal.returns-in_default-clause-takes
returns-in_default-clause-takes g c = λ events told counted. (counted, takes_none _ _ _ _ _ refl refl)

pub returns-in_err-lacking-clause-spends : goal.returns-in_err-lacking-clause-spends
returns-in_err-lacking-clause-spends g c = err_each c.from_residual.result _ (λ events told counted.
    takes_all _ _ _ _ _ _ (takes_none _ c.args.steps.now c.args.steps.now (g.S.Disk.given c.args.store.now)
    (g.S.Disk.given c.args.store.now) refl refl))

pub returns-in_err-take_all-clause-spends : goal.returns-in_err-take_all-clause-spends
returns-in_err-take_all-clause-spends g c = err_each c.from_residual-in_err-take_all.result _ (λ events told counted.
    c.in_err-take_all.ensures.spends events told counted)

pub returns-clause-takes : goal.returns-clause-takes
returns-clause-takes g c = λ events told counted. c.in_ok-take_all.ensures.takes events told counted
