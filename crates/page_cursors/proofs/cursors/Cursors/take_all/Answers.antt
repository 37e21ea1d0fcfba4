use Rattle.std.proofs.Common.{refl, sym, ◌∙◌, arith}
use Rattle.page_cursors.proofs.EndLemmas.{none_given, some_given}
use Rattle.page_cursors.proofs.NextLemmas.{begins_taking, takes_on, all_taken, each_taken, err_is, from_none, from_some}
use Rattle.page_cursors.proofs.NextLemmas.{same_length, blames_same}
use Rattle.crash_disk.specs.Files.{files_after}
use Rattle.page_cursors.specs.Costs.{AreCounted, Takes, left_of_all, nothing}
use Rattle.page_cursors.proofs.CostLemmas.{takes_none, takes_then}
use Rattle.page_cursors.proofs.CostListLemmas.{takes_all, err_each}
use Rattle.page_cursors.proofs.cursors.Cursors.take_all.Goals as goal

pub loop-init : goal.loop-init
loop-init g c = record {
  on = begins_taking (g.S.Disk.told c.args.store.now) c.args.self.now c.args.number c.requires.taking;
  count = sym (c.len-end.ensures ∙ c.args.self.now.cursors.ok.0);
  costs = λ events told counted. (counted, takes_none _ _ _ _ _ refl refl);
  unchanged = refl;
  same_folder = refl;
  later = omega arith;
}

pub returns-in_err-take-clause-explained : goal.returns-in_err-take-clause-explained
returns-in_err-take-clause-explained g c =
    err_is c.from_residual.result c.in_err-take.field-0.0 _ c.from_residual.ensures.1 (λ events told given taken.
    let before = c.loop.invariant.on in
    blames_same (g.S.Disk.told c.args.store.now) (g.S.Disk.told c.loop.store) c.args.self.now c.loop.self
    c.in_err-take.field-0.0 c.loop.invariant.unchanged before.same.plan
    (c.in_err-take.ensures.explained events (c.loop.invariant.unchanged
    ∙ told) before.from given (before.takes events told given taken)))

pub returns-then-is_none-clause-taken : goal.returns-then-is_none-clause-taken
returns-then-is_none-clause-taken g c =
    let none = from_none c.in_ok-take.field-0 _ c.in_ok-take.ensures.none
    (none_given c.in_ok-take.field-0 c.is_none.result c.if-is_none.true c.is_none.ensures) in
    all_taken (g.S.Disk.told c.args.store.now) c.args.self.now c.loop.self c.take.new.self c.args.number
    c.loop.counter c.requires.waits.0 c.loop.invariant.on c.requires.waits.1 none.0 none.1

pub loop-preserved : goal.loop-preserved
loop-preserved g c =
    let some = some_given c.in_ok-take.field-0 c.is_none.result c.if-is_none.false c.is_none.ensures in
    let same = c.in_ok-take.ensures.same in
    record {
      on = takes_on (g.S.Disk.told c.args.store.now) c.args.self.now c.loop.self c.take.new.self c.args.number
          c.loop.counter some.0 c.loop.invariant.on
          (λ from taking. from_some c.in_ok-take.field-0 _ some.0 (c.in_ok-take.ensures.taking from taking) some.1)
          (λ events told. from_some c.in_ok-take.field-0 _ some.0 c.in_ok-take.ensures.takes some.1 events
          (c.loop.invariant.unchanged ∙ told)) same;
      count = same_length c.loop.self c.take.new.self same ∙ c.loop.invariant.count;
      costs = λ events told counted.
          let files = files_after events in
          let so_far = c.loop.invariant.costs events told counted in
          let went = c.in_ok-take.ensures.costs events (c.loop.invariant.unchanged ∙ told) so_far.0 in (
            went.0,
            takes_then (left_of_all files c.args.self.now.cursors.items) (left_of_all files c.loop.self.cursors.items)
                (left_of_all files c.take.new.self.cursors.items) c.args.steps.now c.loop.steps c.take.new.steps
                (g.S.Disk.given c.args.store.now) (g.S.Disk.given c.loop.store) (g.S.Disk.given c.take.new.store)
                so_far.1
                went.1,
          );
      unchanged = c.take.ensures.unchanged ∙ c.loop.invariant.unchanged;
      same_folder = c.take.ensures.same_folder ∙ c.loop.invariant.same_folder;
      later = omega (arith, c.take.ensures.cause.later, c.loop.invariant.later);
    }

pub returns-clause-taken : goal.returns-clause-taken
returns-clause-taken g c =
    each_taken (g.S.Disk.told c.args.store.now) c.args.self.now c.loop.self c.args.number c.loop.counter
    c.requires.waits.0 c.loop.invariant.on c.requires.waits.1
    (omega (arith, c.loop.invariant.count, c.loop-test.false))

pub returns-then-is_none-clause-takes : goal.returns-then-is_none-clause-takes
returns-then-is_none-clause-takes g c = λ events told counted.
    let files = files_after events in
    let so_far = c.loop.invariant.costs events told counted in
    let went = c.in_ok-take.ensures.costs events (c.loop.invariant.unchanged ∙ told) so_far.0 in (
      went.0,
      takes_then (left_of_all files c.args.self.now.cursors.items) (left_of_all files c.loop.self.cursors.items)
          (left_of_all files c.take.new.self.cursors.items) c.args.steps.now c.loop.steps c.take.new.steps
          (g.S.Disk.given c.args.store.now) (g.S.Disk.given c.loop.store) (g.S.Disk.given c.take.new.store) so_far.1
          went.1,
    )

pub returns-clause-takes : goal.returns-clause-takes
returns-clause-takes g c = λ events told counted. c.loop.invariant.costs events told counted

pub returns-in_err-take-clause-spends : goal.returns-in_err-take-clause-spends
returns-in_err-take-clause-spends g c = err_each c.from_residual.result _ (λ events told counted.
    let files = files_after events in
    let so_far = c.loop.invariant.costs events told counted in
    takes_then (left_of_all files c.args.self.now.cursors.items) (left_of_all files c.loop.self.cursors.items) nothing
    c.args.steps.now c.loop.steps c.take.new.steps (g.S.Disk.given c.args.store.now) (g.S.Disk.given c.loop.store)
    (g.S.Disk.given c.take.new.store) so_far.1
    (c.in_err-take.ensures.spends events (c.loop.invariant.unchanged ∙ told) so_far.0))
