use Rattle.std.proofs.Common.{refl}
use Rattle.crash_disk.specs.Files.{files_after}
use Rattle.page_cursors.specs.declared.cursors.Cursors.{Cursors}
use Rattle.page_cursors.specs.Cursors.{IsUntouched}
use Rattle.page_cursors.proofs.EndedLemmas.{have_all_read}
use Rattle.page_cursors.proofs.NextLemmas.{enter, leave, untouched_taken, err_is}
use Rattle.page_cursors.proofs.cursors.Cursors.next_of_run.Goals as goal

pub returns-in_default-clause-ended : goal.returns-in_default-clause-ended
returns-in_default-clause-ended g c = λ events told given has.
    have_all_read (files_after events) c.args.self.now given has c.requires.ready.shape c.in_default.ensures.none

pub returns-in_err-take_all-clause-explained : goal.returns-in_err-take_all-clause-explained
returns-in_err-take_all-clause-explained g c =
    err_is c.from_residual.result c.in_err-take_all.field-0.0 _
    c.from_residual.ensures.1 (λ events told given has.
    let old = c.args.self.now in
    let number = c.in-Some.number in
    let least = c.in-Some.ensures.some in
    let first : Cursors = record {
      cursors = old.cursors;
      waiting = c.least.new.self;
      page = old.page;
      size =
          old.size;
      commit = old.commit;
      last = old.last;
    } in
    let same : IsUntouched old first = record { is = refl; numbers = c.least.ensures.unchanged } in
    c.in_err-take_all.ensures.explained events told given
    (untouched_taken (files_after events) old first number 0 given same (enter
    (files_after events) old given number has (c.requires.ready.above least.0 number least.1.waits))))

pub returns-clause-gives : goal.returns-clause-gives
returns-clause-gives g c = λ events told given has.
    let old = c.args.self.now in
    let number = c.in-Some.number in
    let least = c.in-Some.ensures.some in
    let first : Cursors = record {
      cursors = old.cursors;
      waiting = c.least.new.self;
      page = old.page;
      size =
          old.size;
      commit = old.commit;
      last = old.last;
    } in
    let same : IsUntouched old first = record { is = refl; numbers = c.least.ensures.unchanged } in
    let taken = c.in_ok-take_all.ensures.taken in
    leave (files_after events) c.take_all.new.self _ given number taken.from
    (taken.takes events told given (untouched_taken (files_after events) old first number 0 given same (enter
    (files_after events) old given number has (c.requires.ready.above least.0 number least.1.waits))))
    taken.taking taken.some taken.none refl
