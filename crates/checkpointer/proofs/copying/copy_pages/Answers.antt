use Rattle.std.proofs.Common.{◌∙◌, ℕ, refl, sym, subst, arith}
use Rattle.std.specs.Map.Iter.{deref_pair}
use Rattle.std.proofs.lemmas.Map.Iter.{rest_more, rest_all}
use Rattle.crash_disk.specs.GoesOn.{GoesOn}
use Rattle.checkpointer.specs.Copying.{WritesPage, MayWritePage, IsCopiedNumber}
use Rattle.checkpointer.proofs.WritesLemmas.{rest_begins, copy_begins, rest_next, skipped, copied_next, copied_part}
use Rattle.checkpointer.proofs.WritesLemmas.{next_within, there_now, copy_ends}
use Rattle.checkpointer.proofs.copying.copy_pages.Goals.{else-number-ge1-via-then-number-ge1+then-number-commit+else-number-lock}
use Rattle.checkpointer.proofs.copying.copy_pages.Goals.{else-number-ge1-via-then-number-ge1+else-number-commit}
use Rattle.checkpointer.proofs.copying.copy_pages.Goals.{else-number-ge1-via-else-number-ge1}
use Rattle.checkpointer.proofs.copying.copy_pages.Goals as goal

pub loop-number-init : goal.loop-number-init
loop-number-init g c =
    let all = c.into_iter-number-iterator.ensures.into_iter_gives ∙ c.iter-number-items.ensures.rest in
    record {
      value = copy_begins c.args.db.now c.args.wal.now c.args.size.now c.args.commit c.args.pages.now
          c.into_iter-number-iterator.result (g.D.Disk.told c.args.disk.now) (g.D.Disk.told c.args.disk.now)
          c.iter-number-items.ensures.ordered all refl;
      rest = rest_begins c.args.db.now c.args.wal.now c.args.size.now c.args.commit c.args.pages.now
          c.into_iter-number-iterator.result c.iter-number-items.ensures.ordered all;
      long = c.requires.size;
      same_folder = refl;
      later = omega arith;
    }

pub copy_page-requires-clause-there : goal.copy_page-requires-clause-there
copy_page-requires-clause-there g c =
    there_now c.args.db.now c.args.wal.now c.args.size.now c.args.commit c.args.pages.now
    c.loop-number.number-iterator (g.D.Disk.told c.args.disk.now) (g.D.Disk.told c.loop-number.disk)
    c.loop-number.invariant.value c.requires.there

pub returns-in-Err-clause-err : goal.returns-in-Err-clause-err
returns-in-Err-clause-err g c =
    let next = rest_more deref_pair c.loop-number.number-iterator c.next.new.self c.next.result
    (c.in-Some.number, c.in-Some.at) c.in-Some.is c.next.ensures.steps in
    let copied : IsCopiedNumber c.args.size.now c.args.commit c.in-Some.number.now =
    record {
      from = c.if-number-ge1.true;
      upto = c.if-number-commit.true;
      unlocked = λ same. c.if-number-lock.true
          (same ∙ sym c.lock_page-lock.ensures);
    } in
    copied_part c.args.pages.now c.loop-number.number-iterator c.next.new.self c.in-Some.number.now c.in-Some.at.now
    next c.loop-number.invariant.rest c.args.db.now c.args.wal.now c.args.size.now c.args.commit
    c.requires.apart copied (g.D.Disk.told c.args.disk.now) (g.D.Disk.told c.loop-number.disk)
    (g.D.Disk.told c.copy_page.new.disk) c.loop-number.invariant.value
    (subst (λ (n : ℕ). GoesOn (g.D.Disk.told c.loop-number.disk) (g.D.Disk.told c.copy_page.new.disk)
    (MayWritePage c.args.db.now n c.in-Some.number.now)) c.loop-number.invariant.long c.in-Err.ensures.err)

pub returns-in-Err-clause-whole : goal.returns-in-Err-clause-whole
returns-in-Err-clause-whole g c x told within is =
    let next = rest_more deref_pair c.loop-number.number-iterator c.next.new.self c.next.result
    (c.in-Some.number, c.in-Some.at) c.in-Some.is c.next.ensures.steps in
    let copied : IsCopiedNumber c.args.size.now c.args.commit c.in-Some.number.now =
    record {
      from = c.if-number-ge1.true;
      upto = c.if-number-commit.true;
      unlocked = λ same. c.if-number-lock.true
          (same ∙ sym c.lock_page-lock.ensures);
    } in
    let stands = next_within c.args.pages.now c.loop-number.number-iterator c.next.new.self c.in-Some.number.now
    c.in-Some.at.now next c.loop-number.invariant.rest c.args.db.now c.args.wal.now c.args.size.now c.args.commit
    c.requires.apart copied (g.D.Disk.told c.args.disk.now) (g.D.Disk.told c.loop-number.disk)
    c.loop-number.invariant.value x told within in
    c.in-Err.ensures.whole stands.0 stands.1 (omega (arith, stands.2, c.loop-number.invariant.long)) is

pub loop-number-preserved-then-number-lock : goal.loop-number-preserved-then-number-lock
loop-number-preserved-then-number-lock g c =
    let next = rest_more deref_pair c.loop-number.number-iterator c.next.new.self c.next.result
    (c.in-Some.number, c.in-Some.at) c.in-Some.is c.next.ensures.steps in
    let copied : IsCopiedNumber c.args.size.now c.args.commit c.in-Some.number.now =
    record {
      from = c.if-number-ge1.true;
      upto = c.if-number-commit.true;
      unlocked = λ same. c.if-number-lock.true
          (same ∙ sym c.lock_page-lock.ensures);
    } in
    record {
      value = copied_next c.args.pages.now c.loop-number.number-iterator c.next.new.self c.in-Some.number.now
          c.in-Some.at.now next c.loop-number.invariant.rest c.args.db.now c.args.wal.now c.args.size.now c.args.commit
          c.requires.apart copied (g.D.Disk.told c.args.disk.now) (g.D.Disk.told c.loop-number.disk)
          (g.D.Disk.told c.copy_page.new.disk) c.loop-number.invariant.value
          (subst (λ (n : ℕ). GoesOn (g.D.Disk.told c.loop-number.disk) (g.D.Disk.told c.copy_page.new.disk)
          (WritesPage c.args.db.now c.args.wal.now n c.in-Some.number.now c.in-Some.at.now))
          c.loop-number.invariant.long c.in-Ok.ensures.ok);
      rest = rest_next c.args.pages.now c.loop-number.number-iterator c.next.new.self c.in-Some.number.now
          c.in-Some.at.now next c.loop-number.invariant.rest;
      long = c.copy_page.auto.page ∙ c.loop-number.invariant.long;
      same_folder = c.in-Ok.ensures.same_folder ∙ c.loop-number.invariant.same_folder;
      later = omega (arith, c.in-Ok.ensures.cause.later, c.loop-number.invariant.later);
    }

pub loop-number-preserved : goal.loop-number-preserved
loop-number-preserved g c =
    let next = rest_more deref_pair c.loop-number.number-iterator c.next.new.self c.next.result
    (c.in-Some.number, c.in-Some.at) c.in-Some.is c.next.ensures.steps in
    record {
      value = skipped c.args.pages.now c.loop-number.number-iterator c.next.new.self c.in-Some.number.now
          c.in-Some.at.now next c.loop-number.invariant.rest c.args.db.now c.args.wal.now c.args.size.now c.args.commit
          (g.D.Disk.told c.args.disk.now) (g.D.Disk.told c.loop-number.disk)
          (λ copied. elim c.else-number-ge1.branch [
            | else-number-ge1-via-then-number-ge1+then-number-commit+else-number-lock w ↦ copied.unlocked
                (w.if-number-lock.false ∙ c.lock_page-lock.ensures)
            | else-number-ge1-via-then-number-ge1+else-number-commit w ↦ omega
                (arith, w.if-number-commit.false, copied.upto)
            | else-number-ge1-via-else-number-ge1 w ↦ omega (arith, w.if-number-ge1.false, copied.from)
          ])
          c.loop-number.invariant.value;
      rest = rest_next c.args.pages.now c.loop-number.number-iterator c.next.new.self c.in-Some.number.now
          c.in-Some.at.now next c.loop-number.invariant.rest;
      long = c.loop-number.invariant.long;
      same_folder = c.loop-number.invariant.same_folder;
      later = c.loop-number.invariant.later;
    }

pub returns-clause-ok : goal.returns-clause-ok
returns-clause-ok g c =
    copy_ends c.args.db.now c.args.wal.now c.args.size.now c.args.commit c.args.pages.now
    c.loop-number.number-iterator (g.D.Disk.told c.args.disk.now) (g.D.Disk.told c.loop-number.disk)
    (rest_all deref_pair c.loop-number.number-iterator c.next.new.self c.next.result c.in-None.is
    c.next.ensures.steps) c.loop-number.invariant.value
