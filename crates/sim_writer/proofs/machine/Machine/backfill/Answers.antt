use Rattle.std.proofs.Common.{ℕ, List, subst}
use Rattle.sim_writer.specs.Copying.{CopiesTo}
use Rattle.sim_writer.proofs.CopyLemmas.{backfilled, backfilled_sound}
use Rattle.sim_writer.proofs.machine.Machine.backfill.Goals as goal

pub returns-clause-done : goal.returns-clause-done
returns-clause-done c _ =
    let m = c.args.self.now in
    let can = c.in-Some.ensures.some in
    let copies = subst (λ (b : List ℕ). CopiesTo c.in-Some.end b m.committed c.in_ok-file.file) c.as_slice.ensures
    (subst (λ (b : List ℕ). CopiesTo c.in-Some.end c.as_slice.result.now b c.in_ok-file.file) c.as_slice-2.ensures
    c.in_ok-file.ensures) in
    (can.0, backfilled m c.requires.sound c.args.number c.in-Some.end can.0 can.1 c.in_ok-file.file copies)

pub returns-clause-sound : goal.returns-clause-sound
returns-clause-sound c =
    let m = c.args.self.now in
    let can = c.in-Some.ensures.some in
    let copies = subst (λ (b : List ℕ). CopiesTo c.in-Some.end b m.committed c.in_ok-file.file) c.as_slice.ensures
    (subst (λ (b : List ℕ). CopiesTo c.in-Some.end c.as_slice.result.now b c.in_ok-file.file) c.as_slice-2.ensures
    c.in_ok-file.ensures) in
    backfilled_sound m c.requires.sound c.args.number c.in-Some.end can.0 can.1 c.in_ok-file.file copies
