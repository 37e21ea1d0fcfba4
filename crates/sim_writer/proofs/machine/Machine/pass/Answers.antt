use Rattle.std.proofs.Common.{ℕ, List, Some, sym, ap, subst}
use Rattle.sim_writer.specs.declared.machine.Machine.{Machine}
use Rattle.sim_writer.specs.Copying.{CopiesTo}
use Rattle.sim_writer.specs.OwnPass.{TakesPass}
use Rattle.sim_writer.specs.Sound.{IsFileEntry, IsSound}
use Rattle.sim_writer.proofs.PassLemmas.{passed_sound, takes_pass}
use Rattle.sim_writer.proofs.machine.Machine.pass.Goals as goal

pub returns-clause-done : goal.returns-clause-done
returns-clause-done c _ =
    let m = c.args.self.now in
    let can = c.in-Some.ensures.some in
    let copies = subst (λ (b : List ℕ). CopiesTo c.in-Some.end b m.committed c.in_ok-file.file) c.as_slice.ensures
    (subst (λ (b : List ℕ). CopiesTo c.in-Some.end c.as_slice.result.now b c.in_ok-file.file) c.as_slice-2.ensures
    c.in_ok-file.ensures) in
    let f = subst (λ (b : List ℕ). IsFileEntry c.next_head-head.result.size b c.in_ok-entry.entry) c.as_slice-3.ensures
    c.in_ok-entry.ensures in
    let done = c.in_ok-empty.ensures.ok in
    let t = λ (x : Machine). record x { file = c.in_ok-file.file; held = Some 0 } in (
      can.0,
      subst (λ (x : Machine). TakesPass c.args.place.now m x) (sym (ap t done.is))
          (takes_pass m c.requires.sound c.args.place.now can.0 c.in-Some.end can.1 c.in_ok-file.file copies
          c.next_head-head.result c.next_head-head.ensures c.in_ok-entry.entry f c.new.result c.new.ensures
          c.empty.new.self.chances done.twins done.later),
    )

pub returns-clause-sound : goal.returns-clause-sound
returns-clause-sound c =
    let m = c.args.self.now in
    let can = c.in-Some.ensures.some in
    let copies = subst (λ (b : List ℕ). CopiesTo c.in-Some.end b m.committed c.in_ok-file.file) c.as_slice.ensures
    (subst (λ (b : List ℕ). CopiesTo c.in-Some.end c.as_slice.result.now b c.in_ok-file.file) c.as_slice-2.ensures
    c.in_ok-file.ensures) in
    let f = subst (λ (b : List ℕ). IsFileEntry c.next_head-head.result.size b c.in_ok-entry.entry) c.as_slice-3.ensures
    c.in_ok-entry.ensures in
    let done = c.in_ok-empty.ensures.ok in
    let t = λ (x : Machine). record x { file = c.in_ok-file.file; held = Some 0 } in
    subst IsSound (sym (ap t done.is))
    (passed_sound m c.requires.sound c.args.place.now can.0 c.in-Some.end can.1 c.in_ok-file.file copies
    c.next_head-head.result c.next_head-head.ensures c.in_ok-entry.entry f c.new.result c.new.ensures
    c.empty.new.self.chances done.twins done.later)

pub returns-in_err-empty-clause-sound : goal.returns-in_err-empty-clause-sound
returns-in_err-empty-clause-sound c = rw (c.in_err-empty.ensures.err) c.requires.sound
