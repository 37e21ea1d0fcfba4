use Rattle.std.proofs.Common.{rules, ◌≡◌, ℕ, length, Some, ap, ◌∙◌, sym}
use Rattle.sim_writer.proofs.MayEmptyLemmas.{not_empty}
use Rattle.sim_writer.proofs.PassLemmas.{pass_some, can_pass_end, may_pass, must_pass}
use Rattle.sim_writer.proofs.machine.Machine.end_to_pass.Goals as goal
use Rattle.sim_writer.proofs.machine.Machine.end_to_pass.Goals.{then-end-eq0-via-then-end-eq0}
use Rattle.sim_writer.proofs.machine.Machine.end_to_pass.Goals.{then-end-eq0-via-else-end-eq0+then-ne}

pub returns-then-end-eq0-clause-none : goal.returns-then-end-eq0-clause-none
returns-then-end-eq0-clause-none c _ can =
    let bytes = ap length c.as_slice.ensures in
    let end = can_pass_end c.args.self.now c.requires.sound c.args.place.now can in
    elim c.then-end-eq0.branch [
      | then-end-eq0-via-then-end-eq0 w ↦
          absurd (pass_some c.args.self.now c.args.place.now can (sym bytes ∙ w.if-end-eq0.true))
      | then-end-eq0-via-else-end-eq0+then-ne w ↦
          let held = can.held ∙ ap (λ (n : ℕ). Some n) (end ∙ sym bytes) in
          search (rules, held)
    ]

pub returns-then-is_last_at-clause-some : goal.returns-then-is_last_at-clause-some
returns-then-is_last_at-clause-some c =
    let m = c.args.self.now in
    let bytes = ap length c.as_slice.ensures in
    let some = not_empty m.committed (λ none. c.if-end-eq0.false (bytes ∙ none)) in
    let held : m.held ≡ Some (length c.as_slice.result.now) = search rules in
    let may = may_pass m c.requires.sound c.args.place.now some (held ∙ ap (λ (n : ℕ). Some n) bytes)
    c.is_last_at.result c.is_last_at.ensures (search rules) in
    (may.0, may.1 ∙ sym bytes)

pub returns-clause-none : goal.returns-clause-none
returns-clause-none c _ can =
    let m = c.args.self.now in
    let bytes = ap length c.as_slice.ensures in
    let some = not_empty m.committed (λ none. c.if-end-eq0.false (bytes ∙ none)) in
    let held : m.held ≡ Some (length c.as_slice.result.now) = search rules in
    let at = must_pass m c.requires.sound c.args.place.now some (held ∙ ap (λ (n : ℕ). Some n) bytes)
    c.is_last_at.result c.is_last_at.ensures can in
    search (rules, at)
