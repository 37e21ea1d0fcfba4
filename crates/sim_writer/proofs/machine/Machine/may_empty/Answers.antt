use Rattle.std.proofs.Common.{rules, ◌≡◌, length, None, ap, ◌∙◌, sym}
use Rattle.sim_writer.proofs.MayEmptyLemmas.{not_empty, marked_some, can_copied, may_then}
use Rattle.sim_writer.proofs.machine.Machine.may_empty.Goals as goal
use Rattle.sim_writer.proofs.machine.Machine.may_empty.Goals.{then-bytes-eq0-via-then-bytes-eq0}
use Rattle.sim_writer.proofs.machine.Machine.may_empty.Goals.{then-bytes-eq0-via-else-bytes-eq0+then-is_some}

pub returns-then-bytes-eq0 : goal.returns-then-bytes-eq0
returns-then-bytes-eq0 c = (
  λ e. absurd cc,
  λ can. elim c.then-bytes-eq0.branch [
    | then-bytes-eq0-via-then-bytes-eq0 w ↦
        absurd (marked_some c.args.self.now.committed can.mark can.last (sym (ap length c.as_slice-bytes.ensures) ∙ w.if-bytes-eq0.true))
    | then-bytes-eq0-via-else-bytes-eq0+then-is_some w ↦ let free = can.free in search (rules, free)
  ],
)

pub returns-then-self-bytes : goal.returns-then-self-bytes
returns-then-self-bytes c =
    let m = c.args.self.now in
    let bytes = ap length c.as_slice-bytes.ensures in
    let some = not_empty m.committed (λ none. c.if-bytes-eq0.false (bytes ∙ none)) in
    let free : m.held ≡ None = search rules in
    may_then m c.requires.sound some free (c.if-self-bytes.true ∙ bytes) c.has_exact_file.result
    c.has_exact_file.ensures

pub returns-else-self-bytes : goal.returns-else-self-bytes
returns-else-self-bytes c = (
  λ e. search rules,
  λ can.
      let bytes = ap length c.as_slice-bytes.ensures in
      let copied = can_copied c.args.self.now c.requires.sound can ∙ sym bytes in
      search (rules, copied),
)
