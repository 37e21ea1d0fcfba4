use Rattle.std.proofs.Common.{rules, ◌≡◌, ◌≤◌, ◌-◌, ap, arith}
use Rattle.ls_base.specs.declared.mark.Mark.{Mark}
use Rattle.sim_writer.proofs.EntryLemmas.{mark_of_entry}
use Rattle.sim_writer.proofs.CopyLemmas.{not_at_rest, end_is, same_found}
use Rattle.sim_writer.proofs.machine.Machine.end_to_copy.Goals as goal
use Rattle.sim_writer.proofs.machine.Machine.end_to_copy.Goals.{else-self-end-via-then-self-end+else-is_held_from}
use Rattle.sim_writer.proofs.machine.Machine.end_to_copy.Goals.{else-self-end-via-else-self-end}

pub unreachable-requires : goal.unreachable-requires
unreachable-requires c =
    let from : 1 ≤ c.args.number = omega (arith, c.if-number-eq0.false) in
    let at = mark_of_entry c.args.self.now c.requires.sound c.args.number from c.in_ok-entry.entry.now (search rules) in
    not_at_rest at.0 c.in_ok-entry.entry.now.place c.in_default.field-0 at.2 c.in_default.is

pub returns-then-is_held_from-clause-some : goal.returns-then-is_held_from-clause-some
returns-then-is_held_from-clause-some c =
    let from : 1 ≤ c.args.number = omega (arith, c.if-number-eq0.false) in
    let at = mark_of_entry c.args.self.now c.requires.sound c.args.number from c.in_ok-entry.entry.now (search rules) in
    let end : at.0.end ≡ c.in-Wal.end = end_is at.0 c.in_ok-entry.entry.now.place _ _ _ _ _ at.2 c.in-Wal.is in
    let upto = c.is_held_from.ensures.0 (search rules) in (
      record {
        mark = at.0;
        from = from;
        found = at.1;
        past = omega (arith, end, c.if-self-end.true);
        upto = λ held is. omega (arith, end, upto held is);
      },
      end,
    )

pub returns-clause-none : goal.returns-clause-none
returns-clause-none c none can =
    let from : 1 ≤ c.args.number = omega (arith, c.if-number-eq0.false) in
    let at = mark_of_entry c.args.self.now c.requires.sound c.args.number from c.in_ok-entry.entry.now (search rules) in
    let end : at.0.end ≡ c.in-Wal.end = end_is at.0 c.in_ok-entry.entry.now.place _ _ _ _ _ at.2 c.in-Wal.is in
    let same : at.0.end ≡ can.mark.end = ap (λ (m : Mark). m.end)
    (same_found c.args.self.now.committed (c.args.number - 1) at.0 can.mark at.1 can.found) in
    elim c.else-self-end.branch [
      | else-self-end-via-then-self-end+else-is_held_from w ↦
          let upto = w.is_held_from.ensures.1 (λ held is. omega (arith, end, same, can.upto held is)) in
          search (rules, upto)
      | else-self-end-via-else-self-end w ↦ absurd (omega (arith, end, same, can.past, w.if-self-end.false))
    ]
