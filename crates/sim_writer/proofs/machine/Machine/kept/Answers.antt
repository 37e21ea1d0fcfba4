use Rattle.std.proofs.Common.{rules, ◌≡◌, ◌≤◌, ◌-◌, ap, arith}
use Rattle.ls_base.specs.declared.mark.Mark.{Mark}
use Rattle.sim_writer.proofs.EntryLemmas.{mark_of_entry}
use Rattle.sim_writer.proofs.CopyLemmas.{not_at_rest, end_is, same_found}
use Rattle.sim_writer.proofs.KeptLemmas.{keeps_to}
use Rattle.sim_writer.proofs.machine.Machine.kept.Goals as goal

pub unreachable-requires : goal.unreachable-requires
unreachable-requires c =
    let from : 1 ≤ c.args.number = omega (arith, c.if-number-eq0.false) in
    let at = mark_of_entry c.args.self.now c.requires.sound c.args.number from c.in_ok-entry.entry.now (search rules) in
    not_at_rest at.0 c.in_ok-entry.entry.now.place c.in_default.field-0 at.2 c.in_default.is

pub returns-then-self-end-clause-none : goal.returns-then-self-end-clause-none
returns-then-self-end-clause-none c none can =
    let from : 1 ≤ c.args.number = omega (arith, c.if-number-eq0.false) in
    let at = mark_of_entry c.args.self.now c.requires.sound c.args.number from c.in_ok-entry.entry.now (search rules) in
    let end : at.0.end ≡ c.in-Wal.end = end_is at.0 c.in_ok-entry.entry.now.place _ _ _ _ _ at.2 c.in-Wal.is in
    let may = can.at_mark c.if-number-eq0.false in
    let same : at.0.end ≡ may.mark.end = ap (λ (m : Mark). m.end)
    (same_found c.args.self.now.committed (c.args.number - 1) at.0 may.mark at.1 may.found) in
    absurd (omega (arith, end, same, may.from, c.if-self-end.true))

pub returns-clause-some : goal.returns-clause-some
returns-clause-some c =
    let from : 1 ≤ c.args.number = omega (arith, c.if-number-eq0.false) in
    let at = mark_of_entry c.args.self.now c.requires.sound c.args.number from c.in_ok-entry.entry.now (search rules) in
    keeps_to c.args.self.now c.args.number from at.0 at.1 c.in_ok-entry.entry.now.place _ _ c.in-Wal.end c.in-Wal.s0
    c.in-Wal.s1 at.2 c.in-Wal.is (omega (arith, c.if-self-end.false))
