use Rattle.std.proofs.Common.{◌≡◌, ℕ, ◌+◌, ◌-◌, List, length, replicate, max, ap, arith}
use Rattle.std.proofs.lemmas.List.{length-drop}
use Rattle.sim_writer.proofs.LooseLemmas.{from_most, from_within, grown_tail, grown_many, loose_put, loose_sound}
use Rattle.sim_writer.proofs.machine.Machine.put_loose.Goals as goal

pub overflow_add-at : goal.overflow_add-at
overflow_add-at c =
    let m = c.args.self.now in
    omega (
      arith,
      ap length c.as_slice-had.ensures,
      c.requires.sound.over,
      c.loose_from.ensures,
      from_most m.headed m.committed,
    )

pub overflow_add-end : goal.overflow_add-end
overflow_add-end c =
    let m = c.args.self.now in
    omega (
      arith,
      ap length c.as_slice-had.ensures,
      c.requires.sound.over,
      c.loose_from.ensures,
      from_within m c.requires.sound,
      length-drop m.over m.tail,
    )

pub returns-clause-ok : goal.returns-clause-ok
returns-clause-ok c =
    let m = c.args.self.now in
    let at = m.over + c.loose_from.result in
    let had = ap length c.as_slice-had.ensures in
    let size : c.max.result ≡ max (length m.tail) (at + length c.args.bytes.now) = omega (arith, c.max.ensures, had) in
    loose_put m _ c.args.bytes.now c.resize.new.self (replicate (c.max.result - length m.tail) 0) at c.requires.sound
    (ap (λ (k : ℕ). m.over + k) c.loose_from.ensures)
    (grown_tail m.tail c.resize.new.self c.max.result (at + length c.args.bytes.now) size c.in_ok-resize.ensures.ok)
    (grown_many m.tail c.max.result (at + length c.args.bytes.now) size)
    (ap (λ (t : List ℕ). record m { tail = t }) c.overwrite.ensures)

pub returns-clause-sound : goal.returns-clause-sound
returns-clause-sound c =
    let m = c.args.self.now in
    let at = m.over + c.loose_from.result in
    let had = ap length c.as_slice-had.ensures in
    let size : c.max.result ≡ max (length m.tail) (at + length c.args.bytes.now) = omega (arith, c.max.ensures, had) in
    loose_sound m _ c.args.bytes.now c.resize.new.self (replicate (c.max.result - length m.tail) 0) at c.requires.sound
    (ap (λ (k : ℕ). m.over + k) c.loose_from.ensures)
    (grown_tail m.tail c.resize.new.self c.max.result (at + length c.args.bytes.now) size c.in_ok-resize.ensures.ok)
    (grown_many m.tail c.max.result (at + length c.args.bytes.now) size)
    (ap (λ (t : List ℕ). record m { tail = t }) c.overwrite.ensures)

pub returns-in_err-resize-clause-sound : goal.returns-in_err-resize-clause-sound
returns-in_err-resize-clause-sound c = rw (c.in_err-resize.ensures.err) c.requires.sound
