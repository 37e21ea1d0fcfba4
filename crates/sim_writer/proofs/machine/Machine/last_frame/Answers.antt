use Rattle.std.proofs.Common.{rules, ◌≡◌, ℕ, ◌+◌, ◌-◌, ◌*◌, ◌<◌, ◌≤◌, List, length, take, drop, Some, sym, ap}
use Rattle.std.proofs.Common.{◌∙◌, arith}
use Rattle.std.proofs.lemmas.List.{take_all, length-drop}
use Rattle.sim_writer.specs.declared.machine.Machine.{Machine}
use Rattle.wal_frames.specs.ValidPrefix.{valid_frames}
use Rattle.sim_writer.proofs.PageLemmas.{frame_at, page_found, none_yet, none_past}
use Rattle.sim_writer.proofs.machine.Machine.last_frame.Goals as goal

frame_is : (m : Machine) (size k : ℕ) (log frame : List ℕ) → size ≡ m.head.size → log ≡ m.committed
    → frame ≡ take (24 + size) (drop (32 + k * (24 + size)) log)
    → frame ≡ take (24 + m.head.size) (drop (32 + k * (24 + m.head.size)) m.committed)
frame_is m size k log frame same whole is =
    is ∙ ap (λ (n : ℕ). take (24 + n) (drop (32 + k * (24 + n)) log)) same
    ∙ ap (λ (b : List ℕ). take (24 + m.head.size) (drop (32 + k * (24 + m.head.size)) b)) whole

pub loop-left-init : goal.loop-left-init
loop-left-init c = record {
  length_is = search rules;
  log_is = search rules;
  within = omega (arith, c.frame_count-left.ensures);
  none = none_past c.args.number c.args.self.now c.frame_count-left.result c.frame_count-left.ensures;
}

pub frame_at-frame-requires : goal.frame_at-frame-requires
frame_at-frame-requires c =
    let m = c.args.self.now in
    let k = c.loop-left.left - 1 in
    let below : k < length (valid_frames m.committed) = omega (
      arith,
      c.loop-left-test.true,
      c.loop-left.invariant.within,
    ) in
    rw (c.get.ensures.value, c.loop-left.invariant.log_is) ((frame_at m c.requires k below).within)

pub returns-then-number_of-number : goal.returns-then-number_of-number
returns-then-number_of-number c =
    let m = c.args.self.now in
    let k = c.loop-left.left - 1 in
    let frame = c.frame_at-frame.result.now in
    let below : k < length (valid_frames m.committed) = omega (
      arith,
      c.loop-left-test.true,
      c.loop-left.invariant.within,
    ) in
    let one : c.loop-left.left ≡ k + 1 = omega (arith, c.loop-left-test.true) in
    let is = frame_is m c.get.result k c.as_slice-log.result.now frame c.get.ensures.value c.loop-left.invariant.log_is
    c.frame_at-frame.ensures.value in
    let long : length (drop 24 frame) ≤ length frame - 24 = omega (arith, length-drop 24 frame) in
    ap (λ (b : List ℕ). Some b) (take_all (length frame - 24) (drop 24 frame) long)
    ∙ page_found m c.requires k below c.args.number c.loop-left.left frame one c.loop-left.invariant.none is
    (sym c.number_of.ensures ∙ c.if-number_of-number.true)

pub loop-left-preserved : goal.loop-left-preserved
loop-left-preserved c =
    let m = c.args.self.now in
    let k = c.loop-left.left - 1 in
    let frame = c.frame_at-frame.result.now in
    let below : k < length (valid_frames m.committed) = omega (
      arith,
      c.loop-left-test.true,
      c.loop-left.invariant.within,
    ) in
    let one : c.loop-left.left ≡ k + 1 = omega (arith, c.loop-left-test.true) in
    let is = frame_is m c.get.result k c.as_slice-log.result.now frame c.get.ensures.value c.loop-left.invariant.log_is
    c.frame_at-frame.ensures.value in
    record {
      length_is = c.loop-left.invariant.length_is;
      log_is = c.loop-left.invariant.log_is;
      within = omega (arith, below);
      none = none_yet m c.requires k below c.args.number c.loop-left.left frame one c.loop-left.invariant.none is
          (λ e. c.if-number_of-number.false (c.number_of.ensures ∙ e));
    }
