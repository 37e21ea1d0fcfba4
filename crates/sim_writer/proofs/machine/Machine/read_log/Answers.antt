use Rattle.std.proofs.Common.{◌-◌, ◌≤◌, ◌++◌, ℕ, List, length, take, drop, ap, ◌∙◌, arith}
use Rattle.std.specs.Prelude.{min}
use Rattle.sim_writer.specs.Sound.{tail_of}
use Rattle.sim_writer.proofs.PassingLemmas.{reads_tail}
use Rattle.sim_writer.proofs.machine.Machine.read_log.Goals as goal

pub returns-clause-value : goal.returns-clause-value
returns-clause-value c =
    let m = c.args.self.now in
    let room = length c.args.into.now in
    let bytes = length c.as_slice-committed.result.now in
    let size = ap (λ (b : List ℕ). length b) c.as_slice-committed.ensures in
    let tail = c.rest_from-tail.ensures ∙ ap (drop m.over) c.as_slice.ensures in
    let rest = c.rest_from-2.ensures ∙ ap (drop (c.args.at - bytes)) tail
    ∙ ap (λ (n : ℕ). drop (c.args.at - n) (tail_of m)) size in
    let past : length m.committed ≤ c.args.at = omega (arith, c.if-at-bytes.false, size) in
    let behind = drop (length c.rest_from-2.result.now) c.args.into.now in
    let count = c.copy_front-2.ensures.count ∙ ap (λ (b : List ℕ). min (length b) room) rest in
    let front = c.copy_front-2.ensures.front ∙ ap (λ (b : List ℕ). take room b ++ behind) rest in
    reads_tail m c.args.at room c.copy_front-2.result c.copy_front-2.new.into behind past count front
