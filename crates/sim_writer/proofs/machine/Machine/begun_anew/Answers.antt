use Rattle.std.proofs.Common.{◌-◌, ℕ, List, ◌++◌, length, drop, ap, ◌∙◌}
use Rattle.wal_frames.specs.WalFormat.{wal_header_bytes}
use Rattle.sim_writer.specs.Sound.{tail_of}
use Rattle.sim_writer.proofs.MayEmptyLemmas.{anew_is}
use Rattle.sim_writer.proofs.machine.Machine.begun_anew.Goals as goal

pub returns : goal.returns
returns c =
    let m = c.args.self.now in
    let left = c.saturating_sub.ensures ∙ ap (λ (b : List ℕ). 32 - length b) c.as_slice-committed.ensures in
    let first = c.in_ok-extend.ensures.ok ∙ ap (λ (b : List ℕ). b ++ c.write_wal_header.new.into) c.new-bytes.ensures
    ∙ c.write_wal_header.ensures.bytes in
    let second = c.in_ok-extend-2.ensures.ok
    ∙ ap (λ (b : List ℕ). c.extend.new.self ++ b) (c.rest_from.ensures ∙ ap (drop 32) c.as_slice-committed.ensures) in
    let third = c.in_ok-extend-3.ensures.ok
    ∙ ap (λ (b : List ℕ). c.extend-2.new.self ++ b) (c.rest_from-2.ensures
    ∙ ap (drop c.saturating_sub.result) (c.rest_from-tail.ensures ∙ ap (drop m.over) c.as_slice.ensures)) in
    anew_is (wal_header_bytes c.args.head.now) m.committed (tail_of m) c.extend.new.self c.extend-2.new.self
    c.extend-3.new.self c.saturating_sub.result left first second third
