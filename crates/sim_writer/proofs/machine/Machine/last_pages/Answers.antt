use Rattle.std.proofs.Common.{rules, ◌≡◌, ◌+◌, ◌-◌, length, arith}
use Rattle.sim_writer.proofs.MayEmptyLemmas.{last_pages_are}
use Rattle.sim_writer.proofs.machine.Machine.last_pages.Goals as goal

pub returns : goal.returns
returns c state is =
    let m = c.args.self.now in
    let many : length m.history ≡ (c.len.result - 1) + 1 = omega (arith, c.requires.sound.numbered, c.len.ensures) in
    let same = last_pages_are m.history state c.in-Some.last.now (c.len.result - 1) many (search rules) is in
    omega (arith, c.len-2.ensures, same)
