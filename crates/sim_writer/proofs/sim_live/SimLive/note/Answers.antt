use Rattle.std.proofs.Common.{rules, ◌≡◌, length}
use Rattle.std.specs.Prelude.{◌==◌}
use Rattle.sim_writer.specs.contracts.sim_live.SimLive.{the_view}
use Rattle.sim_writer.proofs.ReadCallLemmas.{sound_noted, chance_counts, noted}
use Rattle.sim_writer.proofs.sim_live.SimLive.note.Goals as goal

pub invariant_of-self-2 : goal.invariant_of-self-2
invariant_of-self-2 c = sound_noted c.self.inside.machine c.count_if-self-inside.result c.self.invariant
    c.count_if-self-inside.ensures.later

pub returns-clause-ok : goal.returns-clause-ok
returns-clause-ok c =
    let s = the_view c.self.inside in
    let counts = chance_counts c.in_ok-chance.chance s.machine.committed c.as_slice.result.now s.asked.aimed
    s.asked.answered c.as_slice-2.result.now c.args.got.now s.machine.chances c.count_if-self-inside.result
    c.as_slice.ensures c.as_slice-2.ensures c.in_ok-chance.ensures.some c.in_ok-chance.ensures.none
    c.count_if-self-inside.ensures.value in
    let none : c.is_empty-self-inside.result ≡ (length c.args.got.now == 0) = search rules in
    rw (← c.self.view_is) (record {
      chance = counts.0;
      calm = counts.1;
      later = c.count_if-self-inside.ensures.later;
      is = noted s c.count_if-self-inside.result c.args.got.now c.extend.new.self c.is_empty-self-inside.result
          c.saturating_add-self-inside.result c.in_ok-extend.ensures.ok none c.saturating_add-self-inside.ensures;
    })
