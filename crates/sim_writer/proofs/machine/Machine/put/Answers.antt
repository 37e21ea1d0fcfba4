use Rattle.std.proofs.Common.{rules, ◌≡◌, ◌-◌, ◌^◌, length, arith}
use Rattle.sim_writer.proofs.PutLemmas.{twins_by, tail_over}
use Rattle.sim_writer.proofs.machine.Machine.put.Goals as goal

pub returns-clause-ok : goal.returns-clause-ok
returns-clause-ok c = record {
  history = search rules;
  committed = search rules;
  tail =
      let long : length c.as_slice-written.result.now ≡ length c.args.made.bytes = search rules in
      tail_over c.args.self.now.tail c.args.self.now.over (length c.args.made.bytes) (2 ^ 64 - 1)
      (length c.as_slice-tail.result.now) c.min-self.result (search rules) (omega arith) (rw (← long) (search rules));
  sums = search rules;
  twins = twins_by _ _ c.has_twin-twin.result _ _ c.has_twin-twin.ensures.some c.has_twin-twin.ensures.none
      (search rules);
  later = search rules;
  before_log = search rules;
  file = search rules;
  head = search rules;
  copied = search rules;
  held = search rules;
  refuses = search rules;
  over = search rules;
  headed = search rules;
  stopped = search rules;
}
