use Rattle.std.proofs.Common.{rules, ◌∙◌}
use Rattle.sim_writer.proofs.PageLemmas.{count_is}
use Rattle.sim_writer.proofs.machine.Machine.frame_count.Goals as goal

pub returns : goal.returns
returns c = search rules ∙ count_is c.args.self.now c.requires
