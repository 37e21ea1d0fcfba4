use Rattle.std.proofs.Common.{rules}
use Rattle.sim_writer.proofs.PageLemmas.{page_before_is}
use Rattle.sim_writer.proofs.machine.Machine.page_before.Goals as goal

pub returns : goal.returns
returns c =
    page_before_is c.args.self.now c.in_ok-at.at c.args.number c.in_ok-last.last.now c.in_ok-page.page.now
    c.requires.sound (search rules) (search rules) c.requires.from (search rules)
