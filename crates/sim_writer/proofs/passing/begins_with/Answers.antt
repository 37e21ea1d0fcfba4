use Rattle.sim_writer.proofs.PassingLemmas.{front_is_prefix}
use Rattle.sim_writer.proofs.passing.begins_with.Goals as goal

pub returns-then-front-bytes-clause-some : goal.returns-then-front-bytes-clause-some
returns-then-front-bytes-clause-some c is = front_is_prefix c.args.front.now c.args.bytes.now
    (c.is_front.ensures.some is)
