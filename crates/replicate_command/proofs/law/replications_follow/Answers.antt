use Rattle.replicate_command.proofs.LawLemmas.{replications_follow}
use Rattle.replicate_command.proofs.law.replications_follow.Goals as goal

pub returns : goal.returns
returns c = replications_follow
