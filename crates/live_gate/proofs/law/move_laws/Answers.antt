use Rattle.live_gate.proofs.MoveLemmas.{commit_step, restart_step, pass_legal}
use Rattle.live_gate.proofs.CopyLemmas.{copy_step}
use Rattle.live_gate.proofs.law.move_laws.Goals as goal

pub returns-clause-commits : goal.returns-clause-commits
returns-clause-commits c = commit_step

pub returns-clause-restarts : goal.returns-clause-restarts
returns-clause-restarts c = restart_step

pub returns-clause-passes : goal.returns-clause-passes
returns-clause-passes c = pass_legal

pub returns-clause-copying : goal.returns-clause-copying
returns-clause-copying c = copy_step
