use Rattle.replica_runs.proofs.RoundLemmas.{one_more_line, runs_begin, runs_outlast_moves, one_more_round}
use Rattle.replica_runs.proofs.law.rounds_follow.Goals as goal

pub returns-clause-line : goal.returns-clause-line
returns-clause-line c = one_more_line

pub returns-clause-begin : goal.returns-clause-begin
returns-clause-begin c = runs_begin

pub returns-clause-moves : goal.returns-clause-moves
returns-clause-moves c = runs_outlast_moves

pub returns-clause-round : goal.returns-clause-round
returns-clause-round c = one_more_round
