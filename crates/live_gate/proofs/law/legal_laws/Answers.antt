use Rattle.live_gate.proofs.CommitLemmas.{are_recorded}
use Rattle.live_gate.proofs.Theorems.{still_is_legal}
use Rattle.live_gate.proofs.law.legal_laws.Goals as goal

pub returns-clause-marks : goal.returns-clause-marks
returns-clause-marks c = are_recorded

pub returns-clause-still : goal.returns-clause-still
returns-clause-still c = still_is_legal
