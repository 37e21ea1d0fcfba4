-- How a database goes on: one moment after another.
use Rattle.std.proofs.Common.{arith}
use Rattle.live_gate.specs.LiveRecord.{Database}
use Rattle.live_gate.specs.Step.{IsWriterStep, IsStepButHold}
use Rattle.live_gate.proofs.StepLemmas.{prefix_itself, prefix_join}
use Rattle.replica_round.specs.Later.{IsLater}

pub later_itself : (d : Database) → IsLater d d
later_itself d = record { legal = λ l. l; history = prefix_itself d.history; chances = omega arith }

pub later_then : (a b c : Database) → IsLater a b → IsLater b c → IsLater a c
later_then a b c first second = record {
  legal = λ l. second.legal (first.legal l);
  history = prefix_join a.history b.history c.history first.history second.history;
  chances = let x = first.chances in let y = second.chances in omega (arith, x, y);
}

pub later_step : (a b : Database) → IsWriterStep a b → IsLater a b
later_step a b step = record { legal = step.legal; history = step.history; chances = step.chances }

pub later_hold : (a b : Database) → IsStepButHold a b → IsLater a b
later_hold a b moved = record { legal = moved.legal; history = moved.step.history; chances = moved.step.chances }
