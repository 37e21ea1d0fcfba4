-- What the writer's moves come to, one after another.
use Rattle.live_gate.specs.LiveRecord.{Database, Told}
use Rattle.live_gate.specs.Step.{IsWriterStep, Moves}

-- no move is a step
abbrev pub StepsStay : Type 0
StepsStay = (d : Database) → IsWriterStep d d

-- two steps are one
abbrev pub StepsJoin : Type 0
StepsJoin = (a b c : Database) → IsWriterStep a b → IsWriterStep b c → IsWriterStep a c

-- the same of what is told
abbrev pub MovesStay : Type 0
MovesStay = (told : Told) → Moves told told

abbrev pub MovesJoin : Type 0
MovesJoin = (a b c : Told) → Moves a b → Moves b c → Moves a c
