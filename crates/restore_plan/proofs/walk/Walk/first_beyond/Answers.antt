use Rattle.std.proofs.Common.{sym, ◌∙◌, arith}
use Rattle.restore_plan.proofs.WalkLemmas.{walk_more, none_ahead, none_at_end}
use Rattle.restore_plan.proofs.walk.Walk.first_beyond.Goals as goal
use Rattle.restore_plan.proofs.walk.Walk.first_beyond.Goals.{else-name-self-2-via-then-name-self-2+else-number-after}
use Rattle.restore_plan.proofs.walk.Walk.first_beyond.Goals.{else-name-self-2-via-else-name-self-2}

pub returns-then-name-self-clause-none : goal.returns-then-name-self-clause-none
returns-then-name-self-clause-none c =
    λ name there level. none_ahead c.args.names.now c.args.after c.loop-self.self c.in_ok-name.name
    c.requires.in_order c.loop-self.invariant.1
    (sym c.in_ok-name.ensures) c.if-name-self.true name there (level ∙ sym c.loop-self.invariant.0)

pub loop-self-preserved : goal.loop-self-preserved
loop-self-preserved c = (
  c.loop-self.invariant.0,
  walk_more c.args.names.now c.args.after c.loop-self.self c.in_ok-name.name c.loop-self.invariant.1
      (sym c.in_ok-name.ensures)
      (λ same. elim c.else-name-self-2.branch [
        | else-name-self-2-via-then-name-self-2+else-number-after w ↦ omega
            (arith, w.if-number-after.false, w.number.ensures.value)
        | else-name-self-2-via-else-name-self-2 w ↦ absurd (w.if-name-self-2.false same)
      ]),
)

pub returns-clause-none : goal.returns-clause-none
returns-clause-none c =
    λ name there level. none_at_end c.args.names.now c.args.after c.loop-self.self c.loop-self.invariant.1
    (omega arith) name there
    (level ∙ sym c.loop-self.invariant.0)
