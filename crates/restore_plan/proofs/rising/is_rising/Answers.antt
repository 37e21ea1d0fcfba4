use Rattle.std.proofs.Common.{sym, arith}
use Rattle.restore_plan.proofs.WalkLemmas.{rising_more}
use Rattle.restore_plan.proofs.rising.is_rising.Goals as goal
use Rattle.restore_plan.proofs.rising.is_rising.Goals.{else-before-name-via-then-before-name+else-number}
use Rattle.restore_plan.proofs.rising.is_rising.Goals.{else-before-name-via-else-before-name}

pub loop-at-preserved : goal.loop-at-preserved
loop-at-preserved c =
    rising_more c.args.names.now c.loop-at.at c.in-Some-Some.before c.in-Some-Some.name c.requires.in_order
    (omega arith)
    (sym c.in-Some-Some.ensures) (sym c.in-Some-Some.ensures') c.loop-at.invariant
    (λ same. elim c.else-before-name.branch [
      | else-before-name-via-then-before-name+else-number w ↦ omega
          (arith, w.if-number.false, w.number.ensures.value, w.number-then-before-name.ensures.value)
      | else-before-name-via-else-before-name w ↦ absurd (w.if-before-name.false same)
    ])
