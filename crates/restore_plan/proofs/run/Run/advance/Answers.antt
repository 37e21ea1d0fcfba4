use Rattle.std.proofs.Common.{◌≡◌, ◌+◌, refl, sym, subst, arith}
use Rattle.std.proofs.lemmas.Bool.{false≢true}
use Rattle.restore_plan.specs.declared.run.Run.{Run}
use Rattle.restore_plan.specs.Run.{IsRun}
use Rattle.restore_plan.proofs.RunLemmas.{taken_to, run_taking, run_passing}
use Rattle.restore_plan.proofs.run.Run.advance.Goals as goal
use Rattle.restore_plan.proofs.run.Run.advance.Goals.{then-name-self+then-number-t, else-name-self}
use Rattle.restore_plan.proofs.run.Run.advance.Goals.{else-name-self-via-then-name-self+else-number-t}
use Rattle.restore_plan.proofs.run.Run.advance.Goals.{else-name-self-via-else-name-self}

pub returns-then-is_before-clause-taken_in : goal.returns-then-is_before-clause-taken_in
returns-then-is_before-clause-taken_in c = taken_to c.args.names.now c.args.after c.loop-self.self c.in-Some.name
    c.requires.in_order (sym c.in-Some.ensures) (c.if-is_before.ensures.0 refl)

pub loop-self-preserved : goal.loop-self-preserved
loop-self-preserved c =
    let run : Run = c.loop-self.self in
    let names = c.args.names.now in
    let Keeps : Run → Type 0 = λ next. (next.level ≡ c.args.self.now.level)
    × IsRun names c.args.t c.args.after (record { level = next.level; at = next.at + 1; best = next.best }) in
    elim c.if-name-self.branch [
      | then-name-self+then-number-t w ↦ subst Keeps (sym w.self-is) (
        c.loop-self.invariant.0,
        run_taking names c.args.t c.args.after run c.in-Some.name w.better-self.result c.loop-self.invariant.1
            (sym c.in-Some.ensures) (λ h. false≢true (c.if-is_before.ensures.1 h)) w.if-name-self.true
            (omega (arith, w.if-number-t.true, w.number.ensures.value)) w.better-self.ensures.one
            w.better-self.ensures.first w.better-self.ensures.second,
      )
      | else-name-self w ↦ subst Keeps (sym w.self-is) (
        c.loop-self.invariant.0,
        run_passing names c.args.t c.args.after run c.in-Some.name c.loop-self.invariant.1 (sym c.in-Some.ensures)
            (λ same ends. elim w.else-name-self.branch [
              | else-name-self-via-then-name-self+else-number-t w' ↦ absurd
                  (omega (arith, w'.if-number-t.false, w'.number.ensures.value, ends))
              | else-name-self-via-else-name-self w' ↦ w'.if-name-self.false same
            ]),
      )
    ]
