use Rattle.std.proofs.Common.{◌≡◌, ℕ, [], ◌∷◌, ◌++◌, ◌+◌, ◌-◌, ◌≤◌, take, drop, ap, sym, ◌∙◌, option_copied, arith}
use Rattle.std.specs.List.{slice_get}
use Rattle.ls_base.specs.declared.entry.Entry.{Entry}
use Rattle.ls_base.specs.History.{History}
use Rattle.sim_writer.proofs.AgainLemmas.{get-drop}
use Rattle.sim_writer.proofs.ListLemmas.{take-next}
use Rattle.sim_writer.proofs.machine.Machine.again.Goals as goal

pub loop-at-preserved : goal.loop-at-preserved
loop-at-preserved c =
    let m = c.args.self.now in
    let at = c.loop-at.at in
    let part = drop m.before_log m.history in
    let from : m.before_log ≤ at = omega (arith, c.loop-at.auto.at) in
    let place : m.before_log + (at - m.before_log) ≡ at = omega (arith, from) in
    let next : (at - m.before_log) + 1 ≡ (at + 1) - m.before_log = omega (arith, from) in
    let found = get-drop m.before_log m.history (at - m.before_log) ∙ ap (slice_get m.history) place
    ∙ sym c.get.ensures ∙ ap (λ o. option_copied o) c.in-Some.is in
    c.in_ok-push.ensures.ok ∙ ap (λ (h : History). h ++ c.in_ok-copied_entry.field-0 ∷ []) c.loop-at.invariant
    ∙ ap (λ (e : Entry). take (at - m.before_log) part ++ e ∷ []) c.in_ok-copied_entry.ensures
    ∙ sym (take-next part (at - m.before_log) c.in-Some.entry.now found) ∙ ap (λ (n : ℕ). take n part) next
