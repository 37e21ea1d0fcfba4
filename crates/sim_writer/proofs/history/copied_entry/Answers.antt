use Rattle.std.proofs.Common.{ℕ, List, [], ◌∷◌, ◌++◌, take, ap, sym, ◌∙◌, option_copied}
use Rattle.sim_writer.proofs.ListLemmas.{take-next}
use Rattle.sim_writer.proofs.history.copied_entry.Goals as goal

pub loop-at-preserved : goal.loop-at-preserved
loop-at-preserved c =
    let found = sym c.get.ensures ∙ ap (λ o. option_copied o) c.in-Some.is in
    let page = c.in_ok-copied.ensures ∙ c.bytes.ensures in
    c.in_ok-push.ensures.ok ∙ ap (λ (ps : List (List ℕ)). ps ++ c.in_ok-copied.field-0 ∷ []) c.loop-at.invariant
    ∙ ap (λ (p : List ℕ). take c.loop-at.at c.args.entry.now.pages ++ p ∷ []) page
    ∙ sym (take-next c.args.entry.now.pages c.loop-at.at c.in-Some.page.now found)
