use Rattle.std.proofs.Common.{◌++◌, ◌∷◌, [], Some, ◌∙◌, sym, subst}
use Rattle.std.proofs.lemmas.Bool.{false≢true}
use Rattle.compact_levels.specs.Pile.{IsLastSoFar}
use Rattle.compact_levels.proofs.LastLemmas.{last_passed, last_begins, last_taken, last_kept, not_some}
use Rattle.compact_levels.proofs.last.last_with.Goals as goal
use Rattle.compact_levels.proofs.last.last_with.Goals.{then-is_later, else-is_later}

pub returns-then-name-level : goal.returns-then-name-level
returns-then-name-level c = λ names so_far.
    last_passed names c.args.level c.args.name c.args.last c.if-name-level.true so_far

pub returns-in_default : goal.returns-in_default
returns-in_default c = λ names so_far.
    let none = not_some c.args.last c.in_default.not-Some in
    last_begins names c.args.level c.args.name c.if-name-level.false
    (subst (IsLastSoFar names c.args.level) none so_far)

pub returns : goal.returns
returns c = λ names so_far.
    let before = subst (IsLastSoFar names c.args.level) c.in-Some.is so_far in
    elim c.if-is_later.branch [
      | then-is_later w ↦
          subst (λ one. IsLastSoFar (names ++ c.args.name ∷ []) c.args.level (Some one)) (sym w.result-is)
          (last_taken names c.args.level c.args.name c.in-Some.other c.if-name-level.false
          (c.is_later.ensures.0 w.if-is_later.true) before)
      | else-is_later w ↦
          subst (λ one. IsLastSoFar (names ++ c.args.name ∷ []) c.args.level (Some one)) (sym w.result-is)
          (last_kept names c.args.level c.args.name c.in-Some.other
          (λ later. false≢true (sym w.if-is_later.false ∙ c.is_later.ensures.1 later)) before)
    ]
