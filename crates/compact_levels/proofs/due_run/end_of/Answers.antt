use Rattle.std.proofs.Common.{sym, subst}
use Rattle.compact_levels.specs.Level.{IsEndOf}
use Rattle.compact_levels.specs.Pile.{IsLastSoFar}
use Rattle.compact_levels.proofs.MomentLemmas.{end_of_none, end_of_last}
use Rattle.compact_levels.proofs.due_run.end_of.Goals as goal

pub returns-in-Some : goal.returns-in-Some
returns-in-Some c = λ names level so_far.
    subst (IsEndOf names level) (sym c.number.ensures.value)
    (end_of_last names level c.in-Some.name (subst (IsLastSoFar names level) c.in-Some.is so_far))

pub returns-in-None : goal.returns-in-None
returns-in-None c = λ names level so_far.
    end_of_none names level (subst (IsLastSoFar names level) c.in-None.is so_far)
