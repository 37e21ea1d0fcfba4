use Rattle.std.proofs.Common.{refl, subst}
use Rattle.compact_levels.specs.Pile.{IsPileSoFar, GoesOnAll}
use Rattle.compact_levels.proofs.PileLemmas.{pile_longer}
use Rattle.compact_levels.proofs.pile.pile_with.Goals as goal

pub returns-in-Some : goal.returns-in-Some
returns-in-Some c = λ names so_far.
    pile_longer names c.args.level c.args.after c.in-Some.files _ c.args.name
    (subst (IsPileSoFar names c.args.level c.args.after) c.in-Some.is so_far)
    (subst (λ files. GoesOnAll c.args.level files c.args.name) c.in-Some.is c.requires) refl refl
