use Rattle.std.proofs.Common.{sym, ◌∙◌, arith}
use Rattle.page_cursors.proofs.WantedLemmas.{missed_before, not_wanted, misses, takes}
use Rattle.page_cursors.proofs.wanted.Wanted.take.Goals as goal

pub returns-then-is_some : goal.returns-then-is_some
returns-then-is_some c =
    λ lock above numbers below wants. missed_before lock above numbers c.args.number c.args.self.now
    (sym c.is_some.ensures ∙ c.if-is_some.true) below wants

pub returns-then-from-self : goal.returns-then-from-self
returns-then-from-self c =
    λ lock above numbers below wants. not_wanted lock above numbers c.args.number c.args.self.now
    (sym c.is_some.ensures ∙ c.if-is_some.false)
    (omega (arith, c.if-from-self.true, c.from.ensures)) wants

pub returns-then-from-self-2 : goal.returns-then-from-self-2
returns-then-from-self-2 c =
    λ lock above numbers below wants. misses lock above numbers c.args.number c.args.self.now (sym c.is_some.ensures
    ∙ c.if-is_some.false)
    (omega (arith, c.if-from-self-2.true, c.from-2.ensures)) wants

pub returns : goal.returns
returns c =
    λ lock above numbers below wants. takes lock above numbers c.args.number c.above-self.result c.args.self.now
    (sym c.is_some.ensures ∙ c.if-is_some.false)
    (omega (arith, c.if-from-self.false, c.if-from-self-2.false, c.from.ensures, c.from-2.ensures))
    c.above-self.ensures.above c.above-self.ensures.unlocked c.above-self.ensures.least wants
