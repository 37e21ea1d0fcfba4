use Rattle.std.proofs.Common.{refl}
use Rattle.page_cursors.proofs.WantedLemmas.{lacks_missed, missed_within}
use Rattle.page_cursors.proofs.wanted.Wanted.lacking.Goals as goal

pub returns-then-is_some-clause-some : goal.returns-then-is_some-clause-some
returns-then-is_some-clause-some c = λ lock above numbers below wants. lacks_missed lock above numbers c.args.self.now
    wants c.args.self.now.missed refl

pub returns-then-is_some-clause-within : goal.returns-then-is_some-clause-within
returns-then-is_some-clause-within c =
    λ lock above numbers below wants. missed_within lock above c.args.commit numbers c.args.self.now below wants
    c.args.self.now.missed refl
