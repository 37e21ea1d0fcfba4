use Rattle.std.proofs.Common.{◌+◌, sym, ◌∙◌}
use Rattle.std.specs.FinMap.{keys}
use Rattle.sim_writer.proofs.NumberLemmas.{size_past, size_within}
use Rattle.sim_writer.proofs.frames.size_at.Goals as goal

pub returns-in-Some : goal.returns-in-Some
returns-in-Some c = sym (size_within c.args.size (keys c.args.pages.now) (c.args.at + 1) c.in-Some.field-0
    (sym c.number_at.ensures ∙ c.in-Some.is))

pub returns-in-None : goal.returns-in-None
returns-in-None c = sym (size_past c.args.size (keys c.args.pages.now) (c.args.at + 1)
    (sym c.number_at.ensures ∙ c.in-None.is))
