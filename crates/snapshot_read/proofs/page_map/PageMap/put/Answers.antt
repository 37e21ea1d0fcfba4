use Rattle.std.proofs.Common.{ap, ◌∙◌}
use Rattle.std.specs.FinMap.{insert}
use Rattle.snapshot_read.proofs.MapLemmas.{inserted}
use Rattle.snapshot_read.proofs.page_map.PageMap.put.Goals as goal

pub returns-clause-ok : goal.returns-clause-ok
returns-clause-ok c =
    inserted c.self.inside.offsets.entries c.insert.new.self.entries c.args.number c.args.at
    c.in_ok-insert.ensures.updates.0
    ∙ ap (λ m. insert m.offsets c.args.number c.args.at) c.self.view_is
