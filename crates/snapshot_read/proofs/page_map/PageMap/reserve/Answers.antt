use Rattle.std.proofs.Common.{ap, ◌∙◌}
use Rattle.snapshot_read.proofs.MapLemmas.{reordered}
use Rattle.snapshot_read.proofs.page_map.PageMap.reserve.Goals as goal

pub returns-clause-offsets : goal.returns-clause-offsets
returns-clause-offsets c = reordered c.self.inside.offsets.entries c.reserve.new.self.entries
    c.reserve.ensures.entries.2 ∙ ap (λ m. m.offsets) c.self.view_is
