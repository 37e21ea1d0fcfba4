use Rattle.std.proofs.Common.{ap, sym, ◌∙◌}
use Rattle.std.specs.FinMap.{len}
use Rattle.snapshot_read.proofs.MapLemmas.{len_is}
use Rattle.snapshot_read.proofs.page_map.PageMap.len.Goals as goal

pub returns : goal.returns
returns c = c.len.ensures.len ∙ sym (len_is c.self.inside.offsets.entries c.len.ensures.unique)
    ∙ ap (λ m. len m.offsets) c.self.view_is
