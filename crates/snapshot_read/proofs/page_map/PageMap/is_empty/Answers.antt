use Rattle.std.proofs.Common.{ap, sym, ◌∙◌}
use Rattle.snapshot_read.proofs.MapLemmas.{no_entry, no_entry_back}
use Rattle.snapshot_read.proofs.page_map.PageMap.is_empty.Goals as goal

pub returns : goal.returns
returns c =
    let es = c.self.inside.offsets.entries in
    let is = ap (λ m. m.offsets) c.self.view_is in (
      λ empty. sym is ∙ no_entry es (c.is_empty.ensures.0 empty),
      λ none. c.is_empty.ensures.1 (no_entry_back es (is ∙ none)),
    )
