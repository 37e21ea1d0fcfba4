use Rattle.std.proofs.Common.{ap, sym, ◌∙◌}
use Rattle.std.specs.FinMap.{get}
use Rattle.snapshot_read.proofs.MapLemmas.{get_is_lookup}
use Rattle.snapshot_read.proofs.page_map.PageMap.get.Goals as goal

pub returns : goal.returns
returns c = c.copied.ensures ∙ c.get.ensures.value ∙ sym (get_is_lookup c.self.inside.offsets.entries c.args.number)
    ∙ ap (λ m. get m.offsets c.args.number) c.self.view_is
