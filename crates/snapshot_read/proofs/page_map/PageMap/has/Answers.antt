use Rattle.std.proofs.Common.{ap, sym, ◌∙◌}
use Rattle.std.specs.Prelude.{is_some}
use Rattle.std.specs.FinMap.{get}
use Rattle.snapshot_read.proofs.MapLemmas.{get_is_lookup}
use Rattle.snapshot_read.proofs.page_map.PageMap.has.Goals as goal

pub returns : goal.returns
returns c = c.contains_key.ensures ∙ ap is_some (sym (get_is_lookup c.self.inside.offsets.entries c.args.number))
    ∙ ap (λ m. is_some (get m.offsets c.args.number)) c.self.view_is
