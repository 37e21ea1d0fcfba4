use Rattle.std.proofs.Common.{ap, sym, ◌∙◌}
use Rattle.std.specs.FinMap.{get}
use Rattle.ls_base.proofs.MapLemmas.{get-from_tree}
use Rattle.ls_base.proofs.change_pages.ChangePages.get.Goals as goal

pub returns : goal.returns
returns c = c.get.ensures.value ∙ sym (get-from_tree _ c.args.number) ∙ ap (λ m. get m c.args.number) c.self.view_is
