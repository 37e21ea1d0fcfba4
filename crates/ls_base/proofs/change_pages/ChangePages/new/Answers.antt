use Rattle.std.proofs.Common.{sym, ◌∙◌}
use Rattle.ls_base.proofs.MapLemmas.{keys-empty}
use Rattle.ls_base.proofs.change_pages.ChangePages.new.Goals as goal

pub invariant_of-result : goal.invariant_of-result
invariant_of-result c = c.new-2.ensures.items ∙ sym (keys-empty c.new.result.entries c.new.ensures.empty)
