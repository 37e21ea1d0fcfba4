use Rattle.std.proofs.Common.{ap, sym, ◌∙◌}
use Rattle.std.specs.FinMap.{get, remove}
use Rattle.crash_disk.proofs.TableLemmas.{get-by_name, by_name-removes, remove-IsShort}
use Rattle.crash_disk.proofs.file_table.FileTable.remove.Goals as goal

pub invariant_of-self : goal.invariant_of-self
invariant_of-self c = rw (by_name-removes c.args.name.now c.self.inside.files c.remove.new.self
    c.remove.ensures.updates) (remove-IsShort _ c.args.name.now c.self.invariant)

pub returns-clause-value : goal.returns-clause-value
returns-clause-value c = c.remove.ensures.value ∙ sym (get-by_name _ c.args.name.now)
    ∙ ap (λ m. get m c.args.name.now) c.self.view_is

pub returns-clause-removed : goal.returns-clause-removed
returns-clause-removed c = by_name-removes c.args.name.now c.self.inside.files c.remove.new.self
    c.remove.ensures.updates ∙ ap (λ m. remove m c.args.name.now) c.self.view_is
