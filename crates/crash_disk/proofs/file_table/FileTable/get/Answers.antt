use Rattle.std.proofs.Common.{ap, sym, ◌∙◌, Some}
use Rattle.std.specs.FinMap.{get}
use Rattle.crash_disk.proofs.TableLemmas.{get-by_name}
use Rattle.crash_disk.proofs.file_table.FileTable.get.Goals as goal

pub returns-in-Some-clause-value : goal.returns-in-Some-clause-value
returns-in-Some-clause-value c = ap Some c.as_slice.ensures ∙ c.in-Some.ensures.value
    ∙ sym (get-by_name _ c.args.name.now) ∙ ap (λ m. get m c.args.name.now) c.self.view_is

pub returns-in-None-clause-value : goal.returns-in-None-clause-value
returns-in-None-clause-value c = c.in-None.ensures.value ∙ sym (get-by_name _ c.args.name.now)
    ∙ ap (λ m. get m c.args.name.now) c.self.view_is
