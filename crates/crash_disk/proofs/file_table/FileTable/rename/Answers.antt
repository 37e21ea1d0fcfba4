use Rattle.std.proofs.Common.{ap, sym, ◌∙◌, not}
use Rattle.std.specs.FinMap.{get}
use Rattle.crash_disk.proofs.TableLemmas.{moved_by_steps, still_there}
use Rattle.crash_disk.proofs.file_table.FileTable.rename.Goals as goal

pub returns-in-Some-clause-ok : goal.returns-in-Some-clause-ok
returns-in-Some-clause-ok c =
    moved_by_steps c.args.self.now c.put-2.new.self c.remove.new.self c.replace.new.self c.args.from.now c.args.to.now
    c.new.result c.in-Some.bytes c.requires.apart c.new.ensures c.in_ok-put.ensures.ok
    c.in-Some.ensures.value c.in-Some.ensures.removed c.replace.ensures

pub returns-in_default-clause-ok : goal.returns-in_default-clause-ok
returns-in_default-clause-ok c =
    absurd (still_there c.args.self.now c.args.from.now c.args.to.now c.new.result c.get.result c.requires.apart
    (c.is_none.ensures ∙ ap not c.if-is_none.false) c.get.ensures.value
    (sym c.in_default.is ∙ c.remove.ensures.value ∙ ap (λ m. get m c.args.from.now) c.in_ok-put.ensures.ok))
