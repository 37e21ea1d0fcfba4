use Rattle.std.proofs.Common.{ap, ◌∙◌, string_bytes}
use Rattle.std.specs.FinMap.{insert}
use Rattle.crash_disk.specs.FileTable.{by_name}
use Rattle.crash_disk.proofs.TableLemmas.{by_name-inserts, insert-IsShort}
use Rattle.crash_disk.proofs.file_table.FileTable.put.Goals as goal

pub invariant_of-self-2 : goal.invariant_of-self-2
invariant_of-self-2 c =
    rw (by_name-inserts (string_bytes c.in_ok-key.key) c.self.inside.files c.insert.new.self c.args.bytes
    c.in_ok-insert.ensures.updates)
    (insert-IsShort _ (string_bytes c.in_ok-key.key) c.args.bytes c.self.invariant c.requires.short)

pub returns-clause-ok : goal.returns-clause-ok
returns-clause-ok c =
    by_name-inserts (string_bytes c.in_ok-key.key) c.self.inside.files c.insert.new.self c.args.bytes
    c.in_ok-insert.ensures.updates
    ∙ ap (λ name. insert (by_name c.self.inside.files.entries) name c.args.bytes) c.in_ok-key.ensures.ok
    ∙ ap (λ m. insert m c.args.name.now c.args.bytes) c.self.view_is
