use Rattle.std.proofs.Common.{◌∙◌, ◌++◌, List, ℕ, ap}
use Rattle.replica_sync.proofs.PageFileLemmas.{file_begun}
use Rattle.replica_sync.proofs.page_file.PageFile.begin.Goals as goal

pub returns-clause-ok : goal.returns-clause-ok
returns-clause-ok g c =
    file_begun (record { put = c.in_ok-put.put; writer = c.begin-writer.result; gathered = c.add.new.self })
    (g.S.Disk.told c.args.store.now) (g.S.Disk.told c.begin.new.store) c.args.header.now
    c.begin-writer.ensures.written c.begin-writer.ensures.header
    (c.add.ensures ∙ ap (λ (xs : List ℕ). xs ++ c.begin-writer.new.into) c.requires.empty
    ∙ c.begin-writer.ensures.bytes)
    c.in_ok-put.ensures.ok
