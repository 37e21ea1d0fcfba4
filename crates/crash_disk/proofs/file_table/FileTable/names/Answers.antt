use Rattle.std.proofs.Common.{◌≡◌, [], ◌++◌, map, string_bytes, ap, sym, ◌∙◌, append-nil}
use Rattle.std.specs.BTreeMap as tree
use Rattle.std.specs.FinMap.{keys}
use Rattle.std.specs.Map.Iter.{deref}
use Rattle.std.proofs.lemmas.Map.Iter.{rest_all}
use Rattle.crash_disk.proofs.KeyLemmas.{keys-by_name}
use Rattle.crash_disk.proofs.file_table.FileTable.names.Goals as goal

pub returns : goal.returns
returns c =
    let none : c.loop-name.name-iterator ≡ [] = rest_all deref c.loop-name.name-iterator c.next.new.self c.next.result
    c.in-None.is c.next.ensures.steps in
    let all : c.into_iter-name-iterator.result ≡ tree.keys c.self.inside.files =
    c.into_iter-name-iterator.ensures.into_iter_gives ∙ c.keys-name-items.ensures.rest in
    sym (append-nil c.loop-name.names) ∙ ap (λ left. c.loop-name.names ++ map string_bytes left) (sym none)
    ∙ c.loop-name.invariant ∙ ap (map string_bytes) all
    ∙ sym (keys-by_name c.self.inside.files c.keys-name-items.ensures.ordered) ∙ ap keys c.self.view_is
