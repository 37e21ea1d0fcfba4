use Rattle.std.proofs.Common.{sym, subst, List, ℕ}
use Rattle.std.specs.Prelude.{IsAscii}
use Rattle.replica_store.proofs.NameLemmas.{ascii_path}
use Rattle.replica_store.proofs.name_text.write_name.Goals as goal

pub invariant_of-result : goal.invariant_of-result
invariant_of-result c =
    subst (λ (bytes : List ℕ). IsAscii bytes) (sym c.bytes_of.ensures)
    (ascii_path c.args.name.now.level c.args.name.now.min c.args.name.now.max c.args.name.now.on_level)
