use Rattle.std.proofs.Common.{subst, sym}
use Rattle.crash_disk.specs.Files.{files_after}
use Rattle.replica_store.specs.Listing.{AreListed}
use Rattle.replica_store.proofs.ListLemmas.{are_listed}
use Rattle.replica_store.proofs.listing.list.Goals as goal

pub returns-clause-value : goal.returns-clause-value
returns-clause-value g c = λ events told.
    subst (AreListed (files_after events)) (sym c.from_vec.ensures)
    (are_listed events c.in_ok-texts.texts c.in_ok-names.names.items c.sort_unstable.new.self.items
    (c.in_ok-texts.ensures.value events told) c.in_ok-names.ensures c.sort_unstable.ensures.permutation
    c.sort_unstable.ensures.sorted)
