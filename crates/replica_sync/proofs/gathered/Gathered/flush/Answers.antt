use Rattle.std.proofs.Common.{List, ℕ, subst, ◌∙◌}
use Rattle.replica_store.proofs.PutLemmas.{err_leaves}
use Rattle.replica_store.specs.Putting.{PutsMore}
use Rattle.replica_sync.proofs.GatherLemmas.{draft_there, flushed, lost}
use Rattle.replica_sync.proofs.gathered.Gathered.flush.Goals as goal

pub append-requires : goal.append-requires
append-requires g c = record {
  there = draft_there c.args.put.now c.args.self.now (g.S.Disk.told c.args.store.now) c.requires.gathering;
}

pub returns-in_err-append-clause-err : goal.returns-in_err-append-clause-err
returns-in_err-append-clause-err g c =
    err_leaves c.from_residual.result _
    (lost c.args.put.now c.args.self.now (g.S.Disk.told c.args.store.now) (g.S.Disk.told c.append.new.store)
    c.in_err-append.ensures.err)

pub returns-clause-ok : goal.returns-clause-ok
returns-clause-ok g c =
    flushed c.args.put.now c.args.self.now c.clear.new.self.items (g.S.Disk.told c.args.store.now)
    (g.S.Disk.told c.append.new.store)
    (subst (λ (bytes : List ℕ). PutsMore c.args.put.now bytes (g.S.Disk.told c.args.store.now)
    (g.S.Disk.told c.append.new.store)) (c.as_slice.ensures.value ∙ c.self.view_is) c.in_ok-append.ensures.ok)
    c.clear.ensures.items
