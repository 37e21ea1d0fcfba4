use Rattle.std.proofs.Common.{List, ℕ, [], sym, subst}
use Rattle.std.proofs.lemmas.Result.{on_err_weaker}
use Rattle.replica_sync.proofs.ResultLemmas.{on_ok_both}
use Rattle.replica_sync.specs.Gathering.{IsGathering, GathersMore, KeepsAllOthers}
use Rattle.replica_sync.proofs.GatherLemmas.{then_more, then_lost, still_gathering, flushed_last}
use Rattle.replica_sync.proofs.page_file.put_last.Goals as goal

pub flush-requires : goal.flush-requires
flush-requires g c = record {
  gathering = subst (λ (p : List ℕ). IsGathering p c.put.new.self (g.S.Disk.told c.put.new.store))
      (sym c.in_ok-put.ensures.same)
      (still_gathering c.args.put.now c.args.gathered.now c.put.new.self c.put.new.self c.args.end.now c.args.end.now
      (g.S.Disk.told c.args.store.now) (g.S.Disk.told c.put.new.store) (g.S.Disk.told c.put.new.store)
      c.in_ok-put.ensures.ok c.requires.gathering);
}

pub returns-clause-ok : goal.returns-clause-ok
returns-clause-ok g c =
    on_ok_both c.flush.result
    (λ second none.
    flushed_last c.args.put.now c.args.gathered.now c.args.end.now c.flush.new.self (g.S.Disk.told c.args.store.now)
    (g.S.Disk.told c.flush.new.store)
    (then_more c.args.put.now c.args.gathered.now c.put.new.self c.flush.new.self c.args.end.now []
    (g.S.Disk.told c.args.store.now) (g.S.Disk.told c.put.new.store) (g.S.Disk.told c.flush.new.store)
    c.in_ok-put.ensures.ok
    (subst (λ (p : List ℕ). GathersMore p c.put.new.self [] c.flush.new.self (g.S.Disk.told c.put.new.store)
    (g.S.Disk.told c.flush.new.store)) c.in_ok-put.ensures.same second)) none)
    c.flush.ensures.ok c.flush.ensures.empty

pub returns-clause-err : goal.returns-clause-err
returns-clause-err g c =
    on_err_weaker c.flush.result
    (λ second.
    then_lost c.args.put.now c.args.gathered.now c.put.new.self c.put.new.self c.args.end.now c.args.end.now
    (g.S.Disk.told c.args.store.now) (g.S.Disk.told c.put.new.store) (g.S.Disk.told c.flush.new.store)
    c.in_ok-put.ensures.ok
    (subst (λ (p : List ℕ). KeepsAllOthers p c.put.new.self (g.S.Disk.told c.put.new.store)
    (g.S.Disk.told c.flush.new.store)) c.in_ok-put.ensures.same second))
    c.flush.ensures.err
