use Rattle.std.proofs.Common.{List, ℕ, sym, subst, ◌∙◌}
use Rattle.std.proofs.lemmas.Result.{on_ok_weaker, on_err_weaker}
use Rattle.replica_store.proofs.PutLemmas.{err_leaves}
use Rattle.replica_sync.specs.Gathering.{IsGathering, GathersMore, KeepsAllOthers}
use Rattle.replica_sync.proofs.GatherLemmas.{then_more, then_lost, still_gathering}
use Rattle.replica_sync.proofs.PageFileLemmas.{is_gathering, keeps_all, page_given}
use Rattle.replica_sync.proofs.page_file.PageFile.page.Goals as goal

pub put-requires-clause-gathering : goal.put-requires-clause-gathering
put-requires-clause-gathering g c =
    is_gathering c.args.self.now (g.S.Disk.told c.args.store.now) c.requires.writing

pub returns-in_err-put-clause-err : goal.returns-in_err-put-clause-err
returns-in_err-put-clause-err g c =
    err_leaves c.from_residual.result _
    (keeps_all c.args.self.now (g.S.Disk.told c.args.store.now) (g.S.Disk.told c.put.new.store)
    c.in_err-put.ensures.err)

pub put-requires-2-clause-gathering : goal.put-requires-2-clause-gathering
put-requires-2-clause-gathering g c =
    let path = c.args.self.now.put in
    subst (λ (p : List ℕ). IsGathering p c.put.new.self (g.S.Disk.told c.put.new.store)) (sym c.in_ok-put.ensures.same)
    (still_gathering path c.args.self.now.gathered c.put.new.self c.put.new.self c.page.new.into c.page.new.into
    (g.S.Disk.told c.args.store.now) (g.S.Disk.told c.put.new.store) (g.S.Disk.told c.put.new.store)
    c.in_ok-put.ensures.ok (is_gathering c.args.self.now (g.S.Disk.told c.args.store.now) c.requires.writing))

pub returns-clause-ok : goal.returns-clause-ok
returns-clause-ok g c =
    on_ok_weaker c.put-2.result
    (λ second.
    page_given c.args.self.now (record { put = c.put-2.new.put; writer = c.page.new.self; gathered = c.put-2.new.self })
    c.args.number c.args.page.now c.page.new.into (g.S.Disk.told c.args.store.now) (g.S.Disk.told c.put-2.new.store)
    (c.put-2.ensures.same ∙ c.in_ok-put.ensures.same) c.page.ensures.header c.page.ensures.block c.page.ensures.written
    (then_more c.args.self.now.put c.args.self.now.gathered c.put.new.self c.put-2.new.self c.page.new.into
    c.args.page.now (g.S.Disk.told c.args.store.now) (g.S.Disk.told c.put.new.store) (g.S.Disk.told c.put-2.new.store)
    c.in_ok-put.ensures.ok
    (subst (λ (p : List ℕ). GathersMore p c.put.new.self c.args.page.now c.put-2.new.self
    (g.S.Disk.told c.put.new.store) (g.S.Disk.told c.put-2.new.store)) c.in_ok-put.ensures.same second)))
    c.put-2.ensures.ok

pub returns-clause-err : goal.returns-clause-err
returns-clause-err g c =
    on_err_weaker c.put-2.result
    (λ second.
    keeps_all c.args.self.now (g.S.Disk.told c.args.store.now) (g.S.Disk.told c.put-2.new.store)
    (then_lost c.args.self.now.put c.args.self.now.gathered c.put.new.self c.put.new.self c.page.new.into
    c.page.new.into (g.S.Disk.told c.args.store.now) (g.S.Disk.told c.put.new.store)
    (g.S.Disk.told c.put-2.new.store) c.in_ok-put.ensures.ok
    (subst (λ (p : List ℕ). KeepsAllOthers p c.put.new.self (g.S.Disk.told c.put.new.store)
    (g.S.Disk.told c.put-2.new.store)) c.in_ok-put.ensures.same second)))
    c.put-2.ensures.err
