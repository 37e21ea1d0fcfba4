use Rattle.std.proofs.Common.{List, ℕ, [], sym, subst}
use Rattle.std.proofs.lemmas.Result.{on_ok_weaker, on_err_weaker}
use Rattle.crash_disk.specs.Files.{IsThere}
use Rattle.crash_disk.specs.Told.{IfTold}
use Rattle.replica_store.specs.Putting.{draft_path, AfterPutting, StillKeepsOthers, HasPut, MayPut}
use Rattle.replica_sync.proofs.GatherLemmas.{draft_there, still_gathering}
use Rattle.replica_sync.proofs.PageFileLemmas.{is_gathering, file_put, file_may_be_put, file_abandoned}
use Rattle.replica_sync.proofs.page_file.PageFile.finish.Goals as goal

pub put_last-requires-clause-gathering : goal.put_last-requires-clause-gathering
put_last-requires-clause-gathering g c =
    is_gathering c.args.self (g.S.Disk.told c.args.store.now) c.requires.writing

pub finish-requires : goal.finish-requires
finish-requires g c =
    let f = c.args.self in
    let old = g.S.Disk.told c.args.store.now in
    let mid = g.S.Disk.told c.put_last.new.store in
    record {
      there = subst (λ (p : List ℕ). IfTold mid (λ events. IsThere events (draft_path p))) (sym c.put_last.ensures.same)
          (draft_there f.put [] mid
          (still_gathering f.put f.gathered [] [] c.finish-end.result [] old mid mid c.in-Ok.ensures.ok
          (is_gathering f old c.requires.writing)));
    }

pub returns-in-Ok-clause-ok : goal.returns-in-Ok-clause-ok
returns-in-Ok-clause-ok g c =
    let f = c.args.self in
    let old = g.S.Disk.told c.args.store.now in
    let mid = g.S.Disk.told c.put_last.new.store in
    let new = g.S.Disk.told c.finish.new.store in
    on_ok_weaker c.finish.result
    (λ put. file_put f c.finish-end.result old mid new c.finish-end.ensures.file c.in-Ok.ensures.ok
    (subst (λ (p : List ℕ). AfterPutting p mid new (HasPut p)) c.put_last.ensures.same put)) c.finish.ensures.ok

pub returns-in-Ok-clause-err : goal.returns-in-Ok-clause-err
returns-in-Ok-clause-err g c =
    let f = c.args.self in
    let old = g.S.Disk.told c.args.store.now in
    let mid = g.S.Disk.told c.put_last.new.store in
    let new = g.S.Disk.told c.finish.new.store in
    on_err_weaker c.finish.result
    (λ put. file_may_be_put f c.finish-end.result old mid new c.finish-end.ensures.file c.in-Ok.ensures.ok
    (subst (λ (p : List ℕ). AfterPutting p mid new (MayPut p)) c.put_last.ensures.same put)) c.finish.ensures.err

pub returns-clause-err : goal.returns-clause-err
returns-clause-err g c =
    let f = c.args.self in
    let old = g.S.Disk.told c.args.store.now in
    let mid = g.S.Disk.told c.put_last.new.store in
    let new = g.S.Disk.told c.abandon.new.store in
    file_abandoned f c.finish-end.result old mid new c.finish-end.ensures.file c.in-Err.ensures.err
    (subst (λ (p : List ℕ). StillKeepsOthers p mid new) c.put_last.ensures.same c.abandon.ensures.kept)
