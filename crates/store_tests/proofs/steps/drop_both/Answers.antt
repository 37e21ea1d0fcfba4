use Rattle.std.proofs.Common.{sym, subst}
use Rattle.std.proofs.lemmas.Result.{on_ok_weaker, on_err_weaker}
use Rattle.replica_store.specs.Listing.{path_of}
use Rattle.replica_store.specs.Putting.{MayDrop, HasDropped, HasSyncedNames}
use Rattle.replica_store.proofs.PutLemmas.{err_leaves}
use Rattle.store_tests.specs.Steps.{MayDropBoth}
use Rattle.store_tests.proofs.StepLemmas.{some_same, went, dropped, first_drop_failed, second_drop_failed, drops_both}
use Rattle.store_tests.proofs.steps.drop_both.Goals as goal

pub returns-in_err-drop_file-clause-err : goal.returns-in_err-drop_file-clause-err
returns-in_err-drop_file-clause-err c =
    let before = c.args.store.now.events in
    let now = c.drop_file.new.store.events in
    err_leaves c.from_residual.result _
    (first_drop_failed c.args.first.now c.args.second.now before now now
    (went before now (MayDrop (path_of c.args.first.now)) c.in_err-drop_file.ensures.err))

pub returns-in_err-drop_file-2-clause-err : goal.returns-in_err-drop_file-2-clause-err
returns-in_err-drop_file-2-clause-err c =
    let before = c.args.store.now.events in
    let mid = c.drop_file.new.store.events in
    let now = c.drop_file-2.new.store.events in
    err_leaves c.from_residual-in_err-drop_file-2.result _
    (second_drop_failed c.args.first.now c.args.second.now before mid now
    (dropped before mid (path_of c.args.first.now) c.in_ok-drop_file.ensures.ok)
    (went mid now (MayDrop (path_of c.args.second.now)) c.in_err-drop_file-2.ensures.err))

pub returns-clause-ok : goal.returns-clause-ok
returns-clause-ok c =
    let before = c.args.store.now.events in
    let mid = c.drop_file.new.store.events in
    let now = c.drop_file-2.new.store.events in
    let after = c.settle.new.store.events in
    on_ok_weaker c.settle.result
    (λ goes. drops_both c.args.first.now c.args.second.now before mid now after
    (dropped before mid (path_of c.args.first.now) c.in_ok-drop_file.ensures.ok)
    (dropped mid now (path_of c.args.second.now) c.in_ok-drop_file-2.ensures.ok) (went now after HasSyncedNames goes))
    c.settle.ensures.ok

pub returns-clause-err : goal.returns-clause-err
returns-clause-err c =
    let before = c.args.store.now.events in
    let mid = c.drop_file.new.store.events in
    let now = c.drop_file-2.new.store.events in
    let after = c.settle.new.store.events in
    on_err_weaker c.settle.result
    (λ same. subst (MayDropBoth c.args.first.now c.args.second.now before) (sym (some_same after now same))
    (second_drop_failed c.args.first.now c.args.second.now before mid now
    (dropped before mid (path_of c.args.first.now) c.in_ok-drop_file.ensures.ok)
    (dropped mid now (path_of c.args.second.now) c.in_ok-drop_file-2.ensures.ok))) c.settle.ensures.err
