use Rattle.std.proofs.lemmas.Result.{on_ok_weaker, on_err_weaker}
use Rattle.replica_store.proofs.PutLemmas.{err_leaves}
use Rattle.store_tests.proofs.StepLemmas.{puts_both, first_failed, second_failed}
use Rattle.store_tests.proofs.steps.put_both.Goals as goal

pub returns-in_err-put_whole-clause-err : goal.returns-in_err-put_whole-clause-err
returns-in_err-put_whole-clause-err c =
    err_leaves c.from_residual.result _
    (first_failed c.args.first.now c.args.second.now c.args.bytes.now c.args.more.now c.args.store.now.events
    c.put_whole.new.store.events c.in_err-put_whole.ensures.err)

pub returns-clause-ok : goal.returns-clause-ok
returns-clause-ok c =
    on_ok_weaker c.put_whole-2.result
    (λ put. puts_both c.args.first.now c.args.second.now c.args.bytes.now c.args.more.now c.args.store.now.events
    c.put_whole.new.store.events c.put_whole-2.new.store.events c.in_ok-put_whole.ensures.ok put)
    c.put_whole-2.ensures.ok

pub returns-clause-err : goal.returns-clause-err
returns-clause-err c =
    on_err_weaker c.put_whole-2.result
    (λ put. second_failed c.args.first.now c.args.second.now c.args.bytes.now c.args.more.now c.args.store.now.events
    c.put_whole.new.store.events c.put_whole-2.new.store.events c.in_ok-put_whole.ensures.ok put)
    c.put_whole-2.ensures.err
