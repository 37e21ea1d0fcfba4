use Rattle.std.proofs.Common.{ap, subst, sym, ◌∙◌, List, Err}
use Rattle.crash_disk.specs.Files.{files_after}
use Rattle.replica_store.specs.declared.file_name.FileName.{FileName}
use Rattle.replica_store.specs.Chain.{IsRetained}
use Rattle.restore_plan.specs.Retained.{IsGreatestRetainedBelow}
use Rattle.litestream_core.specs.Asked.{IsAsked}
use Rattle.litestream_core.specs.Preparing.{ExplainsReading}
use Rattle.litestream_core.specs.RequestView.{as_request}
use Rattle.litestream_core.proofs.CommandLemmas.{explains_plan}
use Rattle.litestream_core.proofs.prepare.find_plan.Goals as goal

pub returns-in-Err-clause-explained : goal.returns-in-Err-clause-explained
returns-in-Err-clause-explained g c =
    let r = as_request c.args.request.now in
    let store = g.S.Disk.content c.args.store.now r.replica in
    let t = c.in_ok-txid.txid in
    subst (ExplainsReading r store _ _) (sym c.plan_refusal.ensures)
    (explains_plan r store _ _ c.in_ok-names.names t c.in-Err.fault c.in_ok-names.ensures.names
    (λ events told. subst (λ (names : List FileName). IsAsked (files_after events) names r.target t)
    c.as_slice.ensures (c.in_ok-txid.ensures.asked events
    (sym (g.met.S.Disk.stands c.find_names.new.store r.replica c.in_ok-names.ensures.attached)
    ∙ c.in_ok-names.ensures.unchanged ∙ told)))
    (λ after is. subst (λ (names : List FileName). IsRetained names t → ⊥) c.as_slice-2.ensures
    (c.in-Err.ensures.missing after (ap Err is)))
    (λ after is. subst (λ (names : List FileName). IsGreatestRetainedBelow names t after) c.as_slice-2.ensures
    (c.in-Err.ensures.after after (ap Err is))))
