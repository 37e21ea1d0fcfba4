use Rattle.std.proofs.Common.{◌≡◌, ◌≢◌, false, Result, sym, subst, ◌∙◌, arith}
use Rattle.live_gate.specs.declared.answer.Attached.{Attached}
use Rattle.live_gate.specs.LiveCalls.{found_at}
use Rattle.live_gate.specs.LiveRecord.{IfTold}
use Rattle.replica_round.proofs.ResultLemmas.{err_of}
use Rattle.replicate_command.specs.Attaching.{AttachHasCause}
use Rattle.replicate_command.specs.declared.stop.ReplicateStop.{ReplicateStop}
use Rattle.replicate_command.proofs.AttachLemmas.{absent_there, found_there, explains_names}
use Rattle.replicate_command.proofs.command.attach.Goals as goal

pub returns-in-Absent-clause-cause : goal.returns-in-Absent-clause-cause
returns-in-Absent-clause-cause g c =
    let path = c.args.request.now.db.now in
    let there = g.L.Live.is_there c.args.live.now path in
    let ok = c.in_ok-attach.ensures in
    record {
      live_later = ok.cause.later;
      store_later = omega arith;
      explained = λ r told.
          let next = ok.content.told r told in
          absent_there there
          (subst (λ (found : Attached). found ≡ found_at there) c.in-Absent.is
          (ok.found next.0 (sym (g.met.L.Live.stands c.attach.new.self (record {
            path = path;
            at_rest = c.args.request.now.at_rest;
          }) ok.ok) ∙ next.1)));
    }

pub returns-in_err-attach-2-clause-cause : goal.returns-in_err-attach-2-clause-cause
returns-in_err-attach-2-clause-cause g c =
    let path = c.args.request.now.db.now in
    let there = g.L.Live.is_there c.args.live.now path in
    let ok = c.in_ok-attach.ensures in
    let fault = c.in_err-attach-2.field-0.0 in
    let is_there : IfTold (g.L.Live.content c.args.live.now path) (λ r. there ≢ false) = λ r told.
    let next = ok.content.told r told in
    found_there there
    (subst (λ (found : Attached). found ≡ found_at there) c.in-Found.is
    (ok.found next.0 (sym (g.met.L.Live.stands c.attach.new.self (record {
      path = path;
      at_rest = c.args.request.now.at_rest;
    }) ok.ok) ∙ next.1))) in
    subst (λ (result : Result (Unit {0}) ReplicateStop). AttachHasCause (g.L.Live.content c.args.live.now path) there
    (g.L.Live.fault_count c.args.live.now) (g.L.Live.fault_count c.attach.new.self)
    (g.S.Disk.fault_count c.args.store.now) (g.S.Disk.fault_count c.attach-2.new.self) result)
    (sym (err_of _ _ c.from_residual-in_err-attach-2.ensures.1))
    (record {
      live_later = ok.cause.later;
      store_later = c.in_err-attach-2.ensures.cause.later;
      explained = explains_names (g.L.Live.content c.args.live.now path) there (g.L.Live.fault_count c.args.live.now)
          (g.L.Live.fault_count c.attach.new.self) (g.S.Disk.fault_count c.args.store.now)
          (g.S.Disk.fault_count c.attach-2.new.self) fault c.in_err-attach-2.ensures.cause is_there;
    })

pub returns-clause-cause : goal.returns-clause-cause
returns-clause-cause g c =
    let path = c.args.request.now.db.now in
    let there = g.L.Live.is_there c.args.live.now path in
    let ok = c.in_ok-attach.ensures in
    record {
      live_later = ok.cause.later;
      store_later = c.in_ok-attach-2.ensures.cause.later;
      explained = λ r told.
          let next = ok.content.told r told in
          found_there there
          (subst (λ (found : Attached). found ≡ found_at there) c.in-Found.is
          (ok.found next.0 (sym (g.met.L.Live.stands c.attach.new.self (record {
            path = path;
            at_rest = c.args.request.now.at_rest;
          }) ok.ok) ∙ next.1)));
    }
