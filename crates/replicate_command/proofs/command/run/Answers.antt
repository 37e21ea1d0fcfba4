use Rattle.std.proofs.Common.{◌≡◌, ℕ, ◌≤◌, List, Bool, Some, Result, refl, sym, ap, subst, ◌∙◌, arith}
use Rattle.crash_disk.specs.GoesOn as disk
use Rattle.crash_disk.specs.Told.{Told as DiskTold}
use Rattle.live_gate.specs.LiveRecord.{Told, GoesOn, Attachment}
use Rattle.replica_store.specs.Putting.{HasSyncedNames}
use Rattle.replica_round.proofs.ResultLemmas.{err_of}
use Rattle.ls_answers.specs.declared.outcome.Why.TheVariants.{StoreFault}
use Rattle.replicate_command.specs.Asked.{asked_by}
use Rattle.replicate_command.specs.Ends.{ReplicateEnds}
use Rattle.replica_round.specs.Later.{IsLater}
use Rattle.replicate_command.specs.Seen.{Seen, seen_of}
use Rattle.replicate_command.specs.Stage.{stage_of}
use Rattle.replicate_command.specs.Stop.{why_of}
use Rattle.replicate_command.specs.declared.stop.ReplicateStop.{ReplicateStop}
use Rattle.replicate_command.proofs.AttachLemmas.{attach_refused, left_free}
use Rattle.replicate_command.proofs.EndLemmas.{refused_first, whole_ends}
use Rattle.replicate_command.proofs.ExplainLemmas.{Meets, Closes, joined}
use Rattle.replicate_command.proofs.LaterLemmas.{later_hold, live_weaker, rose_since, told_before}
use Rattle.replicate_command.proofs.command.run.Goals as goal

pub returns-in_err-attach : goal.returns-in_err-attach
returns-in_err-attach g c =
    let asked = asked_by c.args.request.now c.args.now in
    let seen = seen_of g.L.Live g.S.Disk g.O.Out asked c.args.live.now c.attach.new.live c.args.store.now
    c.attach.new.store c.args.out.now c.args.out.now in
    let refused = c.in_err-attach.ensures in
    subst (λ (result : Result (Unit {0}) ReplicateStop). ReplicateEnds seen (why_of result))
    (sym (err_of _ _ c.from_residual.ensures.1))
    (attach_refused seen c.in_err-attach.field-0.0 refused.store refl
    (record { live = refused.cause.live_later; store = refused.cause.store_later; sink = omega arith }) refused.live
    refused.cause.explained)

pub returns-in_err-settle : goal.returns-in_err-settle
returns-in_err-settle g c =
    let asked = asked_by c.args.request.now c.args.now in
    let seen = seen_of g.L.Live g.S.Disk g.O.Out asked c.args.live.now c.attach.new.live c.args.store.now
    c.settle.new.store c.args.out.now c.args.out.now in
    let bound = c.in_ok-attach.ensures.attached in
    let folder = c.in_err-settle.ensures.keeps.folder ∙ bound.store in
    let same : seen.store_after ≡ seen.store =
    g.met.S.Disk.stands c.settle.new.store asked.replica folder ∙ c.in_err-settle.ensures.err
    ∙ sym (g.met.S.Disk.stands c.attach.new.store asked.replica bound.store) ∙ c.in_ok-attach.ensures.store in
    let below : seen.store_faults ≤ g.S.Disk.fault_count c.attach.new.store
    = c.in_ok-attach.ensures.cause.store_later in
    let live = c.in_ok-attach.ensures.live in
    subst (λ (result : Result (Unit {0}) ReplicateStop). ReplicateEnds seen (why_of result))
    (sym (err_of _ _ c.from_residual-in_err-settle.ensures.1))
    (refused_first seen StoreFault refl
    (rose_since seen.store_faults (g.S.Disk.fault_count c.attach.new.store) seen.store_faults_after below
    (c.in_err-settle.ensures.cause.rose refl))
    (live_weaker seen.live seen.live_after _ _ live (λ x y both. both.later)) same refl
    (record {
      live = c.in_ok-attach.ensures.cause.live_later;
      store = omega (arith, below, c.in_err-settle.ensures.cause.later);
      sink = omega arith;
    })
    (λ r told none calm. absurd (c.in_ok-attach.ensures.cause.explained r told none))
    (λ no_fault memory calm r told. (told_before seen.live seen.live_after _ live r told).2.holds) (λ done. absurd cc)
    (record { damaged = λ n d e. cc; lacking = λ n p e. cc }))

pub returns : goal.returns
returns g c =
    let asked = asked_by c.args.request.now c.args.now in
    let attachment : Attachment = record { path = asked.db; at_rest = asked.at_rest } in
    let bound = c.in_ok-attach.ensures.attached in
    let opening : Seen = record {
      asked = asked;
      live = g.L.Live.content c.args.live.now asked.db;
      live_after = g.L.Live.told c.attach.new.live;
      is_there = g.L.Live.is_there c.args.live.now asked.db;
      attached_after = g.L.Live.attached c.attach.new.live;
      store = g.S.Disk.content c.args.store.now asked.replica;
      store_after = g.S.Disk.told c.settle.new.store;
      folder_after = g.S.Disk.folder c.settle.new.store;
      text = g.O.Out.text c.args.out.now;
      text_after = g.O.Out.text c.args.out.now;
      live_faults = g.L.Live.fault_count c.args.live.now;
      live_faults_after = g.L.Live.fault_count c.attach.new.live;
      store_faults = g.S.Disk.fault_count c.args.store.now;
      store_faults_after = g.S.Disk.fault_count c.settle.new.store;
      sink_faults = g.O.Out.fault_count c.args.out.now;
      sink_faults_after = g.O.Out.fault_count c.args.out.now;
    } in
    let stage = stage_of g.L.Live g.S.Disk g.O.Out asked c.attach.new.live c.under_gate-ended.new.live
    c.settle.new.store c.under_gate-ended.new.store c.args.out.now c.under_gate-ended.new.out in
    let closing : Seen = record {
      asked = asked;
      live = g.L.Live.told c.under_gate-ended.new.live;
      live_after = g.L.Live.content c.leave.new.self asked.db;
      is_there = g.L.Live.is_there c.args.live.now asked.db;
      attached_after = g.L.Live.attached c.leave.new.self;
      store = g.S.Disk.told c.under_gate-ended.new.store;
      store_after = g.S.Disk.content c.under_gate-ended.new.store asked.replica;
      folder_after = g.S.Disk.folder c.under_gate-ended.new.store;
      text = g.O.Out.text c.under_gate-ended.new.out;
      text_after = g.O.Out.text c.under_gate-ended.new.out;
      live_faults = g.L.Live.fault_count c.under_gate-ended.new.live;
      live_faults_after = g.L.Live.fault_count c.leave.new.self;
      store_faults = g.S.Disk.fault_count c.under_gate-ended.new.store;
      store_faults_after = g.S.Disk.fault_count c.under_gate-ended.new.store;
      sink_faults = g.O.Out.fault_count c.under_gate-ended.new.out;
      sink_faults_after = g.O.Out.fault_count c.under_gate-ended.new.out;
    } in
    let runs = c.under_gate-ended.ensures.runs in
    let is_attached : g.L.Live.attached c.leave.new.self ≡ Some attachment =
    c.leave.ensures.keeps.attached ∙ c.under_gate-ended.ensures.keeps.attached ∙ bound.live in
    let folder : g.S.Disk.folder c.under_gate-ended.new.store ≡ Some asked.replica =
    c.under_gate-ended.ensures.same_folder ∙ c.in_ok-settle.ensures.keeps.folder ∙ bound.store in
    let left : closing.live_after ≡ g.L.Live.told c.leave.new.self =
    g.met.L.Live.stands c.leave.new.self attachment is_attached in
    let begun : g.L.Live.content c.attach.new.live asked.db ≡ opening.live_after =
    g.met.L.Live.stands c.attach.new.live attachment bound.live in
    let store_begun : g.S.Disk.told c.attach.new.store ≡ opening.store =
    sym (g.met.S.Disk.stands c.attach.new.store asked.replica bound.store) ∙ c.in_ok-attach.ensures.store in
    let begins : Meets opening stage = record {
      asked = refl;
      live = refl;
      there = ap (λ (is_there : List ℕ → Bool). is_there asked.db) c.in_ok-attach.ensures.there;
      attached = c.under_gate-ended.ensures.keeps.attached;
      store = refl;
      text = refl;
      live_faults = refl;
      store_faults = refl;
      sink_faults = refl;
    } in
    let ends : Meets (joined opening stage) closing = record {
      asked = refl;
      live = refl;
      there = refl;
      attached = c.leave.ensures.keeps.attached;
      store = refl;
      text = refl;
      live_faults = refl;
      store_faults = refl;
      sink_faults = refl;
    } in
    let live : GoesOn opening.live opening.live_after
    (λ old new. IsLater old.database new.database × (new.asked ≡ old.asked)) =
    subst (λ (t : Told). GoesOn opening.live t
    (λ old new. IsLater old.database new.database × (new.asked ≡ old.asked))) begun
    (live_weaker _ _ _ _ c.in_ok-attach.ensures.live (λ x y both. (both.later, both.asked))) in
    let store : disk.GoesOn opening.store opening.store_after HasSyncedNames =
    subst (λ (t : DiskTold). disk.GoesOn t opening.store_after HasSyncedNames) store_begun c.in_ok-settle.ensures.ok in
    let closes : Closes closing = record {
      live = subst (λ (t : Told). GoesOn closing.live t
          (λ old new. IsLater old.database new.database × (new.asked ≡ old.asked))) (sym left)
          (live_weaker _ _ _ _ c.leave.ensures.told
          (λ x y leaves. (later_hold x.database y.database leaves.step, leaves.asked)));
      store = g.met.S.Disk.stands c.under_gate-ended.new.store asked.replica folder;
      text = refl;
      faults = record { live = c.leave.ensures.cause.later; store = omega arith; sink = omega arith };
    } in
    let below : opening.live_faults ≤ closing.live_faults
    = omega (arith, c.in_ok-attach.ensures.cause.live_later, runs.faults.live) in
    whole_ends opening stage closing (why_of c.under_gate-ended.result) begins ends live store refl
    (record {
      live = c.in_ok-attach.ensures.cause.live_later;
      store = omega (arith, c.in_ok-attach.ensures.cause.store_later, c.in_ok-settle.ensures.cause.later);
      sink = omega arith;
    })
    c.in_ok-attach.ensures.cause.explained runs closes
    (λ no_fault memory calm r told.
    let was = told_before closing.live (g.L.Live.told c.leave.new.self) _ c.leave.ensures.told r (sym left ∙ told) in
    left_free c.leave.result was.0 r was.2
    (λ failed. calm (rose_since opening.live_faults closing.live_faults closing.live_faults_after below
    (c.leave.ensures.cause.rose failed))))
    (λ done. record { live = is_attached; store = folder })
