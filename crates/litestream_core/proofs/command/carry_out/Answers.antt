use Rattle.std.proofs.Common.{sym, subst, ◌∙◌, refl}
use Rattle.replicate_command.specs.Asked.{asked_by}
use Rattle.ls_answers.specs.declared.outcome.Why.TheVariants.{NotBuilt}
use Rattle.litestream_core.specs.Carries.{Carries}
use Rattle.litestream_core.specs.Command.{Explains}
use Rattle.litestream_core.specs.Objects.{Kinds, Objects}
use Rattle.litestream_core.specs.RequestView.{as_request}
use Rattle.litestream_core.specs.Scene.{scene_of}
use Rattle.litestream_core.proofs.CarriesLemmas.{restore_ends, ends_restore, ends_replication, ends_unbuilt}
use Rattle.litestream_core.proofs.CarriesLemmas.{carries_early}
use Rattle.litestream_core.proofs.CommandLemmas.{where_done}
use Rattle.litestream_core.proofs.command.carry_out.Goals as goal

pub returns-in-Some : goal.returns-in-Some
returns-in-Some g c =
    let r = as_request c.in-Some.request in
    let why = c.cause_of.result in
    let before : Objects _ _ _ _ = record {
      live = c.args.live.now;
      store = c.args.store.now;
      target = c.args.target.now;
      out = c.args.out.now;
    } in
    let after : Objects _ _ _ _ = record {
      live = c.args.live.now;
      store = c.restore.new.store;
      target = c.restore.new.target;
      out = c.restore.new.out;
    } in
    let kinds : Kinds _ _ _ _ = record {
      live = g.L.Live;
      store = g.S.Disk;
      target = g.T.Disk;
      out = g.O.Out;
    } in
    let scene = scene_of kinds.store kinds.target kinds.out r before.store after.store before.target after.target
    before.out after.out in
    let explained : Explains r scene why =
    subst (Explains r scene) (sym c.cause_of.ensures) c.restore.ensures.explained in
    let ends = restore_ends c.laws.ensures r scene (kinds.store.folder after.store) (kinds.target.folder after.target)
    why explained
    (λ done. where_done c.restore.result _ c.restore.ensures.attached c.restore.ensures.not_done
    (sym c.cause_of.ensures ∙ done))
    c.restore.ensures.store_unchanged c.restore.ensures.later in
    subst (Carries kinds before after why c.args.now) (sym c.in-Ok.ensures.ok)
    (ends_restore kinds before after why c.args.now c.in-Ok.command r c.in-Some.ensures
    (record { ends = ends; live = refl }))

pub returns-in-Some-replication_in : goal.returns-in-Some-replication_in
returns-in-Some-replication_in g c =
    let before : Objects _ _ _ _ = record {
      live = c.args.live.now;
      store = c.args.store.now;
      target = c.args.target.now;
      out = c.args.out.now;
    } in
    let after : Objects _ _ _ _ = record {
      live = c.replicate.new.live;
      store = c.replicate.new.store;
      target = c.args.target.now;
      out = c.replicate.new.out;
    } in
    let kinds : Kinds _ _ _ _ = record {
      live = g.L.Live;
      store = g.S.Disk;
      target = g.T.Disk;
      out = g.O.Out;
    } in
    subst (Carries kinds before after c.replicate.result c.args.now) (sym c.in-Ok.ensures.ok)
    (ends_replication kinds before after c.replicate.result c.args.now c.in-Ok.command
    (asked_by c.in-Some-replication_in.request c.args.now) (c.in-Some-replication_in.ensures c.args.now)
    (record { ends = c.replicate.ensures; target = refl }))

pub returns-in-Err-Memory : goal.returns-in-Err-Memory
returns-in-Err-Memory g c = carries_early _ _ c.args.now c.laws.ensures c.refused_at_once.ensures _

pub returns : goal.returns
returns g c =
    let before : Objects _ _ _ _ = record {
      live = c.args.live.now;
      store = c.args.store.now;
      target = c.args.target.now;
      out = c.args.out.now;
    } in
    let kinds : Kinds _ _ _ _ = record {
      live = g.L.Live;
      store = g.S.Disk;
      target = g.T.Disk;
      out = g.O.Out;
    } in
    subst (Carries kinds before before NotBuilt c.args.now) (sym c.in-Ok.ensures.ok)
    (ends_unbuilt kinds before c.args.now c.in-Ok.command c.in_default.ensures c.in_default-listed_in.ensures
    (c.in_default-replication_in.ensures c.args.now))
