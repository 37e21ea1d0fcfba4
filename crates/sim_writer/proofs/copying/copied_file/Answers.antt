use Rattle.std.proofs.Common.{◌≡◌, ◌≢◌, List, [], ◌∷◌, ℕ, ap, subst, ◌∙◌}
use Rattle.crash_disk.specs.declared.event.Event.{Event}
use Rattle.crash_disk.specs.declared.event.Event.TheVariants.{Placed}
use Rattle.crash_disk.specs.Memory.{DiskState}
use Rattle.checkpointer.proofs.PlacedLemmas.{placed_named}
use Rattle.checkpointer.specs.PairState.{AreNamed}
use Rattle.sim_writer.proofs.DiskLemmas.{when_ok, copies_to}
use Rattle.sim_writer.proofs.copying.copied_file.Goals as goal

abbrev db : List ℕ
db = 100 ∷ 98 ∷ []

abbrev wal : List ℕ
wal = 119 ∷ 97 ∷ 108 ∷ []

apart : db ≢ wal
apart same = absurd cc

pub backfill-requires-clause-named : goal.backfill-requires-clause-named
backfill-requires-clause-named c events told =
    let same : c.put_file-2.new.self.events ≡ events = cc in
    let is = ap (λ (d : DiskState). d.events) c.in_ok-put_file-2.ensures.ok
    ∙ ap (λ (es : List Event). Placed wal c.args.log.now ∷ es)
    (ap (λ (d : DiskState). d.events) c.in_ok-put_file.ensures.ok
    ∙ ap (λ (es : List Event). Placed db c.args.file.now ∷ es) (ap (λ (d : DiskState). d.events) c.new-disk.ensures)) in
    subst (λ (es : List Event). AreNamed es db wal) same
    (placed_named c.put_file-2.new.self.events db wal c.args.file.now c.args.log.now apart is)

pub returns-in-Ok : goal.returns-in-Ok
returns-in-Ok c =
    let is = ap (λ (d : DiskState). d.events) c.in_ok-put_file-2.ensures.ok
    ∙ ap (λ (es : List Event). Placed wal c.args.log.now ∷ es)
    (ap (λ (d : DiskState). d.events) c.in_ok-put_file.ensures.ok
    ∙ ap (λ (es : List Event). Placed db c.args.file.now ∷ es) (ap (λ (d : DiskState). d.events) c.new-disk.ensures)) in
    when_ok c.read_file.result c.read_file.ensures
    (copies_to db wal c.args.file.now c.args.log.now apart c.args.upto c.put_file-2.new.self.events
    c.backfill.new.disk.events is c.in-Ok.field-0 c.in-Ok.ensures.value)
