use Rattle.std.proofs.Common.{◌∙◌, List, ◌∷◌, ap}
use Rattle.crash_disk.specs.declared.event.Event.{Event}
use Rattle.crash_disk.specs.declared.event.Event.TheVariants.{Placed}
use Rattle.crash_disk.specs.Memory.{DiskState}
use Rattle.checkpointer.proofs.PlacedLemmas.{placed_named}
use Rattle.checkpointer.proofs.tests.disk_with.Goals as goal

pub returns : goal.returns
returns c = record {
  named =
      placed_named c.put_file-2.new.self.events c.args.db.now c.args.wal.now c.page.result c.args.log.now
      c.requires.apart
      (ap (λ (d : DiskState). d.events) c.in_ok-put_file-2.ensures.ok
      ∙ ap (λ (es : List Event). Placed c.args.wal.now c.args.log.now ∷ es)
      (ap (λ (d : DiskState). d.events) c.in_ok-put_file.ensures.ok
      ∙ ap (λ (es : List Event). Placed c.args.db.now c.page.result ∷ es)
      (ap (λ (d : DiskState). d.events) c.new-disk.ensures)));
}
