use Rattle.std.proofs.Common.{List}
use Rattle.crash_disk.specs.declared.event.Event.{Event}
use Rattle.crash_disk.specs.declared.event.Event.TheVariants.{Cut}
use Rattle.crash_disk.specs.Files.{IsThere}
use Rattle.checkpointer.proofs.ToldLemmas.{gained, still_there_cut}
use Rattle.checkpointer.proofs.restarting.empty.Goals as goal

pub sync-requires : goal.sync-requires
sync-requires g c = record {
  there =
      gained (g.D.Disk.told c.args.disk.now) (g.D.Disk.told c.cut.new.self) (Cut c.args.name.now 0)
      (λ (x : List Event). IsThere x c.args.name.now) (λ (x : List Event). IsThere x c.args.name.now)
      c.in_ok-cut.ensures.ok (λ x there. still_there_cut x c.args.name.now 0 there) c.requires.there;
}
