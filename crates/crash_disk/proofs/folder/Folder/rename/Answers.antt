use Rattle.crash_disk.proofs.FolderLemmas.{after_Renamed}
use Rattle.crash_disk.proofs.folder.Folder.rename.Goals as goal

pub invariant_of-self-in-Ok : goal.invariant_of-self-in-Ok
invariant_of-self-in-Ok c =
    after_Renamed c.self.inside.files c.rename.new.self c.self.inside.events.items c.push.new.self.items
    c.self.invariant c.args.from.now c.args.to.now c.in_ok-from_str.field-0 c.in_ok-target.target
    c.in_ok-from_str.ensures c.in_ok-target.ensures c.in_ok-push.ensures.items c.in-Ok.ensures.ok
