use Rattle.crash_disk.proofs.FolderLemmas.{after_Cut}
use Rattle.crash_disk.proofs.folder.Folder.cut.Goals as goal

pub invariant_of-self-in-Ok : goal.invariant_of-self-in-Ok
invariant_of-self-in-Ok c =
    after_Cut c.self.inside.files c.cut.new.self c.self.inside.events.items c.push.new.self.items c.self.invariant
    c.args.name.now c.args.size c.in_ok-from_str.field-0
    c.in_ok-from_str.ensures c.in_ok-push.ensures.items c.in-Ok.ensures.ok
