use Rattle.crash_disk.proofs.FolderLemmas.{after_Removed}
use Rattle.crash_disk.proofs.folder.Folder.remove.Goals as goal

pub invariant_of-self-2 : goal.invariant_of-self-2
invariant_of-self-2 c =
    after_Removed c.self.inside.files c.remove.new.self c.self.inside.events.items c.push.new.self.items
    c.self.invariant c.args.name.now c.in_ok-from_str.field-0 c.in_ok-from_str.ensures
    c.in_ok-push.ensures.items c.remove.ensures.removed
