use Rattle.crash_disk.proofs.FolderLemmas.{after_Synced}
use Rattle.crash_disk.proofs.folder.Folder.sync.Goals as goal

pub invariant_of-self-2 : goal.invariant_of-self-2
invariant_of-self-2 c = after_Synced c.self.inside.files c.self.inside.events.items c.push.new.self.items
    c.self.invariant c.in_ok-from_str.field-0 c.in_ok-push.ensures.items
