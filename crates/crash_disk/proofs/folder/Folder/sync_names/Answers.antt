use Rattle.crash_disk.proofs.FolderLemmas.{after_NamesSynced}
use Rattle.crash_disk.proofs.folder.Folder.sync_names.Goals as goal

pub invariant_of-self-2 : goal.invariant_of-self-2
invariant_of-self-2 c = after_NamesSynced c.self.inside.files c.self.inside.events.items c.push.new.self.items
    c.self.invariant c.in_ok-push.ensures.items
