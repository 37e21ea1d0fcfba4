use Rattle.crash_disk.proofs.FolderLemmas.{after_Created}
use Rattle.crash_disk.proofs.folder.Folder.create.Goals as goal

pub invariant_of-self-in-Ok : goal.invariant_of-self-in-Ok
invariant_of-self-in-Ok c =
    after_Created c.self.inside.files c.put.new.self c.self.inside.events.items c.push.new.self.items c.self.invariant
    c.args.name.now c.in_ok-from_str.field-0 c.new.result c.in_ok-from_str.ensures c.new.ensures
    c.in_ok-push.ensures.items c.in-Ok.ensures.ok
