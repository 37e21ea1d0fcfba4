use Rattle.crash_disk.proofs.FolderLemmas.{after_Wrote}
use Rattle.crash_disk.proofs.folder.Folder.write_at.Goals as goal

pub invariant_of-self-in-Ok : goal.invariant_of-self-in-Ok
invariant_of-self-in-Ok c =
    after_Wrote c.self.inside.files c.write_at.new.self c.self.inside.events.items c.push.new.self.items
    c.self.invariant c.args.name.now c.args.at c.args.bytes.now c.in_ok-from_str.field-0 c.in_ok-record.record
    c.in_ok-from_str.ensures c.in_ok-record.ensures c.in_ok-push.ensures.items c.in-Ok.ensures.ok
