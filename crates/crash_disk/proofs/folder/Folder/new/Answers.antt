use Rattle.crash_disk.proofs.FolderLemmas.{no_files}
use Rattle.crash_disk.proofs.folder.Folder.new.Goals as goal

pub invariant_of-result : goal.invariant_of-result
invariant_of-result c = no_files _ _ c.new-2.ensures c.new.ensures.items
