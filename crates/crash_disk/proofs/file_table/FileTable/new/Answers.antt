use Rattle.crash_disk.proofs.TableLemmas.{empty-IsShort}
use Rattle.crash_disk.proofs.file_table.FileTable.new.Goals as goal

pub invariant_of-result : goal.invariant_of-result
invariant_of-result c = rw c.new.ensures.empty empty-IsShort
