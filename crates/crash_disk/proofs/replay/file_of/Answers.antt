use Rattle.crash_disk.specs.Numbers.{file_of}
use Rattle.crash_disk.proofs.replay.file_of.Goals as goal

pub loop-i-init : goal.loop-i-init
unfolding file_of
loop-i-init c = c.in_ok-file.ensures
