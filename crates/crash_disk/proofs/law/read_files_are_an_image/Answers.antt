use Rattle.crash_disk.proofs.ImageLaws.{IsCrashImage-reads}
use Rattle.crash_disk.proofs.law.read_files_are_an_image.Goals as goal

pub returns : goal.returns
returns c = IsCrashImage-reads
