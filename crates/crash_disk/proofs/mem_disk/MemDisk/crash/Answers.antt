use Rattle.std.proofs.Common.{ap, ◌∙◌}
use Rattle.crash_disk.specs.Memory.{DiskState}
use Rattle.crash_disk.specs.Files.{files_after}
use Rattle.crash_disk.specs.Crash.{file_left}
use Rattle.crash_disk.proofs.CrashFileLaws.{IsCrashImage-left}
use Rattle.crash_disk.proofs.mem_disk.MemDisk.crash.Goals as goal

pub returns-clause-image : goal.returns-clause-image
returns-clause-image c =
    IsCrashImage-left c.args.choice c.args.self.now.events (files_after c.in_ok-self-inside.field-0)
    (λ q. c.in_ok-self-inside.ensures.files q ∙ ap (λ (d : DiskState). file_left c.args.choice d.events q)
    c.self.view_is)
