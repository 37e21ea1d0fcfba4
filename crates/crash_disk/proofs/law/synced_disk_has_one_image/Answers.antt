use Rattle.crash_disk.proofs.SettledLaws.{all_synced}
use Rattle.crash_disk.proofs.law.synced_disk_has_one_image.Goals as goal

pub returns : goal.returns
returns c = all_synced
