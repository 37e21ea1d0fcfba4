use Rattle.crash_disk.proofs.SettledLaws.{all_settled, ArePlaced-settled}
use Rattle.crash_disk.proofs.law.crashed_disk_has_one_image.Goals as goal

pub returns : goal.returns
returns c = λ events image placed is. all_settled events image (λ q. ArePlaced-settled events q placed) is
