use Rattle.crash_disk.proofs.PutTheorem.{put_is_safe}
use Rattle.crash_disk.proofs.law.put_is_crash_safe.Goals as goal

pub returns : goal.returns
returns c = λ draft name pieces base apart absent image. put_is_safe draft name base apart absent pieces image
