use Rattle.crash_disk.proofs.InPlaceLemmas.{last_but_one}
use Rattle.crash_disk.proofs.replayed.length_before.Goals as goal

pub returns-in-len2-up : goal.returns-in-len2-up
returns-in-len2-up c = last_but_one c.args.lengths.now c.in-len2-up.len_at_least
