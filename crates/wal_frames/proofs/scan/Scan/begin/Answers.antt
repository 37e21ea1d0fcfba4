use Rattle.std.proofs.Common.{refl, ap}
use Rattle.wal_frames.proofs.TakenLemmas.{same_scan, taken_of}
use Rattle.wal_frames.proofs.BackLemmas.{has_begun}
use Rattle.wal_frames.proofs.scan.Scan.begin.Goals as goal

pub returns-clause-value : goal.returns-clause-value
returns-clause-value c log len accepted =
    taken_of _ _ log (same_scan _ _ refl refl refl refl (ap (λ p. p.bytes) c.in_ok-part.ensures) refl refl)
    (has_begun log c.args.head len accepted)
