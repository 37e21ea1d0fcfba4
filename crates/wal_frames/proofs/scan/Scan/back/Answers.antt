use Rattle.std.proofs.Common.{refl, ap, arith}
use Rattle.wal_frames.specs.Scanned.{Scanned}
use Rattle.wal_frames.proofs.AcceptedLemmas.{accepts}
use Rattle.wal_frames.proofs.TakenLemmas.{same_scan, taken_of}
use Rattle.wal_frames.proofs.MarkLemmas.{mark_stands}
use Rattle.wal_frames.proofs.BackLemmas.{has_gone_back}
use Rattle.wal_frames.proofs.scan.Scan.back.Goals as goal

pub returns-clause-value : goal.returns-clause-value
returns-clause-value c log t is_mark =
    let s = c.self.inside in
    let old : Scanned = record {
      head = s.head;
      taken = s.taken;
      end = s.end;
      sums = s.sums;
      held = s.part.bytes;
      last
          = s.last;
      stopped = s.stopped;
    } in
    let told = taken_of old c.args.self.now log c.self.view_is t in
    let gone = has_gone_back log s.head (accepts log s.head told.accepted) c.args.to.now
    (mark_stands log s.head c.args.to.now told.accepted is_mark) told.accepted in
    taken_of _ _ _ (same_scan _ _ refl (omega (arith, c.saturating_sub-self-inside.ensures)) refl refl
    (ap (λ p. p.bytes) c.clear.ensures) refl refl) gone

pub returns-clause-exact : goal.returns-clause-exact
returns-clause-exact c =
    same_scan _ _ (ap (λ (v : Scanned). v.head) c.self.view_is) (omega (arith, c.saturating_sub-self-inside.ensures))
    refl refl (ap (λ p. p.bytes) c.clear.ensures) refl refl
