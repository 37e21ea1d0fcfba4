use Rattle.std.proofs.Common.{◌≡◌, ◌∙◌, ◌+◌, ◌-◌, ◌++◌, List, [], ℕ, Some, length, take, drop, sym, ap, subst, refl}
use Rattle.std.proofs.Common.{append_assoc, length-append, arith}
use Rattle.std.proofs.lemmas.List.{length-take-le, take-append-drop}
use Rattle.ls_base.specs.declared.mark.Mark.{Mark}
use Rattle.wal_frames.specs.WalFrame.{frame_length}
use Rattle.wal_frames.specs.ValidPrefix.{valid_frames}
use Rattle.wal_frames.specs.Marks.{mark_with}
use Rattle.wal_frames.specs.Scanned.{Scanned, HasTaken, EndsFrame}
use Rattle.wal_frames.proofs.MarkLemmas.{mark_after}
use Rattle.wal_frames.proofs.TakenLemmas.{same_scan, taken_of, some_of, none_of, taken_stopped, taken_part, taken_valid}
use Rattle.wal_frames.proofs.TakenLemmas.{taken_not}
use Rattle.wal_frames.proofs.scan.Scan.feed.Goals as goal

pub returns-then-is_some-clause-value : goal.returns-then-is_some-clause-value
returns-then-is_some-clause-value c = (
  ap (λ (v : Scanned). v.taken + length c.args.piece.now) c.self.view_is,
  λ log t.
      let s = c.self.inside in
      let old : Scanned = record {
        head = s.head;
        taken = s.taken;
        end = s.end;
        sums = s.sums;
        held = s.part.bytes;
        last = s.last;
        stopped = s.stopped;
      } in
      let stop = some_of s.stopped (sym c.is_some.ensures ∙ c.if-is_some.true) in
      taken_stopped old log (taken_of old c.args.self.now log c.self.view_is t) c.args.piece.now stop.0 stop.1,
)

pub returns-then-piece-missing-clause-value : goal.returns-then-piece-missing-clause-value
returns-then-piece-missing-clause-value c = (
  ap (λ (v : Scanned). v.taken + length c.args.piece.now) c.self.view_is,
  λ log t.
      let s = c.self.inside in
      let old : Scanned = record {
        head = s.head;
        taken = s.taken;
        end = s.end;
        sums = s.sums;
        held = s.part.bytes;
        last = s.last;
        stopped = s.stopped;
      } in
      let none = none_of s.stopped (sym c.is_some.ensures ∙ c.if-is_some.false) in
      rw c.push.ensures (taken_part old log (taken_of old c.args.self.now log c.self.view_is t) c.args.piece.now none
      (omega (arith, c.if-piece-missing.true, c.len.ensures.value, c.get.ensures.value))),
)

pub returns-in-Valid-clause-value : goal.returns-in-Valid-clause-value
returns-in-Valid-clause-value c = (
  omega (arith, c.len.ensures.value, c.get.ensures.value, c.self.invariant.1, c.self.invariant.0),
  c.if-piece-missing.false,
  ap (λ (v : Scanned). v.taken + (24 + c.get.result - c.len.result)) c.self.view_is,
  λ log t.
      let s = c.self.inside in
      let old : Scanned = record {
        head = s.head;
        taken = s.taken;
        end = s.end;
        sums = s.sums;
        held = s.part.bytes;
        last = s.last;
        stopped = s.stopped;
      } in
      let missing = 24 + c.get.result - c.len.result in
      let x = take missing c.args.piece.now in
      let len : length x ≡ missing = length-take-le missing c.args.piece.now c.if-piece-missing.false in
      let size : c.get.result ≡ s.head.size = c.get.ensures.value in
      let none = none_of s.stopped (sym c.is_some.ensures ∙ c.if-is_some.false) in
      let whole : length s.part.bytes + length x ≡ frame_length s.head = omega
      (arith, len, size, c.len.ensures.value, c.self.invariant.1, c.self.invariant.0) in
      let got = taken_valid old log (taken_of old c.args.self.now log c.self.view_is t) x c.in-Valid.number
      c.in-Valid.commit c.in-Valid.sums none whole (sym c.checked.ensures.value ∙ c.in-Valid.is) in
      let end : s.end + (24 + c.get.result) ≡ s.end + frame_length s.head = omega (arith, size) in
      let last : c.last_after-self-inside.result ≡ mark_after s.last
      (mark_with s.head (s.end + frame_length s.head) c.in-Valid.sums c.in-Valid.commit) =
      c.last_after-self-inside.ensures ∙ ap (λ (m : Mark). mark_after s.last m)
      (c.mark_at.ensures ∙ ap (λ (n : ℕ). mark_with s.head n c.in-Valid.sums c.in-Valid.commit) end) in (
        taken_of _ _ (log ++ x) (same_scan _ _ refl (omega (arith, len)) end refl
            (ap (λ p. p.bytes) c.checked.ensures.held) last refl) got.0,
        subst (λ (n : ℕ). EndsFrame log (log ++ x) c.in-Valid.number c.in-Valid.commit n) (sym end) got.1,
      ),
)

pub returns-in-Not-clause-value : goal.returns-in-Not-clause-value
returns-in-Not-clause-value c = (
  ap (λ (v : Scanned). v.taken + length c.args.piece.now) c.self.view_is,
  λ log t.
      let s = c.self.inside in
      let old : Scanned = record {
        head = s.head;
        taken = s.taken;
        end = s.end;
        sums = s.sums;
        held = s.part.bytes;
        last = s.last;
        stopped = s.stopped;
      } in
      let missing = 24 + c.get.result - c.len.result in
      let piece = c.args.piece.now in
      let x = take missing piece in
      let len : length x ≡ missing = length-take-le missing piece c.if-piece-missing.false in
      let size : c.get.result ≡ s.head.size = c.get.ensures.value in
      let none = none_of s.stopped (sym c.is_some.ensures ∙ c.if-is_some.false) in
      let whole : length s.part.bytes + length x ≡ frame_length s.head = omega
      (arith, len, size, c.len.ensures.value, c.self.invariant.1, c.self.invariant.0) in
      let got = taken_not old log (taken_of old c.args.self.now log c.self.view_is t) x c.in-Not.fault none whole
      (sym c.checked.ensures.value ∙ c.in-Not.is) in
      let y = drop missing piece in
      let mid : Scanned = record old { taken = old.taken + length x; held = []; stopped = Some c.in-Not.fault } in
      let after = taken_stopped mid (log ++ x) got.0 y c.in-Not.fault refl in
      let whole_piece : x ++ y ≡ piece = take-append-drop missing piece in
      let joined : (log ++ x) ++ y ≡ log ++ piece = append_assoc log x y
      ∙ ap (λ (xs : List ℕ). log ++ xs) whole_piece in
      let lengths : s.taken + length piece ≡ s.taken + length x + length y = omega
      (arith, length-append x y, ap (λ (xs : List ℕ). length xs) whole_piece) in
      let final : Scanned = record mid { taken = mid.taken + length y } in (
        taken_of _ final (log ++ piece)
            (same_scan _ final refl lengths refl refl (ap (λ p. p.bytes) c.checked.ensures.held) refl refl)
            (subst (λ (l : List ℕ). HasTaken final l) joined after.0),
        ap valid_frames (sym joined) ∙ after.1 ∙ got.1,
      ),
)
