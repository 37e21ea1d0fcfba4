-- A log at whose end a scan would stand, and the frames of a commit behind it.
use Rattle.std.proofs.Common.{◌≡◌, ℕ, ◌+◌, ◌-◌, List, [], ◌∷◌, ◌++◌, length, take, drop, Option}
use Rattle.std.proofs.Common.{None}
use Rattle.std.proofs.Common.{Ok, refl, sym, ap, subst, ◌∙◌, append_assoc, append-nil, length-append, arith}
use Rattle.std.specs.List.{concat}
use Rattle.std.proofs.lemmas.List.{drop_at, take_all}
use Rattle.ls_base.specs.declared.mark.Mark.{Mark}
use Rattle.ls_sums.specs.declared.wal_sum.WalSum.{WalSum}
use Rattle.wal_frames.specs.declared.header.WalHeader.{WalHeader}
use Rattle.wal_frames.specs.declared.frame.Frame.TheVariants.{Valid}
use Rattle.wal_frames.specs.WalFormat.{read_header}
use Rattle.wal_frames.specs.WalFrame.{frame_length, frame_bytes, checked}
use Rattle.wal_frames.specs.ValidPrefix.{valid_frames}
use Rattle.wal_frames.specs.Marks.{end_of, mark_with}
use Rattle.wal_frames.specs.Scanned.{Scanned}
use Rattle.wal_frames.proofs.AcceptedLemmas.{accepts}
use Rattle.wal_frames.proofs.BackLemmas.{has_begun}
use Rattle.wal_frames.proofs.LogLemmas.{frame_stands}
use Rattle.wal_frames.proofs.MarkLemmas.{mark_after, valid_is}
use Rattle.wal_frames.proofs.TakenLemmas.{same_scan, taken_of, taken_valid}
use Rattle.sim_writer.specs.CommitFrames.{PagesByNumber, AreChecked, page_in, size_before, frame_sums}
use Rattle.sim_writer.specs.CommitFrames.{commit_frames, commit_sums}
use Rattle.sim_writer.specs.Sound.{standing, StandsAt}

-- ---- behind the header

pub stands_begun : (h : WalHeader) (log : List ℕ) → length log ≡ 32 → read_header log ≡ Ok h
    → StandsAt h (record { s0 = h.s0; s1 = h.s1 }) None log
stands_begun h log len accepted =
    let sums : WalSum = record { s0 = h.s0; s1 = h.s1 } in
    let none : 0 ≡ length log - 32 = omega (arith, len) in
    record {
      taken = taken_of (standing h sums None log)
          (record { head = h; taken = 0; end = 32; sums = sums; held = []; last = None; stopped = None }) log
          (same_scan _ _ refl (sym none) len refl refl refl refl) (has_begun log h len accepted);
    }

-- ---- one frame more

module _ (h : WalHeader) (sums : WalSum) (last : Option Mark) (log : List ℕ) (s : StandsAt h sums last log)
    (frame : List ℕ) (number commit : ℕ) (after : WalSum) (whole : length frame ≡ frame_length h)
    (valid : checked h sums frame ≡ Valid number commit after) where
  abbrev last_now : Option Mark
  last_now = mark_after last (mark_with h (length log + frame_length h) after commit)

  abbrev old : Scanned
  old = standing h sums last log

  grows : length (log ++ frame) ≡ length log + frame_length h
  grows = omega (arith, length-append log frame, whole)

  scan_is : standing h after last_now (log ++ frame) ≡ record old {
    taken = old.taken + length frame;
    end = old.end + frame_length h;
    sums = after;
    held = [];
    last = last_now;
  }
  scan_is =
      let long = (accepts log h s.taken.accepted).long in
      let taken : length (log ++ frame) - 32 ≡ length log - 32 + length frame = omega (
        arith,
        long,
        length-append log
            frame,
      ) in
      same_scan _ _ refl taken grows refl refl refl refl

  more : StandsAt h after last_now (log ++ frame)
  more = record {
    taken = taken_of (standing h after last_now (log ++ frame)) _ (log ++ frame) scan_is
        (taken_valid old log s.taken frame number commit after refl (omega (arith, whole)) valid).0;
  }

  -- the frame is the one that was written
  next_frames : valid_frames (log ++ frame) ≡ valid_frames log ++ frame ∷ []
  next_frames =
      let ends = (taken_valid old log s.taken frame number commit after refl (omega (arith, whole)) valid).1 in
      let end : length log ≡ end_of h (valid_frames log) = s.taken.is_end
      ∙ sym (ap (end_of h) (valid_is log h s.taken.accepted)) in
      let at = frame_stands (log ++ frame) h (valid_frames log) ends.frame [] more.taken.accepted ends.next in
      let behind : drop (end_of h (valid_frames log)) (log ++ frame) ≡ frame = drop_at log frame (end_of h
      (valid_frames log)) end in
      let same : ends.frame ≡ frame =
      at.bytes ∙ ap (take (frame_length h)) behind ∙ take_all (frame_length h) frame (omega (arith, whole)) in
      ends.next ∙ ap (λ (f : List ℕ). valid_frames log ++ f ∷ []) same

-- ---- all frames of a commit

-- the last mark behind frames of which the last commits with these sums
abbrev pub last_behind : WalHeader → WalSum → PagesByNumber → ℕ → List ℕ → List ℕ → Option Mark → Option Mark
last_behind h sums m size [] log last = last
last_behind h sums m size (n ∷ ns) log last =
    let now = frame_sums h sums m n (size_before size ns) in
    last_behind h now m size ns (log ++ frame_bytes h now n (size_before size ns) (page_in m n))
    (mark_after last (mark_with h (length log + frame_length h) now (size_before size ns)))

-- each page of these numbers has the page size
abbrev pub AreSized : ℕ → PagesByNumber → List ℕ → Type 0
AreSized size m [] = Unit {0}
AreSized size m (n ∷ ns) = (length (page_in m n) ≡ size) × AreSized size m ns

pub length-frame_bytes : (h : WalHeader) (s : WalSum) (n commit : ℕ) (page : List ℕ) → length page ≡ h.size
    → length (frame_bytes h s n commit page) ≡ frame_length h
unfolding frame_bytes
length-frame_bytes h s n commit page len = omega (arith, len)

-- what a log is after them
pub record HasGrown (h : WalHeader) (sums : WalSum) (last : Option Mark) (log grown : List ℕ) (more : List (List ℕ))
    : Type 0
  where
    pub stands : StandsAt h sums last grown
    pub frames : valid_frames grown ≡ valid_frames log ++ more

module _ (h : WalHeader) (m : PagesByNumber) (size : ℕ) where
  pub grown_by : (ns : List ℕ) (sums : WalSum) (last : Option Mark) (log : List ℕ) → StandsAt h sums last log
      → AreSized h.size m ns → AreChecked h sums m size ns
      → HasGrown h (commit_sums h sums m size ns) (last_behind h sums m size ns log last) log
      (log ++ concat (commit_frames h sums m size ns)) (commit_frames h sums m size ns)
  grown_by [] sums last log s sized valid =
      record {
        stands = subst (λ (b : List ℕ). StandsAt h sums last b) (sym (append-nil log)) s;
        frames = ap valid_frames (append-nil log) ∙ sym (append-nil (valid_frames log));
      }
  grown_by (n ∷ ns) sums last log s (len, sized) (first, valid) =
      let commit = size_before size ns in
      let now = frame_sums h sums m n commit in
      let frame = frame_bytes h now n commit (page_in m n) in
      let whole = length-frame_bytes h now n commit (page_in m n) len in
      let later = grown_by ns now (last_now h sums last log s frame n commit now whole first) (log ++ frame)
      (more h sums last log s frame n commit now whole first) sized valid in
      let bytes = append_assoc log frame (concat (commit_frames h now m size ns)) in
      let behind = last_behind h now m size ns (log ++ frame) (last_now h sums last log s frame n commit now whole
      first) in
      record {
        stands = subst (λ (b : List ℕ). StandsAt h (commit_sums h now m size ns) behind b) bytes later.stands;
        frames = ap valid_frames (sym bytes) ∙ later.frames
            ∙ ap (λ (fs : List (List ℕ)). fs ++ commit_frames h now m size ns)
            (next_frames h sums last log s frame n commit now whole first)
            ∙ append_assoc (valid_frames log) (frame ∷ []) (commit_frames h now m size ns);
      }
