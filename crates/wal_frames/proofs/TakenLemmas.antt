-- What a scan has found after one piece more.
use Rattle.std.proofs.Common.{◌≡◌, ◌∙◌, ℕ, ◌+◌, ◌-◌, ◌*◌, ◌<◌, true, false, List, [], ◌∷◌, ◌++◌, length, take, drop}
use Rattle.std.proofs.Common.{Option, Some, None, Ok, sym, ap, subst, refl, arith, length-append, append-nil}
use Rattle.std.specs.List.{last_or}
use Rattle.std.specs.Option.{is_some}
use Rattle.std.proofs.lemmas.List.{take-append-le, drop-append-le, drop_all, length-take-le}
use Rattle.ls_base.specs.declared.mark.Mark.{Mark}
use Rattle.ls_sums.specs.declared.wal_sum.WalSum.{WalSum}
use Rattle.wal_frames.specs.declared.header.WalHeader.{WalHeader}
use Rattle.wal_frames.specs.declared.fault.NotValid.{NotValid}
use Rattle.wal_frames.specs.declared.frame.Frame.TheVariants.{Valid, Not}
use Rattle.wal_frames.specs.WalFormat.{read_header, sums_at}
use Rattle.wal_frames.specs.WalFrame.{frame_length, summed_part, sums_after, frame_fault, checked}
use Rattle.wal_frames.specs.ValidPrefix.{prefix_sums, fault_behind, if_valid, stop_behind, whole_frames, frames_under}
use Rattle.wal_frames.specs.ValidPrefix.{stop_under, valid_frames}
use Rattle.wal_frames.specs.Marks.{end_of, mark_with, mark_of, marks_behind, last_mark_of}
use Rattle.wal_frames.specs.Scanned.{Scanned, HasTaken, held_behind, EndsFrame}
use Rattle.wal_frames.proofs.FrameLemmas.{size_in_eights}
use Rattle.wal_frames.proofs.AcceptedLemmas.{Accepts, accepts, read_header-append}
use Rattle.wal_frames.proofs.CutLemmas.{many, rest, rest_is, length-rest, length-whole_frames, whole_frames-long}
use Rattle.wal_frames.proofs.CutLemmas.{whole_frames-part, whole_frames-more, whole_frames-grow}
use Rattle.wal_frames.proofs.PrefixLemmas.{prefix_sums-more, valid-all, valid-more, stop-more, valid-stopped}
use Rattle.wal_frames.proofs.PrefixLemmas.{stop-stopped}
use Rattle.wal_frames.proofs.MarkLemmas.{valid_is, mark_after, last_is, last-more}
use Rattle.wal_frames.proofs.CheckedLemmas.{says_valid, says_not, sums_stored, fault_running}

-- what a scan keeps, field by field
pub same_scan : (a b : Scanned) → a.head ≡ b.head → a.taken ≡ b.taken → a.end ≡ b.end → a.sums ≡ b.sums
    → a.held ≡ b.held → a.last ≡ b.last → a.stopped ≡ b.stopped → a ≡ b
same_scan a b head taken end sums held last stopped =
    λ i. record {
      head = head i;
      taken = taken i;
      end = end i;
      sums = sums i;
      held = held i;
      last = last i;
      stopped =
          stopped i;
    }

pub taken_of : (a b : Scanned) (log : List ℕ) → a ≡ b → HasTaken b log → HasTaken a log
taken_of a b log e t = subst (λ (s : Scanned). HasTaken s log) (sym e) t

pub some_of : (stop : Option NotValid) → is_some stop ≡ true → (e : NotValid) × (stop ≡ Some e)
some_of None some = absurd cc
some_of (Some e) some = (e, refl)

pub none_of : (stop : Option NotValid) → is_some stop ≡ false → stop ≡ None
none_of None none = refl
none_of (Some e) none = absurd cc

-- the valid prefix, and where it stops, are the same of two logs
record SamePrefix (h : WalHeader) (before after : List ℕ) : Type 0 where
  frames : frames_under h after ≡ frames_under h before
  stop : stop_under h after ≡ stop_under h before

module _ (h : WalHeader) (log : List ℕ) (a : Accepts h log) (x : List ℕ) where
  same_front : take 24 (log ++ x) ≡ take 24 log
  same_front = let long = a.long in take-append-le 24 log x (omega arith)

  -- behind a frame that isn't valid
  stopped_grows : (e : NotValid) → stop_under h log ≡ Some e → SamePrefix h log (log ++ x)
  stopped_grows e stopped =
      let more = whole_frames-grow h log a.long x in
      record {
        frames = rw (same_front, more.1) (valid-stopped (take 24 log) h e [] (whole_frames h log) more.0 stopped);
        stop = rw (same_front, more.1)
            (stop-stopped (take 24 log) h e [] (whole_frames h log) more.0 stopped ∙ sym stopped);
      }

  -- by less than what is missing of a frame
  part_grows : length (rest h log a.long) + length x < frame_length h → SamePrefix h log (log ++ x)
  part_grows less =
      let same = whole_frames-part h log a.long x less in
      record { frames = rw (same_front, same) refl; stop = rw (same_front, same) refl }

  -- by what is missing of a frame
  more_frames : stop_under h log ≡ None → length (rest h log a.long) + length x ≡ frame_length h
      → frames_under h (log ++ x) ≡ whole_frames h log ++ if_valid
      (fault_behind (take 24 log) h (whole_frames h log) (rest h log a.long ++ x)) (rest h log a.long ++ x) []
  more_frames none whole = rw (same_front, whole_frames-more h log a.long x whole)
      (valid-more (take 24 log) h [] (whole_frames h log) ((rest h log a.long ++ x) ∷ []) none)

  more_stop : stop_under h log ≡ None → length (rest h log a.long) + length x ≡ frame_length h
      → stop_under h (log ++ x) ≡ stop_behind (take 24 log) h (whole_frames h log) ((rest h log a.long ++ x) ∷ [])
  more_stop none whole = rw (same_front, whole_frames-more h log a.long x whole)
      (stop-more (take 24 log) h [] (whole_frames h log) ((rest h log a.long ++ x) ∷ []) none)

-- ---- the cases of `feed`

module _ (old : Scanned) (log : List ℕ) (t : HasTaken old log) where
  h : WalHeader
  h = old.head

  a : Accepts old.head log
  a = accepts log old.head t.accepted

  -- where nothing stopped, the prefix is all whole frames, and what is held is the rest
  all_valid : old.stopped ≡ None → frames_under old.head log ≡ whole_frames old.head log
  all_valid none = valid-all (take 24 log) old.head [] (whole_frames old.head log) (sym t.is_stopped ∙ none)

  end_is : old.stopped ≡ None → end_of old.head (frames_under old.head log) ≡ 32 + many old.head log a.long *
      frame_length old.head
  end_is none = rw (all_valid none, length-whole_frames old.head log a.long) refl

  is_rest : old.stopped ≡ None → drop (end_of old.head (frames_under old.head log)) log ≡ rest old.head log a.long
  is_rest none = ap (λ (n : ℕ). drop n log) (end_is none) ∙ sym (rest_is old.head log a.long)

  held_is : old.stopped ≡ None → old.held ≡ rest old.head log a.long
  held_is none =
      t.is_held ∙ ap (λ (stop : Option NotValid). held_behind stop
      (drop (end_of old.head (frames_under old.head log)) log)) (sym t.is_stopped ∙ none) ∙ is_rest none

  module _ (x : List ℕ) where
    grown : read_header (log ++ x) ≡ Ok old.head
    grown = read_header-append log x a.long ∙ t.accepted

    longer : old.taken + length x ≡ length (log ++ x) - 32
    longer = let long = a.long in omega (arith, t.is_taken, length-append log x)

    same_last : frames_under old.head (log ++ x) ≡ frames_under old.head log
        → last_mark_of log ≡ last_mark_of (log ++ x)
    same_last same = last_is log old.head (frames_under old.head log) t.accepted refl
        ∙ sym (last_is (log ++ x) old.head (frames_under old.head log) grown same)

    same_valid : SamePrefix old.head log (log ++ x) → valid_frames (log ++ x) ≡ valid_frames log
    same_valid same = valid_is (log ++ x) old.head grown ∙ same.frames ∙ sym (valid_is log old.head t.accepted)

    held_more : old.stopped ≡ None → old.held ++ x ≡ drop (end_of old.head (frames_under old.head log)) (log ++ x)
    held_more none =
        let end = end_of old.head (frames_under old.head log) in
        ap (λ (xs : List ℕ). xs ++ x) (held_is none ∙ sym (is_rest none))
        ∙ sym (drop-append-le end log x (omega (arith, end_is none, length-rest old.head log a.long)))

    -- behind a frame that isn't valid
    pub taken_stopped : (e : NotValid) → old.stopped ≡ Some e
        → HasTaken (record old { taken = old.taken + length x }) (log ++ x)
        × (valid_frames (log ++ x) ≡ valid_frames log)
    taken_stopped e stopped =
        let stop : stop_under old.head log ≡ Some e = sym t.is_stopped ∙ stopped in
        let same = stopped_grows old.head log a x e stop in (
          record {
            accepted = grown;
            is_taken = longer;
            is_end = t.is_end ∙ ap (end_of old.head) (sym same.frames);
            is_sums = rw (same.frames, same_front old.head log a x) t.is_sums;
            is_held = rw (same.stop, stop)
                (t.is_held ∙ ap (λ (s : Option NotValid). held_behind s
                (drop (end_of old.head (frames_under old.head log)) log)) stop);
            is_last = t.is_last ∙ same_last same.frames;
            is_stopped = t.is_stopped ∙ sym same.stop;
          },
          same_valid same,
        )

    -- a part of a frame
    pub taken_part : old.stopped ≡ None → length old.held + length x < frame_length old.head
        → HasTaken (record old { taken = old.taken + length x; held = old.held ++ x }) (log ++ x)
        × (valid_frames (log ++ x) ≡ valid_frames log)
    taken_part none less =
        let stop : stop_under old.head log ≡ None = sym t.is_stopped ∙ none in
        let same = part_grows old.head log a x (rw (← held_is none) less) in (
          record {
            accepted = grown;
            is_taken = longer;
            is_end = t.is_end ∙ ap (end_of old.head) (sym same.frames);
            is_sums = rw (same.frames, same_front old.head log a x) t.is_sums;
            is_held = rw (same.stop, stop, same.frames) (held_more none);
            is_last = t.is_last ∙ same_last same.frames;
            is_stopped = t.is_stopped ∙ sym same.stop;
          },
          same_valid same,
        )

    -- ---- a whole frame

    one_more : (end size many : ℕ) → end ≡ 32 + many * size → end + size ≡ 32 + (many + 1) * size
    one_more end size many e = omega (arith, e)

    whole_is : old.stopped ≡ None → length old.held + length x ≡ frame_length old.head
        → length (rest old.head log a.long) + length x ≡ frame_length old.head
    whole_is none whole = rw (← held_is none) whole

    -- its fault, by the running sums
    fault_is : old.stopped ≡ None → fault_behind (take 24 log) old.head (whole_frames old.head log) (old.held ++ x)
        ≡ frame_fault old.head (sums_after old.head.order old.sums (summed_part (old.held ++ x))) (old.held ++ x)
    fault_is none =
        let long = a.long in
        let front : length (take 24 log) ≡ 24 = length-take-le 24 log (omega arith) in
        let sums : old.sums ≡ prefix_sums (take 24 log) old.head (whole_frames old.head log) = t.is_sums
        ∙ ap (prefix_sums (take 24 log) old.head) (all_valid none) in
        fault_running (take 24 log) old.head (whole_frames old.head log) (old.held ++ x) front
        (size_in_eights old.head.size a.size) (whole_frames-long old.head log a.long)
        ∙ ap (λ (s : WalSum). frame_fault old.head (sums_after old.head.order s (summed_part (old.held ++ x)))
        (old.held ++ x)) (sym sums)

    frames_are : old.stopped ≡ None → length old.held + length x ≡ frame_length old.head
        → frames_under old.head (log ++ x) ≡ whole_frames old.head log ++ if_valid
        (fault_behind (take 24 log) old.head (whole_frames old.head log) (old.held ++ x)) (old.held ++ x) []
    frames_are none whole =
        more_frames old.head log a x (sym t.is_stopped ∙ none) (whole_is none whole)
        ∙ ap (λ (f : List ℕ). whole_frames old.head log ++ if_valid
        (fault_behind (take 24 log) old.head (whole_frames old.head log) f) f [])
        (ap (λ (xs : List ℕ). xs ++ x) (sym (held_is none)))

    stop_is : old.stopped ≡ None → length old.held + length x ≡ frame_length old.head
        → stop_under old.head (log ++ x) ≡ stop_behind (take 24 log) old.head (whole_frames old.head log)
        ((old.held ++ x) ∷ [])
    stop_is none whole =
        more_stop old.head log a x (sym t.is_stopped ∙ none) (whole_is none whole)
        ∙ ap (λ (f : List ℕ). stop_behind (take 24 log) old.head (whole_frames old.head log) (f ∷ []))
        (ap (λ (xs : List ℕ). xs ++ x) (sym (held_is none)))

    -- one that isn't valid
    pub taken_not : (e : NotValid) → old.stopped ≡ None → length old.held + length x ≡ frame_length old.head
        → checked old.head old.sums (old.held ++ x) ≡ Not e
        → HasTaken (record old { taken = old.taken + length x; held = []; stopped = Some e }) (log ++ x)
        × (valid_frames (log ++ x) ≡ valid_frames log)
    taken_not e none whole not =
        let fault : fault_behind (take 24 log) old.head (whole_frames old.head log) (old.held ++ x) ≡ Some e =
        fault_is none ∙ says_not _ _ _ e not in
        let stop : stop_under old.head (log ++ x) ≡ Some e = stop_is none whole ∙ rw fault refl in
        let frames : frames_under old.head (log ++ x) ≡ frames_under old.head log =
        frames_are none whole ∙ rw fault (append-nil (whole_frames old.head log)) ∙ sym (all_valid none) in (
          record {
            accepted = grown;
            is_taken = longer;
            is_end = t.is_end ∙ ap (end_of old.head) (sym frames);
            is_sums = rw (frames, same_front old.head log a x) t.is_sums;
            is_held = rw stop refl;
            is_last = t.is_last ∙ same_last frames;
            is_stopped = sym stop;
          },
          valid_is (log ++ x) old.head grown ∙ frames ∙ sym (valid_is log old.head t.accepted),
        )

    -- a valid one
    pub taken_valid : (number commit : ℕ) (after : WalSum) → old.stopped ≡ None
        → length old.held + length x ≡ frame_length old.head
        → checked old.head old.sums (old.held ++ x) ≡ Valid number commit after
        → HasTaken (record old {
          taken = old.taken + length x;
          end = old.end + frame_length old.head;
          sums = after;
          held = [];
          last = mark_after old.last (mark_with old.head (old.end + frame_length old.head) after commit);
        }) (log ++ x) × EndsFrame log (log ++ x) number commit (old.end + frame_length old.head)
    taken_valid number commit after none whole valid =
        let size = frame_length old.head in
        let frame = old.held ++ x in
        let before = whole_frames old.head log in
        let front = take 24 log in
        let long = a.long in
        let len : length front ≡ 24 = length-take-le 24 log (omega arith) in
        let says = says_valid (frame_fault old.head (sums_after old.head.order old.sums (summed_part frame)) frame)
        (sums_after old.head.order old.sums (summed_part frame)) frame number commit after valid in
        let fault : fault_behind front old.head before frame ≡ None = fault_is none ∙ says.no_fault in
        let stop : stop_under old.head (log ++ x) ≡ None = stop_is none whole ∙ rw fault refl in
        let frames : frames_under old.head (log ++ x) ≡ before ++ frame ∷ [] = frames_are none whole ∙ rw fault refl in
        let counted : length (before ++ frame ∷ []) ≡ many old.head log a.long + 1 = length-append before (frame ∷ [])
        ∙ ap (λ (n : ℕ). n + 1) (length-whole_frames old.head log a.long) in
        let ends : old.end + size ≡ end_of old.head (before ++ frame ∷ []) = rw counted
        (one_more old.end size (many old.head log a.long) (t.is_end ∙ end_is none)) in
        let whole_log : old.end + size ≡ length (log ++ x) = omega
        (arith, t.is_end, end_is none, length-append log x, length-rest old.head log a.long, whole_is none whole) in
        let running : old.sums ≡ prefix_sums front old.head before = t.is_sums
        ∙ ap (prefix_sums front old.head) (all_valid none) in
        let sums : after ≡ prefix_sums front old.head (before ++ frame ∷ []) =
        says.is_after ∙ ap (λ (s : WalSum). sums_after old.head.order s (summed_part frame)) running
        ∙ prefix_sums-more front old.head before frame len (size_in_eights old.head.size a.size)
        (whole_frames-long old.head log a.long) in
        let stored : after ≡ sums_at frame 16 = says.is_after
        ∙ sums_stored old.head (sums_after old.head.order old.sums (summed_part frame)) frame says.no_fault in
        let mark : mark_with old.head (old.end + size) after commit ≡ mark_of old.head before frame =
        ap (λ (n : ℕ). mark_with old.head n after commit) ends
        ∙ ap (λ (s : WalSum). mark_with old.head (end_of old.head (before ++ frame ∷ [])) s commit) stored
        ∙ ap (λ (n : ℕ). mark_with old.head (end_of old.head (before ++ frame ∷ [])) (sums_at frame 16) n)
        says.is_commit in
        let last : mark_after old.last (mark_with old.head (old.end + size) after commit) ≡ last_or None
        (marks_behind old.head [] (before ++ frame ∷ [])) =
        ap (λ (m : Mark). mark_after old.last m) mark
        ∙ ap (λ (l : Option Mark). mark_after l (mark_of old.head before frame))
        (t.is_last ∙ last_is log old.head before t.accepted (all_valid none))
        ∙ sym (last-more old.head before frame) in
        let behind : drop (end_of old.head (before ++ frame ∷ [])) (log ++ x) ≡ [] = drop_all _ (log ++ x)
        (omega (arith, ends, whole_log)) in (
          record {
            accepted = grown;
            is_taken = longer;
            is_end = ends ∙ ap (end_of old.head) (sym frames);
            is_sums = rw (frames, same_front old.head log a x) sums;
            is_held = rw (stop, frames) (sym behind);
            is_last = last ∙ sym (last_is (log ++ x) old.head (before ++ frame ∷ []) grown frames);
            is_stopped = none ∙ sym stop;
          },
          record {
            frame = frame;
            next = valid_is (log ++ x) old.head grown ∙ frames
                ∙ ap (λ (fs : List (List ℕ)). fs ++ frame ∷ [])
                (sym (valid_is log old.head t.accepted ∙ all_valid none));
            is_number = says.is_number;
            is_commit = says.is_commit;
            is_end = whole_log;
          },
        )
