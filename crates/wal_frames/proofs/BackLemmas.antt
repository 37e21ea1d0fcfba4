-- What a scan has found before it takes anything, and after it goes back.
use Rattle.std.proofs.Common.{◌≡◌, ◌∙◌, ℕ, ◌+◌, ◌-◌, ◌*◌, eqb, List, [], ◌∷◌, ◌++◌, length, take, Some, None, Ok, sym}
use Rattle.std.proofs.Common.{ap, subst, refl, arith, append_assoc, append-nil}
use Rattle.std.specs.List.{last_or}
use Rattle.std.proofs.lemmas.Bool.{ne_eqb}
use Rattle.std.proofs.lemmas.List.{drop_all, take-take, length-take}
use Rattle.ls_base.specs.declared.mark.Mark.{Mark}
use Rattle.wal_frames.specs.declared.header.WalHeader.{WalHeader}
use Rattle.wal_frames.specs.WalFormat.{read_header, sums_of}
use Rattle.wal_frames.specs.WalFrame.{frame_length, commit_size}
use Rattle.wal_frames.specs.ValidPrefix.{prefix_sums, fault_behind, stop_behind, whole_frames, frames_under, stop_under}
use Rattle.wal_frames.specs.Marks.{end_of, marks_behind}
use Rattle.wal_frames.specs.PrefixLaws.{IsMarkOf}
use Rattle.wal_frames.specs.Scanned.{HasTaken}
use Rattle.wal_frames.proofs.AcceptedLemmas.{Accepts, accepts, read_header-take}
use Rattle.wal_frames.proofs.CutLemmas.{quotient, whole_frames-cut, cut_length}
use Rattle.wal_frames.proofs.PrefixLemmas.{valid-all, valid-front, stop-valid, stop-front, stop-more, fault-none}
use Rattle.wal_frames.proofs.MarkLemmas.{last_is, last-more}
use Rattle.wal_frames.proofs.CheckedLemmas.{prefix_stored}

-- ---- before it takes anything

no_frames : (h : WalHeader) (log : List ℕ) → length log ≡ 32 → whole_frames h log ≡ []
unfolding whole_frames
no_frames h log len = rw (quotient (length log - 32) (frame_length h) 0 0 (omega (arith, len)) (omega arith)) refl

no_sums : (front : List ℕ) (h : WalHeader) → sums_of h.order front ≡ record { s0 = h.s0; s1 = h.s1 }
    → prefix_sums front h [] ≡ record { s0 = h.s0; s1 = h.s1 }
unfolding prefix_sums
no_sums front h sums = rw (append-nil front) sums

pub has_begun : (log : List ℕ) (h : WalHeader) → length log ≡ 32 → read_header log ≡ Ok h
    → HasTaken (record {
      head = h;
      taken = 0;
      end = 32;
      sums = record { s0 = h.s0; s1 = h.s1 };
      held = [];
      last =
          None;
      stopped = None;
    }) log
has_begun log h len accepted =
    let a = accepts log h accepted in
    let none = no_frames h log len in
    record {
      accepted = accepted;
      is_taken = omega (arith, len);
      is_end = rw none (omega arith);
      is_sums = rw none (sym (no_sums (take 24 log) h a.sums));
      is_held = rw none (sym (drop_all (32 + 0 * frame_length h) log (omega (arith, len))));
      is_last = sym (last_is log h [] accepted (rw none refl));
      is_stopped = rw none refl;
    }

-- ---- after it goes back

module _ (log : List ℕ) (h : WalHeader) (a : Accepts h log) (mark : Mark) (m : IsMarkOf h (frames_under h log) mark)
  where
    abbrev front : List (List ℕ)
    front = m.before ++ m.frame ∷ []

    abbrev bytes : List ℕ
    bytes = take 24 log

    others : (others : List (List ℕ)) × (whole_frames h log ≡ frames_under h log ++ others)
    others = valid-front bytes h [] (whole_frames h log)

    pub grouped : frames_under h log ≡ (m.before ++ m.frame ∷ []) ++ m.behind
    grouped = m.split ∙ sym (append_assoc m.before (m.frame ∷ []) m.behind)

    split : whole_frames h log ≡ front ++ (m.behind ++ others.0)
    split = others.1 ∙ ap (λ (xs : List (List ℕ)). xs ++ others.0) grouped ∙ append_assoc front m.behind others.0

    stops_not : stop_behind bytes h [] front ≡ None
    stops_not = stop-front bytes h [] front m.behind
        (subst (λ (xs : List (List ℕ)). stop_behind bytes h [] xs ≡ None) grouped
        (stop-valid bytes h [] (whole_frames h log)))

    faultless : fault_behind bytes h m.before m.frame ≡ None
    faultless =
        let before : stop_behind bytes h [] m.before ≡ None = stop-front bytes h [] m.before (m.frame ∷ []) stops_not in
        fault-none bytes h m.before m.frame [] (sym (stop-more bytes h [] m.before (m.frame ∷ []) before) ∙ stops_not)

    pub end_is : mark.end ≡ 32 + length (m.before ++ m.frame ∷ []) * frame_length h
    end_is = ap (λ (x : Mark). x.end) m.is

    abbrev cut : List ℕ
    cut = take mark.end log

    cut_is : cut ≡ take (32 + length front * frame_length h) log
    cut_is = ap (λ (n : ℕ). take n log) end_is

    frames_cut : whole_frames h cut ≡ front
    frames_cut = ap (whole_frames h) cut_is ∙ whole_frames-cut h log a.long front (m.behind ++ others.0) split

    pub length_cut : length cut ≡ mark.end
    length_cut = ap (λ (xs : List ℕ). length xs) cut_is ∙ cut_length h log a.long front (m.behind ++ others.0) split
        ∙ sym end_is

    front_cut : take 24 cut ≡ bytes
    front_cut = take-take 24 mark.end log (omega (arith, end_is))

    pub frames_under_cut : frames_under h cut ≡ m.before ++ m.frame ∷ []
    frames_under_cut = rw (frames_cut, front_cut) (valid-all bytes h [] front stops_not)

    stop_cut : stop_under h cut ≡ None
    stop_cut = rw (frames_cut, front_cut) stops_not

    mark_is : Some mark ≡ last_or None (marks_behind h [] front)
    mark_is =
        let commits : eqb (commit_size m.frame) 0 ≡ _ = ne_eqb (commit_size m.frame) 0 m.commits in
        ap (λ (x : Mark). Some x) m.is ∙ rw (last-more h m.before m.frame, commits) refl

    -- the header is the cut log's too
    pub accepted_cut : read_header log ≡ Ok h → read_header cut ≡ Ok h
    accepted_cut accepted = read_header-take mark.end log (omega (arith, end_is))
        (omega (arith, length_cut, length-take mark.end log)) ∙ accepted

    pub has_gone_back : read_header log ≡ Ok h
        → HasTaken (record {
          head = h;
          taken = mark.end - 32;
          end = mark.end;
          sums = record
              { s0 = mark.s0; s1 = mark.s1 };
          held = [];
          last = Some mark;
          stopped = None;
        }) (take mark.end log)
    has_gone_back accepted = record {
      accepted = accepted_cut accepted;
      is_taken = ap (λ (n : ℕ). n - 32) (sym length_cut);
      is_end = end_is ∙ ap (end_of h) (sym frames_under_cut);
      is_sums = rw (frames_under_cut, front_cut)
          (ap (λ (x : Mark). record { s0 = x.s0; s1 = x.s1 }) m.is
          ∙ sym (prefix_stored bytes h m.before m.frame faultless));
      is_held = rw (stop_cut, frames_under_cut) (sym (drop_all (end_of h front) cut (omega (arith, length_cut, end_is))));
      is_last = mark_is ∙ sym (last_is cut h front (accepted_cut accepted) frames_under_cut);
      is_stopped = sym stop_cut;
    }
