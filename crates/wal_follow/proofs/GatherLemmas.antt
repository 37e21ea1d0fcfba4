-- Frames that are gathered from a log.
use Rattle.std.proofs.Common.{◌≡◌, ℕ, zero, suc, ◌+◌, ◌-◌, ◌*◌, ◌/◌, ◌<◌, ◌≤◌, min, Bool, cond, List, [], ◌∷◌, ◌++◌}
use Rattle.std.proofs.Common.{length, take, Option, Some, None, Ok, refl, sym, ap, subst, ◌∙◌, inl, inr, append_assoc}
use Rattle.std.proofs.Common.{arith, length-append, get_or}
use Rattle.std.specs.Prelude.{◌≢◌, ◌==◌, if◌then◌else◌}
use Rattle.std.specs.Option.{option_or}
use Rattle.std.specs.FinMap.{get, insert}
use Rattle.std.proofs.lemmas.Bool.{eq-eqb, ne_eqb, cases_eq}
use Rattle.std.proofs.lemmas.List.{append-nil}
use Rattle.std.proofs.Math.Nat.{mul-div_left, add-mul}
use Rattle.ls_base.specs.declared.mark.Mark.{Mark}
use Rattle.ls_base.specs.declared.place.Place.{Place}
use Rattle.std.specs.FinMap.{get-insert}
use Rattle.std.specs.Cmp.{nat_cmp_total, unsigned_tied}
use Rattle.wal_frames.specs.declared.header.WalHeader.{WalHeader}
use Rattle.wal_frames.specs.WalFormat.{read_header}
use Rattle.wal_frames.specs.WalFrame.{frame_length, page_number, commit_size}
use Rattle.wal_frames.specs.ValidPrefix.{valid_frames, frames_under}
use Rattle.wal_frames.specs.Marks.{end_of, mark_of, place_of, last_mark_of}
use Rattle.wal_frames.specs.View.{frames_up_to}
use Rattle.wal_frames.specs.Scanned.{Scanned, HasTaken, EndsFrame}
use Rattle.wal_frames.proofs.MarkLemmas.{last-more, last_is, valid_is, end-more}
use Rattle.live_gate.specs.Legal.{NoneCommits}
use Rattle.snapshot_read.specs.Offsets.{offset_in}
use Rattle.snapshot_read.specs.PageOffsets.{Offsets}
use Rattle.wal_follow.specs.declared.gathering.Gathering.{Gathering}
use Rattle.wal_follow.specs.declared.gathering.PageOffset.{PageOffset}
use Rattle.wal_follow.specs.Gathering.{offsets_of, is_place, least_with, least_since, HasGathered, put_all}
use Rattle.wal_follow.specs.Gathering.{frame_offset, AddsFrame}
use Rattle.wal_follow.specs.Offset.{offset_limit}

-- ---- offsets put in

pub put_all-next : (m : Offsets) (ps : List PageOffset) (k : ℕ) (d : PageOffset) → k < length ps
    → put_all m (take (k + 1) ps) ≡ insert (put_all m (take k ps)) (get_or ps k d).number (get_or ps k d).at
put_all-next m [] k d below = absurd (omega (arith, below))
put_all-next m (p ∷ ps) zero d below = refl
put_all-next m (p ∷ ps) (suc k) d below =
    let next : suc k + 1 ≡ suc (k + 1) = omega arith in
    ap (λ (n : ℕ). put_all m (take n (p ∷ ps))) next
    ∙ put_all-next (insert m p.number p.at) ps k d (omega (arith, below))

-- ---- the offsets of frames

or_assoc : (a b c : Option ℕ) → option_or (option_or a b) c ≡ option_or a (option_or b c)
or_assoc None b c = refl
or_assoc (Some x) b c = refl

or_none : (o : Option ℕ) → option_or o None ≡ o
or_none None = refl
or_none (Some x) = refl

module _ (h : WalHeader) where
  pub offset_in-append : (p start : ℕ) (xs ys : List (List ℕ))
      → offset_in h p start (xs ++ ys) ≡ option_or (offset_in h p (start + length xs * frame_length h) ys)
      (offset_in h p start xs)
  offset_in-append p start [] ys = ap (λ (n : ℕ). offset_in h p n ys) (omega arith)
      ∙ sym (or_none (offset_in h p (start + 0 * frame_length h) ys))
  offset_in-append p start (x ∷ xs) ys =
      let own = cond (page_number x == p) (Some (start + 24)) None in
      let at : start + frame_length h + length xs * frame_length h ≡ start + length (x ∷ xs) * frame_length h = omega
      (arith, add-mul (length xs) 1 (frame_length h)) in
      ap (λ (o : Option ℕ). option_or o own) (offset_in-append p (start + frame_length h) xs ys)
      ∙ or_assoc (offset_in h p (start + frame_length h + length xs * frame_length h) ys) (offset_in h p
      (start + frame_length h) xs) own
      ∙ ap (λ (n : ℕ). option_or (offset_in h p n ys) (option_or (offset_in h p (start + frame_length h) xs) own)) at

  pub offsets_of-append : (start : ℕ) (xs ys : List (List ℕ))
      → offsets_of h start (xs ++ ys) ≡ offsets_of h start xs ++ offsets_of h (start + length xs * frame_length h) ys
  offsets_of-append start [] ys = ap (λ (n : ℕ). offsets_of h n ys) (omega arith)
  offsets_of-append start (x ∷ xs) ys =
      let at : start + frame_length h + length xs * frame_length h ≡ start + length (x ∷ xs) * frame_length h = omega
      (arith, add-mul (length xs) 1 (frame_length h)) in
      ap (λ (l : List PageOffset). record { number = page_number x; at = start + 24 } ∷ l)
      (offsets_of-append (start + frame_length h) xs ys
      ∙ ap (λ (n : ℕ). offsets_of h (start + frame_length h) xs ++ offsets_of h n ys) at)

  get_put : (m : Offsets) (k v q : ℕ) → get (insert m k v) q ≡ option_or (if k == q then Some v else None) (get m q)
  get_put m k v q =
      get-insert nat_cmp_total m k v q
      ∙ elim (cases_eq q k) [
        | inl same ↦
            ap (λ (b : Bool). cond b (Some v) (get m q)) (unsigned_tied q k ∙ eq-eqb q k same)
            ∙ sym (ap (λ (b : Bool). option_or (cond b (Some v) None) (get m q)) (eq-eqb k q (sym same)))
        | inr other ↦
            ap (λ (b : Bool). cond b (Some v) (get m q)) (unsigned_tied q k ∙ ne_eqb q k other)
            ∙ sym (ap (λ (b : Bool). option_or (cond b (Some v) None) (get m q)) (ne_eqb k q (λ is. other (sym is))))
      ]

  -- the offsets of frames put into those of the frames before
  pub put_offsets : (q start : ℕ) (ys : List (List ℕ)) (m : Offsets)
      → get (put_all m (offsets_of h start ys)) q ≡ option_or (offset_in h q start ys) (get m q)
  put_offsets q start [] m = refl
  put_offsets q start (y ∷ ys) m =
      put_offsets q (start + frame_length h) ys (insert m (page_number y) (start + 24))
      ∙ ap (option_or (offset_in h q (start + frame_length h) ys)) (get_put m (page_number y) (start + 24) q)
      ∙ sym (or_assoc (offset_in h q (start + frame_length h) ys) (cond (page_number y == q) (Some
      (start + 24)) None) (get m q))

  -- ---- the least size since a place

  pub least_since-append : (place : Option Place) (least : Option ℕ) (before xs ys : List (List ℕ))
      → least_since h place least before (xs ++ ys) ≡ least_since h place (least_since h place least before xs)
      (before ++ xs) ys
  least_since-append place least before [] ys = ap (λ (b : List (List ℕ)). least_since h place least b ys) (sym
      (append-nil before))
  least_since-append place least before (x ∷ xs) ys =
      let next = if commit_size x == 0 then least else least_with least (is_place place (place_of
      (mark_of h before x))) (commit_size x) in
      least_since-append place next (before ++ x ∷ []) xs ys
      ∙ ap (λ (b : List (List ℕ)). least_since h place (least_since h place next (before ++ x ∷ []) xs) b ys)
      (append_assoc before (x ∷ []) xs)

  least_since-none : (place : Option Place) (least : Option ℕ) (before xs : List (List ℕ)) → NoneCommits xs
      → least_since h place least before xs ≡ least
  least_since-none place least before [] none = refl
  least_since-none place least before (x ∷ xs) (first, rest) =
      ap (λ (b : Bool). least_since h place (cond b least (least_with least (is_place place (place_of
      (mark_of h before x))) (commit_size x))) (before ++ x ∷ []) xs) (eq-eqb (commit_size x) 0 first)
      ∙ least_since-none place least (before ++ x ∷ []) xs rest

  pub none-append : (xs : List (List ℕ)) (y : List ℕ) → NoneCommits xs → commit_size y ≡ 0 → NoneCommits (xs ++ y ∷ [])
  none-append [] y none is = (is, tt)
  none-append (x ∷ xs) y (first, rest) is = (first, none-append xs y rest is)

  -- over frames of which only the last commits
  pub least_commit : (place : Option Place) (least : Option ℕ) (before xs : List (List ℕ)) (y : List ℕ)
      → NoneCommits xs → commit_size y ≢ 0
      → least_since h place least before (xs ++ y ∷ []) ≡ least_with least (is_place place (place_of (mark_of h
      (before ++ xs) y))) (commit_size y)
  least_commit place least before xs y none commits =
      least_since-append place least before xs (y ∷ [])
      ∙ ap (λ (l : Option ℕ). least_since h place l (before ++ xs) (y ∷ []))
      (least_since-none place least before xs none)
      ∙ ap (λ (b : Bool). cond b least (least_with least (is_place place (place_of (mark_of h (before ++ xs) y)))
      (commit_size y))) (ne_eqb (commit_size y) 0 commits)

-- ---- a frame more

-- what a scan's step to one frame more comes to
pub record HasFrame (g : Gathering) (scan : Scanned) (number commit end : ℕ) (log after : List ℕ) : Type 0 where
  pub taken : HasTaken scan after
  pub head : scan.head ≡ g.scan.head
  pub ends : EndsFrame log after number commit end
  pub is_end : end ≡ scan.end

module _ (base : ℕ) (initial : Option ℕ) (g : Gathering) (log : List ℕ) (was : HasGathered base initial g log) where
  abbrev h : WalHeader
  h = g.scan.head

  abbrev all : List (List ℕ)
  all = (was.earlier ++ was.since) ++ was.behind

  same_last : (after : List ℕ) (scan : Scanned) → HasTaken scan after → scan.head ≡ h
      → valid_frames after ≡ valid_frames log → last_mark_of after ≡ last_mark_of log
  same_last after scan taken head same =
      let accepted : read_header after ≡ Ok h = taken.accepted ∙ ap (λ (k : WalHeader). Ok k) head in
      last_is after h all accepted (sym (valid_is after h accepted) ∙ same ∙ was.frames)
      ∙ sym (last_is log h all was.taken.accepted (sym (valid_is log h was.taken.accepted) ∙ was.frames))

  -- a piece in which no frame ends
  pub gathered_piece : (next : Gathering) (after : List ℕ) → HasTaken next.scan after → next.scan.head ≡ h
      → valid_frames after ≡ valid_frames log
      → next.newer ≡ g.newer → next.pending ≡ g.pending → next.least ≡ g.least → next.place ≡ g.place
      → HasGathered base initial next after
  gathered_piece next after taken head same newer pending least place = let last = same_last after next.scan taken
      head same in record {
        taken = taken;
        earlier = was.earlier;
        since = was.since;
        behind = was.behind;
        frames = same ∙ was.frames;
        many = was.many;
        newer = record {
          each = λ p. ap (λ m. get m.offsets p) newer ∙ was.newer.each p
              ∙ ap (λ (k : WalHeader). offset_in k p (end_of k was.earlier) was.since) (sym head);
        };
        pending = ap (λ v. v.items) pending ∙ was.pending
            ∙ ap (λ (k : WalHeader). offsets_of k (end_of k (was.earlier ++ was.since)) was.behind) (sym head);
        none = was.none;
        least = least ∙ was.least ∙ ap (λ (k : WalHeader). least_since k g.place initial was.earlier was.since)
            (sym head)
            ∙ ap (λ (p : Option Place). least_since next.scan.head p initial was.earlier was.since) (sym place);
        at_mark = λ q is. ap (λ (k : WalHeader). frames_up_to k q) head ∙ was.at_mark q (sym last ∙ is);
        unmarked = λ is. was.unmarked (sym last ∙ is);
      }

  module _ (next : Gathering) (after : List ℕ) (number commit end : ℕ)
      (has : HasFrame g next.scan number commit end log after) (place : next.place ≡ g.place) where
    abbrev frame : List ℕ
    frame = has.ends.frame

    valid_after : valid_frames after ≡ all ++ frame ∷ []
    valid_after = has.ends.next ∙ ap (λ (fs : List (List ℕ)). fs ++ frame ∷ []) was.frames

    under_after : frames_under h after ≡ all ++ frame ∷ []
    under_after = ap (λ (k : WalHeader). frames_under k after) (sym has.head)
        ∙ sym (valid_is after next.scan.head has.taken.accepted) ∙ valid_after

    under_before : frames_under h log ≡ all
    under_before = sym (valid_is log h was.taken.accepted) ∙ was.frames

    accepted_after : read_header after ≡ Ok h
    accepted_after = has.taken.accepted ∙ ap (λ (k : WalHeader). Ok k) has.head

    -- the last mark after the frame
    last_after : last_mark_of after ≡ cond (commit_size frame == 0) (last_mark_of log) (Some (mark_of h all frame))
    last_after =
        last_is after h (all ++ frame ∷ []) accepted_after under_after ∙ last-more h all frame
        ∙ ap (λ (o : Option Mark). cond (commit_size frame == 0) o (Some (mark_of h all frame))) (sym
        (last_is log h all was.taken.accepted under_before))

    end_is : end ≡ end_of h all + frame_length h
    end_is =
        has.is_end ∙ has.taken.is_end ∙ ap (λ (k : WalHeader). end_of k (frames_under k after)) has.head
        ∙ ap (end_of h) under_after ∙ end-more h all frame

    abbrev front : List (List ℕ)
    front = was.earlier ++ was.since

    end_front : end_of h front ≡ end_of h was.earlier + length was.since * frame_length h
    end_front = omega (
      arith,
      ap (λ (n : ℕ). n * frame_length h) (length-append was.earlier was.since),
      add-mul
          (length was.earlier) (length was.since) (frame_length h),
    )

    end_all : end_of h all ≡ end_of h front + length was.behind * frame_length h
    end_all = omega (
      arith,
      ap (λ (n : ℕ). n * frame_length h) (length-append front was.behind),
      add-mul
          (length front) (length was.behind) (frame_length h),
    )

    -- where the pages behind the last mark stand, the frame's among them
    pushed : g.pending.items ++ record { number = number; at = end - h.size } ∷ [] ≡ offsets_of h (end_of h front)
        (was.behind ++ frame ∷ [])
    pushed =
        let here : end - h.size ≡ end_of h front + length was.behind * frame_length h + 24 = omega
        (arith, end_is, end_all) in
        let own : List PageOffset = record { number = number; at = end - h.size } ∷ [] in
        let same : own ≡ offsets_of h (end_of h front + length was.behind * frame_length h)
        (frame ∷ []) = λ i. record { number = has.ends.is_number i; at = here i } ∷ [] in
        ap (λ (l : List PageOffset). l ++ own) was.pending
        ∙ ap (λ (l : List PageOffset). offsets_of h (end_of h front) was.behind ++ l) same
        ∙ sym (offsets_of-append h (end_of h front) was.behind (frame ∷ []))

    -- a frame that doesn't commit
    pub gathered_loose : commit ≡ 0 → next.pending.items ≡ g.pending.items ++ record {
      number = number;
      at = end -
          h.size;
    } ∷ [] → next.newer.offsets ≡ g.newer.offsets → next.least ≡ g.least
        → HasGathered base initial next after
    gathered_loose none pending newer least =
        let loose : commit_size frame ≡ 0 = sym has.ends.is_commit ∙ none in
        let last : last_mark_of after ≡ last_mark_of log = last_after
        ∙ ap (λ (b : Bool). cond b (last_mark_of log) (Some (mark_of h all frame))) (eq-eqb
        (commit_size frame) 0 loose) in
        record {
          taken = has.taken;
          earlier = was.earlier;
          since = was.since;
          behind = was.behind ++ frame ∷ [];
          frames = valid_after ∙ append_assoc front was.behind (frame ∷ []);
          many = was.many;
          newer = record {
            each = λ p. ap (λ m. get m p) newer ∙ was.newer.each p
                ∙ ap (λ (k : WalHeader). offset_in k p (end_of k was.earlier) was.since) (sym has.head);
          };
          pending = pending ∙ pushed ∙ ap (λ (k : WalHeader). offsets_of k (end_of k front)
              (was.behind ++ frame ∷ [])) (sym has.head);
          none = none-append h was.behind frame was.none loose;
          least =
              least ∙ was.least ∙ ap (λ (k : WalHeader). least_since k g.place initial was.earlier was.since)
              (sym has.head)
              ∙ ap (λ (p : Option Place). least_since next.scan.head p initial was.earlier was.since) (sym place);
          at_mark = λ q is. ap (λ (k : WalHeader). frames_up_to k q) has.head ∙ was.at_mark q (sym last ∙ is);
          unmarked = λ is. was.unmarked (sym last ∙ is);
        }

    -- a frame that commits
    pub gathered_commit : (k : ℕ) → commit ≡ suc k → next.newer.offsets ≡ put_all g.newer.offsets
        (g.pending.items ++ record { number = number; at = end - h.size } ∷ []) → next.pending.items ≡ []
        → ((q : Mark) → last_mark_of after ≡ Some q
        → next.least ≡ least_with g.least (is_place g.place (place_of q)) (suc k))
        → HasGathered base initial next after
    gathered_commit k some newer pending least =
        let commits : commit_size frame ≡ suc k = sym has.ends.is_commit ∙ some in
        let is_some : commit_size frame ≡ 0 → ⊥ = λ none. omega (arith, none, commits) in
        let own = was.behind ++ frame ∷ [] in
        let q = mark_of h all frame in
        let last : last_mark_of after ≡ Some q = last_after
        ∙ ap (λ (b : Bool). cond b (last_mark_of log) (Some q)) (ne_eqb (commit_size frame) 0 is_some) in
        let grouped : all ++ frame ∷ [] ≡ was.earlier ++ (was.since ++ own) = append_assoc front was.behind
        (frame ∷ []) ∙ append_assoc was.earlier was.since own in
        record {
          taken = has.taken;
          earlier = was.earlier;
          since = was.since ++ own;
          behind = [];
          frames = valid_after ∙ grouped ∙ sym (append-nil (was.earlier ++ (was.since ++ own)));
          many = was.many;
          newer = record {
            each = λ p.
                ap (λ m. get m p) newer ∙ ap (λ (l : List PageOffset). get (put_all g.newer.offsets l) p) pushed
                ∙ put_offsets h p (end_of h front) own g.newer.offsets
                ∙ ap (option_or (offset_in h p (end_of h front) own)) (was.newer.each p)
                ∙ ap (λ (n : ℕ). option_or (offset_in h p n own) (offset_in h p
                (end_of h was.earlier) was.since)) end_front
                ∙ sym (offset_in-append h p (end_of h was.earlier) was.since own)
                ∙ ap (λ (c : WalHeader). offset_in c p (end_of c was.earlier) (was.since ++ own)) (sym has.head);
          };
          pending = pending;
          none = tt;
          least =
              least q last
              ∙ ap (λ (l : Option ℕ). least_with l (is_place g.place (place_of q)) (suc k)) was.least
              ∙ ap (least_with (least_since h g.place initial was.earlier was.since) (is_place g.place (place_of q)))
              (sym commits)
              ∙ sym (least_commit h g.place (least_since h g.place initial was.earlier was.since) front was.behind
              frame was.none is_some)
              ∙ sym (least_since-append h g.place initial was.earlier was.since own)
              ∙ ap (λ (c : WalHeader). least_since c g.place initial was.earlier (was.since ++ own)) (sym has.head)
              ∙ ap (λ (p : Option Place). least_since next.scan.head p initial was.earlier (was.since ++ own))
              (sym place);
          at_mark = λ m is.
              let same : m ≡ q = some_mark (sym is ∙ last) in
              let count : 32 + length (all ++ frame ∷ []) * frame_length h - 32 ≡ length
              (all ++ frame ∷ []) * frame_length h = omega arith in
              ap (λ (c : WalHeader). frames_up_to c m) has.head ∙ ap (frames_up_to h) same
              ∙ ap (λ (n : ℕ). n / frame_length h) count
              ∙ mul-div_left (length (all ++ frame ∷ [])) (omega arith) ∙ ap length grouped;
          unmarked = λ is. absurd (no_mark (sym last ∙ is));
        }
      where
        some_mark : {a b : Mark} → ◌≡◌ {A = Option Mark} (Some a) (Some b) → a ≡ b
        some_mark e = cc

        no_mark : {a : Mark} → ◌≡◌ {A = Option Mark} (Some a) None → ⊥
        no_mark e = cc

-- what the scan has just taken is added
pub gathered_frame : (base : ℕ) (initial : Option ℕ) (g mid next : Gathering) (log after : List ℕ)
    (number commit end : ℕ) → HasGathered base initial g log
    → mid ≡ record g { scan = mid.scan } → AddsFrame number commit end mid next → next.scan ≡ mid.scan
    → next.place ≡ mid.place
    → HasTaken mid.scan after → mid.scan.head ≡ g.scan.head → EndsFrame log after number commit end
    → end ≡ mid.scan.end → end ≤ offset_limit → HasGathered base initial next after
gathered_frame base initial g mid next log after number commit end was only adds scan place taken head ends is_end far =
    by commit refl adds
  where
    next_taken : HasTaken next.scan after
    next_taken = subst (λ (s : Scanned). HasTaken s after) (sym scan) taken

    next_head : next.scan.head ≡ g.scan.head
    next_head = ap (λ (s : Scanned). s.head) scan ∙ head

    has : HasFrame g next.scan number commit end log after
    has = record {
      taken = next_taken;
      head = next_head;
      ends = ends;
      is_end = is_end
          ∙ ap (λ (s : Scanned). s.end) (sym scan);
    }

    placed : next.place ≡ g.place
    placed = place ∙ ap (λ (m : Gathering). m.place) only

    near : min (end - mid.scan.head.size) offset_limit ≡ end - mid.scan.head.size
    near = omega (arith, far)

    pushed_at : mid.pending.items ++ frame_offset number end mid.scan.head.size ∷ [] ≡ g.pending.items ++ record {
      number = number;
      at = end - g.scan.head.size;
    } ∷ []
    pushed_at =
        ap (λ (n : ℕ). mid.pending.items ++ record { number = number; at = n } ∷ []) near
        ∙ ap (λ (l : List PageOffset). l ++ record { number = number; at = end - mid.scan.head.size } ∷ []) (ap (λ
        (m : Gathering). m.pending.items) only)
        ∙ ap (λ (k : WalHeader). g.pending.items ++ record { number = number; at = end - k.size } ∷ []) head

    by : (c : ℕ) → commit ≡ c → AddsFrame number c end mid next → HasGathered base initial next after
    by zero is a =
        gathered_loose base initial g log was next after number commit end has placed is (a.0 ∙ pushed_at) (a.1
        ∙ ap (λ (m : Gathering). m.newer.offsets) only) (a.2 ∙ ap (λ (m : Gathering). m.least) only)
    by (suc k) is a =
        gathered_commit base initial g log was next after number commit end has placed k is
        (a.0 ∙ ap (λ (m : Offsets). put_all m (mid.pending.items ++ frame_offset number end mid.scan.head.size ∷ []))
        (ap (λ (m : Gathering). m.newer.offsets) only)
        ∙ ap (put_all g.newer.offsets) pushed_at)
        a.1
        (λ q last.
        a.2 after q taken last ∙ ap (λ (l : Option ℕ). least_with l (is_place mid.place (place_of q)) (suc k))
        (ap (λ (m : Gathering). m.least) only)
        ∙ ap (λ (p : Option Place). least_with g.least (is_place p (place_of q)) (suc k)) (ap (λ
        (m : Gathering). m.place) only))
