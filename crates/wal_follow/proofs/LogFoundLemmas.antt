-- What was gathered of a log that was read over all that was committed at first.
use Rattle.std.proofs.Common.{◌≡◌, ℕ, ◌+◌, ◌-◌, ◌*◌, ◌/◌, ◌≤◌, Bool, true, false, List, [], ◌∷◌, ◌++◌, length, take}
use Rattle.std.proofs.Common.{drop, Option, Some, None, Ok, refl, sym, ap, subst, ◌∙◌, append_assoc, arith, nat_cmp}
use Rattle.std.specs.Prelude.{option_map}
use Rattle.std.specs.FinMap.{get, get-empty}
use Rattle.std.specs.List.{last_or}
use Rattle.std.proofs.lemmas.List.{append-nil, take_at, drop_at, take-append-drop}
use Rattle.std.proofs.Math.Nat.{mul-div_left, add-mul}
use Rattle.ls_base.specs.declared.mark.Mark.{Mark}
use Rattle.ls_base.specs.declared.place.Place.{Place}
use Rattle.wal_frames.specs.declared.header.WalHeader.{WalHeader}
use Rattle.wal_frames.specs.WalFormat.{read_header}
use Rattle.wal_frames.specs.WalFrame.{frame_length}
use Rattle.wal_frames.specs.ValidPrefix.{valid_frames, frames_under}
use Rattle.wal_frames.specs.Marks.{end_of, marks_of, IsMark, place_of, last_mark_of}
use Rattle.wal_frames.specs.View.{frames_to, frames_up_to}
use Rattle.wal_frames.specs.Scanned.{Scanned, HasTaken, scanned_to}
use Rattle.wal_frames.specs.PrefixLaws.{IsMarkOf}
use Rattle.wal_frames.proofs.AcceptedLemmas.{accepts}
use Rattle.wal_frames.proofs.BackLemmas.{has_begun, has_gone_back, end_is, frames_under_cut}
use Rattle.wal_frames.proofs.MarkLemmas.{valid_is, mark_stands}
use Rattle.wal_frames.proofs.LogLemmas.{growing_keeps, last_is_mark, cut_keeps, stays_mark, last_is_greatest}
use Rattle.wal_frames.proofs.TakenLemmas.{taken_of}
use Rattle.wal_frames.proofs.ViewLemmas.{accepted_front}
use Rattle.live_gate.specs.LiveRecord.{Database, IsPrefix}
use Rattle.snapshot_read.specs.Offsets.{offset_in}
use Rattle.snapshot_read.specs.PageOffsets.{Offsets}
use Rattle.wal_follow.specs.declared.following.Following.{Following}
use Rattle.wal_follow.specs.declared.gather.Gathered.{Gathered}
use Rattle.wal_follow.specs.declared.gathering.Gathering.{Gathering}
use Rattle.wal_follow.specs.Answers.{FindsMark}
use Rattle.wal_follow.specs.AtMark.{sought, least_at_pass, GathersSince, GathersMark}
use Rattle.wal_follow.specs.Gathering.{HasGathered, Begins, least_since}
use Rattle.wal_follow.specs.Gathers.{IsGathered}
use Rattle.wal_follow.specs.LogGathering.{GathersNone}
use Rattle.wal_follow.specs.Piece.{frames_between}
use Rattle.wal_follow.proofs.FitsLemmas.{still_accepted, same_frames}

-- ---- lists

front_none : {A : Type 0} (xs ys : List A) → xs ++ ys ≡ [] → xs ≡ []
front_none [] ys e = refl
front_none (x ∷ xs) ys e = absurd cc

rest_none : {A : Type 0} (xs ys : List A) → xs ++ ys ≡ [] → ys ≡ []
rest_none xs ys e = ap (λ l. l ++ ys) (sym (front_none xs ys e)) ∙ e

no_length : {A : Type 0} (xs : List A) → length xs ≡ 0 → xs ≡ []
no_length [] e = refl
no_length (x ∷ xs) e = absurd (omega (arith, e))

last_none : (marks : List Mark) (before : Option Mark) → last_or before marks ≡ None → (marks ≡ []) × (before ≡ None)
last_none [] before e = (refl, e)
last_none (mark ∷ marks) before e = let some = (last_none marks (Some mark) e).1 in absurd cc

-- ---- a log that was read

module _ (front whole log : List ℕ) (covers : IsPrefix front log)
    (checked : (q : Mark) → last_mark_of log ≡ Some q → IsPrefix (take q.end log) whole) where
  -- where it has no mark, there was none at first
  pub none_before : last_mark_of log ≡ None → marks_of front ≡ []
  none_before none =
      let g = growing_keeps front covers.rest in
      front_none (marks_of front) g.more
      (sym g.kept ∙ ap marks_of (sym covers.is) ∙ (last_none (marks_of log) None none).0)

  module _ (h : WalHeader) (accepted : read_header log ≡ Ok h) (q : Mark) (last : last_mark_of log ≡ Some q) where
    begins : IsPrefix (take q.end log) whole
    begins = checked q last

    begins_log : IsPrefix (take q.end log) log
    begins_log = record { rest = drop q.end log; is = sym (take-append-drop q.end log) }

    among : IsMark log q
    among = last_is_mark log q last

    accepted_cut : read_header (take q.end log) ≡ Ok h
    accepted_cut = accepted_front log h accepted q among

    -- a mark of the log up to the last is one of what is committed
    pub found_mark : (m : Mark) → IsMark log m → m.end ≤ q.end → IsMark whole m
    found_mark m is upto = subst (λ (l : List ℕ). IsMark l m) (sym begins.is)
        (stays_mark (take q.end log) begins.rest m (cut_keeps log q.end m is upto))

    -- and the frames up to it are the same
    pub found_frames : (m : Mark) → IsMark log m → m.end ≤ q.end
        → frames_to h (valid_frames whole) m ≡ frames_to h (valid_frames log) m
    found_frames m is upto =
        let cut = cut_keeps log q.end m is upto in
        same_frames (take q.end log) whole begins h accepted_cut m cut
        ∙ sym (same_frames (take q.end log) log begins_log h accepted_cut m cut)

    pub found_accepted : read_header whole ≡ Ok h
    found_accepted = still_accepted (take q.end log) whole begins h accepted_cut

    pub found_latest : (m : Mark) → IsMark front m → m.end ≤ q.end
    found_latest m is = last_is_greatest log m q (subst (λ (l : List ℕ). IsMark l m) (sym covers.is)
        (stays_mark front covers.rest m is)) last

-- ---- what was gathered of it

module _ (base : ℕ) (initial : Option ℕ) (g : Gathering) (log : List ℕ) (was : HasGathered base initial g log) where
  -- the frames up to the last mark
  pub upto_is : (q : Mark) → last_mark_of log ≡ Some q
      → frames_to g.scan.head (valid_frames log) q ≡ was.earlier ++ was.since
  upto_is q last =
      ap (λ (fs : List (List ℕ)). frames_to g.scan.head fs q) was.frames
      ∙ take_at (was.earlier ++ was.since) was.behind (frames_up_to g.scan.head q) (sym (was.at_mark q last))

  -- those that stand before what was gathered
  pub before_is : (a : Mark) → frames_up_to g.scan.head a ≡ base
      → frames_to g.scan.head (valid_frames log) a ≡ was.earlier
  before_is a many =
      ap (λ (fs : List (List ℕ)). frames_to g.scan.head fs a) (was.frames
      ∙ append_assoc was.earlier was.since was.behind)
      ∙ take_at was.earlier (was.since ++ was.behind) (frames_up_to g.scan.head a) (was.many ∙ sym many)

-- what was gathered is taken over
abbrev pub IsOver : Following → Gathering → Bool → Following → Type 0
IsOver f g fresh after = after ≡ record f { scan = Some g.scan; newer = g.newer; fresh = fresh }

only_over : (f after : Following) (g : Gathering) (fresh : Bool) → IsOver f g fresh after
    → after ≡ record f { scan = after.scan; newer = after.newer; fresh = after.fresh }
only_over f after g fresh over = over
    ∙ sym (ap (λ (k : Following). record f { scan = k.scan; newer = k.newer; fresh = k.fresh }) over)

pub head_over : (f after : Following) (g : Gathering) (fresh : Bool) → IsOver f g fresh after
    → option_map (λ (scan : Scanned). scan.head) after.scan ≡ Some g.scan.head
head_over f after g fresh over = ap (λ (k : Following). option_map (λ (scan : Scanned). scan.head) k.scan) over

module _ (f after : Following) (g : Gathering) (first new : Database) (log : List ℕ)
    (covers : IsPrefix first.committed log)
    (checked : (q : Mark) → last_mark_of log ≡ Some q → IsPrefix (take q.end log) new.committed) where
  finds : (d : Gathered) → HasTaken g.scan log → last_mark_of log ≡ Some d.mark → FindsMark first new g.scan.head d.mark
  finds d taken last = record {
    accepted = found_accepted first.committed new.committed log covers checked g.scan.head taken.accepted d.mark last;
    is_mark =
        found_mark first.committed new.committed log covers checked g.scan.head taken.accepted d.mark last d.mark
        (last_is_mark log d.mark last) (omega arith);
    latest = found_latest first.committed new.committed log covers checked g.scan.head taken.accepted d.mark last;
  }

  -- ---- from its start

  module _ (was : HasGathered 0 (least_at_pass f) g log) (place : g.place ≡ sought f)
      (over : IsOver f g true after) where
    none_earlier : was.earlier ≡ []
    none_earlier = no_length was.earlier was.many

    from_start : end_of g.scan.head was.earlier ≡ 32
    from_start = ap (λ (fs : List (List ℕ)). end_of g.scan.head fs) none_earlier ∙ omega arith

    pub all_none : IsGathered g None → GathersNone after first
    all_none is =
        let none = is log was.taken in
        let empty : was.since ≡ [] = rest_none was.earlier was.since (was.unmarked none) in
        record {
          none = none_before first.committed new.committed log covers checked none;
          fresh = ap (λ (k : Following). k.fresh) over;
          empty = λ p. ap (λ (k : Following). get k.newer.offsets p) over ∙ was.newer.each p
              ∙ ap (λ (fs : List (List ℕ)). offset_in g.scan.head p (end_of g.scan.head was.earlier) fs) empty;
        }

    pub all_some : (d : Gathered) → IsGathered g (Some d) → GathersMark f after d first new
    all_some d is =
        let h = g.scan.head in
        let last = is.2 log was.taken in
        let all : frames_to h (valid_frames new.committed) d.mark ≡ was.since =
        found_frames first.committed new.committed log covers checked h was.taken.accepted d.mark last d.mark
        (last_is_mark log d.mark last) (omega arith)
        ∙ upto_is 0 (least_at_pass f) g log was d.mark last
        ∙ ap (λ (fs : List (List ℕ)). fs ++ was.since) none_earlier in
        record {
          h = h;
          finds = finds d was.taken last;
          size = is.0;
          head = head_over f after g true over;
          only = only_over f after g true over;
          since = subst (λ (b : Bool). GathersSince b f after d new h)
              (sym (ap (λ (k : Following). k.fresh) over)) (record {
                offsets = record {
                  each = λ p. ap (λ (k : Following). get k.newer.offsets p) over ∙ was.newer.each p
                      ∙ ap (λ (n : ℕ). offset_in h p n was.since) from_start
                      ∙ ap (offset_in h p 32) (sym all);
                };
                least = is.1 ∙ was.least
                    ∙ ap (λ (o : Option Place). least_since h o (least_at_pass f) was.earlier was.since) place
                    ∙ ap (λ (fs : List (List ℕ)). least_since h (sought f) (least_at_pass f) fs was.since) none_earlier
                    ∙ ap (λ (fs : List (List ℕ)). least_since h (sought f) (least_at_pass f) [] fs) (sym all);
              });
        }

  -- ---- from a mark on

  module _ (a : Mark) (base : ℕ) (was : HasGathered base (Some a.commit) g log)
      (many : frames_up_to g.scan.head a ≡ base) (place : g.place ≡ None) (over : IsOver f g false after)
      (is_a : IsMark log a) (start : a.end ≡ 32 + base * frame_length g.scan.head)
      (recorded : f.recorded ≡ true) (passed : f.passed ≡ false) (at : f.place ≡ Some (place_of a))
      (pages : f.pages ≡ Some a.commit) where
    from_mark : end_of g.scan.head was.earlier ≡ a.end
    from_mark = ap (λ (n : ℕ). 32 + n * frame_length g.scan.head) was.many ∙ sym start

    pub behind_some : (d : Gathered) → IsGathered g (Some d) → GathersMark f after d first new
    behind_some d is =
        let h = g.scan.head in
        let last = is.2 log was.taken in
        let order = last_is_greatest log a d.mark is_a last in
        let accepted = was.taken.accepted in
        let upto : frames_to h (valid_frames new.committed) d.mark ≡ was.earlier ++ was.since =
        found_frames first.committed new.committed log covers checked h accepted d.mark last d.mark
        (last_is_mark log d.mark last) (omega arith)
        ∙ upto_is base (Some a.commit) g log was d.mark last in
        let between : frames_between h (valid_frames new.committed) a d.mark ≡ was.since =
        ap (drop (frames_up_to h a)) upto
        ∙ drop_at was.earlier was.since (frames_up_to h a) (was.many ∙ sym many) in
        let front : frames_to h (valid_frames new.committed) a ≡ was.earlier =
        found_frames first.committed new.committed log covers checked h accepted d.mark last a is_a order
        ∙ before_is base (Some a.commit) g log was a many in
        record {
          h = h;
          finds = finds d was.taken last;
          size = is.0;
          head = head_over f after g false over;
          only = only_over f after g false over;
          since = subst (λ (b : Bool). GathersSince b f after d new h)
              (sym (ap (λ (k : Following). k.fresh) over)) (record {
                recorded = recorded;
                passed = passed;
                a = a;
                is_mark = found_mark first.committed new.committed log covers checked h accepted d.mark last a is_a
                    order;
                place = at;
                pages = pages;
                order = order;
                offsets = record {
                  each = λ p. ap (λ (k : Following). get k.newer.offsets p) over ∙ was.newer.each p
                      ∙ ap (λ (n : ℕ). offset_in h p n was.since) from_mark
                      ∙ ap (offset_in h p a.end) (sym between);
                };
                least = is.1 ∙ was.least
                    ∙ ap (λ (o : Option Place). least_since h o (Some a.commit) was.earlier was.since) place
                    ∙ ap (λ (fs : List (List ℕ)). least_since h None (Some a.commit) fs was.since) (sym front)
                    ∙ ap (least_since h None (Some a.commit) (frames_to h (valid_frames new.committed) a))
                    (sym between);
              });
        }

    pub behind_none : IsGathered g None → ⊥
    behind_none is = no_mark (last_none (marks_of log) None (is log was.taken)).0 is_a
      where
        no_mark : marks_of log ≡ [] → IsMark log a → ⊥
        no_mark none among = absurd (omega (arith, among.1, ap (λ (ms : List Mark). length ms) none))

-- ---- before anything is gathered

few : (fs : List (List ℕ)) (size : ℕ) → 32 ≡ 32 + length fs * size → 24 ≤ size → fs ≡ []
few [] size e some = refl
few (x ∷ fs) size e some = absurd (omega (arith, e, some, add-mul (length fs) 1 size))

-- of a log of which the header was read
pub begun : (g : Gathering) (scan : Scanned) (place : Option Place) (least : Option ℕ) (log : List ℕ)
    → Begins g scan place least → ((l : List ℕ) → length l ≡ 32 → read_header l ≡ Ok scan.head → HasTaken scan l)
    → length log ≡ 32 → read_header log ≡ Ok scan.head → HasGathered 0 least g log
begun g scan place least log begins taken long accepted =
    let h = g.scan.head in
    let head : read_header log ≡ Ok h = accepted ∙ ap (λ (s : Scanned). Ok s.head) (sym begins.is_scan) in
    let t = has_begun log h long head in
    let none : frames_under h log ≡ [] = few (frames_under h log) (frame_length h) t.is_end (omega arith) in
    record {
      taken = taken_of g.scan scan log begins.is_scan (taken log long accepted);
      earlier = [];
      since = [];
      behind = [];
      frames = valid_is log h head ∙ none;
      many = refl;
      newer = record { each = λ p. ap (λ (m : Offsets). get m p) begins.newer ∙ get-empty nat_cmp p };
      pending = begins.pending;
      none = tt;
      least = begins.is_least;
      at_mark = λ q is. absurd (no_mark (t.is_last ∙ is));
      unmarked = λ is. refl;
    }
  where
    no_mark : {m : Mark} → ◌≡◌ {A = Option Mark} None (Some m) → ⊥
    no_mark e = cc

-- how many frames stand up to a mark
module _ (log : List ℕ) (h : WalHeader) (accepted : read_header log ≡ Ok h) (a : Mark) (is_a : IsMark log a) where
  stands : IsMarkOf h (frames_under h log) a
  stands = mark_stands log h a accepted is_a

  pub count_is : length (frames_under h (take a.end log)) ≡ frames_up_to h a
  count_is =
      let n = length (stands.before ++ stands.frame ∷ []) in
      let count : a.end - 32 ≡ n * frame_length h = omega (arith, end_is log h (accepts log h accepted) a stands) in
      ap (λ (fs : List (List ℕ)). length fs) (frames_under_cut log h (accepts log h accepted) a stands)
      ∙ sym (ap (λ (m : ℕ). m / frame_length h) count ∙ mul-div_left n (omega arith))

  pub end_at : a.end ≡ 32 + frames_up_to h a * frame_length h
  end_at = end_is log h (accepts log h accepted) a stands
      ∙ ap (λ (n : ℕ). 32 + n * frame_length h) (ap (λ (fs : List (List ℕ)). length fs) (sym (frames_under_cut log h
      (accepts log h accepted) a stands)) ∙ count_is)

  -- of a log that is read from the mark on
  pub begun_at : (g : Gathering) (place : Option Place) → Begins g (scanned_to h a) place (Some a.commit)
      → HasGathered (frames_up_to h a) (Some a.commit) g (take a.end log)
  begun_at g place begins =
      let cut = take a.end log in
      let taken : HasTaken (scanned_to h a) cut = has_gone_back log h (accepts log h accepted) a stands accepted in
      let head : g.scan.head ≡ h = ap (λ (s : Scanned). s.head) begins.is_scan in
      let same : valid_frames cut ≡ frames_under h cut = valid_is cut h taken.accepted in
      record {
        taken = taken_of g.scan (scanned_to h a) cut begins.is_scan taken;
        earlier = valid_frames cut;
        since = [];
        behind = [];
        frames = sym (append-nil (valid_frames cut ++ []) ∙ append-nil (valid_frames cut));
        many = ap (λ (fs : List (List ℕ)). length fs) same ∙ count_is;
        newer = record { each = λ p. ap (λ (m : Offsets). get m p) begins.newer ∙ get-empty nat_cmp p };
        pending = begins.pending;
        none = tt;
        least = begins.is_least;
        at_mark = λ q is.
            ap (λ (k : WalHeader). frames_up_to k q) head
            ∙ ap (frames_up_to h) (some_mark (sym is ∙ sym taken.is_last)) ∙ sym count_is
            ∙ ap (λ (fs : List (List ℕ)). length fs) (sym same ∙ sym (append-nil (valid_frames cut)));
        unmarked = λ is. absurd (no_mark (taken.is_last ∙ is));
      }
    where
      some_mark : {x y : Mark} → ◌≡◌ {A = Option Mark} (Some x) (Some y) → x ≡ y
      some_mark e = cc

      no_mark : {m : Mark} → ◌≡◌ {A = Option Mark} (Some m) None → ⊥
      no_mark e = cc
