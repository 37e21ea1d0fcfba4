-- The frames since a place, and the least number of pages since.
use Rattle.std.proofs.Common.{◌≡◌, ℕ, ◌-◌, ◌*◌, ◌/◌, ◌≤◌, min, Bool, true, false, cond, List, [], ◌∷◌, ◌++◌, length}
use Rattle.std.proofs.Common.{take, drop, Option, Some, None, Ok, refl, sym, ap, subst, ◌∙◌, inl, inr, append_assoc}
use Rattle.std.proofs.Common.{arith, length-take}
use Rattle.std.specs.Prelude.{◌⊎◌, ◌≢◌, ◌==◌}
use Rattle.std.specs.List.{Contains}
use Rattle.std.proofs.lemmas.Bool.{eq-eqb, ne_eqb, cases_eq}
use Rattle.std.proofs.lemmas.List.{append-nil, take_at, drop_at, take-append-drop}
use Rattle.std.proofs.lemmas.List.Elements.{Contains-append_cases, Contains-push_cases}
use Rattle.std.proofs.Math.Nat.{mul-div_left}
use Rattle.ls_base.specs.declared.mark.Mark.{Mark}
use Rattle.ls_base.specs.declared.place.Place.{Place}
use Rattle.ls_base.proofs.HistoryLemmas.{is_same_place-true, is_same_place-itself}
use Rattle.wal_frames.specs.declared.header.WalHeader.{WalHeader}
use Rattle.wal_frames.specs.WalFormat.{read_header}
use Rattle.wal_frames.specs.WalFrame.{frame_length, commit_size}
use Rattle.wal_frames.specs.ValidPrefix.{valid_frames}
use Rattle.wal_frames.specs.Marks.{end_of, mark_of, marks_behind, marks_of, IsMark, place_of}
use Rattle.wal_frames.specs.View.{frames_up_to, frames_to}
use Rattle.wal_frames.proofs.LogLemmas.{cut_keeps, stays_mark, ends_within}
use Rattle.wal_frames.proofs.MarkLemmas.{is_behind, has_mark, marks_are, valid_is}
use Rattle.wal_frames.proofs.ViewLemmas.{frames_to_cut, accepted_front}
use Rattle.wal_follow.specs.Gathering.{is_place, least_with, least_since}
use Rattle.wal_follow.specs.Piece.{frames_between, least_met, least_size}

-- ---- the place among the marks

pub place_found : (place : Option Place) (p : Place) → is_place place p ≡ true → place ≡ Some p
place_found None p is = absurd cc
place_found (Some x) p is = ap (λ (q : Place). Some q) (is_same_place-true x p is)

pub place_itself : (place : Option Place) (p : Place) → place ≡ Some p → is_place place p ≡ true
place_itself place p is = ap (λ (o : Option Place). is_place o p) is ∙ is_same_place-itself p

both : ◌≡◌ {A = Bool} true false → ⊥
both e = cc

-- once the place was met each commit lowers the number of pages to its own
pub least_since-met : (h : WalHeader) (place : Option Place) (start : ℕ) (before frames : List (List ℕ))
    → least_since h place (Some start) before frames ≡ Some (least_size start frames)
least_since-met h place start before [] = refl
least_since-met h place start before (frame ∷ frames) =
    ap (λ (o : Option ℕ). least_since h place o (before ++ frame ∷ []) frames) (next (commit_size frame == 0))
    ∙ least_since-met h place (least_met start (commit_size frame)) (before ++ frame ∷ []) frames
  where
    next : (b : Bool) → cond b (Some start) (Some (min start (commit_size frame))) ≡ Some (cond b start (min start
        (commit_size frame)))
    next true = refl
    next false = refl

-- The place is the mark of one of the frames, and the least number of pages since is that from there on.
pub record IsMet (h : WalHeader) (place : Option Place) (before frames : List (List ℕ)) : Type 0 where
  pub front : List (List ℕ)
  pub frame : List ℕ
  pub behind : List (List ℕ)
  pub split : frames ≡ front ++ frame ∷ behind
  pub commits : commit_size frame ≢ 0
  pub is : place ≡ Some (place_of (mark_of h (before ++ front) frame))
  pub least : least_since h place None before frames ≡ Some (least_size (commit_size frame) behind)

-- The place is that of no mark of the frames, and there is no least number of pages since.
pub record IsUnmet (h : WalHeader) (place : Option Place) (before frames : List (List ℕ)) : Type 0 where
  pub none : (m : Mark) → Contains (marks_behind h before frames) m → place ≡ Some (place_of m) → ⊥
  pub least : least_since h place None before frames ≡ None

module _ (h : WalHeader) (place : Option Place) (before : List (List ℕ)) (frame : List ℕ) (frames : List (List ℕ)) where
  abbrev own : Mark
  own = mark_of h before frame

  abbrev own_marks : List Mark
  own_marks = cond (commit_size frame == 0) [] (own ∷ [])

  abbrev own_least : Option ℕ
  own_least = cond (commit_size frame == 0) None (least_with None (is_place place (place_of own)) (commit_size frame))

  -- a frame whose mark isn't that of the place
  passes_by : own_least ≡ None → ((m : Mark) → Contains own_marks m → place ≡ Some (place_of m) → ⊥)
      → IsMet h place (before ++ frame ∷ []) frames ⊎ IsUnmet h place (before ++ frame ∷ []) frames
      → IsMet h place before (frame ∷ frames) ⊎ IsUnmet h place before (frame ∷ frames)
  passes_by least none (inl met) = inl (record {
    front = frame ∷ met.front;
    frame = met.frame;
    behind = met.behind;
    split = ap (λ (fs : List (List ℕ)). frame ∷ fs) met.split;
    commits = met.commits;
    is = met.is ∙ ap (λ (passed : List (List ℕ)). Some (place_of (mark_of h passed met.frame)))
        (append_assoc before (frame ∷ []) met.front);
    least = ap (λ (o : Option ℕ). least_since h place o (before ++ frame ∷ []) frames) least ∙ met.least;
  })
  passes_by least none (inr unmet) = inr (record {
    none = λ m among is. elim (Contains-append_cases own_marks (marks_behind h (before ++ frame ∷ []) frames) m among) [
      | inl here ↦ none m here is
      | inr later ↦ unmet.none m later is
    ];
    least = ap (λ (o : Option ℕ). least_since h place o (before ++ frame ∷ []) frames) least ∙ unmet.least;
  })

  loose : commit_size frame ≡ 0
      → IsMet h place (before ++ frame ∷ []) frames ⊎ IsUnmet h place (before ++ frame ∷ []) frames
      → IsMet h place before (frame ∷ frames) ⊎ IsUnmet h place before (frame ∷ frames)
  loose zero =
      let least : own_least ≡ None =
      ap (λ (b : Bool). cond b None (least_with None (is_place place (place_of own)) (commit_size frame)))
      (eq-eqb (commit_size frame) 0 zero) in
      passes_by least (λ m here is. absurd (nothing m (subst (λ (b : Bool). Contains (cond b [] (own ∷ [])) m)
      (eq-eqb (commit_size frame) 0 zero) here)))
    where
      nothing : (m : Mark) → Contains [] m → ⊥
      nothing m here = omega (arith, here.1)

  module _ (some : commit_size frame ≢ 0) where
    least_is : (b : Bool) → is_place place (place_of own) ≡ b → own_least ≡ least_with None b (commit_size frame)
    least_is b is =
        ap (λ (c : Bool). cond c None (least_with None (is_place place (place_of own)) (commit_size frame)))
        (ne_eqb (commit_size frame) 0 some)
        ∙ ap (λ (c : Bool). least_with None c (commit_size frame)) is

    commits_by : (b : Bool) → is_place place (place_of own) ≡ b
        → IsMet h place (before ++ frame ∷ []) frames ⊎ IsUnmet h place (before ++ frame ∷ []) frames
        → IsMet h place before (frame ∷ frames) ⊎ IsUnmet h place before (frame ∷ frames)
    commits_by true is rest = inl (record {
      front = [];
      frame = frame;
      behind = frames;
      split = refl;
      commits = some;
      is = place_found place (place_of own) is
          ∙ ap (λ (passed : List (List ℕ)). Some (place_of (mark_of h passed frame))) (sym (append-nil before));
      least = ap (λ (o : Option ℕ). least_since h place o (before ++ frame ∷ []) frames) (least_is true is)
          ∙ least_since-met h place (commit_size frame) (before ++ frame ∷ []) frames;
    })
    commits_by false is rest =
        passes_by (least_is false is) (λ m here here_is. other m
        (subst (λ (b : Bool). Contains (cond b [] (own ∷ [])) m)
        (ne_eqb (commit_size frame) 0 some) here) here_is) rest
      where
        other : (m : Mark) → Contains (own ∷ []) m → place ≡ Some (place_of m) → ⊥
        other m here here_is = elim (Contains-push_cases [] own m here) [
          | inl none ↦ omega (arith, none.1)
          | inr same ↦ both (sym (place_itself place (place_of own) (here_is
              ∙ ap (λ (k : Mark). Some (place_of k)) (sym same))) ∙ is)
        ]

pub cases_met : (h : WalHeader) (place : Option Place) (before frames : List (List ℕ))
    → IsMet h place before frames ⊎ IsUnmet h place before frames
cases_met h place before [] = inr (record { none = λ m among is. absurd (omega (arith, among.1)); least = refl })
cases_met h place before (frame ∷ frames) =
    let rest = cases_met h place (before ++ frame ∷ []) frames in
    elim (cases_eq (commit_size frame) 0) [
      | inl zero ↦ loose h place before frame frames zero rest
      | inr some ↦ commits_by h place before frame frames some (is_place place (place_of (mark_of h before frame))) refl
          rest
    ]

-- ---- the frames of a log up to a mark, and behind an earlier one

module _ (log : List ℕ) (h : WalHeader) (accepted : read_header log ≡ Ok h) (q : Mark) (q_is : IsMark log q) where
  abbrev upto : List (List ℕ)
  upto = frames_to h (valid_frames log) q

  abbrev cut : List ℕ
  cut = take q.end log

  marks_upto : marks_behind h [] upto ≡ marks_of cut
  marks_upto =
      ap (marks_behind h []) (ap (λ (fs : List (List ℕ)). frames_to h fs q) (valid_is log h accepted)
      ∙ frames_to_cut log h accepted q q_is)
      ∙ sym (marks_are cut h (accepted_front log h accepted q q_is))

  -- a mark of the log that isn't behind this one is among its frames
  pub mark_upto : (m : Mark) → IsMark log m → m.end ≤ q.end → Contains (marks_behind h [] upto) m
  mark_upto m is order = subst (λ (ms : List Mark). Contains ms m) (sym marks_upto) (cut_keeps log q.end m is order)

  pub upto_mark : (m : Mark) → Contains (marks_behind h [] upto) m → IsMark log m × (m.end ≤ q.end)
  upto_mark m among =
      let there : IsMark cut m = subst (λ (ms : List Mark). Contains ms m) marks_upto among in (
        subst (λ (l : List ℕ). IsMark l m) (take-append-drop q.end log) (stays_mark cut (drop q.end log) m there),
        omega (arith, ends_within cut m there, length-take q.end log),
      )

  -- An earlier mark's frames stand in front of those behind it.
  pub record IsEarlier (a : Mark) : Type 0 where
    pub earlier : List (List ℕ)
    pub split : upto ≡ earlier ++ frames_between h (valid_frames log) a q
    pub end : a.end ≡ end_of h earlier
    pub own : frames_to h (valid_frames log) a ≡ earlier

  module _ (front : List (List ℕ)) (frame : List ℕ) (behind : List (List ℕ)) (split : upto ≡ front ++ frame ∷ behind)
      (a : Mark) (is : a ≡ mark_of h front frame) where
    abbrev whole : List (List ℕ)
    whole = front ++ frame ∷ []

    grouped : upto ≡ whole ++ behind
    grouped = split ∙ sym (append_assoc front (frame ∷ []) behind)

    many : frames_up_to h a ≡ length whole
    many =
        let count : a.end - 32 ≡ length whole * frame_length h = omega (arith, ap (λ (m : Mark). m.end) is) in
        ap (λ (n : ℕ). n / frame_length h) count ∙ mul-div_left (length whole) (omega arith)

    -- the frames behind the mark are those between
    pub between_is : frames_between h (valid_frames log) a q ≡ behind
    between_is = ap (drop (frames_up_to h a)) grouped ∙ drop_at whole behind (frames_up_to h a) (sym many)

    pub is_earlier : IsEarlier a
    is_earlier =
        let all : valid_frames log ≡ whole ++ (behind ++ drop (frames_up_to h q) (valid_frames log)) =
        sym (take-append-drop (frames_up_to h q) (valid_frames log))
        ∙ ap (λ (fs : List (List ℕ)). fs ++ drop (frames_up_to h q) (valid_frames log)) grouped
        ∙ append_assoc whole behind (drop (frames_up_to h q) (valid_frames log)) in
        record {
          earlier = whole;
          split = grouped ∙ ap (λ (fs : List (List ℕ)). whole ++ fs) (sym between_is);
          end = ap (λ (m : Mark). m.end) is;
          own = ap (take (frames_up_to h a)) all
              ∙ take_at whole (behind ++ drop (frames_up_to h q) (valid_frames log)) (frames_up_to h a) (sym many);
        }

  pub earlier_mark : (a : Mark) → IsMark log a → a.end ≤ q.end → IsEarlier a
  earlier_mark a is order =
      let b = is_behind h [] upto a (mark_upto a is order) in
      is_earlier b.front b.frame b.behind b.split a b.is

  -- a place that was met is that of a mark, behind which the least number of pages is counted
  pub record IsMarkMet (place : Option Place) : Type 0 where
    pub a : Mark
    pub is_mark : IsMark log a
    pub order : a.end ≤ q.end
    pub place_is : place ≡ Some (place_of a)
    pub least : least_since h place None [] upto
        ≡ Some (least_size a.commit (frames_between h (valid_frames log) a q))

  pub mark_met : (place : Option Place) → IsMet h place [] upto → IsMarkMet place
  mark_met place met =
      let a = mark_of h met.front met.frame in
      let among : Contains (marks_behind h [] upto) a =
      subst (λ (fs : List (List ℕ)). Contains (marks_behind h [] fs) a) (sym met.split)
      (has_mark h [] met.front met.frame met.behind met.commits) in
      let there = upto_mark a among in
      record {
        a = a;
        is_mark = there.0;
        order = there.1;
        place_is = met.is;
        least = met.least
            ∙ ap (λ (fs : List (List ℕ)). Some (least_size (commit_size met.frame) fs))
            (sym (between_is met.front met.frame met.behind met.split a refl));
      }

  pub no_mark_met : (place : Option Place) → IsUnmet h place [] upto
      → (m : Mark) → IsMark log m → m.end ≤ q.end → place ≡ Some (place_of m) → ⊥
  no_mark_met place unmet m is order = unmet.none m (mark_upto m is order)
