-- The marks of frames: one frame more, and where each mark stands.
use Rattle.std.proofs.Common.{◌≡◌, ◌≢◌, ◌∙◌, ℕ, ◌+◌, ◌*◌, ◌<◌, Bool, true, false, cond, eqb, List, [], ◌∷◌, ◌++◌}
use Rattle.std.proofs.Common.{length, Option, Some, None, Ok, sym, ap, subst, refl, inl, inr, arith, append_assoc}
use Rattle.std.proofs.Common.{append-nil, length-append}
use Rattle.std.specs.List.{Contains, AllByRecursion, last_or}
use Rattle.std.proofs.Math.Nat.{add-mul}
use Rattle.std.proofs.lemmas.Bool.{eqb-false, ne_eqb}
use Rattle.std.proofs.lemmas.List.Elements.{Contains-append_left, Contains-append_right, Contains-append_cases}
use Rattle.std.proofs.lemmas.List.Elements.{Contains-push, Contains-push_cases}
use Rattle.ls_base.specs.declared.mark.Mark.{Mark}
use Rattle.wal_frames.specs.declared.header.WalHeader.{WalHeader}
use Rattle.wal_frames.specs.WalFormat.{read_header}
use Rattle.wal_frames.specs.WalFrame.{frame_length, commit_size}
use Rattle.wal_frames.specs.ValidPrefix.{frames_under, valid_frames}
use Rattle.wal_frames.specs.Marks.{end_of, mark_of, marks_behind, marks_of, IsMark, last_mark_of}
use Rattle.wal_frames.specs.PrefixLaws.{IsMarkOf}
use Rattle.wal_frames.specs.LogLaws.{EndBehind}

-- the frame's own mark, where it commits
abbrev pub own_mark : WalHeader → List (List ℕ) → List ℕ → List Mark
own_mark h before frame = cond (eqb (commit_size frame) 0) [] (mark_of h before frame ∷ [])

-- the last mark after a frame whose mark this is, if it commits
abbrev pub mark_after : Option Mark → Mark → Option Mark
mark_after last mark = cond (eqb mark.commit 0) last (Some mark)

-- ---- the marks of a log, and the last of them

pub valid_is : (log : List ℕ) (h : WalHeader) → read_header log ≡ Ok h → valid_frames log ≡ frames_under h log
valid_is log h e = rw e refl

pub marks_are : (log : List ℕ) (h : WalHeader) → read_header log ≡ Ok h
    → marks_of log ≡ marks_behind h [] (frames_under h log)
unfolding marks_of
marks_are log h e = rw e refl

pub last_is : (log : List ℕ) (h : WalHeader) (frames : List (List ℕ)) → read_header log ≡ Ok h
    → frames_under h log ≡ frames → last_mark_of log ≡ last_or None (marks_behind h [] frames)
last_is log h frames e same = ap (λ (ms : List Mark). last_or None ms) (marks_are log h e ∙ ap (marks_behind h []) same)

pub last_or-append : {A : Type 0} (o : Option A) (xs ys : List A) → last_or o (xs ++ ys) ≡ last_or (last_or o xs) ys
last_or-append o [] ys = refl
last_or-append o (x ∷ xs) ys = last_or-append (Some x) xs ys

last_of_one : (last : Option Mark) (mark : Mark) (none : Bool)
    → last_or last (cond none [] (mark ∷ []) ++ []) ≡ cond none last (Some mark)
last_of_one last mark true = refl
last_of_one last mark false = refl

module _ (h : WalHeader) where
  pub marks-append : (before frames others : List (List ℕ)) → marks_behind h before (frames ++ others) ≡ marks_behind
      h before frames ++ marks_behind h (before ++ frames) others
  marks-append before [] others = rw (append-nil before) refl
  marks-append before (frame ∷ frames) others =
      let own = own_mark h before frame in
      let later = marks_behind h (before ++ frame ∷ []) frames in
      ap (λ (ms : List Mark). own ++ ms) (marks-append (before ++ frame ∷ []) frames others)
      ∙ ap (λ (passed : List (List ℕ)). own ++ (later ++ marks_behind h passed others))
      (append_assoc before (frame ∷ []) frames)
      ∙ sym (append_assoc own later (marks_behind h (before ++ frame ∷ frames) others))

  pub last-more : (frames : List (List ℕ)) (frame : List ℕ)
      → last_or None (marks_behind h [] (frames ++ frame ∷ [])) ≡ mark_after (last_or None (marks_behind h [] frames))
      (mark_of h frames frame)
  last-more frames frame =
      ap (λ (ms : List Mark). last_or None ms) (marks-append [] frames (frame ∷ []))
      ∙ last_or-append None (marks_behind h [] frames) (marks_behind h frames (frame ∷ []))
      ∙ last_of_one (last_or None (marks_behind h [] frames)) (mark_of h frames frame) (eqb (commit_size frame) 0)

  -- ---- a mark, and its frame

  in_own : (none : Bool) (own mark : Mark) → Contains (cond none [] (own ∷ [])) mark → (none ≡ false) × (own ≡ mark)
  in_own true own mark among = absurd (omega (arith, among.1))
  in_own false own mark among =
      elim (Contains-push_cases [] own mark among)
      [ inl none ↦ absurd (omega (arith, none.1)) | inr same ↦ (refl, same) ]

  -- the mark is that of one of the frames, which stand behind others
  pub record IsBehind (before frames : List (List ℕ)) (mark : Mark) : Type 0 where
    pub front : List (List ℕ)
    pub frame : List ℕ
    pub behind : List (List ℕ)
    pub split : frames ≡ front ++ frame ∷ behind
    pub commits : commit_size frame ≢ 0
    pub is : mark ≡ mark_of h (before ++ front) frame

  pub is_behind : (before frames : List (List ℕ)) (mark : Mark) → Contains (marks_behind h before frames) mark
      → IsBehind before frames mark
  is_behind before [] mark among = absurd (omega (arith, among.1))
  is_behind before (frame ∷ frames) mark among =
      elim (Contains-append_cases (own_mark h before frame) (marks_behind h (before ++ frame ∷ []) frames) mark among) [
        | inl here ↦
            let own = in_own (eqb (commit_size frame) 0) (mark_of h before frame) mark here in
            record {
              front = [];
              frame = frame;
              behind = frames;
              split = refl;
              commits = eqb-false (commit_size frame) 0 own.0;
              is = sym own.1 ∙ ap (λ (passed : List (List ℕ)). mark_of h passed frame) (sym (append-nil before));
            }
        | inr later ↦
            let found = is_behind (before ++ frame ∷ []) frames mark later in
            record {
              front = frame ∷ found.front;
              frame = found.frame;
              behind = found.behind;
              split = ap (λ (fs : List (List ℕ)). frame ∷ fs) found.split;
              commits = found.commits;
              is = found.is ∙ ap (λ (passed : List (List ℕ)). mark_of h passed found.frame)
                  (append_assoc before (frame ∷ []) found.front);
            }
      ]

  pub has_mark : (before front : List (List ℕ)) (frame : List ℕ) (behind : List (List ℕ)) → commit_size frame ≢ 0
      → Contains (marks_behind h before (front ++ frame ∷ behind)) (mark_of h (before ++ front) frame)
  has_mark before front frame behind commits =
      let none : eqb (commit_size frame) 0 ≡ false = ne_eqb (commit_size frame) 0 commits in
      let passed = before ++ front in
      let mark = mark_of h passed frame in
      let own : Contains (own_mark h passed frame) mark = rw none (Contains-push [] mark) in
      subst (λ (ms : List Mark). Contains ms mark) (sym (marks-append before front (frame ∷ behind)))
      (
      Contains-append_right (marks_behind h before front) (marks_behind h passed (frame ∷ behind)) mark
      (Contains-append_left (own_mark h passed frame) (marks_behind h (passed ++ frame ∷ []) behind) mark own)
      )

pub mark_stands : (log : List ℕ) (h : WalHeader) (mark : Mark) → read_header log ≡ Ok h → IsMark log mark
    → IsMarkOf h (frames_under h log) mark
mark_stands log h mark e is_mark =
    let found = is_behind h [] (frames_under h log) mark
    (subst (λ (ms : List Mark). Contains ms mark) (marks_are log h e) is_mark) in
    record {
      before = found.front;
      frame = found.frame;
      behind = found.behind;
      split = found.split;
      commits =
          found.commits;
      is = found.is;
    }

pub stands_mark : (log : List ℕ) (h : WalHeader) (mark : Mark) → read_header log ≡ Ok h
    → IsMarkOf h (frames_under h log) mark → IsMark log mark
stands_mark log h mark e m =
    let among : Contains (marks_behind h [] (m.before ++ m.frame ∷ m.behind)) (mark_of h m.before m.frame) = has_mark
    h [] m.before m.frame m.behind m.commits in
    let same : marks_behind h [] (m.before ++ m.frame ∷ m.behind) ≡ marks_of log = ap (marks_behind h [])
    (sym m.split) ∙ sym (marks_are log h e) in
    subst (λ (x : Mark). IsMark log x) (sym m.is)
    (subst (λ (ms : List Mark). Contains ms (mark_of h m.before m.frame)) same among)

-- ---- the ends of marks

pub end-more : (h : WalHeader) (before : List (List ℕ)) (frame : List ℕ)
    → end_of h (before ++ frame ∷ []) ≡ end_of h before + frame_length h
end-more h before frame =
    ap (λ (n : ℕ). 32 + n * frame_length h) (length-append before (frame ∷ []))
    ∙ omega (arith, add-mul (length before) 1 (frame_length h))

all-append : {X : Type 0} (P : X → Type 0) (xs ys : List X) → AllByRecursion P xs → AllByRecursion P ys
    → AllByRecursion P (xs ++ ys)
all-append P [] ys left right = right
all-append P (x ∷ xs) ys left right = (left.0, all-append P xs ys left.1 right)

own_behind : (offset : ℕ) (mark : Mark) (none : Bool) → offset < mark.end → EndBehind offset (cond none [] (mark ∷ []))
own_behind offset mark true behind = tt
own_behind offset mark false behind = (behind, tt)

-- each mark ends behind those before it
abbrev pub AreRising : List Mark → Type 0
AreRising [] = Unit {0}
AreRising (mark ∷ marks) = EndBehind mark.end marks × AreRising marks

module _ (h : WalHeader) where
  -- no mark of frames ends before the first of them does
  pub ends_behind : (offset : ℕ) (before frames : List (List ℕ)) → offset < end_of h before + frame_length h
      → EndBehind offset (marks_behind h before frames)
  ends_behind offset before [] behind = tt
  ends_behind offset before (frame ∷ frames) behind =
      let more = end-more h before frame in
      all-append (λ (mark : Mark). offset < mark.end) (own_mark h before frame)
      (marks_behind h (before ++ frame ∷ []) frames)
      (own_behind offset (mark_of h before frame) (eqb (commit_size frame) 0) (omega (arith, more)))
      (ends_behind offset (before ++ frame ∷ []) frames (omega (arith, more)))

  own_first : (mark : Mark) (marks : List Mark) (none : Bool) → EndBehind mark.end marks → AreRising marks
      → AreRising (cond none [] (mark ∷ []) ++ marks)
  own_first mark marks true behind rise = rise
  own_first mark marks false behind rise = (behind, rise)

  pub are_rising : (before frames : List (List ℕ)) → AreRising (marks_behind h before frames)
  are_rising before [] = tt
  are_rising before (frame ∷ frames) =
      let passed = before ++ frame ∷ [] in
      own_first (mark_of h before frame) (marks_behind h passed frames) (eqb (commit_size frame) 0)
      (ends_behind (end_of h passed) passed frames (omega arith)) (are_rising passed frames)
