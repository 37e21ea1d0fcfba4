-- The commit of a mark, among the commits of a log and their entries.
use Rattle.std.proofs.Common.{◌≡◌, ℕ, ◌*◌, ◌≤◌, min, Bool, true, false, cond, List, [], ◌∷◌, ◌++◌, length, Option, Some}
use Rattle.std.proofs.Common.{None, refl, sym, ap, subst, ◌∙◌, inl, inr, append_assoc, arith, length-append}
use Rattle.std.specs.Prelude.{◌≢◌, ◌==◌}
use Rattle.std.specs.Option.{option_or}
use Rattle.std.specs.List.{Contains, flat_map}
use Rattle.std.proofs.lemmas.Bool.{eq-eqb, ne_eqb}
use Rattle.std.proofs.lemmas.List.{append-nil}
use Rattle.std.proofs.lemmas.List.Elements.{Contains-append_cases, Contains-push_cases}
use Rattle.std.proofs.Math.Nat.{mul-le-mul_right}
use Rattle.ls_base.specs.declared.entry.Entry.{Entry}
use Rattle.ls_base.specs.declared.mark.Mark.{Mark}
use Rattle.ls_base.specs.State.{State, page_of}
use Rattle.ls_base.specs.History.{state_of}
use Rattle.wal_frames.specs.declared.header.WalHeader.{WalHeader}
use Rattle.wal_frames.specs.WalFrame.{frame_length, commit_size}
use Rattle.wal_frames.specs.Marks.{end_of, marks_behind}
use Rattle.wal_frames.specs.View.{frames_page}
use Rattle.wal_frames.proofs.MarkLemmas.{marks-append, is_behind}
use Rattle.live_gate.specs.Legal.{Commit, all_frames, NoneCommits, commit_mark, FitsCommit, AreEntries, last_state}
use Rattle.live_gate.proofs.CommitLemmas.{commit_marks}
use Rattle.live_gate.proofs.StillLegalLemmas.{frames_page-append}
use Rattle.wal_follow.specs.Piece.{least_met, least_size}

-- ---- the least size

least_met-below : (least size : ℕ) → least_met least size ≤ least
least_met-below least size = below (size == 0)
  where
    below : (b : Bool) → cond b least (min least size) ≤ least
    below true = omega arith
    below false = omega arith

least_met-grows : (a b size : ℕ) → a ≤ b → least_met a size ≤ least_met b size
least_met-grows a b size less = grows (size == 0)
  where
    grows : (z : Bool) → cond z a (min a size) ≤ cond z b (min b size)
    grows true = less
    grows false = omega (arith, less)

pub least_size-grows : (a b : ℕ) (frames : List (List ℕ)) → a ≤ b → least_size a frames ≤ least_size b frames
least_size-grows a b [] less = less
least_size-grows a b (frame ∷ frames) less = least_size-grows (least_met a (commit_size frame)) (least_met b
    (commit_size frame)) frames (least_met-grows a b (commit_size frame) less)

pub least_size-below : (start : ℕ) (frames : List (List ℕ)) → least_size start frames ≤ start
least_size-below start [] = omega arith
least_size-below start (frame ∷ frames) = omega (
  arith,
  least_size-below (least_met start
      (commit_size frame)) frames,
  least_met-below start (commit_size frame),
)

pub least_size-append : (start : ℕ) (xs ys : List (List ℕ))
    → least_size start (xs ++ ys) ≡ least_size (least_size start xs) ys
least_size-append start [] ys = refl
least_size-append start (x ∷ xs) ys = least_size-append (least_met start (commit_size x)) xs ys

none_least : (start : ℕ) (frames : List (List ℕ)) → NoneCommits frames → least_size start frames ≡ start
none_least start [] none = refl
none_least start (frame ∷ frames) (first, rest) =
    let same : least_met start (commit_size frame) ≡ start = rw (eq-eqb (commit_size frame) 0 first) refl in
    ap (λ (n : ℕ). least_size n frames) same ∙ none_least start frames rest

-- over a commit
pub commit_least : (start : ℕ) (c : Commit) → NoneCommits c.frames → commit_size c.last ≢ 0
    → least_size start (all_frames c) ≡ min start (commit_size c.last)
commit_least start c none commits =
    least_size-append start c.frames (c.last ∷ [])
    ∙ ap (λ (n : ℕ). least_met n (commit_size c.last)) (none_least start c.frames none)
    ∙ ap (λ (b : Bool). cond b start (min start (commit_size c.last))) (ne_eqb (commit_size c.last) 0 commits)

-- ---- the state after some entries

abbrev pub state_after : State → List Entry → State
state_after s [] = s
state_after s (e ∷ es) = state_after (state_of e) es

pub state_after-last : (s : State) (es : List Entry) (e : Entry) → state_after s (es ++ e ∷ []) ≡ state_of e
state_after-last s [] e = refl
state_after-last s (x ∷ es) e = state_after-last (state_of x) es e

none_either : (a b : Option (List ℕ)) → option_or a b ≡ None → (a ≡ None) × (b ≡ None)
none_either None b e = (refl, e)
none_either (Some x) b e = absurd cc

pub none_of_both : (p : ℕ) (xs ys : List (List ℕ)) → frames_page p (xs ++ ys) ≡ None
    → (frames_page p ys ≡ None) × (frames_page p xs ≡ None)
none_of_both p xs ys none = none_either (frames_page p ys) (frames_page p xs) (sym (frames_page-append p xs ys) ∙ none)

module _ (h : WalHeader) (file : List ℕ) (copied : ℕ) where
  -- A page up to the least size and in no frame is as it was.
  pub kept_page : (passed : List (List ℕ)) (s : State) (cs : List Commit) (es : List Entry)
      → AreEntries h file copied passed (Some s) cs es
      → (p : ℕ) → 1 ≤ p → p ≤ least_size (length s.pages) (flat_map all_frames cs)
      → frames_page p (flat_map all_frames cs) ≡ None → page_of (state_after s es) p ≡ page_of s p
  kept_page passed s [] [] are p low below none = refl
  kept_page passed s [] (e ∷ es) are p low below none = absurd are
  kept_page passed s (c ∷ cs) [] are p low below none = absurd are
  kept_page passed s (c ∷ cs) (e ∷ es) (fits, rest) p low below none =
      let both = none_of_both p (all_frames c) (flat_map all_frames cs) none in
      let over : least_size (length s.pages) (flat_map all_frames (c ∷ cs)) ≡ least_size (min (length s.pages)
      (commit_size c.last)) (flat_map all_frames cs) =
      least_size-append (length s.pages) (all_frames c) (flat_map all_frames cs)
      ∙ ap (λ (n : ℕ). least_size n (flat_map all_frames cs)) (commit_least
      (length s.pages) c fits.unfinished fits.commits) in
      let up = least_size-below (min (length s.pages) (commit_size c.last)) (flat_map all_frames cs) in
      let grown = least_size-grows (min (length s.pages) (commit_size c.last)) (length e.pages)
      (flat_map all_frames cs) (omega (arith, fits.many)) in
      kept_page (passed ++ all_frames c) (state_of e) cs es rest p low (omega (arith, below, over, grown)) both.0
      ∙ fits.kept s p refl low (omega (arith, below, over, up, fits.many)) (omega (arith, below, over, up)) both.1

  -- ---- the commit of a mark

  pub record CommitOf (passed : List (List ℕ)) (before : Option State) (cs : List Commit) (es : List Entry)
      (m : Mark) : Type 0 where
    pub front : List Commit
    pub c : Commit
    pub behind : List Commit
    pub first : List Entry
    pub e : Entry
    pub later : List Entry
    pub commits : cs ≡ front ++ c ∷ behind
    pub entries : es ≡ first ++ e ∷ later
    pub is : m ≡ commit_mark h (passed ++ flat_map all_frames front) c
    pub fits : FitsCommit h file copied (passed ++ flat_map all_frames front) (last_state before first) c e
    pub upto : AreEntries h file copied passed before (front ++ c ∷ []) (first ++ e ∷ [])
    pub after : AreEntries h file copied ((passed ++ flat_map all_frames front) ++ all_frames c) (Some
        (state_of e)) behind later

  pub commit_of : (passed : List (List ℕ)) (before : Option State) (cs : List Commit) (es : List Entry) (m : Mark)
      → AreEntries h file copied passed before cs es
      → Contains (marks_behind h passed (flat_map all_frames cs)) m → CommitOf passed before cs es m
  commit_of passed before [] [] m are among = absurd (omega (arith, among.1))
  commit_of passed before [] (e ∷ es) m are among = absurd are
  commit_of passed before (c ∷ cs) [] m are among = absurd are
  commit_of passed before (c ∷ cs) (e ∷ es) m (fits, rest) among =
      let own = commit_marks h passed c fits.unfinished fits.commits in
      let all : marks_behind h passed (flat_map all_frames (c ∷ cs)) ≡
      (commit_mark h passed c ∷ []) ++ marks_behind h (passed ++ all_frames c) (flat_map all_frames cs) =
      marks-append h passed (all_frames c) (flat_map all_frames cs)
      ∙ ap (λ (ms : List Mark). ms ++ marks_behind h (passed ++ all_frames c) (flat_map all_frames cs)) own in
      let stand : passed ≡ passed ++ flat_map all_frames [] = sym (append-nil passed) in
      elim (Contains-append_cases (commit_mark h passed c ∷ []) (marks_behind h (passed ++ all_frames c)
      (flat_map all_frames cs)) m (subst (λ (ms : List Mark). Contains ms m) all among)) [
        | inl here ↦ elim (Contains-push_cases [] (commit_mark h passed c) m here) [
          | inl none ↦ absurd (omega (arith, none.1))
          | inr same ↦ record {
            front = [];
            c = c;
            behind = cs;
            first = [];
            e = e;
            later = es;
            commits = refl;
            entries = refl;
            is = sym same ∙ ap (λ (fs : List (List ℕ)). commit_mark h fs c) stand;
            fits = subst (λ (fs : List (List ℕ)). FitsCommit h file copied fs before c e) stand fits;
            upto = (fits, tt);
            after = subst (λ (fs : List (List ℕ)). AreEntries h file copied (fs ++ all_frames c) (Some
                (state_of e)) cs es) stand rest;
          }
        ]
        | inr there ↦
            let found = commit_of (passed ++ all_frames c) (Some (state_of e)) cs es m rest there in
            let joined : (passed ++ all_frames c) ++ flat_map all_frames found.front ≡ passed ++ flat_map all_frames
            (c ∷ found.front) = append_assoc passed (all_frames c) (flat_map all_frames found.front) in
            record {
              front = c ∷ found.front;
              c = found.c;
              behind = found.behind;
              first = e ∷ found.first;
              e = found.e;
              later = found.later;
              commits = ap (λ (l : List Commit). c ∷ l) found.commits;
              entries = ap (λ (l : List Entry). e ∷ l) found.entries;
              is = found.is ∙ ap (λ (fs : List (List ℕ)). commit_mark h fs found.c) joined;
              fits = subst (λ (fs : List (List ℕ)). FitsCommit h file copied fs (last_state before
                  (e ∷ found.first)) found.c found.e) joined found.fits;
              upto = (fits, found.upto);
              after = subst (λ (fs : List (List ℕ)). AreEntries h file copied (fs ++ all_frames found.c) (Some
                  (state_of found.e)) found.behind found.later) joined found.after;
            }
      ]

  -- the state before has the page size of the log
  pub first_size : (passed : List (List ℕ)) (s : State) (front : List Commit) (c : Commit) (first : List Entry)
      (e : Entry) → AreEntries h file copied passed (Some s) (front ++ c ∷ []) (first ++ e ∷ [])
      → s.page_size ≡ Some h.size
  first_size passed s [] c [] e (fits, rest) = fits.same_size s refl
  first_size passed s [] c (x ∷ first) e (fits, rest) = fits.same_size s refl
  first_size passed s (y ∷ front) c [] e (fits, rest) = fits.same_size s refl
  first_size passed s (y ∷ front) c (x ∷ first) e (fits, rest) = fits.same_size s refl

  -- marks among frames end at their end or before
  pub ends_upto : (before frames : List (List ℕ)) (m : Mark) → Contains (marks_behind h before frames) m
      → m.end ≤ end_of h (before ++ frames)
  ends_upto before frames m among =
      let b = is_behind h before frames m among in
      let shorter : length ((before ++ b.front) ++ b.frame ∷ []) ≤ length (before ++ frames) =
      omega (
        arith,
        length-append (before ++ b.front)
            (b.frame ∷ []),
        length-append before b.front,
        length-append before frames,
        ap length b.split,
        length-append b.front (b.frame ∷ b.behind),
      ) in
      let scaled : length ((before ++ b.front) ++ b.frame ∷ []) * frame_length h ≤ length
      (before ++ frames) * frame_length h = mul-le-mul_right (frame_length h) shorter in
      omega (arith, ap (λ (x : Mark). x.end) b.is, scaled)
