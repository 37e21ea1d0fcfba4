-- A database that never moves is legal.
use Rattle.std.proofs.Common.{◌≡◌, ℕ, zero, suc, ◌+◌, ◌-◌, ◌*◌, ◌/◌, ◌≤◌, Bool, true, false, cond, List, [], ◌∷◌, ◌++◌}
use Rattle.std.proofs.Common.{map, length, take, Option, Some, None, refl, sym, ap, subst, ◌∙◌, append_assoc}
use Rattle.std.proofs.Common.{append-nil, arith}
use Rattle.std.specs.Prelude.{◌≢◌, ◌==◌, unwrap_or}
use Rattle.std.specs.List.{flat_map, range_with_len}
use Rattle.std.specs.Option.{option_or}
use Rattle.std.proofs.lemmas.Bool.{eq-eqb, ne_eqb, eqb-true, false≢true}
use Rattle.std.proofs.lemmas.List.FromFn.{get_or-map-range_with_len, length-map-range_with_len}
use Rattle.std.proofs.lemmas.Option.{slice_get-get_or}
use Rattle.std.proofs.Math.Nat.{mul-div_left}
use Rattle.std.proofs.Math.Seq.{take-append_seam}
use Rattle.ls_base.specs.declared.entry.Entry.{Entry}
use Rattle.ls_base.specs.declared.mark.Mark.{Mark}
use Rattle.ls_base.specs.PageSize.{lock_page}
use Rattle.ls_base.specs.State.{State, IsState, page_of}
use Rattle.wal_frames.specs.declared.header.WalHeader.{WalHeader}
use Rattle.wal_frames.specs.WalFrame.{commit_size, frame_length, page_number, frame_page}
use Rattle.wal_frames.specs.Marks.{mark_of, marks_behind, place_of}
use Rattle.wal_frames.specs.View.{frames_page, frames_to, frames_up_to, file_page, unless_locked, view_under}
use Rattle.live_gate.specs.Legal.{Commit, all_frames, NoneCommits, commit_mark, FitsCommit, AreEntries}

-- ---- pages of frames behind others

or_or : (a b c : Option (List ℕ)) → option_or (option_or a b) c ≡ option_or a (option_or b c)
or_or None b c = refl
or_or (Some x) b c = refl

pub frames_page-append : (p : ℕ) (xs ys : List (List ℕ))
    → frames_page p (xs ++ ys) ≡ option_or (frames_page p ys) (frames_page p xs)
frames_page-append p [] ys = or_none (frames_page p ys)
  where
    or_none : (o : Option (List ℕ)) → o ≡ option_or o None
    or_none None = refl
    or_none (Some x) = refl
frames_page-append p (x ∷ xs) ys =
    let own = cond (page_number x == p) (Some (frame_page x)) None in
    ap (λ (o : Option (List ℕ)). option_or o own) (frames_page-append p xs ys)
    ∙ or_or (frames_page p ys) (frames_page p xs) own

-- ---- the view of frames

module _ (h : WalHeader) (db : List ℕ) where
  abbrev pub page_by : List (List ℕ) → ℕ → List ℕ
  page_by frames p = unless_locked h.size p (unwrap_or (frames_page p frames) (file_page h.size db p))

  abbrev pub view_by : List (List ℕ) → ℕ → State
  view_by frames commit = record { page_size = Some h.size; pages = map (page_by frames) (range_with_len 1 commit) }

  -- those of the frames up to the mark of the one behind `stand`
  pub frames_here : (stand rest : List (List ℕ)) (frame : List ℕ)
      → frames_to h (stand ++ frame ∷ rest) (mark_of h stand frame) ≡ stand ++ frame ∷ []
  frames_here stand rest frame =
      let front = stand ++ frame ∷ [] in
      let count : 32 + length front * frame_length h - 32 ≡ length front * frame_length h = omega arith in
      let many : frames_up_to h (mark_of h stand frame) ≡ length front = ap (λ (n : ℕ). n / frame_length h) count
      ∙ mul-div_left (length front) (omega arith) in
      let split : stand ++ frame ∷ rest ≡ front ++ rest = sym (append_assoc stand (frame ∷ []) rest) in
      ap (λ (n : ℕ). take n (stand ++ frame ∷ rest)) many ∙ ap (take (length front)) split ∙ take-append_seam front rest

  view_here : (stand rest : List (List ℕ)) (frame : List ℕ)
      → view_under h db (stand ++ frame ∷ rest) (mark_of h stand frame) ≡ view_by (stand ++ frame ∷ [])
      (commit_size frame)
  view_here stand rest frame = ap (λ (frames : List (List ℕ)). view_by frames (commit_size frame))
      (frames_here stand rest frame)

  many_by : (frames : List (List ℕ)) (commit : ℕ) → length (view_by frames commit).pages ≡ commit
  many_by frames commit = length-map-range_with_len (page_by frames) 1 commit

  page_of-by : (frames : List (List ℕ)) (commit p : ℕ) → 1 ≤ p → p ≤ commit
      → page_of (view_by frames commit) p ≡ Some (page_by frames p)
  page_of-by frames commit zero low high = absurd (omega (arith, low))
  page_of-by frames commit (suc n) low high =
      slice_get-get_or (map (page_by frames) (range_with_len 1 commit)) n []
      (omega (arith, high, many_by frames commit))
      ∙ ap (λ (page : List ℕ). Some page) (get_or-map-range_with_len (page_by frames) 1 commit n (suc n) []
      (omega (arith, high)) (omega arith))

-- ---- the commits of frames

pub commits_from : List (List ℕ) → List (List ℕ) → List Commit
commits_from pending [] = []
commits_from pending (frame ∷ frames) =
    cond (commit_size frame == 0) (commits_from (pending ++ frame ∷ []) frames)
    (record { frames = pending; last = frame } ∷ commits_from [] frames)

none-push : (pending : List (List ℕ)) (frame : List ℕ) → NoneCommits pending → commit_size frame ≡ 0
    → NoneCommits (pending ++ frame ∷ [])
none-push [] frame none zeros = (zeros, tt)
none-push (x ∷ xs) frame (first, rest) zeros = (first, none-push xs frame rest zeros)

-- what the state before a commit is, where the frames before it are these
pub record IsBefore (h : WalHeader) (db : List ℕ) (before : Option State) (passed : List (List ℕ)) : Type 0 where
  pub size : (s : State) → before ≡ Some s → s.page_size ≡ Some h.size
  pub each : (s : State) (p : ℕ) → before ≡ Some s → 1 ≤ p → p ≤ length s.pages
      → page_of s p ≡ Some (page_by h db passed p)

not_locked : (size p : ℕ) (page : List ℕ) → p ≢ lock_page size → unless_locked size p page ≡ page
not_locked size p page other = rw (ne_eqb p (lock_page size) other) refl

same_state : (a b : State) → ◌≡◌ {A = Option State} (Some a) (Some b) → a ≡ b
same_state a b e = cc

module _ (h : WalHeader) (db : List ℕ) (all : List (List ℕ)) where
  abbrev pub entry_under : Mark → Entry
  entry_under mark = record { size = h.size; place = place_of mark; pages = (view_under h db all mark).pages }

  module _ (passed pending stand rest : List (List ℕ)) (frame : List ℕ) (stands : stand ≡ passed ++ pending)
      (split : all ≡ stand ++ frame ∷ rest) where
    abbrev mark : Mark
    mark = mark_of h stand frame

    abbrev front : List (List ℕ)
    front = stand ++ frame ∷ []

    abbrev c : Commit
    c = record { frames = pending; last = frame }

    state_is : view_under h db all mark ≡ view_by h db front (commit_size frame)
    state_is = ap (λ (frames : List (List ℕ)). view_under h db frames mark) split ∙ view_here h db stand rest frame

    whole : front ≡ passed ++ (pending ++ frame ∷ [])
    whole = ap (λ (frames : List (List ℕ)). frames ++ frame ∷ []) stands ∙ append_assoc passed pending (frame ∷ [])

    mark_is : mark ≡ commit_mark h passed c
    mark_is = ap (λ (frames : List (List ℕ)). mark_of h frames frame) stands

    many_is : length (view_under h db all mark).pages ≡ commit_size frame
    many_is = ap (λ (s : State). length s.pages) state_is ∙ many_by h db front (commit_size frame)

    page_is : (p : ℕ) → 1 ≤ p → p ≤ length (view_under h db all mark).pages
        → page_of (view_under h db all mark) p ≡ Some (page_by h db front p)
    page_is p low high = ap (λ (s : State). page_of s p) state_is
        ∙ page_of-by h db front (commit_size frame) p low (omega (arith, high, many_is))

    last_in : (p : ℕ) (o : Option (List ℕ)) → frames_page p (pending ++ frame ∷ []) ≡ o
        → frames_page p front ≡ option_or o (frames_page p passed)
    last_in p o found = ap (frames_page p) whole ∙ frames_page-append p passed (pending ++ frame ∷ [])
        ∙ ap (λ (x : Option (List ℕ)). option_or x (frames_page p passed)) found

    view_is : view_under h db all mark ≡ view_under h db (passed ++ all_frames c) (commit_mark h passed c)
    view_is =
        state_is
        ∙ sym (ap (λ (frames : List (List ℕ)). view_under h db frames (commit_mark h passed c)) (sym whole)
        ∙ ap (λ (m : Mark). view_under h db front m) (sym mark_is) ∙ view_here h db stand [] frame)

    fits_here : (before : Option State) → IsState (view_under h db all mark) → NoneCommits pending
        → commit_size frame ≢ 0 → IsBefore h db before passed → FitsCommit h db 0 passed before c (entry_under mark)
    fits_here before is_state none commits is = record {
      unfinished = none;
      commits = commits;
      place = ap place_of mark_is;
      size = refl;
      same_size = is.size;
      is_state = is_state;
      many = many_is;
      written = λ p page low high other found.
          page_is p low high
          ∙ ap (λ (b : List ℕ). Some b)
          (ap (λ (o : Option (List ℕ)). unless_locked h.size p (unwrap_or o (file_page h.size db p)))
          (last_in p (Some page) found) ∙ not_locked h.size p page other);
      kept = λ s p e low high within found.
          page_is p low high
          ∙ ap (λ (o : Option (List ℕ)). Some (unless_locked h.size p (unwrap_or o (file_page h.size db p))))
          (last_in p None found)
          ∙ sym (is.each s p e low within);
      view = λ _. view_is;
    }

    next_before : IsBefore h db (Some (view_under h db all mark)) (passed ++ all_frames c)
    next_before = record {
      size = λ s e. sym (ap (λ (t : State). t.page_size) (same_state _ s e));
      each = λ s p e low high.
          let same = same_state (view_under h db all mark) s e in
          subst (λ (t : State). page_of t p ≡ Some (page_by h db (passed ++ all_frames c) p)) same
          (page_is p low (subst (λ (t : State). p ≤ length t.pages) (sym same) high)
          ∙ ap (λ (frames : List (List ℕ)). Some (page_by h db frames p)) whole);
    }

  module _ (states : (mark : Mark) → IsState (view_under h db all mark)) where
    step : (b : Bool) (passed pending stand frames : List (List ℕ)) (frame : List ℕ) (before : Option State)
        → (commit_size frame == 0) ≡ b
        → (commit_size frame ≡ 0 → AreEntries h db 0 passed before (commits_from (pending ++ frame ∷ []) frames)
        (map entry_under (marks_behind h (stand ++ frame ∷ []) frames)))
        → (commit_size frame ≢ 0 → FitsCommit h db 0 passed before (record { frames = pending; last = frame })
        (entry_under (mark_of h stand frame)))
        → (commit_size frame ≢ 0 → AreEntries h db 0 (passed ++ (pending ++ frame ∷ []))
        (Some (view_under h db all (mark_of h stand frame))) (commits_from [] frames)
        (map entry_under (marks_behind h (stand ++ frame ∷ []) frames)))
        → AreEntries h db 0 passed before (cond b (commits_from (pending ++ frame ∷ []) frames)
        (record { frames = pending; last = frame } ∷ commits_from [] frames))
        (map entry_under (cond b [] (mark_of h stand frame ∷ []) ++ marks_behind h (stand ++ frame ∷ []) frames))
    step true passed pending stand frames frame before test later fits rest = later
        (eqb-true (commit_size frame) 0 test)
    step false passed pending stand frames frame before test later fits rest =
        let commits : commit_size frame ≢ 0 = λ zeros. absurd
        (false≢true (sym test ∙ eq-eqb (commit_size frame) 0 zeros)) in
        (fits commits, rest commits)

    pub walk : (frames passed pending stand : List (List ℕ)) (before : Option State) → NoneCommits pending
        → stand ≡ passed ++ pending → all ≡ stand ++ frames → IsBefore h db before passed
        → AreEntries h db 0 passed before (commits_from pending frames) (map entry_under (marks_behind h stand frames))
    unfolding commits_from
    walk [] passed pending stand before none stands split is = tt
    walk (frame ∷ frames) passed pending stand before none stands split is =
        let grown : all ≡ (stand ++ frame ∷ []) ++ frames = split ∙ sym (append_assoc stand (frame ∷ []) frames) in
        let covered = whole passed pending stand frames frame stands split in
        step (commit_size frame == 0) passed pending stand frames frame before refl
        (λ zeros. walk frames passed (pending ++ frame ∷ []) (stand ++ frame ∷ []) before
        (none-push pending frame none zeros) covered grown is)
        (λ commits. fits_here passed pending stand frames frame stands split before
        (states (mark_of h stand frame)) none commits is)
        (λ commits. walk frames (passed ++ (pending ++ frame ∷ [])) [] (stand ++ frame ∷ [])
        (Some (view_under h db all (mark_of h stand frame))) tt
        (covered ∙ sym (append-nil (passed ++ (pending ++ frame ∷ [])))) grown
        (next_before passed pending stand frames frame stands split))

-- ---- frames of which the last commits are those of their commits

covers_step : (b : Bool) (pending front : List (List ℕ)) (x frame : List ℕ)
    → flat_map all_frames (commits_from (pending ++ x ∷ []) (front ++ frame ∷ [])) ≡ (pending ++ x ∷ []) ++
    (front ++ frame ∷ [])
    → flat_map all_frames (commits_from [] (front ++ frame ∷ [])) ≡ front ++ frame ∷ []
    → flat_map all_frames (cond b (commits_from (pending ++ x ∷ []) (front ++ frame ∷ []))
    (record { frames = pending; last = x } ∷ commits_from [] (front ++ frame ∷ []))) ≡ pending ++
    (x ∷ (front ++ frame ∷ []))
covers_step true pending front x frame later rest = later ∙ append_assoc pending (x ∷ []) (front ++ frame ∷ [])
covers_step false pending front x frame later rest = ap (λ (fs : List (List ℕ)). (pending ++ x ∷ []) ++ fs) rest
    ∙ append_assoc pending (x ∷ []) (front ++ frame ∷ [])

covers_last : (b : Bool) (pending : List (List ℕ)) (frame : List ℕ) → b ≡ false
    → flat_map all_frames (cond b (commits_from (pending ++ frame ∷ []) [])
    (record { frames = pending; last = frame } ∷ commits_from [] [])) ≡ pending ++ frame ∷ []
unfolding commits_from
covers_last true pending frame commits = absurd cc
covers_last false pending frame commits = append-nil (pending ++ frame ∷ [])

pub covers : (front pending : List (List ℕ)) (frame : List ℕ) → commit_size frame ≢ 0
    → flat_map all_frames (commits_from pending (front ++ frame ∷ [])) ≡ pending ++ (front ++ frame ∷ [])
unfolding commits_from
covers [] pending frame commits = covers_last (commit_size frame == 0) pending frame
    (ne_eqb (commit_size frame) 0 commits)
covers (x ∷ front) pending frame commits = covers_step (commit_size x == 0) pending front x frame
    (covers front (pending ++ x ∷ []) frame commits) (covers front [] frame commits)
