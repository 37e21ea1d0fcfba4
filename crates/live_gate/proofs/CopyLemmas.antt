-- Copying into the database file is a step.
use Rattle.std.proofs.Common.{◌≡◌, ℕ, zero, suc, ◌+◌, ◌-◌, ◌*◌, ◌/◌, ◌<◌, ◌≤◌, List, [], ◌∷◌, ◌++◌, map, length, take}
use Rattle.std.proofs.Common.{drop, Option, Some}
use Rattle.std.proofs.Common.{None, refl, sym, ap, subst, ◌∙◌, inl, inr, append_assoc, append-nil, arith}
use Rattle.std.specs.Prelude.{◌≢◌, unwrap_or, Ok}
use Rattle.std.specs.List.{Contains, flat_map, range_with_len}
use Rattle.std.specs.Option.{option_or}
use Rattle.std.proofs.lemmas.List.{take-append-drop, take-append-le}
use Rattle.std.proofs.lemmas.List.Elements.{Contains-append_left, Contains-append_right}
use Rattle.std.proofs.Math.Nat.{div-le_of_le-mul}
use Rattle.ls_base.specs.declared.entry.Entry.{Entry}
use Rattle.ls_base.specs.declared.mark.Mark.{Mark}
use Rattle.ls_base.specs.State.{State}
use Rattle.ls_base.specs.History.{History, state_of}
use Rattle.wal_frames.specs.declared.header.WalHeader.{WalHeader}
use Rattle.wal_frames.specs.declared.fault.WalHeaderFault.TheVariants.{Short}
use Rattle.wal_frames.specs.WalFormat.{read_header}
use Rattle.wal_frames.specs.WalFrame.{commit_size, frame_length}
use Rattle.wal_frames.specs.ValidPrefix.{valid_frames}
use Rattle.wal_frames.specs.Marks.{IsMark, marks_behind, marks_of}
use Rattle.wal_frames.specs.View.{frames_page, frames_to, file_page, unless_locked, page_at_mark, view_under}
use Rattle.wal_frames.proofs.LogLemmas.{no_marks}
use Rattle.wal_frames.proofs.MarkLemmas.{marks-append, marks_are, valid_is}
use Rattle.live_gate.specs.LiveRecord.{Database}
use Rattle.live_gate.specs.Legal.{Commit, all_frames, NoneCommits, commit_mark, FitsCommit, AreEntries, HasCommits}
use Rattle.live_gate.specs.Legal.{IsRecorded}
use Rattle.live_gate.specs.Legal.{IsMarkEnd, IsHeld, IsWithoutTwins, IsLegal, last_state}
use Rattle.live_gate.specs.Step.{IsWriterStep}
use Rattle.live_gate.specs.Moves.{frames_before, CopiesFrames}
use Rattle.live_gate.proofs.CommitLemmas.{commit_marks, no_log}
use Rattle.live_gate.proofs.StillLegalLemmas.{frames_page-append, frames_here}

-- a front of frames lacks each page that all of them lack
or_none : (a b : Option (List ℕ)) → option_or a b ≡ None → b ≡ None
or_none None b none = none
or_none (Some x) b none = absurd cc

front_lacks : (p k : ℕ) (frames : List (List ℕ)) → frames_page p frames ≡ None → frames_page p (take k frames) ≡ None
front_lacks p k frames none =
    or_none (frames_page p (drop k frames)) (frames_page p (take k frames))
    (sym (frames_page-append p (take k frames) (drop k frames)) ∙ ap (frames_page p) (take-append-drop k frames) ∙ none)

-- two lists of pages with the same page at each number
pages_same : (f g : ℕ → List ℕ) (first count : ℕ) → ((p : ℕ) → first ≤ p → p < first + count → f p ≡ g p)
    → map f (range_with_len first count) ≡ map g (range_with_len first count)
pages_same f g first zero each = refl
pages_same f g first (suc n) each =
    let here : f first ≡ g first = each first (omega arith) (omega arith) in
    let rest : map f (range_with_len (first + 1) n) ≡ map g (range_with_len (first + 1) n) = pages_same f g
    (first + 1) n
    (λ p low high. each p (omega (arith, low)) (omega (arith, high))) in
    ap (λ (page : List ℕ). page ∷ map f (range_with_len (first + 1) n)) here
    ∙ ap (λ (pages : List (List ℕ)). g first ∷ pages) rest

-- the mark of a commit of the log is one of the log's
module _ (h : WalHeader) (log : List ℕ) (accepted : read_header log ≡ Ok h) where
  commit_is_mark : (passed rest : List (List ℕ)) (c : Commit) → valid_frames log ≡ (passed ++ all_frames c) ++ rest
      → NoneCommits c.frames → commit_size c.last ≢ 0 → IsMark log (commit_mark h passed c)
  commit_is_mark passed rest c split none commits =
      let own = commit_marks h passed c none commits in
      let before = marks_behind h [] passed in
      let after = marks_behind h (passed ++ all_frames c) rest in
      let here : marks_behind h [] (passed ++ all_frames c) ≡ before ++ commit_mark h passed c ∷ [] = marks-append h []
      passed (all_frames c) ∙ ap (λ (ms : List Mark). before ++ ms) own in
      let all : marks_of log ≡ (before ++ commit_mark h passed c ∷ []) ++ after = marks_are log h accepted
      ∙ ap (marks_behind h []) (sym (valid_is log h accepted) ∙ split)
      ∙ marks-append h [] (passed ++ all_frames c) rest ∙ ap (λ (ms : List Mark). ms ++ after) here in
      subst (λ (ms : List Mark). Contains ms (commit_mark h passed c)) (sym all)
      (Contains-append_left (before ++ commit_mark h passed c ∷ []) after (commit_mark h passed c)
      (Contains-append_right before (commit_mark h passed c ∷ []) (commit_mark h passed c)
      (0, omega arith, refl)))

module _ (h : WalHeader) (log file after : List ℕ) (copied now : ℕ) (all : List (List ℕ)) (later : copied ≤ now)
    (others : (mark : Mark) (p : ℕ) → IsMark log mark → now ≤ mark.end → 1 ≤ p → p ≤ mark.commit
    → frames_page p (frames_before h all now) ≡ None → file_page h.size after p ≡ file_page h.size file p)
    (are_marks : (passed rest : List (List ℕ)) (c : Commit) → all ≡ (passed ++ all_frames c) ++ rest
    → NoneCommits c.frames → commit_size c.last ≢ 0 → IsMark log (commit_mark h passed c)) where
  module _ (passed rest : List (List ℕ)) (c : Commit) (split : all ≡ (passed ++ all_frames c) ++ rest)
      (past : now ≤ (commit_mark h passed c).end) (is_mark : IsMark log (commit_mark h passed c)) where
    abbrev upto : List (List ℕ)
    upto = passed ++ all_frames c

    count_is : length (passed ++ c.frames ++ c.last ∷ []) ≡ length upto
    count_is = ap length (append_assoc passed c.frames (c.last ∷ []))

    few : (now - 32) / frame_length h ≤ length upto
    few =
        let bound : now - 32 ≤ length (passed ++ c.frames ++ c.last ∷ []) * frame_length h = omega (arith, past) in
        div-le_of_le-mul (frame_length h) {n = length upto}
        (subst (λ (n : ℕ). now - 32 ≤ n) (ap (λ (n : ℕ). n * frame_length h) count_is ∙ omega arith) bound)

    all_to : frames_to h upto (commit_mark h passed c) ≡ upto
    all_to =
        let same : passed ++ c.frames ++ c.last ∷ [] ≡ upto = append_assoc passed c.frames (c.last ∷ []) in
        ap (λ (frames : List (List ℕ)). frames_to h frames (commit_mark h passed c)) (sym same)
        ∙ frames_here h file (passed ++ c.frames) [] c.last ∙ same

    before_is : frames_before h all now ≡ take ((now - 32) / frame_length h) upto
    before_is = ap (take ((now - 32) / frame_length h)) split
        ∙ take-append-le ((now - 32) / frame_length h) upto rest few

    either_page : (p : ℕ) (o : Option (List ℕ)) → 1 ≤ p → p ≤ (commit_mark h passed c).commit
        → frames_page p upto ≡ o → unwrap_or o (file_page h.size file p) ≡ unwrap_or o (file_page h.size after p)
    either_page p None from to none = sym
        (others (commit_mark h passed c) p is_mark past from to
        (ap (frames_page p) before_is ∙ front_lacks p ((now - 32) / frame_length h) upto none))
    either_page p (Some page) from to found = refl

    page_same : (p : ℕ) → 1 ≤ p → p ≤ (commit_mark h passed c).commit
        → page_at_mark h file upto (commit_mark h passed c) p ≡ page_at_mark h after upto (commit_mark h passed c) p
    page_same p from to =
        ap (λ (frames : List (List ℕ)). unless_locked h.size p
        (unwrap_or (frames_page p frames) (file_page h.size file p))) all_to
        ∙ ap (unless_locked h.size p) (either_page p (frames_page p upto) from to refl)
        ∙ ap (λ (frames : List (List ℕ)). unless_locked h.size p
        (unwrap_or (frames_page p frames) (file_page h.size after p))) (sym all_to)

    view_same : view_under h file upto (commit_mark h passed c) ≡ view_under h after upto (commit_mark h passed c)
    view_same =
        let f = page_at_mark h file upto (commit_mark h passed c) in
        let g = page_at_mark h after upto (commit_mark h passed c) in
        let same = pages_same f g 1 (commit_mark h passed c).commit
        (λ p low high. page_same p low (omega (arith, high))) in
        ap (λ (pages : List (List ℕ)). record { page_size = Some h.size; pages = pages }) same

  refits : (passed rest : List (List ℕ)) (before : Option State) (c : Commit) (e : Entry)
      → all ≡ (passed ++ all_frames c) ++ rest
      → FitsCommit h file copied passed before c e → FitsCommit h after now passed before c e
  refits passed rest before c e split fits = record {
    unfinished = fits.unfinished;
    commits = fits.commits;
    place = fits.place;
    size = fits.size;
    same_size = fits.same_size;
    is_state = fits.is_state;
    many = fits.many;
    written = fits.written;
    kept = fits.kept;
    view = λ past. fits.view (omega (arith, later, past))
        ∙ view_same passed rest c split past (are_marks passed rest c split fits.unfinished fits.commits);
  }

  entries_copied : (passed : List (List ℕ)) (before : Option State) (cs : List Commit) (es : List Entry)
      → all ≡ passed ++ flat_map all_frames cs
      → AreEntries h file copied passed before cs es → AreEntries h after now passed before cs es
  entries_copied passed before [] [] split are = tt
  entries_copied passed before [] (e ∷ es) split are = absurd are
  entries_copied passed before (c ∷ cs) [] split are = absurd are
  entries_copied passed before (c ∷ cs) (e ∷ es) split (first, rest) =
      let next : all ≡ (passed ++ all_frames c) ++ flat_map all_frames cs = split
      ∙ sym (append_assoc passed (all_frames c) (flat_map all_frames cs)) in (
        refits passed (flat_map all_frames cs) before c e next first,
        entries_copied (passed ++ all_frames c)
            (Some (state_of e)) cs es next rest,
      )

module _ (old new : Database) (a : CopiesFrames old new) where
  commits_copied : HasCommits old.history old.committed old.file old.copied
      → HasCommits old.history old.committed new.file new.copied
  commits_copied has = record {
    h = has.h;
    accepted = has.accepted;
    whole = has.whole;
    commits = has.commits;
    some = has.some;
    frames = has.frames;
    earlier = has.earlier;
    latest = has.latest;
    split = has.split;
    entries = entries_copied has.h old.committed old.file new.file old.copied new.copied
        (valid_frames old.committed) a.later
        (λ mark p. a.others has.h mark p has.accepted) (commit_is_mark has.h old.committed has.accepted) []
        (last_state None has.earlier) has.commits has.latest has.frames has.entries;
  }

  empty_has_none : old.committed ≡ [] → ⊥
  empty_has_none none =
      let mark = a.at_mark in
      let is : Contains (marks_of old.committed) mark.0 = mark.1 in
      let no : marks_of old.committed ≡ [] = ap marks_of none ∙ no_marks [] Short no_log in
      omega (arith, is.1, ap length no)

  recorded_copied : IsRecorded old.history old.committed old.file old.copied
      → IsRecorded old.history old.committed new.file new.copied
  recorded_copied (inl has) = inl (commits_copied has)
  recorded_copied (inr rest) = absurd (empty_has_none rest.none)

  held_copied : IsHeld old.committed old.copied old.held → IsHeld old.committed new.copied old.held
  held_copied is end held =
      let bound = a.not_past end held in
      record { at_no_mark = λ none. absurd (bound.0 none); at_mark = λ some. (((is end held).at_mark some).0, bound.1) }

  copy_legal : IsLegal old → IsLegal new
  copy_legal is = record {
    recorded =
        subst (λ (log : List ℕ). IsRecorded new.history log new.file new.copied) (sym a.committed)
        (subst (λ (es : History). IsRecorded es old.committed new.file new.copied) (sym a.history)
        (recorded_copied is.recorded));
    is_copied = λ _. subst (λ (log : List ℕ). IsMarkEnd log new.copied) (sym a.committed) a.at_mark;
    is_held =
        subst (λ (o : Option ℕ). IsHeld new.committed new.copied o) (sym a.held)
        (subst (λ (log : List ℕ). IsHeld log new.copied old.held) (sym a.committed) (held_copied is.is_held));
    without_twins =
        subst (λ (n : ℕ). IsWithoutTwins new.history n) (sym a.chances)
        (subst (λ (es : History). IsWithoutTwins es old.chances) (sym a.history) is.without_twins);
  }

  pub copy_step : IsWriterStep old new
  copy_step = record {
    legal = copy_legal;
    history = record { rest = []; is = a.history ∙ sym (append-nil old.history) };
    chances = omega (arith, a.chances);
    hold = λ end held. inl (record {
      held = a.held ∙ held;
      committed = record { rest = []; is = a.committed ∙ sym (append-nil old.committed) };
      entries = omega (arith, ap length a.history, ap (λ (log : List ℕ). length (marks_of log)) a.committed);
      file = λ none. absurd ((a.not_past end held).0 none);
    });
    free = λ e. a.held ∙ e;
    stopped = λ e. a.stopped ∙ e;
  }
