-- Each move of the writer is a step.
use Rattle.std.proofs.Common.{◌≡◌, ℕ, zero, suc, ◌<◌, ◌≤◌, List, [], ◌∷◌, ◌++◌, length, Option, Some, None, Result, Ok}
use Rattle.std.proofs.Common.{Err, refl, sym, ap, subst, ◌∙◌, inl, inr, append_assoc, append-nil, length-append, arith}
use Rattle.std.specs.Prelude.{◌⊎◌}
use Rattle.std.specs.List.{flat_map, slice_get}
use Rattle.std.proofs.lemmas.Bool.{cases_lt}
use Rattle.ls_base.specs.declared.entry.Entry.{Entry}
use Rattle.ls_base.specs.declared.mark.Mark.{Mark}
use Rattle.ls_base.specs.Fault.{Rose}
use Rattle.ls_base.specs.State.{State}
use Rattle.ls_base.specs.History.{History, HaveOneState, state_of}
use Rattle.wal_frames.specs.declared.header.WalHeader.{WalHeader}
use Rattle.wal_frames.specs.WalFormat.{read_header}
use Rattle.wal_frames.specs.ValidPrefix.{valid_frames, frames_under}
use Rattle.wal_frames.specs.Marks.{marks_behind, marks_of, IsMark}
use Rattle.wal_frames.proofs.MarkLemmas.{marks-append, marks_are, valid_is}
use Rattle.wal_frames.specs.declared.fault.WalHeaderFault.{WalHeaderFault}
use Rattle.wal_frames.specs.declared.fault.WalHeaderFault.TheVariants.{Short}
use Rattle.wal_frames.specs.ValidPrefix.{if_accepted}
use Rattle.wal_frames.proofs.AcceptedLemmas.{accepts, read_header-append}
use Rattle.wal_frames.proofs.LogLemmas.{stays_mark, no_marks, cases_accepted}
use Rattle.std.proofs.lemmas.List.Concat.{flat_map-append}
use Rattle.live_gate.specs.LiveRecord.{Database, IsPrefix}
use Rattle.live_gate.specs.Legal.{Commit, all_frames, commit_mark, FitsCommit, AreEntries, HasCommits, IsRecorded}
use Rattle.live_gate.specs.Legal.{IsMarkEnd, IsCopied, IsHeld, IsWithoutTwins, IsLegal, last_state}
use Rattle.live_gate.specs.Step.{KeepsHold, IsWriterStep}
use Rattle.live_gate.specs.Coincidence.{AddsNoTwins, CountsTwins}
use Rattle.live_gate.specs.Moves.{AddsCommit, EmptiesLog, Restarts, PassesAll}
use Rattle.live_gate.proofs.CommitLemmas.{commit_marks, no_log}

-- ---- twins

slice_get-front : {X : Type 0} (xs ys : List X) (k : ℕ) → k < length xs → slice_get (xs ++ ys) k ≡ slice_get xs k
slice_get-front [] ys k below = absurd (omega (arith, below))
slice_get-front (x ∷ xs) ys zero below = refl
slice_get-front (x ∷ xs) ys (suc k) below = slice_get-front xs ys k (omega (arith, below))

one_state_grown : (old new : History) → IsPrefix old new → AddsNoTwins old new → HaveOneState old → HaveOneState new
one_state_grown old new front none one j k a b at_j at_k same = elim (cases_lt k (length old)) [
  | inr late ↦ none j k a b late at_j at_k same
  | inl early ↦ elim (cases_lt j (length old)) [
    | inr late ↦ sym (none k j b a late at_k at_j (sym same))
    | inl both ↦
        let first : slice_get old j ≡ Some a = sym
        (ap (λ (h : History). slice_get h j) front.is ∙ slice_get-front old front.rest j both) ∙ at_j in
        let second : slice_get old k ≡ Some b = sym
        (ap (λ (h : History). slice_get h k) front.is ∙ slice_get-front old front.rest k early) ∙ at_k in
        one j k a b first second same
  ]
]

none_came : (old new : Database) → old.chances ≤ new.chances → new.chances ≡ 0
    → Rose old.chances new.chances ⊎ AddsNoTwins old.history new.history → AddsNoTwins old.history new.history
none_came old new later zeros (inl rose) = absurd (omega (arith, rose.least, zeros))
none_came old new later zeros (inr none) = none

pub twins_kept : (old new : Database) → IsPrefix old.history new.history → old.chances ≤ new.chances
    → CountsTwins old new → IsWithoutTwins old.history old.chances → IsWithoutTwins new.history new.chances
twins_kept old new front later counts without zeros =
    one_state_grown old.history new.history front (none_came old new later zeros counts.rose)
    (without (omega (arith, later, zeros)))

-- ---- what is copied and held, in a log that grew

end_stays : (old new : List ℕ) (end : ℕ) → IsPrefix old new → IsMarkEnd old end → IsMarkEnd new end
end_stays old new end front (mark, is, ends) = (
  mark,
  subst (λ (log : List ℕ). IsMark log mark) (sym front.is)
      (stays_mark old front.rest mark is),
  ends,
)

pub copied_stays : (old new : List ℕ) (copied : ℕ) → IsPrefix old new → IsCopied old copied → IsCopied new copied
copied_stays old new copied front is some = end_stays old new copied front (is some)

pub held_stays : (old new : List ℕ) (copied : ℕ) (held : Option ℕ) → IsPrefix old new → IsHeld old copied held
    → IsHeld new copied held
held_stays old new copied held front is end e =
    let may = is end e in
    record {
      at_no_mark = may.at_no_mark;
      at_mark = λ some. let at = may.at_mark some in
          (end_stays old new end front at.0, at.1);
    }

-- ---- entries, one more

pub last_state-append : (before : Option State) (es more : List Entry)
    → last_state before (es ++ more) ≡ last_state (last_state before es) more
last_state-append before [] more = refl
last_state-append before (e ∷ es) more = last_state-append (Some (state_of e)) es more

module _ (h : WalHeader) (file : List ℕ) (copied : ℕ) where
  pub entries-push : (passed : List (List ℕ)) (before : Option State) (cs : List Commit) (es : List Entry) (c : Commit)
      (e : Entry) → AreEntries h file copied passed before cs es
      → FitsCommit h file copied (passed ++ flat_map all_frames cs) (last_state before es) c e
      → AreEntries h file copied passed before (cs ++ c ∷ []) (es ++ e ∷ [])
  entries-push passed before [] [] c e are fits =
      (subst (λ (fs : List (List ℕ)). FitsCommit h file copied fs before c e) (append-nil passed) fits, tt)
  entries-push passed before [] (x ∷ es) c e are fits = absurd are
  entries-push passed before (d ∷ cs) [] c e are fits = absurd are
  entries-push passed before (d ∷ cs) (x ∷ es) c e (first, rest) fits = (
    first,
    entries-push (passed ++ all_frames d) (Some (state_of x)) cs es c e rest
        (subst (λ (fs : List (List ℕ)). FitsCommit h file copied fs (last_state (Some (state_of x)) es) c e)
        (sym (append_assoc passed (all_frames d) (flat_map all_frames cs))) fits),
  )

-- ---- a commit more

same_header : (a b : WalHeader) → ◌≡◌ {A = Result WalHeader WalHeaderFault} (Ok a) (Ok b) → a ≡ b
same_header a b e = cc

header_stays : (old new : List ℕ) (before now : WalHeader) → IsPrefix old new → read_header old ≡ Ok before
    → read_header new ≡ Ok now → before ≡ now
header_stays old new before now front was is =
    same_header before now (sym was ∙ sym (read_header-append old front.rest (accepts old before was).long)
    ∙ sym (ap read_header front.is) ∙ is)

refused_frames : (log : List ℕ) (fault : WalHeaderFault) → read_header log ≡ Err fault → valid_frames log ≡ []
refused_frames log fault e = ap (λ r. if_accepted r (λ h. frames_under h log) []) e

empty_frames : (log : List ℕ) → log ≡ [] → valid_frames log ≡ []
empty_frames log none = ap valid_frames none ∙ refused_frames [] Short no_log

some-push : {X : Type 0} (xs : List X) (x : X) → xs ++ x ∷ [] ≡ [] → ⊥
some-push xs x none = absurd (omega (arith, ap length none, length-append xs (x ∷ [])))

flat_map-push : (cs : List Commit) (c : Commit) → flat_map all_frames
    (cs ++ c ∷ []) ≡ flat_map all_frames cs ++ all_frames c
flat_map-push cs c = flat_map-append all_frames cs (c ∷ [])
    ∙ ap (λ (fs : List (List ℕ)). flat_map all_frames cs ++ fs) (append-nil (all_frames c))

module _ (old new : Database) (a : AddsCommit old new) where
  grown_commits : HasCommits old.history old.committed old.file old.copied
      → HasCommits new.history new.committed new.file new.copied
  grown_commits has =
      let same = header_stays old.committed new.committed has.h a.h a.front has.accepted a.accepted in
      let before = last_state None has.earlier in
      let under = subst (λ (h : WalHeader). AreEntries h old.file old.copied [] before has.commits has.latest) same
      has.entries in
      let filed = subst (λ (file : List ℕ). AreEntries a.h file old.copied [] before has.commits has.latest)
      (sym a.file) under in
      let entries = subst (λ (n : ℕ). AreEntries a.h new.file n [] before has.commits has.latest)
      (sym a.copied) filed in
      let passed = subst (λ (fs : List (List ℕ)). FitsCommit a.h new.file new.copied fs
      (last_state None old.history) a.c a.e) has.frames a.fits in
      let states = ap (last_state None) has.split ∙ last_state-append None has.earlier has.latest in
      let fits = subst (λ (s : Option State). FitsCommit a.h new.file new.copied
      (flat_map all_frames has.commits) s a.c a.e) states passed in
      record {
        h = a.h;
        accepted = a.accepted;
        whole = a.whole;
        commits = has.commits ++ a.c ∷ [];
        some = some-push has.commits a.c;
        frames = a.frames ∙ ap (λ (fs : List (List ℕ)). fs ++ all_frames a.c) has.frames
            ∙ sym (flat_map-push has.commits a.c);
        earlier = has.earlier;
        latest = has.latest ++ a.e ∷ [];
        split = a.history ∙ ap (λ (es : History). es ++ a.e ∷ []) has.split
            ∙ append_assoc has.earlier has.latest (a.e ∷ []);
        entries = entries-push a.h new.file new.copied [] before has.commits has.latest a.c a.e entries fits;
      }

  first_commit : old.committed ≡ [] → HasCommits new.history new.committed new.file new.copied
  first_commit none =
      let no_frames = empty_frames old.committed none in
      record {
        h = a.h;
        accepted = a.accepted;
        whole = a.whole;
        commits = a.c ∷ [];
        some = λ e. absurd cc;
        frames = a.frames ∙ ap (λ (fs : List (List ℕ)). fs ++ all_frames a.c) no_frames
            ∙ sym (append-nil (all_frames a.c));
        earlier = old.history;
        latest = a.e ∷ [];
        split = a.history;
        entries = (
          subst (λ (fs : List (List ℕ)). FitsCommit a.h new.file new.copied fs
              (last_state None old.history) a.c a.e) no_frames a.fits,
          tt,
        );
      }

  commit_recorded : IsRecorded old.history old.committed old.file old.copied
      → IsRecorded new.history new.committed new.file new.copied
  commit_recorded (inl has) = inl (grown_commits has)
  commit_recorded (inr rest) = inl (first_commit rest.none)

  old_marks : marks_behind a.h [] (valid_frames old.committed) ≡ marks_of old.committed
  old_marks = elim (cases_accepted old.committed) [
    | inl accepted ↦
        let same = header_stays old.committed new.committed accepted.0 a.h a.front accepted.1 a.accepted in
        let is : read_header old.committed ≡ Ok a.h = accepted.1 ∙ ap (λ (h : WalHeader). Ok h) same in
        ap (marks_behind a.h []) (valid_is old.committed a.h is) ∙ sym (marks_are old.committed a.h is)
    | inr refused ↦ ap (marks_behind a.h []) (refused_frames old.committed refused.0 refused.1)
        ∙ sym (no_marks old.committed refused.0 refused.1)
  ]

  pub marks_grown : marks_of new.committed ≡ marks_of old.committed ++ commit_mark a.h (valid_frames old.committed)
      a.c ∷ []
  marks_grown =
      marks_are new.committed a.h a.accepted ∙ ap (marks_behind a.h [])
      (sym (valid_is new.committed a.h a.accepted) ∙ a.frames)
      ∙ marks-append a.h [] (valid_frames old.committed) (all_frames a.c)
      ∙ ap (λ (ms : List Mark). ms ++ marks_behind a.h (valid_frames old.committed) (all_frames a.c)) old_marks
      ∙ ap (λ (ms : List Mark). marks_of old.committed ++ ms)
      (commit_marks a.h (valid_frames old.committed) a.c a.fits.unfinished a.fits.commits)

  commit_history : IsPrefix old.history new.history
  commit_history = record { rest = a.e ∷ []; is = a.history }

  commit_legal : IsLegal old → IsLegal new
  commit_legal is = record {
    recorded = commit_recorded is.recorded;
    is_copied = subst (λ (n : ℕ). IsCopied new.committed n) (sym a.copied)
        (copied_stays old.committed new.committed old.copied a.front is.is_copied);
    is_held =
        subst (λ (o : Option ℕ). IsHeld new.committed new.copied o) (sym a.held)
        (subst (λ (n : ℕ). IsHeld new.committed n old.held) (sym a.copied)
        (held_stays old.committed new.committed old.copied old.held a.front is.is_held));
    without_twins = twins_kept old new commit_history a.chances a.twins is.without_twins;
  }

  commit_holds : (end : ℕ) → old.held ≡ Some end → KeepsHold end old new
  commit_holds end held = record {
    held = a.held ∙ held;
    committed = a.front;
    entries = omega (
      arith,
      ap length a.history,
      length-append old.history
          (a.e ∷ []),
      ap length marks_grown,
      length-append (marks_of old.committed)
          (commit_mark a.h (valid_frames old.committed) a.c ∷ []),
    );
    file = λ _. a.file;
  }

  pub commit_step : IsWriterStep old new
  commit_step = record {
    legal = commit_legal;
    history = commit_history;
    chances = a.chances;
    hold = λ end held. inl (commit_holds end held);
    free = λ e. a.held ∙ e;
    stopped = λ e. a.stopped ∙ e;
  }

-- ---- the log ceases to have a commit

module _ (old new : Database) (m : EmptiesLog old new) where
  empties_history : IsPrefix old.history new.history
  empties_history = record { rest = m.rest ∷ []; is = m.history }

  empties_legal : IsHeld new.committed new.copied new.held → IsLegal old → IsLegal new
  empties_legal held is = record {
    recorded = inr m.at_rest;
    is_copied = λ some. absurd (some m.at_rest.uncopied);
    is_held = held;
    without_twins = twins_kept old new empties_history m.chances m.twins is.without_twins;
  }

not_held : (o : Option ℕ) (end : ℕ) → o ≡ None → o ≡ Some end → ⊥
not_held o end none some = cc

pub restart_step : (old new : Database) → Restarts old new → IsWriterStep old new
restart_step old new r = record {
  legal = empties_legal old new r.empties (λ end held. absurd (not_held new.held end r.is_free held));
  history = empties_history old new r.empties;
  chances = r.empties.chances;
  hold = λ end held. absurd (not_held old.held end r.was_free held);
  free = λ _. r.is_free;
  stopped = λ e. r.empties.stopped ∙ e;
}

same_end : (a b : ℕ) → ◌≡◌ {A = Option ℕ} (Some a) (Some b) → a ≡ b
same_end a b e = cc

pub pass_legal : (old new : Database) → PassesAll old new → IsLegal old → IsLegal new
pass_legal old new p = empties_legal old new p.empties (λ end held.
    let zeros : 0 ≡ end = same_end 0 end (sym p.held ∙ held) in
    record { at_no_mark = λ _. p.empties.at_rest.uncopied; at_mark = λ other. absurd (other (sym zeros)) })
