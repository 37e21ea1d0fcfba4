-- The commit of a mark, with its entry.
use Rattle.std.proofs.Common.{◌≡◌, ℕ, zero, suc, List, [], ◌∷◌, ◌++◌, length, Option, Some, refl, sym, ap, subst, ◌∙◌}
use Rattle.std.proofs.Common.{append_assoc, append-nil, arith}
use Rattle.std.specs.List.{flat_map, slice_get}
use Rattle.std.proofs.lemmas.Option.{slice_get_within, same_Some}
use Rattle.ls_base.specs.declared.entry.Entry.{Entry}
use Rattle.ls_base.specs.declared.mark.Mark.{Mark}
use Rattle.ls_base.specs.History.{state_of}
use Rattle.ls_base.specs.State.{State}
use Rattle.wal_frames.specs.declared.header.WalHeader.{WalHeader}
use Rattle.wal_frames.specs.Marks.{marks_behind}
use Rattle.wal_frames.proofs.MarkLemmas.{marks-append}
use Rattle.live_gate.specs.Legal.{Commit, all_frames, commit_mark, FitsCommit, AreEntries, last_state}
use Rattle.live_gate.proofs.CommitLemmas.{commit_marks}

module _ (h : WalHeader) (file : List ℕ) (copied : ℕ) where
  -- it is the commit at this place of the list, and its entry stands at the same place
  pub record CommitAt (passed : List (List ℕ)) (before : Option State) (cs : List Commit) (es : List Entry) (n : ℕ)
      (mark : Mark) : Type 0 where
    pub front : List Commit
    pub c : Commit
    pub behind : List Commit
    pub firsts : List Entry
    pub e : Entry
    pub others : List Entry
    pub commits : cs ≡ front ++ c ∷ behind
    pub entries : es ≡ firsts ++ e ∷ others
    pub many : length front ≡ n
    pub as_many : length firsts ≡ n
    pub is : mark ≡ commit_mark h (passed ++ flat_map all_frames front) c
    pub fits : FitsCommit h file copied (passed ++ flat_map all_frames front) (last_state before firsts) c e

  marks_here : (passed : List (List ℕ)) (before : Option State) (c : Commit) (e : Entry) (rest : List (List ℕ))
      → FitsCommit h file copied passed before c e
      → marks_behind h passed (all_frames c ++ rest)
      ≡ commit_mark h passed c ∷ marks_behind h (passed ++ all_frames c) rest
  marks_here passed before c e rest fits =
      marks-append h passed (all_frames c) rest
      ∙ ap (λ (ms : List Mark). ms ++ marks_behind h (passed ++ all_frames c) rest)
      (commit_marks h passed c fits.unfinished fits.commits)

  pub commit_at : (passed : List (List ℕ)) (before : Option State) (cs : List Commit) (es : List Entry) (n : ℕ)
      (mark : Mark) → AreEntries h file copied passed before cs es
      → slice_get (marks_behind h passed (flat_map all_frames cs)) n ≡ Some mark
      → CommitAt passed before cs es n mark
  commit_at passed before [] [] n mark are found = absurd (omega (arith, slice_get_within [] n mark found))
  commit_at passed before [] (e ∷ es) n mark are found = absurd are
  commit_at passed before (c ∷ cs) [] n mark are found = absurd are
  commit_at passed before (c ∷ cs) (e ∷ es) zero mark (fits, rest) found =
      let marks = marks_here passed before c e (flat_map all_frames cs) fits in
      let same = same_Some mark (commit_mark h passed c) (sym found ∙ ap (λ (ms : List Mark). slice_get ms 0) marks) in
      let bare = sym (append-nil passed) in
      record {
        front = [];
        c = c;
        behind = cs;
        firsts = [];
        e = e;
        others = es;
        commits = refl;
        entries = refl;
        many = refl;
        as_many = refl;
        is = same ∙ ap (λ (fs : List (List ℕ)). commit_mark h fs c) bare;
        fits = subst (λ (fs : List (List ℕ)). FitsCommit h file copied fs before c e) bare fits;
      }
  commit_at passed before (c ∷ cs) (e ∷ es) (suc n) mark (fits, rest) found =
      let marks = marks_here passed before c e (flat_map all_frames cs) fits in
      let r = commit_at (passed ++ all_frames c) (Some (state_of e)) cs es n mark rest
      (sym (ap (λ (ms : List Mark). slice_get ms (suc n)) marks) ∙ found) in
      let whole = append_assoc passed (all_frames c) (flat_map all_frames r.front) in
      record {
        front = c ∷ r.front;
        c = r.c;
        behind = r.behind;
        firsts = e ∷ r.firsts;
        e = r.e;
        others = r.others;
        commits = ap (λ (t : List Commit). c ∷ t) r.commits;
        entries = ap (λ (t : List Entry). e ∷ t) r.entries;
        many = ap suc r.many;
        as_many = ap suc r.as_many;
        is = r.is ∙ ap (λ (fs : List (List ℕ)). commit_mark h fs r.c) whole;
        fits =
            subst (λ (fs : List (List ℕ)). FitsCommit h file copied fs (last_state (Some (state_of e)) r.firsts) r.c r.e)
            whole r.fits;
      }
