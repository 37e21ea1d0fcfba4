-- Commits of a log, and their marks.
use Rattle.std.proofs.Common.{◌≡◌, ℕ, List, [], ◌∷◌, ◌++◌, map, Option, Some, None, Err, refl, sym, ap, ◌∙◌, inl, inr}
use Rattle.std.specs.Prelude.{◌≢◌}
use Rattle.std.specs.List.{flat_map}
use Rattle.std.proofs.lemmas.Bool.{eq-eqb, ne_eqb}
use Rattle.std.proofs.lemmas.List.{append-nil}
use Rattle.ls_base.specs.declared.entry.Entry.{Entry}
use Rattle.ls_base.specs.declared.mark.Mark.{Mark}
use Rattle.ls_base.specs.declared.place.Place.{Place}
use Rattle.ls_base.specs.History.{History, state_of}
use Rattle.ls_base.specs.State.{State}
use Rattle.wal_frames.specs.declared.header.WalHeader.{WalHeader}
use Rattle.wal_frames.specs.declared.fault.WalHeaderFault.TheVariants.{Short}
use Rattle.wal_frames.specs.WalFormat.{read_header}
use Rattle.wal_frames.specs.WalFrame.{commit_size}
use Rattle.wal_frames.specs.Marks.{mark_of, marks_behind, marks_of, place_of}
use Rattle.wal_frames.proofs.LogLemmas.{no_marks}
use Rattle.wal_frames.proofs.MarkLemmas.{marks-append, marks_are, valid_is}
use Rattle.live_gate.specs.Legal.{Commit, all_frames, NoneCommits, commit_mark, AreEntries, HasCommits, IsAtRest}
use Rattle.live_gate.specs.Legal.{IsRecorded, last_state}
use Rattle.live_gate.specs.LegalLaws.{EndsAtMarks}

module _ (h : WalHeader) where
  pub none_marks : (before frames : List (List ℕ)) → NoneCommits frames → marks_behind h before frames ≡ []
  none_marks before [] none = refl
  none_marks before (frame ∷ frames) (first, rest) = rw (eq-eqb (commit_size frame) 0 first)
      (none_marks (before ++ frame ∷ []) frames rest)

  pub last_marks : (before : List (List ℕ)) (frame : List ℕ) → commit_size frame ≢ 0
      → marks_behind h before (frame ∷ []) ≡ mark_of h before frame ∷ []
  last_marks before frame commits = rw (ne_eqb (commit_size frame) 0 commits) refl

  -- a commit has one mark
  pub commit_marks : (passed : List (List ℕ)) (c : Commit) → NoneCommits c.frames → commit_size c.last ≢ 0
      → marks_behind h passed (all_frames c) ≡ commit_mark h passed c ∷ []
  commit_marks passed c none commits =
      marks-append h passed c.frames (c.last ∷ [])
      ∙ ap (λ (ms : List Mark). ms ++ marks_behind h (passed ++ c.frames) (c.last ∷ []))
      (none_marks passed c.frames none)
      ∙ last_marks (passed ++ c.frames) c.last commits

  -- the entries stand at the marks of the commits
  pub entries_places : (file : List ℕ) (copied : ℕ) (passed : List (List ℕ)) (before : Option State) (cs : List Commit)
      (es : List Entry) → AreEntries h file copied passed before cs es
      → map (λ (e : Entry). e.place) es ≡ map place_of (marks_behind h passed (flat_map all_frames cs))
  entries_places file copied passed before [] [] are = refl
  entries_places file copied passed before [] (e ∷ es) are = absurd are
  entries_places file copied passed before (c ∷ cs) [] are = absurd are
  entries_places file copied passed before (c ∷ cs) (e ∷ es) (fits, rest) =
      let own = commit_marks passed c fits.unfinished fits.commits in
      ap (λ (p : Place). p ∷ map (λ (e : Entry). e.place) es) fits.place
      ∙ ap (λ (ps : List Place). place_of (commit_mark h passed c) ∷ ps)
      (entries_places file copied (passed ++ all_frames c) (Some (state_of e)) cs es rest)
      ∙ sym (ap (map place_of) (marks-append h passed (all_frames c) (flat_map all_frames cs)
      ∙ ap (λ (ms : List Mark). ms ++ marks_behind h (passed ++ all_frames c) (flat_map all_frames cs)) own))

commits_recorded : (history : History) (committed file : List ℕ) (copied : ℕ) → HasCommits history committed file copied
    → EndsAtMarks history committed
commits_recorded history committed file copied has = record {
  earlier = has.earlier;
  latest = has.latest;
  split = has.split;
  places =
      entries_places has.h file copied [] (last_state None has.earlier) has.commits has.latest has.entries
      ∙ ap (λ (frames : List (List ℕ)). map place_of (marks_behind has.h [] frames))
      (sym (sym (valid_is committed has.h has.accepted) ∙ has.frames))
      ∙ ap (map place_of) (sym (marks_are committed has.h has.accepted));
}

pub no_log : read_header [] ≡ Err Short
unfolding read_header
no_log = refl

rest_recorded : (history : History) (committed file : List ℕ) (copied : ℕ) → IsAtRest history committed file copied
    → EndsAtMarks history committed
rest_recorded history committed file copied rest = record {
  earlier = history;
  latest = [];
  split = sym (append-nil history);
  places = sym (ap (λ (log : List ℕ). map place_of (marks_of log)) rest.none
      ∙ ap (map place_of) (no_marks [] Short no_log));
}

pub are_recorded : (history : History) (committed file : List ℕ) (copied : ℕ) → IsRecorded history committed file copied
    → EndsAtMarks history committed
are_recorded history committed file copied (inl has) = commits_recorded history committed file copied has
are_recorded history committed file copied (inr rest) = rest_recorded history committed file copied rest
