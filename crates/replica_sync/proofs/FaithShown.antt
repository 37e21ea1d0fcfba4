-- The state that was found is recorded, and the files show it.
use Rattle.std.proofs.Common.{◌≡◌, ℕ, ◌<◌, ◌≤◌, false, List, [], ◌∷◌, length, map, Some, None, refl, sym, ap, subst}
use Rattle.std.proofs.Common.{◌∙◌, inl, inr, ⊎_elim, arith}
use Rattle.std.specs.Prelude.{Option}
use Rattle.std.specs.List.{slice_get}
use Rattle.std.proofs.lemmas.Bool.{cases_lt}
use Rattle.ls_base.specs.declared.entry.Entry.{Entry}
use Rattle.ls_base.specs.declared.mark.Mark.{Mark}
use Rattle.ls_base.specs.declared.place.Place.{Place}
use Rattle.ls_base.specs.PageSize.{IsPageSize}
use Rattle.ls_base.specs.State.{State}
use Rattle.ls_base.specs.History.{History, state_of, state_at}
use Rattle.ls_base.proofs.HistoryLemmas.{state_at-entry}
use Rattle.wal_frames.specs.declared.header.WalHeader.{WalHeader}
use Rattle.wal_frames.specs.Marks.{marks_behind, marks_of, place_of}
use Rattle.wal_frames.specs.View.{view_at, view_at_rest, rest_place}
use Rattle.live_gate.specs.LiveRecord.{Database}
use Rattle.live_gate.specs.Legal.{Commit, AreEntries, last_state, HasCommits, IsAtRest, IsRecorded, IsLegal}
use Rattle.live_gate.specs.Step.{KeepsHold, IsWriterStep}
use Rattle.live_gate.proofs.CommitLemmas.{entries_places}
use Rattle.wal_frames.proofs.MarkLemmas.{marks_are, valid_is}
use Rattle.snapshot_read.specs.Reading.{IsUnderGate}
use Rattle.wal_follow.specs.declared.answer.Found.{Found}
use Rattle.wal_follow.specs.Answers.{SaysSize, FindsMark, FindsRest, DescribesMark, DescribesRest}
use Rattle.wal_follow.specs.Calls.{IsTargetView, target_of}
use Rattle.wal_follow.proofs.PieceLemmas.{marks_have_their_view, slice_get-seam}
use Rattle.wal_follow.proofs.ReadLemmas.{keeps_hold}
use Rattle.replica_sync.specs.Pages.{IsShown}
use Rattle.replica_sync.proofs.LiveLemmas.{calm_before, state_stays, not_before}

none_mapped : {A B : Type 0} (f : A → B) (xs : List A) → map f xs ≡ [] → xs ≡ []
none_mapped f [] none = refl
none_mapped f (x ∷ xs) none = absurd cc

no_entries : (h : WalHeader) (file : List ℕ) (copied : ℕ) (passed : List (List ℕ)) (before : Option State)
    (commits : List Commit) (latest : List Entry) → AreEntries h file copied passed before commits latest
    → latest ≡ [] → commits ≡ []
no_entries h file copied passed before [] latest are none = refl
no_entries h file copied passed before (c ∷ cs) [] are none = absurd are
no_entries h file copied passed before (c ∷ cs) (e ∷ es) are none = absurd cc

-- a log without a mark has no commit
without_marks : (history : History) (committed file : List ℕ) (copied : ℕ) → marks_of committed ≡ []
    → HasCommits history committed file copied → ⊥
without_marks history committed file copied none has =
    let nothing : has.latest ≡ [] =
    none_mapped (λ (e : Entry). e.place) has.latest
    (entries_places has.h file copied [] (last_state None has.earlier) has.commits has.latest has.entries
    ∙ ap (λ (frames : List (List ℕ)). map place_of (marks_behind has.h [] frames))
    (sym (sym (valid_is committed has.h has.accepted) ∙ has.frames))
    ∙ ap (map place_of) (sym (marks_are committed has.h has.accepted) ∙ none)) in
    has.some (no_entries has.h file copied [] _ has.commits has.latest has.entries nothing)

is_at_rest : (history : History) (committed file : List ℕ) (copied : ℕ) → marks_of committed ≡ []
    → IsRecorded history committed file copied → IsAtRest history committed file copied
is_at_rest history committed file copied none (inl has) = absurd (without_marks history committed file copied none has)
is_at_rest history committed file copied none (inr rest) = rest

zero_held : (end : ℕ) → ◌≡◌ {A = Option ℕ} (Some end) (Some 0) → end ≡ 0
zero_held end e = cc

module _ (old mid : Database) (gate : IsUnderGate old) (step : IsWriterStep old mid) (awake : mid.stopped ≡ false)
    (legal : IsLegal old) (calm : mid.chances ≡ 0) where
  keeps : KeepsHold gate.0 old mid
  keeps = keeps_hold old mid gate step awake

  -- ---- at a mark

  pub found_copied : (h : WalHeader) (q : Mark) → FindsMark old mid h q → mid.copied ≤ q.end
  found_copied h q finds =
      let may = legal.is_held gate.0 gate.1 in
      let below : gate.0 ≤ q.end =
      ⊎_elim
      (λ (some : 0 < gate.0).
      let mark = (may.at_mark (λ none. omega (arith, some, none))).0 in
      let low = finds.latest mark.0 mark.1 in
      omega (arith, low, mark.2))
      (λ (none : gate.0 ≤ 0). omega (arith, none))
      (cases_lt 0 gate.0) in
      not_before mid gate.0 q (step.legal legal) keeps.held below

  pub mark_shown : (found : Found) (h : WalHeader) (q : Mark) → FindsMark old mid h q → DescribesMark found h q
      → IsShown (target_of found) mid (view_at mid.file mid.committed q)
  mark_shown found h q finds describes = record {
    recorded = ap (state_at mid.history) describes.place
        ∙ marks_have_their_view mid q (step.legal legal) calm finds.is_mark (found_copied h q finds);
    view = subst (λ (p : Place). IsTargetView (target_of found) mid p (view_at mid.file mid.committed q))
        (sym describes.place) (q, record { is_mark = finds.is_mark; place = describes.place; is = refl });
  }

  -- ---- at rest

  module _ (size : ℕ) (finds : FindsRest old mid size) where
    pub rest : IsAtRest old.history old.committed old.file old.copied
    rest = is_at_rest old.history old.committed old.file old.copied finds.none legal.recorded

    file_stays : mid.file ≡ old.file
    file_stays = keeps.file (zero_held gate.0 (sym keeps.held ∙ finds.held))

    rest_size : rest.last.size ≡ size
    rest_size =
        let says : SaysSize old.file size = subst (λ (file : List ℕ). SaysSize file size) file_stays finds.says in
        sym (rest.header says.database) ∙ says.is

    pub rest_state : state_of rest.last ≡ view_at_rest size mid.file
    rest_state =
        rest.view ∙ ap (λ (n : ℕ). view_at_rest n old.file) rest_size ∙ ap (view_at_rest size) (sym file_stays)

    pub rest_there : slice_get old.history (length rest.earlier) ≡ Some rest.last
    rest_there =
        ap (λ (l : History). slice_get l (length rest.earlier)) rest.split ∙ slice_get-seam rest.earlier rest.last []

    -- the page size is one
    pub rest_is_size : IsPageSize size
    rest_is_size = subst IsPageSize rest_size rest.size

    rest_at : rest_place size mid.file ≡ rest.last.place
    rest_at =
        sym (rest.place ∙ ap (λ (n : ℕ). rest_place n old.file) rest_size ∙ ap (rest_place size) (sym file_stays))

    pub rest_recorded : state_at mid.history (rest_place size mid.file) ≡ Some (view_at_rest size mid.file)
    rest_recorded =
        state_stays old mid (rest_place size mid.file) (view_at_rest size mid.file) step
        (ap (state_at old.history) rest_at
        ∙ state_at-entry old.history (length rest.earlier) rest.last
        (legal.without_twins (calm_before old mid step calm)) rest_there
        ∙ ap (λ (s : State). Some s) rest_state)

  pub rest_shown : (found : Found) → FindsRest old mid found.size → DescribesRest found found.size mid.file
      → IsShown (target_of found) mid (view_at_rest found.size mid.file)
  rest_shown found finds describes = record {
    recorded = ap (state_at mid.history) describes.place ∙ rest_recorded found.size finds;
    view = subst (λ (p : Place). IsTargetView (target_of found) mid p (view_at_rest found.size mid.file))
        (sym describes.place) refl;
  }
