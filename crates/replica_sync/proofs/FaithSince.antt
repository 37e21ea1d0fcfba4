-- The state that was found is that of the last entry at the call's start, or of a later one.
use Rattle.std.proofs.Common.{◌≡◌, ℕ, zero, suc, ◌+◌, ◌-◌, ◌≤◌, Bool, true, false, List, [], ◌∷◌, ◌++◌, length, map}
use Rattle.std.proofs.Common.{Option, Some, None, option_map, refl, sym, ap, subst, ◌∙◌, inl, inr, ⊎_elim}
use Rattle.std.proofs.Common.{length-append, arith}
use Rattle.std.specs.Prelude.{◌⊎◌, ◌≢◌}
use Rattle.std.specs.List.{slice_get}
use Rattle.std.proofs.lemmas.Bool.{cases_lt}
use Rattle.std.proofs.lemmas.List.{length-map}
use Rattle.std.proofs.lemmas.List.Kept.{AllPairs-from_increasing}
use Rattle.std.proofs.lemmas.Option.{slice_get-map, get_or_from_slice_get}
use Rattle.crash_disk.specs.Files.{Files}
use Rattle.ls_base.specs.declared.entry.Entry.{Entry}
use Rattle.ls_base.specs.declared.mark.Mark.{Mark}
use Rattle.ls_base.specs.declared.place.Place.{Place}
use Rattle.ls_base.specs.declared.place.Place.TheVariants.{Wal, Rest}
use Rattle.ls_base.specs.History.{History, state_of, state_at}
use Rattle.ls_base.specs.Place.{is_same_place}
use Rattle.ls_base.specs.State.{State}
use Rattle.ls_base.specs.SyncLog.{SyncLog}
use Rattle.ls_base.proofs.HistoryLemmas.{state_at-entry, is_same_place-true, is_same_place-itself}
use Rattle.ls_base.proofs.StateLemmas.{there_at}
use Rattle.wal_frames.specs.declared.header.WalHeader.{WalHeader}
use Rattle.wal_frames.specs.LogLaws.{HasMoreMarks}
use Rattle.wal_frames.specs.Marks.{marks_of, IsMark, place_of}
use Rattle.wal_frames.specs.View.{view_at, view_at_rest, rest_place}
use Rattle.wal_frames.proofs.LogLemmas.{growing_keeps, marks_rise}
use Rattle.live_gate.specs.LiveRecord.{Database}
use Rattle.live_gate.specs.Legal.{IsLegal}
use Rattle.live_gate.specs.LegalLaws.{EndsAtMarks}
use Rattle.live_gate.specs.Step.{KeepsHold, IsWriterStep}
use Rattle.live_gate.proofs.CommitLemmas.{are_recorded}
use Rattle.snapshot_read.specs.Reading.{IsUnderGate}
use Rattle.wal_follow.specs.declared.following.Following.{Following}
use Rattle.wal_follow.specs.Answers.{FindsMark, FindsRest, StaysAtMark, StaysAtRest, IsLostAtRest}
use Rattle.wal_follow.specs.Following.{Fits, FitsPassed}
use Rattle.wal_follow.proofs.FitsLemmas.{fits_stays}
use Rattle.wal_follow.proofs.PieceLemmas.{marks_have_their_view, slice_get-seam}
use Rattle.wal_follow.proofs.ReadLemmas.{keeps_hold}
use Rattle.replica_sync.specs.Faith.{IsPlaceOfNewest, IsStateSince, EndsSince}
use Rattle.replica_sync.proofs.FaithShown.{found_copied, rest, rest_state, rest_there, rest_recorded}
use Rattle.replica_sync.proofs.FaithLog.{recorded_line}

-- ---- lists

get-behind : {X : Type 0} (xs ys : List X) (k j : ℕ) → j ≡ length xs + k → slice_get (xs ++ ys) j ≡ slice_get ys k
get-behind [] ys k j is = let same : j ≡ k = omega (arith, is) in ap (slice_get ys) same
get-behind (x ∷ xs) ys k zero is = absurd (omega (arith, is))
get-behind (x ∷ xs) ys k (suc j) is = get-behind xs ys k j (omega (arith, is))

still_there : {X : Type 0} (xs ys : List X) (k : ℕ) (x : X) → slice_get xs k ≡ Some x → slice_get (xs ++ ys) k ≡ Some x
still_there [] ys k x is = absurd cc
still_there (y ∷ xs) ys zero x is = is
still_there (y ∷ xs) ys (suc k) x is = still_there xs ys k x is

same_place : (a b : Place) → ◌≡◌ {A = Option Place} (Some a) (Some b) → a ≡ b
same_place a b e = cc

same_state : (a b : State) → ◌≡◌ {A = Option State} (Some a) (Some b) → a ≡ b
same_state a b e = cc

-- what is found stays found
pub since_later : (old mid new : History) (more : History) (s : State) → new ≡ mid ++ more → IsStateSince old mid s
    → IsStateSince old new s
since_later old mid new more s is found = record {
  index = found.index;
  entry = found.entry;
  there = ap (λ (h : History). slice_get h found.index) is ∙ still_there mid more found.index found.entry found.there;
  since = found.since;
  same = found.same;
}

module _ (old mid : Database) (gate : IsUnderGate old) (step : IsWriterStep old mid) (awake : mid.stopped ≡ false)
    (legal : IsLegal old) (calm : mid.chances ≡ 0) where
  keeps : KeepsHold gate.0 old mid
  keeps = keeps_hold old mid gate step awake

  legal_mid : IsLegal mid
  legal_mid = step.legal legal

  -- ---- at a mark

  recorded : EndsAtMarks mid.history mid.committed
  recorded = are_recorded mid.history mid.committed mid.file mid.copied legal_mid.recorded

  grown : HasMoreMarks old.committed (old.committed ++ keeps.committed.rest)
  grown = growing_keeps old.committed keeps.committed.rest

  marks_now : marks_of mid.committed ≡ marks_of old.committed ++ grown.more
  marks_now = ap marks_of keeps.committed.is ∙ grown.kept

  many : length recorded.latest ≡ length (marks_of mid.committed)
  many =
      sym (length-map recorded.latest (λ (e : Entry). e.place)) ∙ ap length recorded.places
      ∙ length-map (marks_of mid.committed) place_of

  -- as many entries stand before those of the marks as before
  earlier_many : length recorded.earlier + length (marks_of old.committed) ≡ length old.history
  earlier_many =
      let all : length mid.history ≡ length recorded.earlier + length recorded.latest =
      ap length recorded.split ∙ length-append recorded.earlier recorded.latest in
      omega (arith, all, many, keeps.entries)

  end_at : (ms : List Mark) (k : ℕ) (m : Mark) → slice_get ms k ≡ Some m
      → slice_get (map (λ (x : Mark). x.end) ms) k ≡ Some m.end
  end_at ms k m is = slice_get-map (λ (x : Mark). x.end) ms k ∙ ap (option_map (λ (x : Mark). x.end)) is

  -- the last mark at the start isn't behind the found one
  not_earlier : (h : WalHeader) (q : Mark) (k : ℕ) → FindsMark old mid h q
      → slice_get (marks_of mid.committed) k ≡ Some q
      → length (marks_of old.committed) ≤ k + 1
  not_earlier h q k finds at =
      let was = marks_of old.committed in
      let is = marks_of mid.committed in
      elim (cases_lt (k + 1) (length was)) [
        | inr enough ↦ omega (arith, enough)
        | inl fewer ↦
            let j = length was - 1 in
            let last = there_at was j (omega (arith, fewer)) in
            let among : IsMark old.committed last.0 = (
              j,
              omega
                  (arith, fewer),
              get_or_from_slice_get was j last.0 last.0 last.1,
            ) in
            let low = finds.latest last.0 among in
            let there : slice_get is j ≡ Some last.0 =
            ap (λ (ms : List Mark). slice_get ms j) marks_now ∙ still_there was grown.more j last.0 last.1 in
            let ends = map (λ (x : Mark). x.end) is in
            let count : length ends ≡ length was + length grown.more =
            length-map is (λ (x : Mark). x.end) ∙ ap length marks_now ∙ length-append was grown.more in
            let up = AllPairs-from_increasing ends (marks_rise mid.committed) k j 0 (omega (arith, fewer))
            (omega (arith, fewer, count)) in
            let a = get_or_from_slice_get ends k q.end 0 (end_at is k q at) in
            let b = get_or_from_slice_get ends j last.0.end 0 (end_at is j last.0 there) in
            absurd (omega (arith, low, up, a, b))
      ]

  pub mark_since : (h : WalHeader) (q : Mark) (s : State) → FindsMark old mid h q
      → state_at mid.history (place_of q) ≡ Some s → IsStateSince old.history mid.history s
  mark_since h q s finds is =
      let ms = marks_of mid.committed in
      let k = finds.is_mark.0 in
      let own = there_at ms k finds.is_mark.1 in
      let named : own.0 ≡ q = sym (get_or_from_slice_get ms k own.0 q own.1) ∙ finds.is_mark.2 in
      let at : slice_get ms k ≡ Some q = own.1 ∙ ap (λ (m : Mark). Some m) named in
      let e = there_at recorded.latest k (omega (arith, finds.is_mark.1, many)) in
      let place : e.0.place ≡ place_of q =
      same_place e.0.place (place_of q)
      (sym (slice_get-map (λ (x : Entry). x.place) recorded.latest k ∙ ap (option_map (λ (x : Entry). x.place)) e.1)
      ∙ ap (λ (ps : List Place). slice_get ps k) recorded.places ∙ slice_get-map place_of ms k
      ∙ ap (option_map place_of) at) in
      let index = length recorded.earlier + k in
      let there : slice_get mid.history index ≡ Some e.0 =
      ap (λ (l : History). slice_get l index) recorded.split ∙ get-behind recorded.earlier recorded.latest k index refl
      ∙ e.1 in
      let found : state_at mid.history e.0.place ≡ Some (state_of e.0) =
      state_at-entry mid.history index e.0 (legal_mid.without_twins calm) there in
      record {
        index = index;
        entry = e.0;
        there = there;
        since = let enough = not_earlier h q k finds at in omega (arith, enough, earlier_many);
        same = same_state (state_of e.0) s (sym found ∙ ap (state_at mid.history) place ∙ is);
      }

  -- ---- at rest

  pub rest_since : (size : ℕ) → FindsRest old mid size → IsStateSince old.history mid.history
      (view_at_rest size mid.file)
  rest_since size finds =
      let r = rest old mid gate step awake legal calm size finds in
      record {
        index = length r.earlier;
        entry = r.last;
        there =
            ap (λ (h : History). slice_get h (length r.earlier)) step.history.is
            ∙ still_there old.history step.history.rest (length r.earlier) r.last
            (rest_there old mid gate step awake legal calm size finds);
        since = let count = ap length r.split ∙ length-append r.earlier (r.last ∷ []) in omega (arith, count);
        same = rest_state old mid gate step awake legal calm size finds;
      }

-- ---- nothing changed

module _ (f : Following) (files : Files) (log : SyncLog) (old new : Database) (fits : Fits f old)
    (step : IsWriterStep old new) (awake : new.stopped ≡ false) (legal : IsLegal old) (calm : new.chances ≡ 0)
    (newest : IsPlaceOfNewest files log f.place) where
  ends_at : (place : Place) (s : State) → f.place ≡ Some place → state_at new.history place ≡ Some s
      → IsStateSince old.history new.history s → EndsSince old.history new.history log
  ends_at place s is recorded since =
      let here = subst (λ (p : Option Place). IsPlaceOfNewest files log p) is newest in
      let line = here.1 in
      record {
        state = s;
        recorded = recorded_line new.history log (length log) line.0 line.1 ∙ ap (state_at new.history) line.2
            ∙ recorded;
        since = since;
      }

  stays_at_mark : StaysAtMark f old new → EndsSince old.history new.history log
  stays_at_mark st =
      let view = view_at new.file new.committed st.q in
      let is = marks_have_their_view new st.q (step.legal legal) calm st.finds.is_mark
      (found_copied old new fits.gate step awake legal calm st.h st.q st.finds) in
      ends_at (place_of st.q) view st.same is (mark_since old new fits.gate step awake legal calm st.h st.q view
      st.finds is)

  passed_since : (p : FitsPassed f new) → marks_of old.committed ≡ []
      → IsStateSince old.history new.history (state_of p.entry)
  passed_since p none =
      let s = p.stands in
      let hold = keeps_hold old new fits.gate step awake in
      record {
        index = length s.earlier;
        entry = p.entry;
        there = ap (λ (l : History). slice_get l (length s.earlier)) s.split
            ∙ slice_get-seam s.earlier p.entry s.latest;
        since =
            let all = ap length s.split ∙ length-append s.earlier (p.entry ∷ s.latest) in
            omega (arith, all, s.many, hold.entries, ap length none);
        same = refl;
      }

  module _ (st : StaysAtRest f old new) where
    abbrev rest_now : Place
    rest_now = rest_place st.size new.file

    at_same_rest : (sum : ℕ) → f.place ≡ Some (Rest sum) → (Rest sum ≢ rest_now → ⊥) → (b : Bool)
        → is_same_place (Rest sum) rest_now ≡ b → EndsSince old.history new.history log
    at_same_rest sum is follows true here =
        let same = is_same_place-true (Rest sum) rest_now here in
        ends_at rest_now (view_at_rest st.size new.file) (is ∙ ap (λ (p : Place). Some p) same)
        (rest_recorded old new fits.gate step awake legal calm st.size st.finds)
        (rest_since old new fits.gate step awake legal calm st.size st.finds)
    at_same_rest sum is follows false apart =
        absurd (follows (λ same. differ (sym apart
        ∙ subst (λ (p : Place). is_same_place (Rest sum) p ≡ true) same (is_same_place-itself (Rest sum)))))
      where
        differ : false ≡ true → ⊥
        differ e = cc

    at_passed : (b : Bool) → f.passed ≡ b → (f.passed ≡ false → ⊥) → EndsSince old.history new.history log
    at_passed true is follows =
        let p = ((fits_stays f old new step awake fits).calm calm).passed is in
        ends_at p.place (state_of p.entry) p.is_place p.same (passed_since p st.finds.none)
    at_passed false is follows = absurd (follows is)

    at_the_place : (p : Option Place) → f.place ≡ p → (IsLostAtRest f.passed p rest_now → ⊥)
        → EndsSince old.history new.history log
    at_the_place None is follows = absurd (follows tt)
    at_the_place (Some (Rest sum)) is follows = at_same_rest sum is follows (is_same_place (Rest sum) rest_now) refl
    at_the_place (Some (Wal a b end s0 s1)) is follows = at_passed f.passed refl follows

    stays_at_rest : EndsSince old.history new.history log
    stays_at_rest = at_the_place f.place refl st.follows

  -- the newest transaction is such a state still
  pub stays_since : StaysAtMark f old new ⊎ StaysAtRest f old new → EndsSince old.history new.history log
  stays_since either = ⊎_elim stays_at_mark stays_at_rest either
