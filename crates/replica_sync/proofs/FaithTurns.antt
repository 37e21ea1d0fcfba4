-- The stored file leads from each state before it to the one that it tells.
use Rattle.std.proofs.Common.{◌≡◌, ℕ, ◌+◌, ◌≤◌, Bool, true, false, List, [], ◌∷◌, ◌++◌, length, take, Option, Some}
use Rattle.std.proofs.Common.{refl, sym, ap, subst, ◌∙◌, inl, inr, arith}
use Rattle.std.specs.Prelude.{◌⊎◌}
use Rattle.std.proofs.lemmas.Bool.{cases_lt}
use Rattle.std.proofs.lemmas.List.{take-append-drop}
use Rattle.crash_disk.specs.Files.{Files}
use Rattle.ls_base.specs.declared.line.Line.{Line}
use Rattle.ls_base.specs.declared.mark.Mark.{Mark}
use Rattle.ls_base.specs.declared.place.Place.{Place}
use Rattle.ls_base.specs.Change.{Change}
use Rattle.ls_base.specs.History.{state_of, state_at}
use Rattle.ls_base.specs.State.{State, IsState, empty_state}
use Rattle.ls_base.specs.SyncLog.{SyncLog, line_of, recorded_state}
use Rattle.wal_frames.specs.declared.header.WalHeader.{WalHeader}
use Rattle.wal_frames.specs.ValidPrefix.{valid_frames}
use Rattle.wal_frames.specs.Marks.{place_of}
use Rattle.wal_frames.specs.View.{frames_up_to, frames_to, view_at, view_at_rest}
use Rattle.wal_frames.proofs.ViewLemmas.{is_view, is_rest_view}
use Rattle.live_gate.specs.LiveRecord.{Database}
use Rattle.live_gate.specs.Legal.{IsLegal}
use Rattle.live_gate.specs.Step.{IsWriterStep}
use Rattle.replica_store.specs.Faithful.{MayFollow, TurnsInto}
use Rattle.wal_follow.specs.declared.answer.Found.{Found}
use Rattle.wal_follow.specs.declared.answer.Wanted.TheVariants.{All}
use Rattle.wal_follow.specs.declared.following.Following.{Following}
use Rattle.wal_follow.specs.Answers.{AreSince, LeadsOn, LosesAtMark, LosesAtRest}
use Rattle.wal_follow.specs.Calls.{target_of}
use Rattle.wal_follow.specs.Following.{Fits, FitsPassed}
use Rattle.wal_follow.specs.Piece.{frames_between, IsPieceSince, IsWhole}
use Rattle.wal_follow.specs.PieceLaws.{Makes, LeadsFrom, AreInOrder}
use Rattle.wal_follow.proofs.FitsLemmas.{fits_stays}
use Rattle.wal_follow.proofs.MakesLemmas.{piece_stays, whole_makes}
use Rattle.wal_follow.proofs.PieceLemmas.{piece_leads_on, piece_leads_from_rest}
use Rattle.replica_sync.specs.Faith.{IsPlaceOfNewest, IsStateSince}
use Rattle.replica_sync.specs.Pages.{IsShown}
use Rattle.replica_sync.proofs.FaithLog.{next_line, older_line, recorded_line}
use Rattle.replica_sync.proofs.FaithSince.{mark_since, rest_since}
use Rattle.replica_sync.proofs.FaithPiece.{HasPagesOf, is_piece, is_whole}
use Rattle.replica_sync.proofs.FaithShown.{found_copied, mark_shown, rest_shown, rest_is_size}
use Rattle.replica_sync.proofs.LiveLemmas.{calm_before, state_stays}

-- ---- the state before a piece

some_same : (a b : ℕ) → ◌≡◌ {A = Option ℕ} (Some a) (Some b) → a ≡ b
some_same a b e = cc

module _ (f : Following) (d : Database) (h : WalHeader) (q : Mark) (start : ℕ) (since : List (List ℕ)) where
  abbrev upto : List (List ℕ)
  upto = frames_to h (valid_frames d.committed) q

  split_of : (b : Bool) → AreSince b f d.committed h q start since → (earlier : List (List ℕ))
      × (upto ≡ earlier ++ since)
  split_of true are = ([], sym are.1)
  split_of false are =
      let n = frames_up_to h are.0 in
      (take n upto, sym (take-append-drop n upto) ∙ ap (λ (l : List (List ℕ)). take n upto ++ l) (sym are.5))

  pub record LeadsHere (c : Change) : Type 0 where
    pub place : Place
    pub is : f.place ≡ Some place
    pub leads : LeadsFrom d.history place c (view_at d.file d.committed q)

  base_of : (b : Bool) (c : Change) → f.passed ≡ b → AreSince b f d.committed h q start since → Fits f d
      → AreInOrder d h q q → IsPieceSince h.size start since (view_at d.file d.committed q) c → LeadsHere c
  base_of true c passed are fits order piece =
      let p : FitsPassed f d = (fits.calm order.calm).passed passed in
      let many : start ≡ length p.entry.pages = some_same start (length p.entry.pages) (sym are.0 ∙ p.pages) in
      record {
        place = p.place;
        is = p.is_place;
        leads = record {
          before = state_of p.entry;
          recorded = p.same;
          makes = piece_leads_from_rest d h p.entry q c order p.stands
              (subst (λ (n : ℕ). IsPieceSince h.size n upto (view_at d.file d.committed q) c) many
              (subst (λ (l : List (List ℕ)). IsPieceSince h.size start l (view_at d.file d.committed q) c) are.1
              piece));
        };
      }
  base_of false c passed are fits order piece =
      let a = are.0 in
      record {
        place = place_of a;
        is = are.2;
        leads = piece_leads_on d h a q c
            (record {
              legal = order.legal;
              calm = order.calm;
              accepted = order.accepted;
              is_first = are.1;
              is_later = order.is_later;
              order = are.3;
              copied = order.copied;
            })
            (subst (λ (n : ℕ). IsPieceSince h.size n (frames_between h (valid_frames d.committed) a q)
            (view_at d.file d.committed q) c) are.4
            (subst (λ (l : List (List ℕ)). IsPieceSince h.size start l (view_at d.file d.committed q) c) are.5 piece));
      }

-- ---- the change of the file

module _ (f : Following) (found : Found) (log : SyncLog) (line : Line) (place : line.place ≡ found.place) (c : Change)
    (old mid new : Database)
    (first : IsWriterStep old mid) (second : IsWriterStep mid new) (awake : mid.stopped ≡ false) (fits : Fits f old)
    (legal : IsLegal old) (calm : new.chances ≡ 0)
    (has : (s : State) → IsShown (target_of found) mid s → HasPagesOf found c s) where
  abbrev later : SyncLog
  later = log ++ line ∷ []

  calm_mid : mid.chances ≡ 0
  calm_mid = calm_before mid new second calm

  fits_mid : Fits f mid
  fits_mid = fits_stays f old mid first awake fits

  -- what the history has at the place is recorded as the last transaction
  last_recorded : (max : ℕ) (s : State) → max ≡ length log + 1 → IsShown (target_of found) mid s
      → recorded_state new.history later max ≡ Some s
  last_recorded max s is shown =
      recorded_line new.history later max line (next_line log line max is) ∙ ap (state_at new.history) place
      ∙ state_stays mid new found.place s second shown.recorded

  turns : (t max : ℕ) (b s : State) → max ≡ length log + 1 → IsShown (target_of found) mid s
      → recorded_state new.history later t ≡ Some b → Makes b c s → TurnsInto new.history later c t max
  turns t max b s is shown recorded makes = record {
    before = b;
    recorded = recorded;
    fits = makes.fits;
    after = last_recorded max s is shown ∙ ap (λ (x : State). Some x) (sym makes.gives);
  }

  -- a piece leads on from the newest transaction, and from its own
  module _ (files : Files) (newest : IsPlaceOfNewest files log f.place) (on : LeadsOn f found old mid) where
    abbrev view : State
    view = view_at mid.file mid.committed on.q

    shown : IsShown (target_of found) mid view
    shown = mark_shown old mid fits.gate first awake legal calm_mid found on.h on.q on.finds on.describes

    order : AreInOrder mid on.h on.q on.q
    order = record {
      legal = first.legal legal;
      calm = calm_mid;
      accepted = on.finds.accepted;
      is_first = on.finds.is_mark;
      is_later = on.finds.is_mark;
      order = omega arith;
      copied = found_copied old mid fits.gate first awake legal calm_mid on.h on.q on.finds;
    }

    split : (earlier : List (List ℕ)) × (frames_to on.h (valid_frames mid.committed) on.q ≡ earlier ++ on.since)
    split = split_of f mid on.h on.q on.start on.since f.passed on.are_since

    pub the_piece : IsPieceSince on.h.size on.start on.since view c
    the_piece =
        is_piece mid.file mid.committed on.h split.0 on.since on.q on.finds.accepted split.1 found c (has view shown)
        on.describes.size on.describes.commit on.start on.numbers on.listed on.wanted

    pub base : LeadsHere f mid on.h on.q on.start on.since c
    base = base_of f mid on.h on.q on.start on.since f.passed c refl on.are_since fits_mid order the_piece

    pub newest_here : IsPlaceOfNewest files log (Some base.place)
    newest_here = subst (λ (p : Option Place). IsPlaceOfNewest files log p) base.is newest

    pub some_before : 1 ≤ length log
    some_before = newest_here.0.positive

    before_recorded : (t : ℕ) → t ≡ length log → recorded_state new.history later t ≡ Some base.leads.before
    before_recorded t is =
        let line_there = newest_here.1 in
        recorded_line new.history later t line_there.0
        (older_line log line t (omega (arith, is)) ∙ ap (line_of log) is ∙ line_there.1)
        ∙ ap (state_at new.history) line_there.2
        ∙ state_stays mid new base.place base.leads.before second base.leads.recorded

    pub piece_turns : (min max t : ℕ) → min ≡ length log + 1 → max ≡ length log + 1 → MayFollow min max t
        → TurnsInto new.history later c t max
    piece_turns min max t is_min is_max (inl nothing) =
        absurd (omega (arith, some_before, is_min, nothing.0))
    piece_turns min max t is_min is_max (inr follows) =
        elim (cases_lt t max) [
          | inl early ↦
              turns t max base.leads.before view is_max shown
              (before_recorded t (omega (arith, early, is_min, is_max, follows.1))) base.leads.makes
          | inr own ↦
              let same : t ≡ length log + 1 = omega (arith, own, is_max, follows.2) in
              turns t max view view is_max shown (last_recorded t view same shown)
              (piece_stays mid.file mid.committed on.h split.0 on.since on.q on.finds.accepted split.1 on.start c
              the_piece)
        ]

    pub piece_since : IsStateSince old.history mid.history view
    piece_since =
        mark_since old mid fits.gate first awake legal calm_mid on.h on.q view on.finds
        (ap (state_at mid.history) (sym on.describes.place) ∙ shown.recorded)

    pub piece_is_shown : IsShown (target_of found) mid view
    piece_is_shown = shown

  -- a whole state leads from nothing
  whole_turns : (s : State) → IsShown (target_of found) mid s → IsState s → s.page_size ≡ Some found.size
      → found.commit ≡ length s.pages → found.wanted ≡ All → (min max t : ℕ) → min ≡ 1 → max ≡ length log + 1
      → MayFollow min max t → TurnsInto new.history later c t max
  whole_turns s shown is size commit all min max t is_min is_max (inl nothing) =
      turns t max empty_state s is_max shown (ap (recorded_state new.history later) nothing.1)
      (whole_makes found.size s c is size (is_whole found c s (has s shown) all commit))
  whole_turns s shown is size commit all min max t is_min is_max (inr follows) =
      absurd (omega (arith, is_min, follows.0))

  -- what was found where continuity is lost
  pub record Lost : Type 0 where
    pub state : State
    pub shown : IsShown (target_of found) mid state
    pub is : IsState state
    pub size : state.page_size ≡ Some found.size
    pub commit : found.commit ≡ length state.pages
    pub since : IsStateSince old.history mid.history state

  pub lost : LosesAtMark f found old mid ⊎ LosesAtRest f found old mid → Lost
  lost (inl loses) =
      let v = is_view mid.committed loses.h loses.finds.accepted mid.file loses.q in
      record {
        state = view_at mid.file mid.committed loses.q;
        shown = mark_shown old mid fits.gate first awake legal calm_mid found loses.h loses.q loses.finds
            loses.describes;
        is = v.is_state;
        size = v.size ∙ ap (λ (n : ℕ). Some n) (sym loses.describes.size);
        commit = loses.describes.commit ∙ sym v.many;
        since = mark_since old mid fits.gate first awake legal calm_mid loses.h loses.q
            (view_at mid.file mid.committed loses.q) loses.finds
            (ap (state_at mid.history) (sym loses.describes.place)
            ∙ (mark_shown old mid fits.gate first awake legal calm_mid
            found loses.h loses.q loses.finds loses.describes).recorded);
      }
  lost (inr loses) =
      let v = is_rest_view found.size mid.file
      (rest_is_size old mid fits.gate first awake legal calm_mid found.size loses.finds) in
      record {
        state = view_at_rest found.size mid.file;
        shown = rest_shown old mid fits.gate first awake legal calm_mid found loses.finds loses.describes;
        is = v.is_state;
        size = refl;
        commit = loses.describes.commit ∙ sym v.many;
        since = rest_since old mid fits.gate first awake legal calm_mid found.size loses.finds;
      }

  module _ (loses : LosesAtMark f found old mid ⊎ LosesAtRest f found old mid) (all : found.wanted ≡ All) where
    pub lost_turns : (min max t : ℕ) → min ≡ 1 → max ≡ length log + 1 → MayFollow min max t
        → TurnsInto new.history later c t max
    lost_turns =
        let l = lost loses in
        whole_turns l.state l.shown l.is l.size l.commit all

    pub lost_whole : IsWhole found.size (lost loses).state c
    lost_whole =
        let l = lost loses in
        is_whole found c l.state (has l.state l.shown) all l.commit
