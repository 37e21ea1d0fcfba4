-- What a live database shows while pages are read.
use Rattle.std.proofs.Common.{◌≡◌, ℕ, ◌≤◌, false, List, Option, Some, refl, sym, ap, ◌∙◌, ⊎_elim, arith}
use Rattle.std.proofs.lemmas.Bool.{cases_lt}
use Rattle.ls_base.specs.declared.mark.Mark.{Mark}
use Rattle.ls_base.specs.declared.place.Place.{Place}
use Rattle.ls_base.specs.declared.place.Place.TheVariants.{Wal, Rest}
use Rattle.ls_base.specs.State.{State}
use Rattle.ls_base.specs.History.{History, state_at}
use Rattle.ls_base.proofs.HistoryLemmas.{state_at-grown}
use Rattle.wal_frames.specs.View.{view_at, view_at_rest}
use Rattle.live_gate.specs.LiveRecord.{Database}
use Rattle.live_gate.specs.Legal.{IsLegal}
use Rattle.live_gate.specs.Step.{IsWriterStep}
use Rattle.wal_follow.specs.declared.following.Following.{Following}
use Rattle.wal_follow.specs.declared.following.Target.{Target}
use Rattle.wal_follow.specs.Following.{Fits, FitsFoundMark, FitsTarget}
use Rattle.wal_follow.specs.Calls.{IsTargetView, IsViewAt}
use Rattle.wal_follow.proofs.PieceLemmas.{marks_have_their_view}
use Rattle.wal_follow.proofs.FitsLemmas.{fits_stays}
use Rattle.wal_follow.proofs.ReadLemmas.{keeps_hold}
use Rattle.replica_sync.specs.Pages.{IsShown}

-- no more coincidences were counted before than after
pub calm_before : (old new : Database) → IsWriterStep old new → new.chances ≡ 0 → old.chances ≡ 0
calm_before old new step calm = let more = step.chances in omega (arith, more, calm)

pub state_stays : (old new : Database) (place : Place) (s : State) → IsWriterStep old new
    → state_at old.history place ≡ Some s → state_at new.history place ≡ Some s
state_stays old new place s step is =
    ap (λ (h : History). state_at h place) step.history.is
    ∙ state_at-grown old.history step.history.rest place s is

-- a held mark isn't before the copied one
pub not_before : (d : Database) (end : ℕ) (mark : Mark) → IsLegal d → d.held ≡ Some end → end ≤ mark.end
    → d.copied ≤ mark.end
not_before d end mark legal held below =
    let may = legal.is_held end held in
    ⊎_elim
    (λ some. let copied = (may.at_mark (λ none. omega (arith, some, none))).1 in omega (arith, copied, below))
    (λ none. let copied = may.at_no_mark (omega (arith, none)) in omega (arith, copied))
    (cases_lt 0 end)

-- what was found in a log still shows its state
module _ (f : Following) (target : Target) (old new : Database) (s : State) (step : IsWriterStep old new)
    (awake : new.stopped ≡ false) (fits : Fits f old) (found : f.found ≡ Some target) (legal : IsLegal old)
    (calm : new.chances ≡ 0) where
  calm_now : Fits f new
  calm_now = fits_stays f old new step awake fits

  there : FitsTarget f target new target.place
  there = (calm_now.calm calm).found target found

  was_there : FitsTarget f target old target.place
  was_there = (fits.calm (calm_before old new step calm)).found target found

  shown_mark : FitsFoundMark f target new → state_at new.history target.place ≡ Some s
      → (mark : Mark) × IsViewAt target new mark s
  shown_mark m recorded =
      let gate = calm_now.gate in
      let legal_now = step.legal legal in
      let view = marks_have_their_view new m.mark legal_now calm m.is_mark
      (not_before new gate.0 m.mark legal_now gate.1 (m.held gate.0 gate.1)) in
      let same : ◌≡◌ {A = Option State} (Some s) (Some (view_at new.file new.committed m.mark)) =
      sym recorded ∙ ap (λ (p : Place). state_at new.history p) m.place ∙ view in
      (m.mark, record { is_mark = m.is_mark; place = m.place; is = cc })

  shown_at : (place : Place) → place ≡ target.place → FitsTarget f target new place → FitsTarget f target old place
      → IsTargetView target old place s → state_at new.history target.place ≡ Some s
      → IsTargetView target new place s
  shown_at (Wal a b c e g) is fit was view recorded = shown_mark fit recorded
  shown_at (Rest sum) is fit was view recorded =
      let hold = keeps_hold old new (0, was.held) step awake in
      view ∙ ap (λ (file : List ℕ). view_at_rest target.size file) (sym (hold.file refl))

  pub still_shown : IsShown target old s → IsShown target new s
  still_shown is =
      let recorded = state_stays old new target.place s step is.recorded in
      record { recorded = recorded; view = shown_at target.place refl there was_there is.view recorded }
