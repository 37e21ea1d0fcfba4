-- A follower that fits goes on fitting while the gate is held.
use Rattle.std.proofs.Common.{◌≡◌, ℕ, false, List, ◌∷◌, ◌++◌, length, take, Option, Some, Ok, sym, ap, subst, ◌∙◌}
use Rattle.std.proofs.Common.{append_assoc, arith, length-append}
use Rattle.std.proofs.lemmas.List.{take-append-le}
use Rattle.ls_base.specs.declared.entry.Entry.{Entry}
use Rattle.ls_base.specs.declared.mark.Mark.{Mark}
use Rattle.ls_base.specs.declared.place.Place.{Place}
use Rattle.ls_base.specs.declared.place.Place.TheVariants.{Wal, Rest}
use Rattle.ls_base.specs.State.{State}
use Rattle.ls_base.specs.History.{History, state_of, state_at}
use Rattle.ls_base.proofs.HistoryLemmas.{state_at-grown}
use Rattle.wal_frames.specs.declared.header.WalHeader.{WalHeader}
use Rattle.wal_frames.specs.WalFormat.{read_header}
use Rattle.wal_frames.specs.ValidPrefix.{valid_frames, frames_under}
use Rattle.wal_frames.specs.Marks.{IsMark}
use Rattle.wal_frames.specs.View.{frames_to, file_pages, rest_place}
use Rattle.wal_frames.proofs.AcceptedLemmas.{accepts, read_header-append}
use Rattle.wal_frames.proofs.LogLemmas.{stays_mark, ends_within}
use Rattle.wal_frames.proofs.MarkLemmas.{valid_is}
use Rattle.wal_frames.proofs.ViewLemmas.{frames_to_cut}
use Rattle.live_gate.specs.LiveRecord.{Database, IsPrefix}
use Rattle.live_gate.specs.Step.{IsWriterStep, KeepsHold}
use Rattle.snapshot_read.specs.Offsets.{offset_in}
use Rattle.wal_follow.specs.declared.following.Following.{Following}
use Rattle.wal_follow.specs.declared.following.Target.{Target}
use Rattle.wal_follow.specs.PieceLaws.{StandsBefore}
use Rattle.wal_follow.specs.Following.{FitsPassed, FitsRecorded, FitsFoundMark, FitsFoundRest, FitsTarget, FitsCalm}
use Rattle.wal_follow.specs.Following.{Fits}
use Rattle.wal_follow.proofs.ReadLemmas.{keeps_hold}

-- ---- logs that grow

module _ (a b : List ℕ) (is : IsPrefix a b) (h : WalHeader) (accepted : read_header a ≡ Ok h) where
  pub still_accepted : read_header b ≡ Ok h
  still_accepted = ap read_header is.is ∙ read_header-append a is.rest (accepts a h accepted).long ∙ accepted

  module _ (mark : Mark) (is_mark : IsMark a mark) where
    pub still_mark : IsMark b mark
    still_mark = subst (λ (log : List ℕ). IsMark log mark) (sym is.is) (stays_mark a is.rest mark is_mark)

    pub same_front : take mark.end b ≡ take mark.end a
    same_front = ap (take mark.end) is.is ∙ take-append-le mark.end a is.rest (ends_within a mark is_mark)

    -- the frames up to a mark stay
    pub same_frames : frames_to h (valid_frames b) mark ≡ frames_to h (valid_frames a) mark
    same_frames =
        ap (λ (fs : List (List ℕ)). frames_to h fs mark) (valid_is b h still_accepted)
        ∙ frames_to_cut b h still_accepted mark still_mark ∙ ap (frames_under h) same_front
        ∙ sym (ap (λ (fs : List (List ℕ)). frames_to h fs mark) (valid_is a h accepted)
        ∙ frames_to_cut a h accepted mark is_mark)

    pub same_offsets_at : (at : ℕ → Option ℕ) → ((number : ℕ)
        → at number ≡ offset_in h number 32 (frames_to h (valid_frames a) mark)) → (number : ℕ)
        → at number ≡ offset_in h number 32 (frames_to h (valid_frames b) mark)
    same_offsets_at at offsets number = offsets number
        ∙ ap (λ (fs : List (List ℕ)). offset_in h number 32 fs) (sym same_frames)

-- ---- a step of the writer

module _ (f : Following) (old new : Database) (step : IsWriterStep old new) (end : ℕ) (was : old.held ≡ Some end)
    (keeps : KeepsHold end old new) where
  stays_before : (e : Entry) → StandsBefore old.history old.committed e → StandsBefore new.history new.committed e
  stays_before e stands =
      let split : new.history ≡ stands.earlier ++ e ∷ (stands.latest ++ step.history.rest) =
      step.history.is ∙ ap (λ (l : History). l ++ step.history.rest) stands.split
      ∙ append_assoc stands.earlier (e ∷ stands.latest) step.history.rest in
      record {
        earlier = stands.earlier;
        latest = stands.latest ++ step.history.rest;
        split = split;
        many = omega (
          arith,
          keeps.entries,
          stands.many,
          ap length step.history.is,
          length-append old.history
              step.history.rest,
          length-append stands.latest step.history.rest,
        );
      }

  state_stays : (place : Place) (s : State) → state_at old.history place ≡ Some s → state_at new.history place ≡ Some s
  state_stays place s is = ap (λ (l : History). state_at l place) step.history.is
      ∙ state_at-grown old.history step.history.rest place s is

  same_end : (n : ℕ) → new.held ≡ Some n → end ≡ n
  same_end n is = number (sym keeps.held ∙ is)
    where
      number : {a b : ℕ} → ◌≡◌ {A = Option ℕ} (Some a) (Some b) → a ≡ b
      number e = cc

  held_same : old.held ≡ Some 0 → (new.held ≡ Some 0) × (new.file ≡ old.file)
  held_same is = let none : end ≡ 0 = number (sym was ∙ is) in (
    keeps.held
        ∙ ap (λ (n : ℕ). Some n) none,
    keeps.file none,
  )
    where
      number : {a b : ℕ} → ◌≡◌ {A = Option ℕ} (Some a) (Some b) → a ≡ b
      number e = cc

  stays_passed : FitsPassed f old → FitsPassed f new
  stays_passed p = record {
    held = (held_same p.held).0;
    entry = p.entry;
    stands = stays_before p.entry p.stands;
    at_rest = p.at_rest;
    place = p.place;
    is_place = p.is_place;
    same = state_stays p.place (state_of p.entry) p.same;
    pages = p.pages;
  }

  stays_recorded : FitsRecorded f old → FitsRecorded f new
  stays_recorded r = record {
    h = r.h;
    mark = r.mark;
    accepted = still_accepted old.committed new.committed keeps.committed r.h r.accepted;
    is_mark = still_mark old.committed new.committed keeps.committed r.h r.accepted r.mark r.is_mark;
    place = r.place;
    pages = r.pages;
    head = r.head;
    offsets = same_offsets_at old.committed new.committed keeps.committed r.h r.accepted r.mark r.is_mark _ r.offsets;
  }

  stays_mark_found : (target : Target) → FitsFoundMark f target old → FitsFoundMark f target new
  stays_mark_found target m = record {
    h = m.h;
    mark = m.mark;
    accepted = still_accepted old.committed new.committed keeps.committed m.h m.accepted;
    is_mark = still_mark old.committed new.committed keeps.committed m.h m.accepted m.mark m.is_mark;
    place = m.place;
    commit = m.commit;
    size = m.size;
    held = λ n is. omega (arith, m.held end was, same_end n is);
    head = m.head;
    offsets = same_offsets_at old.committed new.committed keeps.committed m.h m.accepted m.mark m.is_mark _ m.offsets;
  }

  stays_rest_found : (target : Target) → FitsFoundRest f target old → FitsFoundRest f target new
  stays_rest_found target r =
      let same = held_same r.held in
      record {
        held = same.0;
        place = r.place ∙ ap (λ (file : List ℕ). rest_place target.size file) (sym same.1);
        commit = r.commit ∙ ap (λ (file : List ℕ). file_pages target.size file) (sym same.1);
        fresh = r.fresh;
        none = r.none;
      }

  stays_target : (target : Target) (place : Place) → FitsTarget f target old place → FitsTarget f target new place
  stays_target target (Wal a b c d e) fits = stays_mark_found target fits
  stays_target target (Rest sum) fits = stays_rest_found target fits

  stays_calm : FitsCalm f old → FitsCalm f new
  stays_calm fits = record {
    passed = λ is. stays_passed (fits.passed is);
    recorded = λ a b c. stays_recorded (fits.recorded a b c);
    learned = λ place pages log at many.
        let there = fits.learned place pages log at many in (there.0, state_stays place there.0 there.1, there.2);
    found = λ target is. stays_target target target.place (fits.found target is);
  }

-- a follower that fits goes on fitting while the machine doesn't stop
pub fits_stays : (f : Following) (old new : Database) → IsWriterStep old new → new.stopped ≡ false → Fits f old
    → Fits f new
fits_stays f old new step awake fits =
    let keeps = keeps_hold old new fits.gate step awake in
    record {
      gate = (fits.gate.0, keeps.held);
      calm = λ calm. stays_calm f old new step fits.gate.0 fits.gate.1 keeps (fits.calm (omega
          (arith, calm, step.chances)));
    }
