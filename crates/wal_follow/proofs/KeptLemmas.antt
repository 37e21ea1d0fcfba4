-- A follower's state from call to call.
use Rattle.std.proofs.Common.{◌≡◌, ℕ, ◌+◌, ◌^◌, ◌<◌, ◌≤◌, Bool, true, false, length, Option, Some, None, refl, sym, ap}
use Rattle.std.proofs.Common.{◌∙◌, inl, inr, arith, nat_cmp}
use Rattle.std.specs.Prelude.{option_map, if◌then◌else◌}
use Rattle.std.specs.Option.{option_or}
use Rattle.std.specs.FinMap.{get, empty, get-empty}
use Rattle.std.proofs.lemmas.Bool.{cases_eq}
use Rattle.ls_base.specs.declared.place.Place.{Place}
use Rattle.ls_base.specs.declared.place.Place.TheVariants.{Wal, Rest}
use Rattle.ls_base.specs.State.{State}
use Rattle.ls_base.specs.History.{state_at}
use Rattle.wal_frames.specs.Marks.{place_of}
use Rattle.wal_frames.specs.View.{view_at}
use Rattle.wal_frames.proofs.ViewLemmas.{is_view}
use Rattle.live_gate.specs.LiveRecord.{Database}
use Rattle.live_gate.specs.Legal.{IsLegal}
use Rattle.snapshot_read.specs.Offsets.{AreWithinLimit}
use Rattle.snapshot_read.specs.PageOffsets.{Offsets, IsTakenIn}
use Rattle.snapshot_read.specs.Reading.{IsUnderGate}
use Rattle.wal_follow.specs.declared.following.Following.{Following}
use Rattle.wal_follow.specs.declared.following.Target.{Target}
use Rattle.wal_follow.specs.Following.{is_in_log, gathered_at, FitsRecorded, FitsFoundMark, FitsTarget, FitsCalm, Fits}
use Rattle.wal_follow.proofs.PieceLemmas.{marks_have_their_view}

-- ---- bounds

pub none_within : (size : ℕ) (offsets : Offsets) → offsets ≡ empty → AreWithinLimit size offsets
none_within size offsets none number at found = absurd (nothing (sym found ∙ ap (λ (m : Offsets). get m number) none
    ∙ get-empty nat_cmp number))
  where
    nothing : {at : ℕ} → ◌≡◌ {A = Option ℕ} (Some at) None → ⊥
    nothing e = cc

either_within : (a b : Option ℕ) (at : ℕ) (P : ℕ → Type 0) → ((x : ℕ) → a ≡ Some x → P x) → ((x : ℕ) → b ≡ Some x
    → P x) → option_or a b ≡ Some at → P at
either_within None b at P left right e = right at e
either_within (Some x) b at P left right e = left at e

pub taken_within : (size : ℕ) (old newer new : Offsets) → IsTakenIn old newer new → AreWithinLimit size old
    → AreWithinLimit size newer → AreWithinLimit size new
taken_within size old newer new taken first second number at found =
    either_within (get newer number) (get old number) at (λ x. x + size < 2 ^ 64) (λ x is. second number x is)
    (λ x is. first number x is) (sym (taken.each number) ∙ found)

pub cleared_within : (size : ℕ) (older : Bool) (old new : Offsets) → new ≡ (if older then empty else old)
    → AreWithinLimit size old → AreWithinLimit size new
cleared_within size true old new is within number at found = none_within size new is number at found
cleared_within size false old new is within number at found = within number at (ap (λ (m : Offsets). get m number)
    (sym is) ∙ found)

or_none : (o : Option ℕ) → option_or o None ≡ o
or_none None = refl
or_none (Some x) = refl

pub kept_after : (older : Bool) (old cleared newer new : Offsets) → cleared ≡ (if older then empty else old)
    → IsTakenIn cleared newer new
    → (number : ℕ) → get new number ≡ gathered_at older old newer number
kept_after true old cleared newer new is taken number =
    taken.each number ∙ ap (λ (m : Offsets). option_or (get newer number) (get m number)) is
    ∙ ap (option_or (get newer number)) (get-empty nat_cmp number) ∙ or_none (get newer number)
kept_after false old cleared newer new is taken number = taken.each number
    ∙ ap (λ (m : Offsets). option_or (get newer number) (get m number)) is

-- ---- what was found is recorded

-- the state of a follower that recorded what it found
pub record IsStored (f : Following) (target : Target) (g : Following) : Type 0 where
  pub place : g.place ≡ Some target.place
  pub recorded : g.recorded ≡ true
  pub passed : g.passed ≡ false
  pub pages : g.pages ≡ Some target.commit
  pub scan : g.scan ≡ f.scan
  pub found : g.found ≡ None
  pub kept : (number : ℕ) → get g.kept.offsets number ≡ gathered_at f.fresh f.kept.offsets f.newer.offsets number

some_place : (a b : Place) → ◌≡◌ {A = Option Place} (Some a) (Some b) → a ≡ b
some_place a b e = cc

module _ (f g : Following) (target : Target) (stored : IsStored f target g) (d : Database) where
  found_recorded : FitsFoundMark f target d → FitsRecorded g d
  found_recorded m = record {
    h = m.h;
    mark = m.mark;
    accepted = m.accepted;
    is_mark = m.is_mark;
    place = stored.place ∙ ap (λ (p : Place). Some p) m.place;
    pages = stored.pages ∙ ap (λ (n : ℕ). Some n) m.commit;
    head = ap (option_map (λ scan. scan.head)) stored.scan ∙ m.head;
    offsets = λ number. stored.kept number ∙ m.offsets number;
  }

  found_by : (p : Place) → FitsTarget f target d p → is_in_log (Some p) ≡ true → FitsFoundMark f target d
  found_by (Wal a b c e s) fits is = fits
  found_by (Rest sum) fits is = absurd cc

  module _ (legal : IsLegal d) (calm : d.chances ≡ 0) (m : FitsFoundMark f target d) (gate : IsUnderGate d) where
    copied : d.copied ≤ m.mark.end
    copied =
        let held = legal.is_held gate.0 gate.1 in
        let upto = m.held gate.0 gate.1 in
        elim (cases_eq gate.0 0) [
          | inl none ↦ omega (arith, held.at_no_mark none)
          | inr some ↦ omega (arith, (held.at_mark some).1, upto)
        ]

    learned_there : (place : Place) (pages : ℕ) → g.place ≡ Some place → g.pages ≡ Some pages
        → (s : State) × (state_at d.history place ≡ Some s) × (length s.pages ≡ pages)
    learned_there place pages at many =
        let same : place ≡ place_of m.mark = some_place place (place_of m.mark) (sym at ∙ stored.place
        ∙ ap (λ (p : Place). Some p) m.place) in
        let count : m.mark.commit ≡ pages = some_number (sym (stored.pages ∙ ap (λ (n : ℕ). Some n) m.commit) ∙ many)
        in (
          view_at d.file d.committed m.mark,
          ap (state_at d.history) same
              ∙ marks_have_their_view d m.mark legal calm m.is_mark copied,
          (is_view d.committed m.h m.accepted d.file m.mark).many ∙ count,
        )
      where
        some_number : {a b : ℕ} → ◌≡◌ {A = Option ℕ} (Some a) (Some b) → a ≡ b
        some_number e = cc

  stored_calm : IsLegal d → d.chances ≡ 0 → IsUnderGate d → f.found ≡ Some target → FitsCalm f d → FitsCalm g d
  stored_calm legal calm gate is fits =
      let there = fits.found target is in
      record {
        passed = λ has. absurd (both (sym has ∙ stored.passed));
        recorded = λ not has log. found_recorded (found_by target.place there (ap is_in_log (sym stored.place) ∙ log));
        learned = λ place pages log at many.
            learned_there legal calm
            (found_by target.place there (ap (λ (p : Place). is_in_log (Some p)) (some_place target.place place
            (sym stored.place ∙ at)) ∙ log)) gate place pages at many;
        found = λ t has. absurd (nothing (sym has ∙ stored.found));
      }
    where
      both : ◌≡◌ {A = Bool} true false → ⊥
      both e = cc

      nothing : {t : Target} → ◌≡◌ {A = Option Target} (Some t) None → ⊥
      nothing e = cc

  -- a follower that fits and stores what it found fits
  pub stored_fits : f.found ≡ Some target → IsLegal d → Fits f d → Fits g d
  stored_fits is legal fits = record {
    gate = fits.gate;
    calm = λ calm. stored_calm legal calm fits.gate is
        (fits.calm calm);
  }
