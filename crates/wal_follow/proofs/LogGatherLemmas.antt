-- A log that is gathered, whole or from the recorded mark on.
use Rattle.std.proofs.Common.{◌≡◌, ℕ, ◌+◌, ◌≤◌, Bool, true, false, List, [], ◌∷◌, length, take, Option, Some, None}
use Rattle.std.proofs.Common.{Result, Ok, Err, refl, sym, ap, subst, ◌∙◌, arith}
use Rattle.std.specs.Prelude.{option_map, if◌then◌else◌}
use Rattle.std.specs.List.{Contains}
use Rattle.std.specs.FinMap.{get}
use Rattle.std.proofs.lemmas.Bool.{and_from, eq-eqb, le-leb}
use Rattle.std.proofs.lemmas.List.{take_all}
use Rattle.ls_base.specs.declared.mark.Mark.{Mark}
use Rattle.ls_base.specs.declared.place.Place.{Place}
use Rattle.ls_base.specs.declared.place.Place.TheVariants.{Wal, Rest}
use Rattle.wal_frames.specs.declared.header.WalHeader.{WalHeader}
use Rattle.wal_frames.specs.declared.fault.WalHeaderFault.{WalHeaderFault}
use Rattle.wal_frames.specs.WalFormat.{read_header}
use Rattle.wal_frames.specs.Marks.{marks_of, IsMark, place_of}
use Rattle.wal_frames.specs.Scanned.{Scanned}
use Rattle.wal_frames.proofs.AcceptedLemmas.{accepts, read_header-take}
use Rattle.wal_frames.proofs.LogLemmas.{accepted_by_mark, ends_within}
use Rattle.live_gate.specs.LiveRecord.{Database, LiveRecord}
use Rattle.live_gate.specs.Step.{IsWriterStep}
use Rattle.live_gate.proofs.StepLemmas.{step_join, prefix_itself}
use Rattle.snapshot_read.specs.PageOffsets.{Offsets, PageOffsets}
use Rattle.snapshot_read.specs.Reading.{AsksOfTheLog}
use Rattle.snapshot_read.proofs.ReadLemmas.{asks_then}
use Rattle.wal_follow.specs.declared.fault.FollowFault.{FollowFault}
use Rattle.wal_follow.specs.declared.following.Following.{Following}
use Rattle.wal_follow.specs.declared.following.Target.{Target}
use Rattle.wal_follow.specs.declared.gather.Gathered.{Gathered}
use Rattle.wal_follow.specs.Following.{is_in_log, FitsTarget, FitsCalm, Fits}
use Rattle.wal_follow.specs.LogGathering.{ReadsHead, AsksHead, GathersLog, IsRecordedAt, GathersFrom, MayGather}
use Rattle.wal_follow.specs.LogGathering.{Gathers}
use Rattle.wal_follow.specs.Steps.{recorded_mark, kept_mark}
use Rattle.wal_follow.proofs.ConfirmLemmas.{mark_salts}
use Rattle.wal_follow.proofs.FitsLemmas.{fits_stays}
use Rattle.wal_follow.proofs.HeaderLemmas.{still_committed}
use Rattle.wal_follow.proofs.ReadLemmas.{still_gated}

-- ---- what was gathered changes nothing that fits

abbrev head_of : Option Scanned → Option WalHeader
head_of scan = option_map (λ (s : Scanned). s.head) scan

-- the header is that of the recorded place, where there is one in the log
abbrev pub KeepsHead : Following → Option Scanned → Type 0
KeepsHead f scan = f.passed ≡ false → f.recorded ≡ true → is_in_log f.place ≡ true → head_of scan ≡ head_of f.scan

-- what is known of the place and of the log up to it is the same
pub record IsKnown (f g : Following) : Type 0 where
  pub place : g.place ≡ f.place
  pub recorded : g.recorded ≡ f.recorded
  pub passed : g.passed ≡ f.passed
  pub pages : g.pages ≡ f.pages
  pub kept : g.kept.offsets ≡ f.kept.offsets
  pub head : KeepsHead f g.scan

pub known_itself : (f : Following) → IsKnown f f
known_itself f = record {
  place = refl;
  recorded = refl;
  passed = refl;
  pages = refl;
  kept = refl;
  head = λ passed recorded log. refl;
}

pub fits_known : (f g : Following) (d : Database) → IsKnown f g
    → ((target : Target) → g.found ≡ Some target → FitsTarget g target d target.place) → FitsCalm f d → FitsCalm g d
fits_known f g d known found fits = record {
  passed = λ is. let p = fits.passed (sym known.passed ∙ is) in record {
    held = p.held;
    entry = p.entry;
    stands = p.stands;
    at_rest = p.at_rest;
    place = p.place;
    is_place = known.place ∙ p.is_place;
    same = p.same;
    pages = known.pages ∙ p.pages;
  };
  recorded = λ passed recorded log.
      let passed_f = sym known.passed ∙ passed in
      let recorded_f = sym known.recorded ∙ recorded in
      let log_f = ap is_in_log (sym known.place) ∙ log in
      let r = fits.recorded passed_f recorded_f log_f in
      record {
        h = r.h;
        mark = r.mark;
        accepted = r.accepted;
        is_mark = r.is_mark;
        place = known.place ∙ r.place;
        pages = known.pages ∙ r.pages;
        head = known.head passed_f recorded_f log_f ∙ r.head;
        offsets = λ number. ap (λ (m : Offsets). get m number) known.kept ∙ r.offsets number;
      };
  learned = λ place pages log at many. fits.learned place pages log (sym known.place ∙ at) (sym known.pages ∙ many);
  found = found;
}

fits_with : (f : Following) (scan : Option Scanned) (newer : PageOffsets) (fresh : Bool) (d : Database)
    → f.found ≡ None → KeepsHead f scan → FitsCalm f d
    → FitsCalm (record f { scan = scan; newer = newer; fresh = fresh }) d
fits_with f scan newer fresh d none head fits =
    fits_known f (record f { scan = scan; newer = newer; fresh = fresh }) d (record {
      place = refl;
      recorded = refl;
      passed = refl;
      pages = refl;
      kept = refl;
      head = head;
    }) (λ target is. absurd (nothing (sym none ∙ is))) fits
  where
    nothing : {t : Target} → ◌≡◌ {A = Option Target} None (Some t) → ⊥
    nothing e = cc

pub fits_gathered : (f after : Following) (old new : Database)
    → after ≡ record f { scan = after.scan; newer = after.newer; fresh = after.fresh } → IsWriterStep old new
    → new.stopped ≡ false → Fits f old → f.found ≡ None → (new.chances ≡ 0 → KeepsHead f after.scan) → Fits after new
fits_gathered f after old new only step awake fits none head = record {
  gate = still_gated old new fits.gate step awake;
  calm = λ calm. subst (λ (g : Following). FitsCalm g new) (sym only) (fits_with f after.scan after.newer after.fresh
      new none (head calm) ((fits_stays f old new step awake fits).calm calm));
}

-- ---- before any frame is read

module _ (bytes : ℕ) (f after : Following)
    (only : after ≡ record f { scan = after.scan; newer = after.newer; fresh = after.fresh })
    (same : head_of after.scan ≡ head_of f.scan) (old new : LiveRecord) (step : IsWriterStep old.database new.database)
    (asked : AsksOfTheLog old.asked new.asked) (taken : new.asked.taken ≤ old.asked.taken + 32) where
  pub gathers_failed : (result : Result (Option Gathered) FollowFault) (fault : FollowFault) → result ≡ Err fault
      → Gathers bytes f after result old new
  gathers_failed result fault is =
      subst (λ (r : Result (Option Gathered) FollowFault). Gathers bytes f after r old new) (sym is) (record {
        step = step;
        asked = asked;
        awake = λ ok. absurd cc;
        found = λ first may calm. tt;
        behind = λ first may calm a b end s0 s1 recorded passed at. omega (arith, taken);
        fits = λ first may none awake. fits_gathered f after old.database new.database only step awake may.fits none
            (λ calm passed recorded log. same);
      })

none_marks : (c : List ℕ) → ((h : WalHeader) → read_header c ≡ Ok h → ⊥) → (ms : List Mark) → marks_of c ≡ ms
    → marks_of c ≡ []
none_marks c not [] e = e
none_marks c not (m ∷ ms) e =
    let among : IsMark c m = subst (λ (l : List Mark). Contains l m) (sym e) (0, omega arith, refl) in
    let a = accepted_by_mark c m among in absurd (not a.0 a.1)

-- the log has no header
pub gathers_none : (bytes : ℕ) (f after : Following) (old new : LiveRecord)
    → after ≡ record f { scan = after.scan; newer = after.newer; fresh = after.fresh }
    → head_of after.scan ≡ head_of f.scan → AsksHead bytes (Ok None) old new → after.fresh ≡ true
    → ((number : ℕ) → get after.newer.offsets number ≡ None) → Gathers bytes f after (Ok None) old new
gathers_none bytes f after old new only same asks fresh empty = record {
  step = asks.step;
  asked = asks.asked;
  awake = λ ok. asks.awake refl;
  found = λ first may calm. record {
    none = none_marks first.committed (asks.head first may.was) (marks_of first.committed) refl;
    fresh = fresh;
    empty = empty;
  };
  behind = λ first may calm a b end s0 s1 recorded passed at. omega (arith, asks.taken);
  fits = λ first may none awake. fits_gathered f after old.database new.database only asks.step awake may.fits none
      (λ calm passed recorded log. same);
}

-- ---- the mark at which the log is read on

some_mark : {x y : Mark} → ◌≡◌ {A = Option Mark} (Some x) (Some y) → x ≡ y
some_mark e = cc

no_mark : {y : Mark} → ◌≡◌ {A = Option Mark} None (Some y) → ⊥
no_mark e = cc

kept_if : (m a : Mark) (t : Bool) → (if t then Some m else None) ≡ Some a → Some m ≡ Some a
kept_if m a true e = e
kept_if m a false e = absurd (no_mark e)

kept_from : (o : Option Mark) (h : WalHeader) (bytes : ℕ) (a : Mark) → kept_mark o h bytes ≡ Some a → o ≡ Some a
kept_from None h bytes a e = e
kept_from (Some m) h bytes a e = kept_if m a _ e

-- the place is recorded at this mark
record IsRecorded (recorded passed : Bool) (place : Option Place) (pages : Option ℕ) (a : Mark) : Type 0 where
  is_recorded : recorded ≡ true
  is_passed : passed ≡ false
  at : place ≡ Some (place_of a)
  many : pages ≡ Some a.commit

recorded_from : (recorded passed : Bool) (place : Option Place) (pages : Option ℕ) (a : Mark)
    → recorded_mark recorded passed place pages ≡ Some a → IsRecorded recorded passed place pages a
recorded_from false passed place pages a e = absurd (no_mark e)
recorded_from true true place pages a e = absurd (no_mark e)
recorded_from true false None pages a e = absurd (no_mark e)
recorded_from true false (Some (Rest sum)) pages a e = absurd (no_mark e)
recorded_from true false (Some (Wal x y end s0 s1)) None a e = absurd (no_mark e)
recorded_from true false (Some (Wal x y end s0 s1)) (Some n) a e =
    let same = some_mark e in
    record {
      is_recorded = refl;
      is_passed = refl;
      at = ap (λ (m : Mark). Some (place_of m)) same;
      many = ap (λ (m : Mark). Some m.commit) same;
    }

some_place : {x y : Place} → ◌≡◌ {A = Option Place} (Some x) (Some y) → x ≡ y
some_place e = cc

some_number : {x y : ℕ} → ◌≡◌ {A = Option ℕ} (Some x) (Some y) → x ≡ y
some_number e = cc

same_mark : (x y : Mark) → place_of x ≡ place_of y → x.commit ≡ y.commit → x ≡ y
same_mark x y place commit =
    let first : x.salt1 ≡ y.salt1 = cc in
    let second : x.salt2 ≡ y.salt2 = cc in
    let end : x.end ≡ y.end = cc in
    let s0 : x.s0 ≡ y.s0 = cc in
    let s1 : x.s1 ≡ y.s1 = cc in
    λ i. record { salt1 = first i; salt2 = second i; end = end i; s0 = s0 i; s1 = s1 i; commit = commit i }

module _ (bytes : ℕ) (f : Following) (h : WalHeader) (a : Mark)
    (kept : kept_mark (recorded_mark f.recorded f.passed f.place f.pages) h bytes ≡ Some a) where
  is_recorded_at : IsRecorded f.recorded f.passed f.place f.pages a
  is_recorded_at = recorded_from f.recorded f.passed f.place f.pages a (kept_from (recorded_mark f.recorded f.passed
      f.place f.pages) h bytes a kept)

  in_log : is_in_log f.place ≡ true
  in_log = ap is_in_log is_recorded_at.at

  recorded_at : (d : Database) → FitsCalm f d → IsRecordedAt f a d
  recorded_at d fits =
      let r = fits.recorded is_recorded_at.is_passed is_recorded_at.is_recorded in_log in
      record {
        recorded = is_recorded_at.is_recorded;
        passed = is_recorded_at.is_passed;
        fits = r;
        is_mark = same_mark r.mark a (some_place (sym r.place ∙ is_recorded_at.at))
            (some_number (sym r.pages ∙ is_recorded_at.many));
      }

  pub gathers_behind : (after : Following) (result : Result (Option Gathered) FollowFault) (old mid new : LiveRecord)
      → after ≡ record f { scan = after.scan; newer = after.newer; fresh = after.fresh }
      → AsksHead bytes (Ok (Some h)) old mid → GathersFrom bytes a f after result mid new
      → Gathers bytes f after result old new
  gathers_behind after result old mid new only asks from = record {
    step = step_join old.database mid.database new.database asks.step from.step;
    asked = asks_then old.asked mid.asked new.asked asks.asked from.asked;
    awake = from.awake;
    found = λ first may calm.
        from.found first (still_committed bytes first old.database mid.database may.was asks.step (asks.awake refl))
        (recorded_at mid.database ((fits_stays f old.database mid.database asks.step (asks.awake refl) may.fits).calm
        (omega (arith, calm, from.step.chances)))) calm;
    behind = λ first may calm x y end s0 s1 recorded passed at.
        let same : Wal x y end s0 s1 ≡ place_of a = some_place (sym at ∙ is_recorded_at.at) in
        let ends : end ≡ a.end = cc in
        omega (arith, from.taken, asks.taken, ends);
    fits = λ first may none awake.
        fits_gathered f after old.database new.database only (step_join old.database mid.database new.database
        asks.step from.step) awake may.fits none (λ calm passed recorded log. from.head);
  }

-- ---- where the log is read from its start, no place is recorded in it

kept_there : (a : Mark) (h : WalHeader) (bytes : ℕ) → a.salt1 ≡ h.salt1 → a.salt2 ≡ h.salt2 → a.end ≤ bytes
    → kept_mark (Some a) h bytes ≡ Some a
kept_there a h bytes first second within =
    ap (λ (t : Bool). if t then Some a else None) (and_from _ _ (and_from _ _
    (eq-eqb a.salt1 h.salt1 first) (eq-eqb a.salt2 h.salt2 second)) (le-leb a.end bytes within))

module _ (bytes : ℕ) (f after : Following) (h : WalHeader)
    (not : kept_mark (recorded_mark f.recorded f.passed f.place f.pages) h bytes ≡ None)
    (result : Result (Option Gathered) FollowFault) (old mid new : LiveRecord)
    (only : after ≡ record f { scan = after.scan; newer = after.newer; fresh = after.fresh })
    (asks : AsksHead bytes (Ok (Some h)) old mid) (log : GathersLog bytes h f after result mid new) where
  unrecorded : (first : Database) → MayGather bytes f first old.database → new.database.chances ≡ 0
      → f.passed ≡ false → f.recorded ≡ true → is_in_log f.place ≡ true → ⊥
  unrecorded first may calm passed recorded in_log =
      let c = old.database.committed in
      let r = (may.fits.calm (omega (arith, calm, asks.step.chances, log.step.chances))).recorded passed recorded
      in_log in
      let long = (accepts c r.h r.accepted).long in
      let head : ReadsHead h old.database mid = asks.head old.database (record {
        gate = may.fits.gate;
        grown = prefix_itself c;
        long = may.long;
      }) in
      let front : take 32 c ≡ mid.asked.answered =
      ap (λ (k : ℕ). take k c) (sym head.long) ∙ head.agrees
      ∙ take_all (length c) mid.asked.answered (omega (arith, long, head.long)) in
      let same : r.h ≡ h = some_header (sym r.accepted ∙ sym (read_header-take 32 c (omega arith) long)
      ∙ ap read_header front ∙ head.accepted) in
      let salts = mark_salts c r.h r.mark r.accepted r.is_mark in
      let there : kept_mark (Some r.mark) h bytes ≡ Some r.mark =
      kept_there r.mark h bytes (salts.0 ∙ ap (λ (k : WalHeader). k.salt1) same)
      (salts.1 ∙ ap (λ (k : WalHeader). k.salt2) same)
      (omega (arith, ends_within c r.mark r.is_mark, may.long)) in
      let is : recorded_mark f.recorded f.passed f.place f.pages ≡ Some r.mark =
      λ i. recorded_mark (recorded i) (passed i) (r.place i) (r.pages i) in
      no_mark (sym not ∙ ap (λ (o : Option Mark). kept_mark o h bytes) is ∙ there)
    where
      some_header : {x y : WalHeader} → ◌≡◌ {A = Result WalHeader WalHeaderFault} (Ok x) (Ok y) → x ≡ y
      some_header e = cc

  pub gathers_all : Gathers bytes f after result old new
  gathers_all = record {
    step = step_join old.database mid.database new.database asks.step log.step;
    asked = asks_then old.asked mid.asked new.asked asks.asked log.asked;
    awake = log.awake (asks.awake refl);
    found = λ first may calm. log.found first
        (still_committed bytes first old.database mid.database may.was asks.step (asks.awake refl))
        (asks.head first may.was) (asks.awake refl) calm;
    behind = λ first may calm x y end s0 s1 recorded passed at.
        absurd (unrecorded first may calm passed recorded (ap is_in_log at));
    fits = λ first may none awake.
        fits_gathered f after old.database new.database only (step_join old.database mid.database new.database
        asks.step log.step) awake may.fits none (λ calm passed recorded in_log.
        absurd (unrecorded first may calm passed recorded in_log));
  }
