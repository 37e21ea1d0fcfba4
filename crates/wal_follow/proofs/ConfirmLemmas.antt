-- The salts of a log's header, read again.
use Rattle.std.proofs.Common.{◌≡◌, ℕ, ◌+◌, ◌≤◌, Bool, true, false, List, ◌++◌, length, take, drop, Option, Some, None}
use Rattle.std.proofs.Common.{Result, Ok, Err, refl, sym, ap, subst, ◌∙◌, inl, inr, arith}
use Rattle.std.specs.Prelude.{◌⊎◌, ◌≢◌, ◌==◌, ◌&&◌, if◌then◌else◌, IsErrOf}
use Rattle.std.proofs.lemmas.List.{take_all}
use Rattle.ls_base.specs.declared.mark.Mark.{Mark}
use Rattle.ls_base.specs.declared.place.Place.{Place}
use Rattle.ls_base.specs.declared.place.Place.TheVariants.{Wal, Rest}
use Rattle.wal_frames.specs.declared.header.WalHeader.{WalHeader}
use Rattle.wal_frames.specs.declared.fault.WalHeaderFault.{WalHeaderFault}
use Rattle.wal_frames.specs.WalFormat.{read_header}
use Rattle.wal_frames.specs.ValidPrefix.{if_accepted}
use Rattle.wal_frames.specs.Marks.{IsMark, place_of}
use Rattle.wal_frames.proofs.AcceptedLemmas.{accepts, read_header-take}
use Rattle.wal_frames.proofs.MarkLemmas.{mark_stands}
use Rattle.live_gate.specs.declared.fault.LiveFault.{LiveFault}
use Rattle.live_gate.specs.LiveRecord.{Database, Asked, LiveRecord}
use Rattle.live_gate.specs.LiveCalls.{AgreeInFront, Aims, read_offset}
use Rattle.live_gate.specs.Step.{IsWriterStep}
use Rattle.live_gate.proofs.StepLemmas.{step_join}
use Rattle.snapshot_read.specs.Reading.{AsksOfTheLog}
use Rattle.wal_follow.specs.declared.following.Following.{Following}
use Rattle.wal_follow.specs.declared.following.Target.{Target}
use Rattle.wal_follow.specs.Calls.{salts_of, salts_in, salts_answer, IsAnswerToSalts, KeepsPasses, Confirms}
use Rattle.wal_follow.specs.declared.fault.Broken.{Broken}
use Rattle.wal_follow.specs.declared.fault.Broken.TheVariants.{Salts, Short}
use Rattle.wal_follow.specs.declared.fault.FollowFault.{FollowFault}
use Rattle.wal_follow.specs.declared.fault.FollowFault.TheVariants.{Header, SizesDiffer, WalTooLong, TooLarge}
use Rattle.wal_follow.specs.declared.fault.FollowFault.TheVariants.{GateBroken, Live, Memory}
use Rattle.std.proofs.lemmas.Bool.{and_parts, and_from, eqb-true, eq-eqb}
use Rattle.wal_follow.specs.Following.{is_in_log, FitsFoundMark, FitsTarget, Fits}
use Rattle.wal_follow.specs.LogReading.{Fills}
use Rattle.wal_follow.proofs.FitsLemmas.{fits_stays, still_accepted}
use Rattle.wal_follow.proofs.ReadLemmas.{keeps_hold}

-- a mark has the salts of its log's header
pub mark_salts : (log : List ℕ) (h : WalHeader) (mark : Mark) → read_header log ≡ Ok h → IsMark log mark
    → (mark.salt1 ≡ h.salt1) × (mark.salt2 ≡ h.salt2)
mark_salts log h mark accepted is =
    let m = mark_stands log h mark accepted is in
    (ap (λ (k : Mark). k.salt1) m.is, ap (λ (k : Mark). k.salt2) m.is)

salts_are : (bytes : List ℕ) (h : WalHeader) → read_header bytes ≡ Ok h → salts_in bytes ≡ Some (h.salt1, h.salt2)
salts_are bytes h is = ap (λ (r : Result WalHeader WalHeaderFault). if_accepted r (λ k. Some (salts_of k)) None) is

module _ (f : Following) (target : Target) (bytes into : List ℕ) (n : ℕ) (old mid new : LiveRecord)
    (aims : Aims 0 (Ok tt) old mid) (fills : Fills (Ok n) into mid new) (is_bytes : bytes ≡ take n into)
    (room : length into ≡ 32)
    (fits : Fits f old.database) (awake : new.database.stopped ≡ false) where
  pub joined : IsWriterStep old.database new.database
  joined = step_join old.database mid.database new.database aims.call.step fills.step

  module _ (m : FitsFoundMark f target old.database) where
    -- the header that was read is that of the found mark
    pub read_salts : salts_in bytes ≡ Some (m.mark.salt1, m.mark.salt2)
    read_salts =
        let middle = fits_stays f old.database mid.database aims.call.step (aims.call.awake refl) fits in
        let keeps = keeps_hold old.database mid.database fits.gate aims.call.step (aims.call.awake refl) in
        let accepted = still_accepted old.database.committed mid.database.committed keeps.committed m.h m.accepted in
        let long = (accepts mid.database.committed m.h accepted).long in
        let offset : read_offset mid ≡ 0 = omega (
          arith,
          ap (λ q. q.aimed) aims.ok,
          ap
              (λ q. length q.answered) aims.ok,
        ) in
        let agrees : AgreeInFront (take n into) mid.database.committed =
        subst (λ (k : ℕ). AgreeInFront (take n into) (drop k mid.database.committed)) offset
        (fills.read.0.agrees middle.gate awake) in
        let count : length (take n into) ≡ 32 = whole (fills.read.1.least middle.gate) fills.read.1.most long offset in
        let front : take 32 mid.database.committed ≡ take n into =
        ap (λ (k : ℕ). take k mid.database.committed) (sym count) ∙ agrees
        ∙ take_all (length mid.database.committed) (take n into) (omega (arith, count, long)) in
        let same : read_header bytes ≡ Ok m.h = ap read_header (is_bytes ∙ sym front)
        ∙ read_header-take 32 mid.database.committed (omega arith) long ∙ accepted in
        let salts = mark_salts old.database.committed m.h m.mark m.accepted m.is_mark in
        salts_are bytes m.h same ∙ (λ i. Some (sym salts.0 i, sym salts.1 i))
      where
        whole : (length (take n into) ≡ length into) ⊎ (length mid.database.committed ≤ read_offset mid + length
            (take n into)) → length (take n into) ≤ length into
            → 32 ≤ length mid.database.committed → read_offset mid ≡ 0 → length (take n into) ≡ 32
        whole (inl all) most long offset = omega (arith, all, room)
        whole (inr enough) most long offset = omega (arith, enough, most, long, offset, room)

  pub answered_is : new.asked.answered ≡ take n into
  answered_is = fills.read.0.answered ∙ ap (λ q. q.answered ++ take n into) aims.ok

-- ---- what `confirm` does

no_answer : (p : Place) (fault : LiveFault) (bytes : List ℕ) → IsAnswerToSalts p (Err (Live fault)) bytes
no_answer (Wal a b c d e) fault bytes = tt
no_answer (Rest sum) fault bytes = tt

-- asking the same of the live database asks for no pass
pub same_passes : (old new : Asked) → new ≡ old → KeepsPasses old new
same_passes old new same = (ap (λ (a : Asked). a.passes_asked) same, ap (λ (a : Asked). a.passes_done) same)

-- nor does reading from the log's start
pub read_passes : (old mid new : LiveRecord) → Aims 0 (Ok tt) old mid → AsksOfTheLog mid.asked new.asked
    → KeepsPasses old.asked new.asked
read_passes old mid new aims asked = (
  asked.passes_asked ∙ ap (λ (a : Asked). a.passes_asked) aims.ok,
  asked.passes_done ∙ ap (λ (a : Asked). a.passes_done) aims.ok,
)

module _ (f : Following) (target : Target) (old new : LiveRecord) (step : IsWriterStep old.database new.database)
    (fits : Fits f old.database) (passes : KeepsPasses old.asked new.asked) where
  pub confirms_fault : (fault : LiveFault) → Confirms f target (Err (Live fault)) old new
  confirms_fault fault = record {
    step = step;
    awake = λ log ok. absurd cc;
    salts = no_answer target.place fault new.asked.answered;
    whole = λ legal calm broken e. absurd cc;
    fits = λ awake. fits_stays f old.database new.database step awake fits;
    passes = passes;
  }

  pub confirms_rest : (sum : ℕ) → target.place ≡ Rest sum → Confirms f target (Ok tt) old new
  confirms_rest sum is = record {
    step = step;
    awake = λ log ok. absurd (no_log (sym (ap (λ (p : Place). is_in_log (Some p)) is) ∙ log));
    salts = subst (λ (p : Place). IsAnswerToSalts p (Ok tt) new.asked.answered) (sym is) tt;
    whole = λ legal calm broken e. absurd cc;
    fits = λ awake. fits_stays f old.database new.database step awake fits;
    passes = passes;
  }
    where
      no_log : ◌≡◌ {A = Bool} false true → ⊥
      no_log e = cc

-- ---- the salts compared

-- what the comparison answers
abbrev pub IsAnswerFor : ℕ × ℕ → Option (ℕ × ℕ) → Result (Unit {0}) FollowFault → Type 0
IsAnswerFor was now (Ok done) = now ≡ Some was
IsAnswerFor was now (Err (GateBroken (Salts w x))) = (w ≡ was) × (x ≡ now) × (x ≢ Some w)
IsAnswerFor was now (Err (GateBroken (Short at))) = ⊥
IsAnswerFor was now (Err (Header fault)) = ⊥
IsAnswerFor was now (Err (SizesDiffer db wal)) = ⊥
IsAnswerFor was now (Err (WalTooLong n)) = ⊥
IsAnswerFor was now (Err (TooLarge n)) = ⊥
IsAnswerFor was now (Err (Live fault)) = ⊥
IsAnswerFor was now (Err Memory) = ⊥

some_differs : (was : ℕ × ℕ) (now : ℕ × ℕ) (t : Bool) → (now.0 == was.0 && now.1 == was.1) ≡ t
    → IsAnswerFor was (Some now) (if t then Ok tt else Err (GateBroken (Salts was (Some now))))
some_differs was now true is =
    let both = and_parts (now.0 == was.0) (now.1 == was.1) is in
    let first : now.0 ≡ was.0 = eqb-true now.0 was.0 both.0 in
    let second : now.1 ≡ was.1 = eqb-true now.1 was.1 both.1 in
    λ i. Some (first i, second i)
some_differs was now false is = (
  refl,
  refl,
  λ same. absurd (differ (sym (and_from _ _ (eq-eqb now.0 was.0
      (first_of_pair same)) (eq-eqb now.1 was.1 (second_of_pair same))) ∙ is)),
)
  where
    differ : ◌≡◌ {A = Bool} true false → ⊥
    differ e = cc

    pair : {x y : ℕ × ℕ} → ◌≡◌ {A = Option (ℕ × ℕ)} (Some x) (Some y) → x ≡ y
    pair e = cc

    first_of_pair : {x y : ℕ × ℕ} → ◌≡◌ {A = Option (ℕ × ℕ)} (Some x) (Some y) → x.0 ≡ y.0
    first_of_pair e = ap (λ (p : ℕ × ℕ). p.0) (pair e)

    second_of_pair : {x y : ℕ × ℕ} → ◌≡◌ {A = Option (ℕ × ℕ)} (Some x) (Some y) → x.1 ≡ y.1
    second_of_pair e = ap (λ (p : ℕ × ℕ). p.1) (pair e)

pub salts_answered : (was : ℕ × ℕ) (now : Option (ℕ × ℕ)) → IsAnswerFor was now (salts_answer was now)
salts_answered was None = (refl, refl, λ e. absurd cc)
salts_answered was (Some now) = some_differs was now (now.0 == was.0 && now.1 == was.1) refl

compared : (a b c d e : ℕ) (now : Option (ℕ × ℕ)) (bytes : List ℕ) (result : Result (Unit {0}) FollowFault)
    → now ≡ salts_in bytes → IsAnswerFor (a, b) now result → IsAnswerToSalts (Wal a b c d e) result bytes
compared a b c d e now bytes (Ok done) is for = sym is ∙ for
compared a b c d e now bytes (Err (GateBroken (Salts w x))) is for = (for.0, for.1 ∙ is, for.2)
compared a b c d e now bytes (Err (GateBroken (Short at))) is for = absurd for
compared a b c d e now bytes (Err (Header fault)) is for = absurd for
compared a b c d e now bytes (Err (SizesDiffer db wal)) is for = absurd for
compared a b c d e now bytes (Err (WalTooLong n)) is for = absurd for
compared a b c d e now bytes (Err (TooLarge n)) is for = absurd for
compared a b c d e now bytes (Err (Live fault)) is for = absurd for
compared a b c d e now bytes (Err Memory) is for = absurd for

-- where the salts are there, nothing is broken
unbroken : (was : ℕ × ℕ) (now : Option (ℕ × ℕ)) (result : Result (Unit {0}) FollowFault)
    → IsAnswerFor was now result → now ≡ Some was → (broken : Broken) → IsErrOf result (GateBroken broken) → ⊥
unbroken was now (Ok done) for same broken e = absurd cc
unbroken was now (Err (GateBroken (Salts w x))) for same broken e = for.2 (for.1 ∙ same
    ∙ ap (λ (p : ℕ × ℕ). Some p) (sym for.0))
unbroken was now (Err (GateBroken (Short at))) for same broken e = for
unbroken was now (Err (Header fault)) for same broken e = for
unbroken was now (Err (SizesDiffer db wal)) for same broken e = for
unbroken was now (Err (WalTooLong n)) for same broken e = for
unbroken was now (Err (TooLarge n)) for same broken e = for
unbroken was now (Err (Live fault)) for same broken e = for
unbroken was now (Err Memory) for same broken e = for

found_by : (f : Following) (target : Target) (d : Database) (a b c e s : ℕ) → target.place ≡ Wal a b c e s
    → FitsTarget f target d target.place → FitsFoundMark f target d
found_by f target d a b c e s is fits = subst (λ (p : Place). FitsTarget f target d p) is fits

module _ (f : Following) (target : Target) (into : List ℕ) (n a b c e s : ℕ) (result : Result (Unit {0}) FollowFault)
    (now : Option (ℕ × ℕ)) (old mid new : LiveRecord)
    (aims : Aims 0 (Ok tt) old mid) (fills : Fills (Ok n) into mid new) (room : length into ≡ 32)
    (fits : Fits f old.database) (found : f.found ≡ Some target)
    (place : target.place ≡ Wal a b c e s) (now_is : now ≡ salts_in (take n into)) (for : IsAnswerFor
    (a, b) now result) where
  woke : new.database.stopped ≡ false
  woke = fills.awake (omega (arith, room))

  there_now : new.database.chances ≡ 0 → now ≡ Some (a, b)
  there_now calm =
      let m = found_by f target old.database a b c e s place ((fits.calm (omega
      (arith, calm, aims.call.step.chances, fills.step.chances))).found target found) in
      let same : Wal a b c e s ≡ place_of m.mark = sym place ∙ m.place in
      let first : m.mark.salt1 ≡ a = cc in
      let second : m.mark.salt2 ≡ b = cc in
      now_is ∙ read_salts f target (take n into) into n old mid new aims fills refl room fits woke m
      ∙ (λ i. Some (first i, second i))

  pub confirms_read : Confirms f target result old new
  confirms_read = record {
    step = joined f target (take n into) into n old mid new aims fills refl room fits woke;
    awake = λ log ok. woke;
    salts =
        subst (λ (p : Place). IsAnswerToSalts p result new.asked.answered) (sym place)
        (subst (λ (l : List ℕ). IsAnswerToSalts (Wal a b c e s) result l) (sym (answered_is f target
        (take n into) into n old mid new aims fills refl room fits woke)) (compared a b c e s now
        (take n into) result now_is for));
    whole = λ legal calm broken is. unbroken (a, b) now result for (there_now calm) broken is;
    fits = λ awake. fits_stays f old.database new.database (joined f target
        (take n into) into n old mid new aims fills refl room fits woke) awake fits;
    passes = read_passes old mid new aims fills.asked;
  }

pub confirms_unread : (f : Following) (target : Target) (into : List ℕ) (fault : LiveFault)
    (old mid new : LiveRecord) → Aims 0 (Ok tt) old mid → Fills (Err fault) into mid new → Fits f old.database
    → Confirms f target (Err (Live fault)) old new
confirms_unread f target into fault old mid new aims fills fits =
    confirms_fault f target old new (step_join old.database mid.database new.database aims.call.step fills.step) fits
    (read_passes old mid new aims fills.asked) fault
