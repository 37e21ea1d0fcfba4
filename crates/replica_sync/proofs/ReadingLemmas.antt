-- What reading pages does to what a live database tells.
use Rattle.std.proofs.Common.{◌≡◌, ℕ, ◌≤◌, true, false, List, Some, None, Result, Ok, Err, refl, sym, ap, subst, ◌∙◌}
use Rattle.std.proofs.Common.{arith}
use Rattle.std.specs.Prelude.{◌≢◌, IsOk, IsErr}
use Rattle.crash_disk.specs.declared.fault.DiskFault.{DiskFault}
use Rattle.ls_base.specs.declared.place.Place.{Place}
use Rattle.ls_base.specs.declared.place.Place.TheVariants.{Rest}
use Rattle.ls_base.specs.Fault.{HasCause}
use Rattle.ls_base.specs.PageSize.{lock_page}
use Rattle.live_gate.specs.LiveRecord.{Asked, LiveRecord, Told, GoesOn, IfTold}
use Rattle.live_gate.specs.Step.{IsWriterStep}
use Rattle.live_gate.proofs.StepLemmas.{step_itself, step_join}
use Rattle.ltx_format.specs.declared.header.LtxHeader.{LtxHeader}
use Rattle.ltx_format.specs.LtxFormat.{IsStored}
use Rattle.wal_follow.specs.declared.answer.Found.{Found}
use Rattle.wal_follow.specs.declared.fault.Broken.{Broken}
use Rattle.wal_follow.specs.declared.fault.Broken.TheVariants.{Salts, Short}
use Rattle.wal_follow.specs.declared.fault.FollowFault.{FollowFault}
use Rattle.wal_follow.specs.declared.fault.FollowFault.TheVariants.{Header, SizesDiffer, WalTooLong, TooLarge}
use Rattle.wal_follow.specs.declared.fault.FollowFault.TheVariants.{GateBroken, Live, Memory}
use Rattle.wal_follow.specs.declared.following.Following.{Following}
use Rattle.wal_follow.specs.Following.{Fits, is_in_log}
use Rattle.wal_follow.specs.Calls.{GivesWanted, Confirms, IsPageAnswer, IsConfirmAnswer, IsAnswerToSalts}
use Rattle.wal_follow.specs.Calls.{FollowHasCause, target_of, KeepsPasses}
use Rattle.wal_follow.proofs.ConfirmLemmas.{confirms_rest}
use Rattle.replica_sync.specs.declared.answer.SyncFault.{SyncFault}
use Rattle.replica_sync.specs.declared.answer.SyncFault.TheVariants.{Follow, TxidSpent, Store, Memory as want}
use Rattle.replica_sync.specs.Answers.{HasCauses}
use Rattle.replica_sync.specs.Reading.{MovesOn, ReadsFound, ReadsPage, ConfirmsFound, IsReadFault, IsStoreFault}
use Rattle.replica_sync.specs.Reading.{IsBrokenBy}

abbrev Done : Type 0
Done = Result (Unit {0}) SyncFault

-- the fault that was handed on
same_fault : (a b : FollowFault) → ◌≡◌ {A = Done} (Err (Follow a)) (Err (Follow b)) → a ≡ b
same_fault a b e = cc

pub not_store : (cause : DiskFault) (fault : FollowFault) → ◌≡◌ {A = Done} (Err (Store cause)) (Err (Follow fault)) → ⊥
not_store cause fault e = cc

pub not_ok : (fault : FollowFault) → ◌≡◌ {A = Done} (Ok tt) (Err (Follow fault)) → ⊥
not_ok fault e = cc

pub unlocked : (number : ℕ) (h : LtxHeader) (size : ℕ) → IsStored h number → h.size ≡ size
    → number ≢ lock_page size
unlocked number h size stored is same = stored.unlocked (same ∙ sym (ap lock_page is))

-- ---- a page that failed

module _ (f : Following) (found : Found) (number : ℕ) (into : List ℕ) (old new : LiveRecord) where
  page_broken : (fault : FollowFault) → IsPageAnswer (Err fault)
      → GivesWanted f (target_of found) number (Err fault) into old new
      → (broken : Broken) → fault ≡ GateBroken broken → IsBrokenBy found.place broken new
  page_broken fault answer gives (Short at) is = gives.short at (ap (λ (x : FollowFault). Err x) is)
  page_broken fault answer gives (Salts was now) is =
      absurd (subst (λ (x : FollowFault). IsPageAnswer (Err x)) is answer)

  page_whole : (fault : FollowFault) → IsPageAnswer (Err fault)
      → GivesWanted f (target_of found) number (Err fault) into old new
      → (broken : Broken) → fault ≡ GateBroken broken → new.database.chances ≡ 0 → ⊥
  page_whole fault answer gives (Short at) is calm = gives.whole calm at (ap (λ (x : FollowFault). Err x) is)
  page_whole fault answer gives (Salts was now) is calm =
      subst (λ (x : FollowFault). IsPageAnswer (Err x)) is answer

  pub page_failed : (fault : FollowFault) → IsPageAnswer (Err fault)
      → GivesWanted f (target_of found) number (Err fault) into old new
      → ReadsPage f found number (Err (Follow fault)) into old new
  page_failed fault answer gives = record {
    reads = record {
      step = gives.step;
      awake = λ ok. absurd cc;
      fits = gives.fits;
      broken = λ broken is. page_broken fault answer gives broken (same_fault fault (GateBroken broken) is);
      whole = λ broken is legal calm.
          page_whole fault answer gives broken (same_fault fault (GateBroken broken) is) calm;
      passes = gives.passes;
    };
    awake = λ ok. absurd cc;
    value = λ ok. absurd cc;
  }

  -- ---- a page that was read, whatever became of it then

  pub page_read : (result : Done) → number ≢ lock_page found.size
      → ((fault : FollowFault) → result ≡ Err (Follow fault) → ⊥)
      → GivesWanted f (target_of found) number (Ok tt) into old new → ReadsPage f found number result into old new
  page_read result unlocked other gives =
      let awake : new.database.stopped ≡ false = gives.awake unlocked refl in
      record {
        reads = record {
          step = gives.step;
          awake = λ ok was. awake;
          fits = gives.fits;
          broken = λ broken is. absurd (other (GateBroken broken) is);
          whole = λ broken is legal calm. other (GateBroken broken) is;
          passes = gives.passes;
        };
        awake = λ ok. awake;
        value = λ ok calm. gives.value calm awake;
      }

pub fault_answer : (fault : FollowFault) → IsPageAnswer (Err fault) → IsReadFault (Err (Follow fault))
fault_answer (Header cause) answer = answer
fault_answer (SizesDiffer db wal) answer = answer
fault_answer (WalTooLong n) answer = answer
fault_answer (TooLarge n) answer = answer
fault_answer (GateBroken broken) answer = tt
fault_answer (Live cause) answer = tt
fault_answer Memory answer = answer

pub confirm_answer : (fault : FollowFault) → IsConfirmAnswer (Err fault) → IsReadFault (Err (Follow fault))
confirm_answer (Header cause) answer = answer
confirm_answer (SizesDiffer db wal) answer = answer
confirm_answer (WalTooLong n) answer = answer
confirm_answer (TooLarge n) answer = answer
confirm_answer (GateBroken broken) answer = tt
confirm_answer (Live cause) answer = tt
confirm_answer Memory answer = answer

-- ---- counts of faults

-- a fault of the live database is handed on
pub live_failed : {T : Type 0} (result : Done) (first : Result T FollowFault) (fault : FollowFault)
    (live_old live_mid live_new old new : ℕ) → result ≡ Err (Follow fault) → first ≡ Err fault → live_old ≤ live_mid
    → old ≤ new → FollowHasCause live_mid live_new first → HasCauses live_old live_new old new result
live_failed result first fault live_old live_mid live_new old new was is before store cause = record {
  live_later = omega (arith, before, cause.later);
  store_later = store;
  live_rose = λ live same.
      let rose = cause.rose live (is ∙ ap (λ (x : FollowFault). Err x)
      (same_fault fault (Live live) (sym was ∙ same))) in
      record { least = omega (arith, before, rose.least) };
  store_rose = λ disk same. absurd (not_store disk fault (sym same ∙ was));
}

-- one of the store is
pub store_failed : {T : Type 0} (result : Done) (first : Result T DiskFault) (fault : DiskFault)
    (live_old live_new old mid new : ℕ) → result ≡ Err (Store fault) → first ≡ Err fault → live_old ≤ live_new
    → old ≤ mid → HasCause mid new first → HasCauses live_old live_new old new result
store_failed {T} result first fault live_old live_new old mid new was is later before cause = record {
  live_later = later;
  store_later = omega (arith, before, cause.later);
  live_rose = λ live same. absurd (not_store fault (Live live) (sym was ∙ same));
  store_rose = λ disk same.
      let failed : IsErr first = subst (λ (r : Result T DiskFault). IsErr r) (sym is) refl in
      let rose = cause.rose failed in record { least = omega (arith, before, rose.least) };
}

-- what was refused later has the cause that it had
pub later_causes : (result : Done) (live_old live_mid live_new old mid new : ℕ) → live_old ≤ live_mid → old ≤ mid
    → HasCauses live_mid live_new mid new result → HasCauses live_old live_new old new result
later_causes result live_old live_mid live_new old mid new live store causes = record {
  live_later = omega (arith, live, causes.live_later);
  store_later = omega (arith, store, causes.store_later);
  live_rose = λ fault same. let rose = causes.live_rose fault same in record
      { least = omega (arith, live, rose.least) };
  store_rose = λ fault same.
      let rose = causes.store_rose fault same in record { least = omega (arith, store, rose.least) };
}

pub none_failed : (live_old live_new old new : ℕ) → live_old ≤ live_new → old ≤ new
    → HasCauses {T = Unit {0}} live_old live_new old new (Ok tt)
none_failed live_old live_new old new live store = record {
  live_later = live;
  store_later = store;
  live_rose = λ fault same. absurd cc;
  store_rose = λ fault same. absurd cc;
}

-- ---- one step and then more

pub passes_join : (old mid new : Asked) → KeepsPasses old mid → KeepsPasses mid new → KeepsPasses old new
passes_join old mid new first second = (second.0 ∙ first.0, second.1 ∙ first.1)

pub moves_itself : (told : Told) → GoesOn told told MovesOn
moves_itself told = record {
  told = λ r is. (r, is, record { step = step_itself r.database; passes = (refl, refl) });
  silent = λ none. none;
}

pub moves_more : (f : Following) (found : Found) (number : ℕ) (page : List ℕ) (old mid new : LiveRecord)
    → MovesOn old mid → ReadsPage f found number (Ok tt) page mid new → MovesOn old new
moves_more f found number page old mid new moves reads = record {
  step = step_join old.database mid.database new.database moves.step reads.reads.step;
  passes = passes_join old.asked mid.asked new.asked moves.passes reads.reads.passes;
}

pub moves_then : (f : Following) (place : Place) (result : Done) (old mid new : LiveRecord)
    → MovesOn old mid → (IsOk result → new.database.stopped ≡ false)
    → ReadsFound f place result mid new → ReadsFound f place result old new
moves_then f place result old mid new moves awake reads = record {
  step = step_join old.database mid.database new.database moves.step reads.step;
  awake = λ ok was. awake ok;
  fits = reads.fits;
  broken = reads.broken;
  whole = λ broken is legal. reads.whole broken is (moves.step.legal legal);
  passes = passes_join old.asked mid.asked new.asked moves.passes reads.passes;
}

pub reads_join : (f : Following) (place : Place) (result : Done) (old mid new : LiveRecord)
    → ReadsFound f place (Ok tt) old mid → ReadsFound f place result mid new → ReadsFound f place result old new
reads_join f place result old mid new first second = record {
  step = step_join old.database mid.database new.database first.step second.step;
  awake = λ ok was. second.awake ok (first.awake refl was);
  fits = second.fits;
  broken = second.broken;
  whole = λ broken is legal. second.whole broken is (first.step.legal legal);
  passes = passes_join old.asked mid.asked new.asked first.passes second.passes;
}

-- nothing failed
pub all_read : (f : Following) (place : Place) (old new : LiveRecord) → MovesOn old new
    → new.database.stopped ≡ false → Fits f new.database → ReadsFound f place (Ok tt) old new
all_read f place old new moves awake fits = record {
  step = moves.step;
  awake = λ ok was. awake;
  fits = λ still. fits;
  broken = λ broken is. absurd (not_ok (GateBroken broken) is);
  whole = λ broken is legal calm. not_ok (GateBroken broken) is;
  passes = moves.passes;
}

-- the log was asked whether it is still the same
module _ (f : Following) (found : Found) (old new : LiveRecord) where
  pub confirmed : Confirms f (target_of found) (Ok tt) old new → is_in_log (Some found.place) ≡ true
      → ReadsFound f found.place (Ok tt) old new
  confirmed confirms log = record {
    step = confirms.step;
    awake = λ ok was. confirms.awake log refl;
    fits = confirms.fits;
    broken = λ broken is. absurd (not_ok (GateBroken broken) is);
    whole = λ broken is legal calm. not_ok (GateBroken broken) is;
    passes = confirms.passes;
  }

  confirm_broken : (fault : FollowFault) → IsConfirmAnswer (Err fault)
      → Confirms f (target_of found) (Err fault) old new
      → (broken : Broken) → fault ≡ GateBroken broken → IsBrokenBy found.place broken new
  confirm_broken fault answer confirms (Short at) is =
      absurd (subst (λ (x : FollowFault). IsConfirmAnswer (Err x)) is answer)
  confirm_broken fault answer confirms (Salts was now) is =
      subst (λ (x : FollowFault). IsAnswerToSalts found.place (Err x) new.asked.answered) is confirms.salts

  pub unconfirmed : (fault : FollowFault) → IsConfirmAnswer (Err fault)
      → Confirms f (target_of found) (Err fault) old new → ReadsFound f found.place (Err (Follow fault)) old new
  unconfirmed fault answer confirms = record {
    step = confirms.step;
    awake = λ ok. absurd cc;
    fits = confirms.fits;
    broken = λ broken is. confirm_broken fault answer confirms broken (same_fault fault (GateBroken broken) is);
    whole = λ broken is legal calm.
        confirms.whole legal calm broken (ap (λ (x : FollowFault). Err x) (same_fault fault (GateBroken broken) is));
    passes = confirms.passes;
  }

  pub confirms_log : Confirms f (target_of found) (Ok tt) old new → ConfirmsFound f (target_of found) old new
  confirms_log confirms = record { mid = old; before = step_itself old.database; confirms = confirms }

  pub confirms_later : (first : LiveRecord) → IsWriterStep first.database old.database
      → ConfirmsFound f (target_of found) old new → ConfirmsFound f (target_of found) first new
  confirms_later first step is = record {
    mid = is.mid;
    before = step_join first.database old.database is.mid.database step is.before;
    confirms = is.confirms;
  }

-- a place at rest has no salts
pub confirms_nothing : (f : Following) (found : Found) (r : LiveRecord) (sum : ℕ) → found.place ≡ Rest sum
    → Fits f r.database → ConfirmsFound f (target_of found) r r
confirms_nothing f found r sum is fits = record {
  mid = r;
  before = step_itself r.database;
  confirms = confirms_rest f (target_of found) r r (step_itself r.database) fits (refl, refl) sum is;
}

-- nothing was asked
pub nothing_read : (f : Following) (place : Place) (r : LiveRecord) → Fits f r.database
    → ReadsFound f place (Ok tt) r r
nothing_read f place r fits = record {
  step = step_itself r.database;
  awake = λ ok was. was;
  fits = λ awake. fits;
  broken = λ broken is. absurd (not_ok (GateBroken broken) is);
  whole = λ broken is legal calm. not_ok (GateBroken broken) is;
  passes = (refl, refl);
}

-- ---- what is told now

none_told : (r : LiveRecord) → ◌≡◌ {A = Told} None (Some r) → ⊥
none_told r e = cc

one_told : (a b : LiveRecord) → ◌≡◌ {A = Told} (Some a) (Some b) → a ≡ b
one_told a b e = cc

-- what holds of the record now, by that before
pub live_now : (old new : Told) (P : LiveRecord → LiveRecord → Type 0) (A Q : LiveRecord → Type 0) → GoesOn old new P
    → IfTold old A → ((x y : LiveRecord) → A x → P x y → Q y) → IfTold new Q
live_now None new P A Q goes was implies r told = absurd (none_told r (sym (goes.silent refl) ∙ told))
live_now (Some before) new P A Q goes was implies r told =
    let went = goes.told before refl in
    subst Q (one_told went.0 r (sym went.1 ∙ told)) (implies before went.0 (was before refl) went.2)

-- what holds of one call in two ways
pub goes_with : (old new : Told) (P Q R : LiveRecord → LiveRecord → Type 0) → GoesOn old new P → GoesOn old new Q
    → ((r after : LiveRecord) → P r after → Q r after → R r after) → GoesOn old new R
goes_with old new P Q R first second joins = record {
  told = λ r told.
      let went = first.told r told in
      let also = second.told r told in (
        went.0,
        went.1,
        joins r went.0 went.2 (subst (Q r) (one_told also.0 went.0 (sym also.1 ∙ went.1)) also.2),
      );
  silent = first.silent;
}

-- what holds of the record now holds beside the steps that led to it
pub with_now : (old new : Told) (P R : LiveRecord → LiveRecord → Type 0) (Q : LiveRecord → Type 0) → GoesOn old new P
    → IfTold new Q → ((x y : LiveRecord) → P x y → Q y → R x y) → GoesOn old new R
with_now old new P R Q goes now joins = record {
  told = λ r told. let went = goes.told r told in
      (went.0, went.1, joins r went.0 went.2 (now went.0 went.1));
  silent = goes.silent;
}

-- all was read, and something else failed then
pub read_but : (f : Following) (place : Place) (result : Done) (old new : LiveRecord)
    → ((fault : FollowFault) → result ≡ Err (Follow fault) → ⊥) → ReadsFound f place (Ok tt) old new
    → ReadsFound f place result old new
read_but f place result old new other reads = record {
  step = reads.step;
  awake = λ ok was. reads.awake refl was;
  fits = reads.fits;
  broken = λ broken is. absurd (other (GateBroken broken) is);
  whole = λ broken is legal calm. other (GateBroken broken) is;
  passes = reads.passes;
}

-- more faults of the store change no cause
pub more_faults : (result : Done) (live_old live_new old mid new : ℕ) → mid ≤ new
    → HasCauses live_old live_new old mid result → HasCauses live_old live_new old new result
more_faults result live_old live_new old mid new later causes = record {
  live_later = causes.live_later;
  store_later = omega (arith, later, causes.store_later);
  live_rose = causes.live_rose;
  store_rose = λ fault same.
      let rose = causes.store_rose fault same in record { least = omega (arith, later, rose.least) };
}

pub not_want : (fault : FollowFault) → ◌≡◌ {A = Done} (Err want) (Err (Follow fault)) → ⊥
not_want fault e = cc

-- nothing was read, and something failed that isn't of the live database
pub unread : (f : Following) (place : Place) (result : Done) (r : LiveRecord)
    → ((fault : FollowFault) → result ≡ Err (Follow fault) → ⊥) → Fits f r.database → ReadsFound f place result r r
unread f place result r other fits = read_but f place result r r other (nothing_read f place r fits)

pub read_answer : (result : Done) → IsReadFault result → IsStoreFault result
read_answer (Ok done) answer = tt
read_answer (Err (Store cause)) answer = tt
read_answer (Err (Follow (Live cause))) answer = tt
read_answer (Err (Follow (GateBroken broken))) answer = tt
read_answer (Err (Follow (Header cause))) answer = answer
read_answer (Err (Follow (SizesDiffer db wal))) answer = answer
read_answer (Err (Follow (WalTooLong n))) answer = answer
read_answer (Err (Follow (TooLarge n))) answer = answer
read_answer (Err (Follow Memory)) answer = answer
read_answer (Err TxidSpent) answer = answer
read_answer (Err want) answer = tt

-- want of memory blames nobody
pub memory_short : (result : Done) (live store : ℕ) → result ≡ Err want → HasCauses live live store store result
memory_short result live store was = record {
  live_later = omega arith;
  store_later = omega arith;
  live_rose = λ fault same. absurd (not_want (Live fault) (sym was ∙ same));
  store_rose = λ fault same. absurd (want_is_not fault (sym was ∙ same));
}
  where
    want_is_not : (cause : DiskFault) → ◌≡◌ {A = Done} (Err want) (Err (Store cause)) → ⊥
    want_is_not cause e = cc
