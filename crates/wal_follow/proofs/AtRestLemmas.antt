-- What is answered over a database file.
use Rattle.std.proofs.Common.{◌≡◌, ℕ, ◌+◌, ◌-◌, ◌*◌, ◌/◌, ◌%◌, ◌^◌, ◌<◌, ◌≤◌, min, max, Bool, true, false, Option, Some}
use Rattle.std.proofs.Common.{None, Result, Ok, Err, refl, sym, ap, subst, ◌∙◌, inl, inr, arith}
use Rattle.std.specs.FinMap.{get, len}
use Rattle.std.proofs.lemmas.Bool.{cases_eq}
use Rattle.std.proofs.Math.Nat.{add-mul, div-add-mod'}
use Rattle.std.proofs.lemmas.Nat.{mod_below}
use Rattle.std.proofs.lemmas.Grind.{div_ceil_times}
use Rattle.ls_base.specs.declared.place.Place.{Place}
use Rattle.ls_base.specs.declared.place.Place.TheVariants.{Wal, Rest}
use Rattle.ls_base.specs.Limits.{database_limit}
use Rattle.ls_base.specs.PageSize.{IsPageSize}
use Rattle.ls_base.specs.Place.{is_same_place}
use Rattle.ls_base.proofs.HistoryLemmas.{is_same_place-true, is_same_place-itself}
use Rattle.wal_frames.specs.View.{file_pages, rest_place}
use Rattle.wal_frames.proofs.CutLemmas.{quotient}
use Rattle.live_gate.specs.declared.fault.LiveFault.{LiveFault}
use Rattle.live_gate.specs.LiveRecord.{Database, Asked, LiveRecord}
use Rattle.live_gate.specs.LiveCalls.{GivesDbSize}
use Rattle.live_gate.specs.Step.{IsWriterStep}
use Rattle.live_gate.proofs.StepLemmas.{step_join}
use Rattle.snapshot_read.specs.Offsets.{AreWithinLimit}
use Rattle.snapshot_read.specs.PageOffsets.{Offsets, PageOffsets}
use Rattle.snapshot_read.specs.Resting.{place_of_pages, ReadsRest}
use Rattle.wal_follow.specs.declared.answer.Next.{Next}
use Rattle.wal_follow.specs.declared.answer.Next.TheVariants.{Same}
use Rattle.wal_follow.specs.declared.answer.Wanted.TheVariants.{All}
use Rattle.wal_follow.specs.declared.fault.FollowFault.{FollowFault}
use Rattle.wal_follow.specs.declared.fault.FollowFault.TheVariants.{TooLarge, Live, Memory}
use Rattle.wal_follow.specs.declared.following.Following.{Following}
use Rattle.wal_follow.specs.declared.following.Target.{Target}
use Rattle.wal_follow.specs.Answers.{FindsRest, SaysSize, IsLostAtRest}
use Rattle.wal_follow.specs.AtRest.{pages_in, AsksOfTheFile, AnswersAtRest}
use Rattle.wal_follow.specs.Following.{is_in_log, FitsTarget, Fits}
use Rattle.wal_follow.specs.Kept.{IsReady}
use Rattle.wal_follow.specs.Steps.{is_same_rest, next_of}
use Rattle.wal_follow.proofs.FitsLemmas.{fits_stays}
use Rattle.wal_follow.proofs.LogGatherLemmas.{IsKnown, known_itself, fits_known}
use Rattle.wal_follow.proofs.ReadLemmas.{keeps_hold, still_gated}

-- ---- pages

-- a quotient that is rounded up
pub ceil_is : (x y : ℕ) → 1 ≤ y → x / y + min 1 (x % y) ≡ (x + (y - 1)) / y
ceil_is x y some =
    let q = x / y in
    let m = x % y in
    let whole = div-add-mod' x y in
    let below = mod_below x y (omega (arith, some)) in
    elim (cases_eq m 0) [
      | inl none ↦
          let up : q + min 1 m ≡ q = omega (arith, none) in
          up ∙ sym (quotient (x + (y - 1)) y q (y - 1) (omega (arith, whole, none, some)) (omega (arith, some)))
      | inr part ↦
          let up : q + min 1 m ≡ q + 1 = omega (arith, part) in
          up ∙ sym (quotient (x + (y - 1)) y (q + 1) (m - 1) (omega (arith, whole, part, some, add-mul q 1 y))
          (omega (arith, below, part)))
    ]

-- no count of pages is near the greatest number
pub pages_short : (size bytes : ℕ) → 1 ≤ size → size ≤ 2 ^ 16 → bytes < 2 ^ 63 → pages_in size bytes * size < 2 ^ 64
pages_short size bytes some most few =
    let n = (bytes + (size - 1)) / size in
    let ceil = div_ceil_times bytes size (omega (arith, some)) in
    let scaled : n * size < bytes + size =
    subst (λ (k : ℕ). k * size < bytes + size) (ceil_is bytes size some) ceil.1 in
    elim (cases_eq n 0) [
      | inl none ↦
          let one : max 1 n ≡ 1 = omega (arith, none) in
          let same : max 1 n * size ≡ 1 * size = ap (λ (k : ℕ). k * size) one in omega (arith, same, most)
      | inr more ↦
          let own : max 1 n ≡ n = omega (arith, more) in
          let same : max 1 n * size ≡ n * size = ap (λ (k : ℕ). k * size) own in
          omega (arith, same, scaled, few, most)
    ]

-- ---- what was asked

pub file_same : (old new : Asked) → new ≡ old → AsksOfTheFile old new
file_same old new same = record {
  head = ap (λ (a : Asked). a.head) same;
  wal_size = ap (λ (a : Asked). a.wal_size) same;
  taken = ap (λ (a : Asked). a.taken) same;
  passes_asked = ap (λ (a : Asked). a.passes_asked) same;
  passes_done = ap (λ (a : Asked). a.passes_done) same;
}

pub file_sized : (old new : Asked) (n : ℕ) → new ≡ record old { db_size = Some n } → AsksOfTheFile old new
file_sized old new n same = record {
  head = ap (λ (a : Asked). a.head) same;
  wal_size = ap (λ (a : Asked). a.wal_size) same;
  taken = ap (λ (a : Asked). a.taken) same;
  passes_asked = ap (λ (a : Asked). a.passes_asked) same;
  passes_done = ap (λ (a : Asked). a.passes_done) same;
}

file_then : (a b c : Asked) → AsksOfTheFile a b → c ≡ b → AsksOfTheFile a c
file_then a b c first same = subst (λ (x : Asked). AsksOfTheFile a x) (sym same) first

-- ---- a database at rest stays so

pub rest_stays : (first old new : Database) (size : ℕ) → IsWriterStep old new → new.stopped ≡ false
    → FindsRest first old size → FindsRest first new size
rest_stays first old new size step awake finds =
    let keeps = keeps_hold old new (0, finds.held) step awake in
    record {
      none = finds.none;
      held = keeps.held;
      says = subst (λ file. SaysSize file size) (sym (keeps.file refl)) finds.says;
    }

-- the follower goes on fitting where only its number of spare places or its page size changed
pub fits_same : (f after : Following) (old new : Database) → IsKnown f after → after.found ≡ None
    → IsWriterStep old new → Fits f old → new.stopped ≡ false → Fits after new
fits_same f after old new known none step fits awake = record {
  gate = still_gated old new fits.gate step awake;
  calm = λ calm. fits_known f after new known (λ target is. absurd (nothing (sym none ∙ is)))
      ((fits_stays f old new step awake fits).calm calm);
}
  where
    nothing : {t : Target} → ◌≡◌ {A = Option Target} None (Some t) → ⊥
    nothing e = cc

-- ---- faults

pub rest_fault : (size : ℕ) (f after : Following) (result : Result Next FollowFault) (fault : LiveFault)
    (old new : LiveRecord) → result ≡ Err (Live fault) → IsKnown f after → (f.found ≡ None → after.found ≡ None)
    → IsWriterStep old.database new.database → AsksOfTheFile old.asked new.asked
    → AnswersAtRest size f after result old new
rest_fault size f after result fault old new is known none step asked =
    subst (λ (r : Result Next FollowFault). AnswersAtRest size f after r old new) (sym is) (record {
      step = step;
      asked = asked;
      awake = λ ok. absurd cc;
      answers = λ first finds. tt;
      fits = λ first finds has fits awake. fits_same f after old.database new.database known (none has.found) step fits
          awake;
    })

pub rest_starved : (size : ℕ) (f after : Following) (result : Result Next FollowFault) (old new : LiveRecord)
    → result ≡ Err Memory → IsKnown f after → (f.found ≡ None → after.found ≡ None)
    → IsWriterStep old.database new.database → AsksOfTheFile old.asked new.asked
    → AnswersAtRest size f after result old new
rest_starved size f after result old new is known none step asked =
    subst (λ (r : Result Next FollowFault). AnswersAtRest size f after r old new) (sym is) (record {
      step = step;
      asked = asked;
      awake = λ ok. absurd cc;
      answers = λ first finds. tt;
      fits = λ first finds has fits awake. fits_same f after old.database new.database known (none has.found) step fits
          awake;
    })

-- ---- the file is too large

pub rest_large : (size bytes : ℕ) (f after : Following) (result : Result Next FollowFault) (old new : LiveRecord)
    → result ≡ Err (TooLarge (pages_in size bytes * size)) → database_limit < pages_in size bytes * size
    → IsKnown f after → (f.found ≡ None → after.found ≡ None) → GivesDbSize (Ok bytes) old new
    → AnswersAtRest size f after result old new
rest_large size bytes f after result old new is large known none sized =
    subst (λ (r : Result Next FollowFault). AnswersAtRest size f after r old new) (sym is) (record {
      step = sized.call.step;
      asked = file_sized old.asked new.asked bytes sized.ok;
      awake = λ ok. absurd cc;
      answers = λ first finds. (
        large,
        inr (
          size,
          rest_stays first old.database new.database size sized.call.step (sized.call.awake refl) finds,
          ap (λ (n : ℕ). pages_in size n * size) sized.value,
        ),
      );
      fits = λ first finds has fits awake. fits_same f after old.database new.database known (none has.found)
          sized.call.step fits awake;
    })

-- ---- its state

same_loses : (passed : Bool) (place : Option Place) (rest : Place) → is_same_rest passed place rest ≡ true
    → IsLostAtRest passed place rest → ⊥
same_loses passed None rest same lost = not_both same
  where
    not_both : ◌≡◌ {A = Bool} false true → ⊥
    not_both e = cc
same_loses passed (Some (Rest sum)) rest same lost = lost (is_same_place-true (Rest sum) rest same)
same_loses passed (Some (Wal a b end s0 s1)) rest same lost = not_both (sym lost ∙ same)
  where
    not_both : ◌≡◌ {A = Bool} false true → ⊥
    not_both e = cc

other_loses : (passed : Bool) (place : Option Place) (rest : Place) → is_same_rest passed place rest ≡ false
    → IsLostAtRest passed place rest
other_loses passed None rest other = tt
other_loses passed (Some (Rest sum)) rest other = λ same.
    not_both (sym (ap (is_same_place (Rest sum)) (sym same) ∙ is_same_place-itself (Rest sum)) ∙ other)
  where
    not_both : ◌≡◌ {A = Bool} true false → ⊥
    not_both e = cc
other_loses passed (Some (Wal a b end s0 s1)) rest other = other

module _ (size pages bytes : ℕ) (place : Place) (f : Following) (old mid new : LiveRecord)
    (sized : GivesDbSize (Ok bytes) old mid) (rest : ReadsRest size pages (Ok place) mid new) where
  pub rest_step : IsWriterStep old.database new.database
  rest_step = step_join old.database mid.database new.database sized.call.step rest.step

  pub rest_asked : AsksOfTheFile old.asked new.asked
  rest_asked = file_then old.asked mid.asked new.asked (file_sized old.asked mid.asked bytes sized.ok) rest.asked

pub rest_stopped : (size pages bytes : ℕ) (f : Following) (result : Result Next FollowFault) (fault : LiveFault)
    (old mid new : LiveRecord) → result ≡ Err (Live fault) → GivesDbSize (Ok bytes) old mid
    → ReadsRest size pages (Err fault) mid new → AnswersAtRest size f f result old new
rest_stopped size pages bytes f result fault old mid new is sized rest =
    rest_fault size f f result fault old new is (known_itself f) (λ none. none)
    (step_join old.database mid.database new.database sized.call.step rest.step)
    (file_then old.asked mid.asked new.asked (file_sized old.asked mid.asked bytes sized.ok) rest.asked)

module _ (size pages bytes : ℕ) (place : Place) (f : Following) (old mid new : LiveRecord)
    (sized : GivesDbSize (Ok bytes) old mid) (rest : ReadsRest size pages (Ok place) mid new)
    (is_size : IsPageSize size) (count : pages ≡ pages_in size bytes) where
  step : IsWriterStep old.database new.database
  step = rest_step size pages bytes place f old mid new sized rest

  asked : AsksOfTheFile old.asked new.asked
  asked = rest_asked size pages bytes place f old mid new sized rest

  awake : new.database.stopped ≡ false
  awake = rest.awake is_size (omega (arith, count)) refl

  module _ (first : Database) (finds : FindsRest first old.database size) where
    finds_mid : FindsRest first mid.database size
    finds_mid = rest_stays first old.database mid.database size sized.call.step (sized.call.awake refl) finds

    finds_new : FindsRest first new.database size
    finds_new = rest_stays first mid.database new.database size rest.step awake finds_mid

    same_file : new.database.file ≡ mid.database.file
    same_file = (keeps_hold mid.database new.database (0, finds_mid.held) rest.step awake).file refl

    pages_are : pages ≡ file_pages size new.database.file
    pages_are = count ∙ ap (pages_in size) sized.value ∙ ap (file_pages size) (sym same_file)

    place_is : place ≡ rest_place size new.database.file
    place_is = rest.value finds_mid.held ∙ ap (place_of_pages size pages) (sym same_file)
        ∙ ap (λ (n : ℕ). place_of_pages size n new.database.file) pages_are

  pub rest_same : (after : Following) → IsKnown f after → (f.found ≡ None → after.found ≡ None)
      → is_same_rest f.passed f.place place ≡ true → AnswersAtRest size f after (Ok Same) old new
  rest_same after known none same = record {
    step = step;
    asked = asked;
    awake = λ ok. awake;
    answers = λ first finds. inr (record {
      size = size;
      finds = finds_new first finds;
      follows = same_loses f.passed f.place (rest_place size new.database.file)
          (ap (is_same_rest f.passed f.place) (sym (place_is first finds)) ∙ same);
    });
    fits = λ first finds has fits woke. fits_same f after old.database new.database known (none has.found) step fits
        woke;
  }

  abbrev target : Target
  target = record { size = size; place = place; commit = pages }

  pub rest_found : (after : Following) → IsKnown f after → after.found ≡ Some target → after.fresh ≡ f.fresh
      → after.newer.offsets ≡ f.newer.offsets → (at : ℕ) → place ≡ Rest at
      → is_same_rest f.passed f.place place ≡ false → pages * size ≤ database_limit
      → AnswersAtRest size f after (Ok (next_of size place pages All)) old new
  rest_found after known found fresh newer at is other few = record {
    step = step;
    asked = asked;
    awake = λ ok. awake;
    answers = λ first finds. (
      inr (record {
        finds = finds_new first finds;
        describes = record { is_size = refl; place = place_is first finds; commit = pages_are first finds };
        lost = other_loses f.passed f.place (rest_place size new.database.file)
            (ap (is_same_rest f.passed f.place) (sym (place_is first finds)) ∙ other);
      }),
      refl,
      few,
    );
    fits = λ first finds has fits woke. record {
      gate = still_gated old.database new.database fits.gate step woke;
      calm = λ calm. fits_known f after new.database known (λ t has_found.
          subst (λ (x : Target). FitsTarget after x new.database x.place) (some_target (sym found ∙ has_found))
          (subst (λ (p : Place). FitsTarget after target new.database p) (sym is) (record {
            held = (finds_new first finds).held;
            place = place_is first finds;
            commit = pages_are first finds;
            fresh = fresh ∙ has.fresh;
            none = λ number. ap (λ (m : Offsets). get m number) newer ∙ has.empty number;
          })))
          ((fits_stays f old.database new.database step woke fits).calm calm);
    };
  }
    where
      some_target : {x y : Target} → ◌≡◌ {A = Option Target} (Some x) (Some y) → x ≡ y
      some_target e = cc

-- ---- what a follower always has

-- it is so after a place at rest was found
pub ready_found : (f after : Following) (kept : PageOffsets) (t : Target) → IsReady f
    → after ≡ record f { kept = kept; size = Some t.size; found = Some t } → kept.offsets ≡ f.kept.offsets
    → len f.newer.offsets ≤ kept.spare → IsPageSize t.size → is_in_log (Some t.place) ≡ false → IsReady after
ready_found f after kept t ready is same room is_size out = subst IsReady (sym is) (record {
  scan = ready.scan;
  pages = ready.pages;
  found = λ other has log. absurd (not_both (sym out ∙ ap (λ (x : Target). is_in_log (Some x.place)) (some_target has)
      ∙ log));
  sized = λ other has. subst (λ (x : Target). IsPageSize x.size) (some_target has) is_size;
  room = λ other has. room;
  kept = subst (λ (m : Offsets). AreWithinLimit 65536 m) (sym same) ready.kept;
  newer = ready.newer;
})
  where
    some_target : {x y : Target} → ◌≡◌ {A = Option Target} (Some x) (Some y) → x ≡ y
    some_target e = cc

    not_both : ◌≡◌ {A = Bool} false true → ⊥
    not_both e = cc
