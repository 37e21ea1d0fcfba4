-- A log that is read piece by piece while its writer moves.
use Rattle.std.proofs.Common.{◌≡◌, ℕ, ◌+◌, ◌-◌, ◌≤◌, Bool, true, false, List, [], ◌∷◌, ◌++◌, length, take, drop, Option}
use Rattle.std.proofs.Common.{Ok, Err, refl, sym, ap, subst, ◌∙◌, inl, inr, arith, length-append, append_assoc}
use Rattle.std.specs.Prelude.{◌⊎◌, Result}
use Rattle.std.proofs.lemmas.Bool.{cases_lt}
use Rattle.std.proofs.lemmas.List.{append-nil, length-take, drop-drop, drop-append-le, drop_all}
use Rattle.ls_base.specs.Fault.{Rose}
use Rattle.live_gate.specs.declared.fault.LiveFault.{LiveFault}
use Rattle.live_gate.specs.LiveRecord.{Database, LiveRecord, IsPrefix}
use Rattle.live_gate.specs.LiveCalls.{AgreeInFront, Answers, Reads, read_offset}
use Rattle.live_gate.specs.Coincidence.{IsReadByChecksums}
use Rattle.live_gate.specs.Step.{IsWriterStep, KeepsHold, HasStopped}
use Rattle.live_gate.proofs.StepLemmas.{step_itself, step_join}
use Rattle.snapshot_read.specs.Reading.{IsUnderGate, AsksOfTheLog}
use Rattle.live_gate.specs.LiveRecord.{Asked}
use Rattle.snapshot_read.proofs.ReadLemmas.{asks_nothing, asks_then}
use Rattle.wal_follow.specs.LogReading.{HasRead, Fills, ReadsOn}
use Rattle.wal_follow.specs.Gathering.{HasGathered}
use Rattle.wal_follow.specs.declared.gathering.Gathering.{Gathering}
use Rattle.wal_follow.specs.declared.fault.FollowFault.{FollowFault}

-- ---- lists that agree in front

agree_none : (ys : List ℕ) → AgreeInFront ys []
agree_none [] = refl
agree_none (y ∷ ys) = refl

agree_nothing : (ys : List ℕ) → AgreeInFront [] ys
agree_nothing [] = refl
agree_nothing (y ∷ ys) = refl

agree_cons : (x z : ℕ) (xs zs : List ℕ) → AgreeInFront (x ∷ xs) (z ∷ zs) → (z ≡ x) × AgreeInFront xs zs
agree_cons x z xs zs is = (cc, cc)

cons_agree : (x z : ℕ) (xs zs : List ℕ) → z ≡ x → AgreeInFront xs zs → AgreeInFront (x ∷ xs) (z ∷ zs)
cons_agree x z xs zs here there = ap (λ (n : ℕ). n ∷ take (length xs) zs) here ∙ ap (λ (l : List ℕ). x ∷ l) there

pub agree_append : (xs ys zs : List ℕ) → AgreeInFront xs zs → AgreeInFront ys (drop (length xs) zs)
    → AgreeInFront (xs ++ ys) zs
agree_append [] ys zs first second = second
agree_append (x ∷ xs) ys [] first second = refl
agree_append (x ∷ xs) ys (z ∷ zs) first second =
    let both = agree_cons x z xs zs first in
    cons_agree x z (xs ++ ys) zs both.0 (agree_append xs ys zs both.1 second)

agree_shorter : (ys zs more : List ℕ) → AgreeInFront ys (zs ++ more) → AgreeInFront ys zs
agree_shorter ys [] more is = agree_none ys
agree_shorter [] (z ∷ zs) more is = refl
agree_shorter (y ∷ ys) (z ∷ zs) more is =
    let both = agree_cons y z ys (zs ++ more) is in cons_agree y z ys zs both.0 (agree_shorter ys zs more both.1)

-- what agrees with a longer list agrees with its front
pub agree_front : (ys front whole : List ℕ) (at : ℕ) → IsPrefix front whole → AgreeInFront ys (drop at whole)
    → AgreeInFront ys (drop at front)
agree_front ys front whole at is agrees =
    elim (cases_lt (length front) at) [
      | inl past ↦ subst (λ (l : List ℕ). AgreeInFront ys l) (sym (drop_all at front (omega (arith, past))))
          (agree_none ys)
      | inr within ↦
          agree_shorter ys (drop at front) is.rest
          (subst (λ (l : List ℕ). AgreeInFront ys l) (ap (drop at) is.is
          ∙ drop-append-le at front is.rest within) agrees)
    ]

-- ---- the gate

still_awake : (a b : Database) → IsWriterStep a b → b.stopped ≡ false → a.stopped ≡ false
still_awake a b step awake = by a.stopped refl
  where
    by : (s : Bool) → a.stopped ≡ s → a.stopped ≡ false
    by true is = let over = step.stopped is in absurd cc
    by false is = is

pub keeps_hold : (old new : Database) (gate : IsUnderGate old) → IsWriterStep old new → new.stopped ≡ false
    → KeepsHold gate.0 old new
keeps_hold old new gate step awake = by (step.hold gate.0 gate.1)
  where
    by : KeepsHold gate.0 old new ⊎ HasStopped new → KeepsHold gate.0 old new
    by (inl keeps) = keeps
    by (inr over) = let e = over.stopped in absurd cc

pub still_gated : (old new : Database) → IsUnderGate old → IsWriterStep old new → new.stopped ≡ false → IsUnderGate new
still_gated old new gate step awake = (gate.0, (keeps_hold old new gate step awake).held)

-- ---- what was read

pub not_rose : (before now : ℕ) → Rose before now → now ≡ 0 → ⊥
not_rose before now rose none = omega (arith, rose.least, none)

pub asks_itself : (r : LiveRecord) → AsksOfTheLog r.asked r.asked
asks_itself r = record { head = refl; db_size = refl; wal_size = refl; passes_asked = refl; passes_done = refl }

pub read_nothing : (r : LiveRecord) → HasRead [] r r
read_nothing r = record {
  step = step_itself r.database;
  asked = asks_itself r;
  aimed = refl;
  answered = sym (append-nil r.asked.answered);
  taken = omega arith;
  agrees = λ gate awake. agree_nothing (drop (read_offset r) r.database.committed);
  chance = λ none is. is;
}

module _ (xs got : List ℕ) (old mid new : LiveRecord) (before : HasRead xs old mid)
    (step : IsWriterStep mid.database new.database) (a : Answers got mid new) where
  offset_is : read_offset mid ≡ read_offset old + length xs
  offset_is = omega (arith, before.aimed, ap length before.answered, length-append old.asked.answered xs)

  joined : IsWriterStep old.database new.database
  joined = step_join old.database mid.database new.database before.step step

  pub read_more : HasRead (xs ++ got) old new
  read_more = record {
    step = joined;
    asked = record {
      head = ap (λ (q : _). q.head) a.asked ∙ before.asked.head;
      db_size = ap (λ (q : _). q.db_size) a.asked ∙ before.asked.db_size;
      wal_size = ap (λ (q : _). q.wal_size) a.asked ∙ before.asked.wal_size;
      passes_asked = ap (λ (q : _). q.passes_asked) a.asked ∙ before.asked.passes_asked;
      passes_done = ap (λ (q : _). q.passes_done) a.asked ∙ before.asked.passes_done;
    };
    aimed = ap (λ (q : _). q.aimed) a.asked ∙ before.aimed;
    answered =
        ap (λ (q : _). q.answered) a.asked ∙ ap (λ (l : List ℕ). l ++ got) before.answered
        ∙ append_assoc old.asked.answered xs got;
    taken = omega (arith, ap (λ (q : _). q.taken) a.asked, before.taken, length-append xs got);
    agrees = λ gate awake.
        let keeps = keeps_hold old.database new.database gate joined awake in
        let there : AgreeInFront got (drop (read_offset old + length xs) old.database.committed) =
        agree_front got old.database.committed new.database.committed (read_offset old + length xs) keeps.committed
        (subst (λ (n : ℕ). AgreeInFront got (drop n new.database.committed)) offset_is a.agrees) in
        agree_append xs got (drop (read_offset old) old.database.committed)
        (before.agrees gate (still_awake mid.database new.database step awake))
        (subst (λ (l : List ℕ). AgreeInFront got l) (ap (λ (n : ℕ). drop n old.database.committed) (omega arith)
        ∙ sym (drop-drop (length xs) (read_offset old) old.database.committed)) there);
    chance = λ none is. checked none a.chance;
  }
    where
      checked : new.database.chances ≡ 0 → IsReadByChecksums new ⊎ Rose mid.database.chances new.database.chances
          → IsReadByChecksums new
      checked none (inl is) = is
      checked none (inr rose) = absurd (not_rose mid.database.chances new.database.chances rose none)

  -- an answer of no byte means that all that was committed at first was read
  pub all_read : new.database.stopped ≡ false → length got ≡ 0 → IsUnderGate old.database
      → length old.database.committed ≤ read_offset old + length xs
  all_read awake none gate =
      let keeps = keeps_hold old.database new.database gate joined awake in
      elim (cases_lt (read_offset mid) (length new.database.committed)) [
        | inl inside ↦ absurd (omega (arith, a.some inside, none))
        | inr past ↦
            omega (
              arith,
              past,
              offset_is,
              ap length keeps.committed.is,
              length-append old.database.committed
                  keeps.committed.rest,
            )
      ]

-- ---- a buffer that is filled

module _ (xs part : List ℕ) (count : ℕ) (old mid new : LiveRecord) (before : HasRead xs old mid) (reads : Reads
    (Ok count) part mid new) where
  pub filled_more : HasRead (xs ++ take count part) old new
  filled_more = read_more xs (take count part) old mid new before reads.step reads.ok

  pub awake_now : new.database.stopped ≡ false
  awake_now = reads.awake refl

pub filled_failed : (r : Result ℕ LiveFault) (fault : LiveFault) (xs into part : List ℕ) (old mid new : LiveRecord)
    → r ≡ Err fault → length xs ≤ length into → HasRead xs old mid → Reads (Err fault) part mid new
    → Fills r into old new
filled_failed r fault xs into part old mid new is few before reads =
    let asked = reads.err.0 in
    subst (λ (q : Result ℕ LiveFault). Fills q into old new) (sym is) (record {
      step = step_join old.database mid.database new.database before.step reads.step;
      awake = tt;
      asked = asks_then old.asked mid.asked new.asked before.asked (asks_nothing mid.asked new.asked asked);
      taken = omega (arith, ap (λ (q : Asked). q.taken) asked, before.taken, few);
      read = tt;
    })

pub filled_ended : (filled : ℕ) (xs front into part : List ℕ) (old mid new : LiveRecord) → HasRead xs old mid
    → Reads (Ok 0) part mid new → front ≡ xs → take filled into ≡ front → length xs ≤ length into
    → Fills (Ok filled) into old new
filled_ended filled xs front into part old mid new before reads same is few =
    let more = filled_more xs part 0 old mid new before reads in
    let read : HasRead (take filled into) old new = subst (λ (l : List ℕ). HasRead l old new) (append-nil xs
    ∙ sym same ∙ sym is) more in
    let awake = awake_now xs part 0 old mid new before reads in
    record {
      step = more.step;
      awake = λ some. awake;
      asked = more.asked;
      taken = omega (arith, more.taken, ap length (append-nil xs), few);
      read = (
        read,
        record {
          most = omega (arith, ap length (is ∙ same), few);
          least = λ gate. inr (omega (
            arith,
            ap length (is
                ∙ same),
            all_read xs (take 0 part) old mid new before reads.step reads.ok awake refl gate,
          ));
        },
      );
    }

pub filled_whole : (filled : ℕ) (into : List ℕ) (old new : LiveRecord) → HasRead (take filled into) old new
    → (1 ≤ filled → new.database.stopped ≡ false) → filled ≡ length into → Fills (Ok filled) into old new
filled_whole filled into old new read awake whole =
    let all : length (take filled into) ≡ length into = omega (arith, length-take filled into, whole) in
    record {
      step = read.step;
      awake = λ some. awake (omega (arith, some, whole));
      asked = read.asked;
      taken = omega (arith, read.taken, all);
      read = (read, record { most = omega (arith, all); least = λ gate. inl all });
    }

-- ---- a log that is read and gathered

-- so many bytes are left of those that were asked for, and the others were gathered
pub record IsReadOn (all left : ℕ) (before after : Gathering) (old new : LiveRecord) : Type 0 where
  pub bytes : List ℕ
  pub read : HasRead bytes old new
  pub count : length bytes + left ≡ all
  pub awake : old.database.stopped ≡ false → new.database.stopped ≡ false
  pub gathers : (base : ℕ) (initial : Option ℕ) (log : List ℕ) → HasGathered base initial before log
      → HasGathered base initial after (log ++ bytes)

pub read_begins : (left : ℕ) (g : Gathering) (r : LiveRecord) → IsReadOn left left g g r r
read_begins left g r = record {
  bytes = [];
  read = read_nothing r;
  count = omega arith;
  awake = λ is. is;
  gathers = λ base initial log was. subst (λ (l : List ℕ). HasGathered base initial g l) (sym (append-nil log)) was;
}

-- a piece more
pub read_goes_on : (all left count : ℕ) (part : List ℕ) (before mid after : Gathering) (old now new : LiveRecord)
    → IsReadOn all left before mid old now → Reads (Ok count) part now new
    → count ≤ length part → count ≤ left
    → ((base : ℕ) (initial : Option ℕ) (log : List ℕ) → HasGathered base initial mid log
    → HasGathered base initial after (log ++ take count part))
    → IsReadOn all (left - count) before after old new
read_goes_on all left count part before mid after old now new so_far reads few within gathers = record {
  bytes = so_far.bytes ++ take count part;
  read = filled_more so_far.bytes part count old now new so_far.read reads;
  count = omega (
    arith,
    length-append so_far.bytes (take count part),
    length-take count part,
    few,
    within,
    so_far.count,
  );
  awake = λ was. awake_now so_far.bytes part count old now new so_far.read reads;
  gathers = λ base initial log was.
      subst (λ (l : List ℕ). HasGathered base initial after l) (append_assoc log so_far.bytes (take count part))
      (gathers base initial (log ++ so_far.bytes) (so_far.gathers base initial log was));
}

pub read_stops : (all left : ℕ) (part : List ℕ) (before after : Gathering) (old now new : LiveRecord)
    → IsReadOn all left before after old now → Reads (Ok 0) part now new → ReadsOn all before after (Ok tt) old new
read_stops all left part before after old now new so_far reads =
    let more = filled_more so_far.bytes part 0 old now new so_far.read reads in
    let read : HasRead so_far.bytes old new = subst (λ (l : List ℕ). HasRead l old new)
    (append-nil so_far.bytes) more in
    let awake = awake_now so_far.bytes part 0 old now new so_far.read reads in
    record {
      step = read.step;
      asked = read.asked;
      taken = omega (arith, read.taken, so_far.count);
      awake = λ was ok. awake;
      read = (
        so_far.bytes,
        read,
        record {
          most = omega (arith, so_far.count);
          least = λ gate. inr (all_read so_far.bytes (take 0 part) old now new so_far.read reads.step reads.ok awake
              refl gate);
        },
        so_far.gathers,
      );
    }

pub read_all : (all : ℕ) (before after : Gathering) (old new : LiveRecord) → IsReadOn all 0 before after old new
    → ReadsOn all before after (Ok tt) old new
read_all all before after old new so_far = record {
  step = so_far.read.step;
  asked = so_far.read.asked;
  taken = omega (arith, so_far.read.taken, so_far.count);
  awake = λ was ok. so_far.awake was;
  read = (
    so_far.bytes,
    so_far.read,
    record {
      most = omega (arith, so_far.count);
      least = λ gate. inl (omega
          (arith, so_far.count));
    },
    so_far.gathers,
  );
}

pub read_on_failed : (all left : ℕ) (r : Result (Unit {0}) FollowFault) (fault : FollowFault) (live : LiveFault)
    (part : List ℕ) (before mid after : Gathering) (old now new : LiveRecord) → r ≡ Err fault
    → IsReadOn all left before mid old now
    → Reads (Err live) part now new → ReadsOn all before after r old new
read_on_failed all left r fault live part before mid after old now new is so_far reads =
    let asked = reads.err.0 in
    subst (λ (q : Result (Unit {0}) FollowFault). ReadsOn all before after q old new) (sym is) (record {
      step = step_join old.database now.database new.database so_far.read.step reads.step;
      asked = asks_then old.asked now.asked new.asked so_far.read.asked (asks_nothing now.asked new.asked asked);
      taken = omega (arith, ap (λ (q : Asked). q.taken) asked, so_far.read.taken, so_far.count);
      awake = λ some ok. absurd cc;
      read = tt;
    })

pub read_starved : (all left count : ℕ) (r : Result (Unit {0}) FollowFault) (fault : FollowFault) (part : List ℕ)
    (before mid after : Gathering) (old now new : LiveRecord) → r ≡ Err fault → IsReadOn all left before mid old now
    → Reads (Ok count) part now new → count ≤ length part → count ≤ left → ReadsOn all before after r old new
read_starved all left count r fault part before mid after old now new is so_far reads few within =
    let more = filled_more so_far.bytes part count old now new so_far.read reads in
    subst (λ (q : Result (Unit {0}) FollowFault). ReadsOn all before after q old new) (sym is) (record {
      step = more.step;
      asked = more.asked;
      taken = omega (
        arith,
        more.taken,
        length-append so_far.bytes
            (take count part),
        length-take count part,
        few,
        within,
        so_far.count,
      );
      awake = λ some ok. absurd cc;
      read = tt;
    })
