-- Reading bytes of a log while its writer moves.
use Rattle.std.proofs.Common.{◌≡◌, ℕ, ◌+◌, ◌≤◌, ◌<◌, List, [], ◌++◌, length, take, drop, false, Result, Ok, Err, refl}
use Rattle.std.proofs.Common.{sym, ap, subst, ◌∙◌, arith, take-add}
use Rattle.std.specs.Prelude.{◌==◌}
use Rattle.std.proofs.lemmas.List.{length-append, length-take-le, length-drop, drop-drop, take-append-le}
use Rattle.std.proofs.lemmas.List.{drop-append-le, take_all, take-take, append-nil}
use Rattle.std.proofs.Math.Seq.{take-append-add}
use Rattle.live_gate.specs.declared.fault.LiveFault.{LiveFault}
use Rattle.live_gate.specs.LiveRecord.{Asked, LiveRecord, IsPrefix}
use Rattle.live_gate.specs.LiveCalls.{Aims, Reads, Answers, AgreeInFront, read_offset}
use Rattle.live_gate.specs.Step.{IsWriterStep}
use Rattle.live_gate.proofs.StepLemmas.{step_join}
use Rattle.snapshot_read.specs.declared.fault.PageFault.{PageFault}
use Rattle.snapshot_read.specs.declared.fault.PageFault.TheVariants.{Live, Short}
use Rattle.snapshot_read.specs.Offsets.{log_page}
use Rattle.snapshot_read.specs.Reading.{AsksOfTheLog, IsUnderGate, IsCutShort, ReadsLog}
use Rattle.snapshot_read.proofs.TellLemmas.{grown}

-- ---- bytes

-- the front of a buffer after more was written behind it
pub front_more : (filled count : ℕ) (into more after : List ℕ) → filled ≤ length into → count ≤ length more
    → take (filled + length more) after ≡ take filled into ++ more
    → take (filled + count) after ≡ take filled into ++ take count more
front_more filled count into more after fits few whole =
    let front : length (take filled into) ≡ filled = length-take-le filled into fits in
    sym (take-take (filled + count) (filled + length more) after (omega (arith, few)))
    ∙ ap (take (filled + count)) whole
    ∙ ap (λ (n : ℕ). take (n + count) (take filled into ++ more)) (sym front)
    ∙ take-append-add (take filled into) more count

-- bytes that agree with a log, which begins with another, are the other's where they lie within it
from_front : (at : ℕ) (got log whole : List ℕ) → IsPrefix log whole → AgreeInFront got (drop at whole)
    → at + length got ≤ length log → got ≡ log_page (length got) log at
from_front at got log whole begins agrees fits =
    let long : length whole ≡ length log + length begins.rest = ap (λ (xs : List ℕ). length xs) begins.is
    ∙ length-append log begins.rest in
    let all : length got ≤ length (drop at whole) = omega (arith, length-drop at whole, long, fits) in
    let within : length got ≤ length (drop at log) = omega (arith, length-drop at log, fits) in
    sym (take_all (length (drop at whole)) got all) ∙ sym agrees
    ∙ ap (λ (xs : List ℕ). take (length got) (drop at xs)) begins.is
    ∙ ap (take (length got)) (drop-append-le at log begins.rest (omega (arith, fits)))
    ∙ take-append-le (length got) (drop at log) begins.rest within

-- two stretches of a log, one behind the other
stretches : (at : ℕ) (a b log : List ℕ) → a ≡ log_page (length a) log at → b ≡ log_page (length b) log (at + length a)
    → a ++ b ≡ log_page (length (a ++ b)) log at
stretches at a b log first second =
    ap (λ (xs : List ℕ). a ++ xs) second ∙ ap (λ (xs : List ℕ). xs ++ log_page (length b) log (at + length a)) first
    ∙ ap (λ (xs : List ℕ). log_page (length a) log at ++ take (length b) xs) (sym (drop-drop (length a) at log))
    ∙ sym (take-add (length a) (length b) (drop at log)) ∙ ap (λ (n : ℕ). log_page n log at) (sym (length-append a b))

-- ---- what was asked

pub asks_nothing : (old new : Asked) → new ≡ old → AsksOfTheLog old new
asks_nothing old new same = subst (λ (a : Asked). AsksOfTheLog old a) (sym same)
    (record { head = refl; db_size = refl; wal_size = refl; passes_asked = refl; passes_done = refl })

pub asks_then : (a b c : Asked) → AsksOfTheLog a b → AsksOfTheLog b c → AsksOfTheLog a c
asks_then a b c first second = record {
  head = second.head ∙ first.head;
  db_size = second.db_size ∙ first.db_size;
  wal_size = second.wal_size ∙ first.wal_size;
  passes_asked = second.passes_asked ∙ first.passes_asked;
  passes_done = second.passes_done ∙ first.passes_done;
}

asks_answer : (old new : LiveRecord) (got : List ℕ) → Answers got old new → AsksOfTheLog old.asked new.asked
asks_answer old new got answers = record {
  head = ap (λ (a : Asked). a.head) answers.asked;
  db_size = ap (λ (a : Asked). a.db_size) answers.asked;
  wal_size = ap (λ (a : Asked). a.wal_size) answers.asked;
  passes_asked = ap (λ (a : Asked). a.passes_asked) answers.asked;
  passes_done = ap (λ (a : Asked). a.passes_done) answers.asked;
}

-- ---- in the middle of a reading

-- these bytes were read, of so many from an offset on
pub record IsReading (at size : ℕ) (got : List ℕ) (start now : LiveRecord) : Type 0 where
  pub step : IsWriterStep start.database now.database
  pub awake : now.database.stopped ≡ false
  pub asked : AsksOfTheLog start.asked now.asked
  pub aimed : now.asked.aimed ≡ at
  pub answered : now.asked.answered ≡ got
  pub value : IsUnderGate start.database → at + size ≤ length start.database.committed
      → got ≡ log_page (length got) start.database.committed at

pub begin : (at size : ℕ) (start now : LiveRecord) → Aims at (Ok tt) start now → IsReading at size [] start now
begin at size start now aims = record {
  step = aims.call.step;
  awake = aims.call.awake refl;
  asked = record {
    head = ap (λ (a : Asked). a.head) aims.ok;
    db_size = ap (λ (a : Asked). a.db_size) aims.ok;
    wal_size = ap (λ (a : Asked). a.wal_size) aims.ok;
    passes_asked = ap (λ (a : Asked). a.passes_asked) aims.ok;
    passes_done = ap (λ (a : Asked). a.passes_done) aims.ok;
  };
  aimed = ap (λ (a : Asked). a.aimed) aims.ok;
  answered = ap (λ (a : Asked). a.answered) aims.ok;
  value = λ gate fits. refl;
}

module _ (at size : ℕ) (got : List ℕ) (start now next : LiveRecord) (so_far : IsReading at size got start now) where
  offset : read_offset now ≡ at + length got
  offset = ap (λ (n : ℕ). n + length now.asked.answered) so_far.aimed
      ∙ ap (λ (xs : List ℕ). at + length xs) so_far.answered

  module _ (n : ℕ) (into : List ℕ) (reads : Reads (Ok n) into now next) where
    answers : Answers (take n into) now next
    answers = reads.ok

    joined : IsWriterStep start.database next.database
    joined = step_join start.database now.database next.database so_far.step reads.step

    all_answered : next.asked.answered ≡ got ++ take n into
    all_answered = ap (λ (a : Asked). a.answered) answers.asked
        ∙ ap (λ (xs : List ℕ). xs ++ take n into) so_far.answered

    begins : IsUnderGate start.database → IsPrefix start.database.committed next.database.committed
    begins gate = grown start.database next.database joined (reads.awake refl) gate

    pub more : length got + length (take n into) ≤ size → IsReading at size (got ++ take n into) start next
    more within = record {
      step = joined;
      awake = reads.awake refl;
      asked = asks_then start.asked now.asked next.asked so_far.asked (asks_answer now next (take n into) answers);
      aimed = ap (λ (a : Asked). a.aimed) answers.asked ∙ so_far.aimed;
      answered = all_answered;
      value = λ gate fits.
          let agrees = subst (λ (k : ℕ). AgreeInFront (take n into)
          (drop k next.database.committed)) offset answers.agrees in
          let new = from_front (at + length got) (take n into) start.database.committed next.database.committed
          (begins gate) agrees (omega (arith, within, fits)) in
          stretches at got (take n into) start.database.committed (so_far.value gate fits) new;
    }

    -- no byte came though some were wanted
    module _ (none : n ≡ 0) (part : length got < size) where
      empty : take n into ≡ []
      empty = ap (λ (k : ℕ). take k into) none

      pub cut : IsCutShort size at (at + length got) next
      cut =
          let same : next.asked.answered ≡ got = all_answered ∙ ap (λ (xs : List ℕ). got ++ xs) empty
          ∙ append-nil got in
          let aimed : next.asked.aimed ≡ at = ap (λ (a : Asked). a.aimed) answers.asked ∙ so_far.aimed in
          record {
            aimed = aimed;
            none = ap (λ (a : Asked). a.gave_none) answers.asked ∙ ap (λ (xs : List ℕ). length xs == 0) empty;
            part = omega (arith, part, ap (λ (xs : List ℕ). length xs) same);
            stands = sym (ap (λ (k : ℕ). k + length next.asked.answered) aimed
                ∙ ap (λ (xs : List ℕ). at + length xs) same);
          }

      pub not_within : IsUnderGate start.database → at + size ≤ length start.database.committed → ⊥
      not_within gate fits =
          let b = begins gate in
          let long : length next.database.committed ≡ length start.database.committed + length b.rest = ap
          (λ (xs : List ℕ). length xs) b.is ∙ length-append start.database.committed b.rest in
          let some = answers.some (omega (arith, offset, part, fits, long)) in
          omega (arith, some, ap (λ (xs : List ℕ). length xs) empty)

-- ---- the answers

-- a fault of the live database
pub failed : (at : ℕ) (r : Result (Unit {0}) PageFault) (fault : LiveFault) (into : List ℕ) (start now : LiveRecord)
    → r ≡ Err (Live fault)
    → IsWriterStep start.database now.database → AsksOfTheLog start.asked now.asked → ReadsLog at r into start now
failed at r fault into start now is step asked =
    subst (λ (answer : Result (Unit {0}) PageFault). ReadsLog at answer into start now) (sym is) (record {
      step = step;
      awake = λ ok. absurd cc;
      asked = asked;
      answered = tt;
      short = λ missing other. absurd cc;
      value = λ gate fits. tt;
      whole = λ gate fits missing other. absurd cc;
    })

pub aim_failed : (at : ℕ) (r : Result (Unit {0}) PageFault) (fault : LiveFault) (into : List ℕ) (start now : LiveRecord)
    → r ≡ Err (Live fault) → Aims at (Err fault) start now → ReadsLog at r into start now
aim_failed at r fault into start now is aims = failed at r fault into start now is aims.call.step
    (asks_nothing start.asked now.asked aims.err)

pub read_failed : (at size : ℕ) (got : List ℕ) (r : Result (Unit {0}) PageFault) (fault : LiveFault)
    (into part : List ℕ) (start now next : LiveRecord) → r ≡ Err (Live fault)
    → IsReading at size got start now → Reads (Err fault) part now next → ReadsLog at r into start next
read_failed at size got r fault into part start now next is so_far reads =
    failed at r fault into start next is (step_join start.database now.database next.database so_far.step reads.step)
    (asks_then start.asked now.asked next.asked so_far.asked (asks_nothing now.asked next.asked reads.err.0))

short_is : (a b : ℕ) → ◌≡◌ {A = Result (Unit {0}) PageFault} (Err (Short a)) (Err (Short b)) → a ≡ b
short_is a b e = cc

-- the log ended
pub ended : (at size missing : ℕ) (got : List ℕ) (into part : List ℕ) (start now next : LiveRecord)
    → IsReading at size got start now → Reads (Ok 0) part now next
    → length into ≡ size → length got < size → missing ≡ at + length got
    → ReadsLog at (Err (Short missing)) into start next
ended at size missing got into part start now next so_far reads long few stands = record {
  step = step_join start.database now.database next.database so_far.step reads.step;
  awake = λ ok. absurd cc;
  asked = asks_then start.asked now.asked next.asked so_far.asked (asks_answer now next [] reads.ok);
  answered = tt;
  short = λ other is.
      let same : at + length got ≡ other = sym stands ∙ short_is missing other is in
      subst (λ (n : ℕ). IsCutShort n at other next) (sym long)
      (subst (λ (k : ℕ). IsCutShort size at k next) same
      (cut at size got start now next so_far 0 part reads refl few));
  value = λ gate fits. tt;
  whole = λ gate fits other is. not_within at size got start now next so_far 0 part reads refl few gate
      (omega (arith, fits, long));
}

-- all bytes came
pub filled_whole : (at size : ℕ) (got into : List ℕ) (start now : LiveRecord) → IsReading at size got start now
    → got ≡ into → length into ≡ size → ReadsLog at (Ok tt) into start now
filled_whole at size got into start now so_far same long = record {
  step = so_far.step;
  awake = λ ok. so_far.awake;
  asked = so_far.asked;
  answered = (so_far.aimed, so_far.answered ∙ same);
  short = λ missing other. absurd cc;
  value = λ gate fits. subst (λ (xs : List ℕ). xs ≡ log_page (length xs) start.database.committed at) same
      (so_far.value gate (omega (arith, fits, long)));
  whole = λ gate fits missing other. absurd cc;
}
