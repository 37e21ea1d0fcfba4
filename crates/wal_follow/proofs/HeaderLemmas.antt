-- The header of a log that is read while its writer moves.
use Rattle.std.proofs.Common.{◌≡◌, ℕ, ◌+◌, ◌<◌, ◌≤◌, false, List, [], ◌++◌, length, take, drop, Option, Some, None}
use Rattle.std.proofs.Common.{Result, Ok, Err, refl, sym, ap, subst, ◌∙◌, inl, inr, arith, length-append}
use Rattle.std.specs.Prelude.{◌⊎◌, IfOk}
use Rattle.std.proofs.lemmas.List.{append-nil, take_all, take_at, take-append-drop, length-take}
use Rattle.wal_frames.specs.declared.header.WalHeader.{WalHeader}
use Rattle.wal_frames.specs.declared.fault.WalHeaderFault.{WalHeaderFault}
use Rattle.wal_frames.specs.WalFormat.{read_header}
use Rattle.wal_frames.proofs.AcceptedLemmas.{accepts, read_header-take}
use Rattle.live_gate.specs.declared.fault.LiveFault.{LiveFault}
use Rattle.live_gate.specs.LiveRecord.{Database, Asked, LiveRecord, IsPrefix}
use Rattle.live_gate.specs.LiveCalls.{AgreeInFront, Aims, read_offset}
use Rattle.live_gate.specs.Coincidence.{IsReadByChecksums, read_bytes}
use Rattle.live_gate.specs.Step.{IsWriterStep}
use Rattle.live_gate.proofs.StepLemmas.{step_join, prefix_join}
use Rattle.snapshot_read.specs.Reading.{AsksOfTheLog}
use Rattle.snapshot_read.proofs.ReadLemmas.{asks_nothing, asks_then}
use Rattle.wal_follow.specs.declared.fault.FollowFault.{FollowFault}
use Rattle.wal_follow.specs.LogGathering.{WasCommitted, ReadsHead, IsHead, AsksHead}
use Rattle.wal_follow.specs.LogReading.{Fills}
use Rattle.wal_follow.proofs.ReadLemmas.{agree_front, keeps_hold, still_gated}

-- ---- lists that agree in front

-- what agrees with a shorter list begins with it
pub agrees_prefix : (xs ys : List ℕ) → AgreeInFront xs ys → length ys ≤ length xs → IsPrefix ys xs
agrees_prefix xs ys agrees few = record {
  rest = drop (length ys) xs;
  is = sym (take-append-drop (length ys) xs)
      ∙ ap (λ (l : List ℕ). l ++ drop (length ys) xs) (sym agrees ∙ take_all (length xs) ys few);
}

-- the front of a log agrees with it
pub front_agrees : (n : ℕ) (log : List ℕ) → AgreeInFront (take n log) log
front_agrees n log =
    ap (take (length (take n log))) (sym (take-append-drop n log))
    ∙ take_at (take n log) (drop n log) (length (take n log)) refl
    ∙ sym (take_all (length log) (take n log) (omega (arith, length-take n log)))

-- ---- a stretch of the log is aimed at

pub aim_asks : (at : ℕ) (old new : LiveRecord) → Aims at (Ok tt) old new → AsksOfTheLog old.asked new.asked
aim_asks at old new aims = record {
  head = ap (λ (a : Asked). a.head) aims.ok;
  db_size = ap (λ (a : Asked). a.db_size) aims.ok;
  wal_size = ap (λ (a : Asked). a.wal_size) aims.ok;
  passes_asked = ap (λ (a : Asked). a.passes_asked) aims.ok;
  passes_done = ap (λ (a : Asked). a.passes_done) aims.ok;
}

pub aim_taken : (at : ℕ) (old new : LiveRecord) → Aims at (Ok tt) old new → new.asked.taken ≡ old.asked.taken
aim_taken at old new aims = ap (λ (a : Asked). a.taken) aims.ok

-- where nothing was read since, what was read is committed
pub aimed_checked : (r : LiveRecord) → r.asked.answered ≡ [] → IsReadByChecksums r
aimed_checked r none within mark last =
    let c = r.database.committed in
    let at = r.asked.aimed in
    let all : take mark.end (read_bytes r) ≡ take mark.end (take at c) = ap (λ (l : List ℕ). take mark.end
    (take at c ++ l)) none ∙ ap (take mark.end) (append-nil (take at c)) in
    prefix_join (take mark.end (read_bytes r)) (take at c) c
    (record {
      rest = drop mark.end (take at c);
      is = sym (take-append-drop mark.end (take at c))
          ∙ ap (λ (l : List ℕ). l ++ drop mark.end (take at c)) (sym all);
    }) (record { rest = drop at c; is = sym (take-append-drop at c) })

-- what was committed at first still is after a call
pub still_committed : (bytes : ℕ) (first old new : Database) → WasCommitted bytes first old → IsWriterStep old new
    → new.stopped ≡ false → WasCommitted bytes first new
still_committed bytes first old new was step awake = record {
  gate = still_gated old new was.gate step awake;
  grown = prefix_join first.committed old.committed new.committed was.grown
      (keeps_hold old new was.gate step awake).committed;
  long = was.long;
}

-- ---- the header

module _ (bytes : ℕ) (into : List ℕ) (n : ℕ) (old mid new : LiveRecord) (aims : Aims 0 (Ok tt) old mid)
    (fills : Fills (Ok n) into mid new) (room : length into ≡ 32) where
  abbrev got : List ℕ
  got = take n into

  woke : new.database.stopped ≡ false
  woke = fills.awake (omega (arith, room))

  answered : new.asked.answered ≡ got
  answered = fills.read.0.answered ∙ ap (λ (a : Asked). a.answered ++ got) aims.ok

  aimed : new.asked.aimed ≡ 0
  aimed = fills.read.0.aimed ∙ ap (λ (a : Asked). a.aimed) aims.ok

  offset : read_offset mid ≡ 0
  offset = omega (arith, ap (λ (a : Asked). a.aimed) aims.ok, ap (λ (a : Asked). length a.answered) aims.ok)

  chance : new.database.chances ≡ 0 → IsReadByChecksums new
  chance none = fills.read.0.chance none (aimed_checked mid (ap (λ (a : Asked). a.answered) aims.ok))

  module _ (first : Database) (was : WasCommitted bytes first old.database) where
    middle : WasCommitted bytes first mid.database
    middle = still_committed bytes first old.database mid.database was aims.call.step (aims.call.awake refl)

    agrees : AgreeInFront got first.committed
    agrees = agree_front got first.committed mid.database.committed 0 middle.grown
        (subst (λ (k : ℕ). AgreeInFront got (drop k mid.database.committed)) offset
        (fills.read.0.agrees middle.gate woke))

    -- one that was read
    head_read : (h : WalHeader) → read_header got ≡ Ok h → ReadsHead h first new
    head_read h is = record {
      aimed = aimed;
      long = omega (arith, ap length answered, (accepts got h is).long, fills.read.1.most, room);
      accepted = ap read_header answered ∙ is;
      agrees = subst (λ (l : List ℕ). AgreeInFront l first.committed) (sym answered) agrees;
      chance = chance;
    }

    -- one that was there
    head_there : (h : WalHeader) → read_header first.committed ≡ Ok h → read_header got ≡ Ok h
    head_there h is =
        let long = (accepts first.committed h is).long in
        let grown : length mid.database.committed ≡ length first.committed + length middle.grown.rest = ap length
        middle.grown.is ∙ length-append first.committed middle.grown.rest in
        let count : length got ≡ 32 = whole (fills.read.1.least middle.gate) fills.read.1.most (omega
        (arith, long, grown)) in
        let same : take 32 first.committed ≡ got =
        ap (λ (k : ℕ). take k first.committed) (sym count) ∙ agrees
        ∙ take_all (length first.committed) got (omega (arith, count, long)) in
        ap read_header (sym same) ∙ read_header-take 32 first.committed (omega arith) long ∙ is
      where
        whole : (length got ≡ length into) ⊎ (length mid.database.committed ≤ read_offset mid + length got)
            → length got ≤ length into → 32 ≤ length mid.database.committed → length got ≡ 32
        whole (inl all) most long = omega (arith, all, room)
        whole (inr enough) most long = omega (arith, enough, most, long, offset, room)

    head_refused : (fault : WalHeaderFault) → read_header got ≡ Err fault → IsHead None first new
    head_refused fault is h there = both (sym is ∙ head_there h there)
      where
        both : ◌≡◌ {A = Result WalHeader WalHeaderFault} (Err fault) (Ok h) → ⊥
        both e = cc

  asks : (result : Result (Option WalHeader) FollowFault)
      → ((first : Database) → WasCommitted bytes first old.database → IfOk result (λ head. IsHead head first new))
      → AsksHead bytes result old new
  asks result head = record {
    step = step_join old.database mid.database new.database aims.call.step fills.step;
    asked = asks_then old.asked mid.asked new.asked (aim_asks 0 old mid aims) fills.asked;
    taken = omega (arith, fills.taken, room, aim_taken 0 old mid aims);
    awake = λ ok. woke;
    head = head;
  }

  pub head_accepted : (h : WalHeader) → read_header got ≡ Ok h → AsksHead bytes (Ok (Some h)) old new
  head_accepted h is = asks (Ok (Some h)) (λ first was. head_read first was h is)

  pub head_none : (fault : WalHeaderFault) → read_header got ≡ Err fault → AsksHead bytes (Ok None) old new
  head_none fault is = asks (Ok None) (λ first was. head_refused first was fault is)

-- a log that is too short has none
pub head_short : (bytes : ℕ) (old new : LiveRecord) → Aims 0 (Ok tt) old new → bytes < 32
    → AsksHead bytes (Ok None) old new
head_short bytes old new aims few = record {
  step = aims.call.step;
  asked = aim_asks 0 old new aims;
  taken = omega (arith, aim_taken 0 old new aims);
  awake = λ ok. aims.call.awake refl;
  head = λ first was h is. absurd (omega (arith, few, was.long, (accepts first.committed h is).long));
}

pub head_unaimed : (bytes : ℕ) (result : Result (Option WalHeader) FollowFault) (fault : FollowFault)
    (live : LiveFault) (old new : LiveRecord) → result ≡ Err fault → Aims 0 (Err live) old new
    → AsksHead bytes result old new
head_unaimed bytes result fault live old new is aims =
    subst (λ (r : Result (Option WalHeader) FollowFault). AsksHead bytes r old new) (sym is) (record {
      step = aims.call.step;
      asked = asks_nothing old.asked new.asked aims.err;
      taken = omega (arith, ap (λ (a : Asked). a.taken) aims.err);
      awake = λ ok. absurd cc;
      head = λ first was. tt;
    })

pub head_unread : (bytes : ℕ) (result : Result (Option WalHeader) FollowFault) (fault : FollowFault)
    (live : LiveFault) (into : List ℕ) (old mid new : LiveRecord) → result ≡ Err fault → Aims 0 (Ok tt) old mid
    → Fills (Err live) into mid new → length into ≡ 32 → AsksHead bytes result old new
head_unread bytes result fault live into old mid new is aims fills room =
    subst (λ (r : Result (Option WalHeader) FollowFault). AsksHead bytes r old new) (sym is) (record {
      step = step_join old.database mid.database new.database aims.call.step fills.step;
      asked = asks_then old.asked mid.asked new.asked (aim_asks 0 old mid aims) fills.asked;
      taken = omega (arith, fills.taken, room, aim_taken 0 old mid aims);
      awake = λ ok. absurd cc;
      head = λ first was. tt;
    })
