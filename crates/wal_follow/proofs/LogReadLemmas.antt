-- The frames of a log that are read and gathered while its writer moves.
use Rattle.std.proofs.Common.{◌≡◌, ℕ, ◌+◌, ◌-◌, ◌*◌, ◌≤◌, true, false, List, [], ◌++◌, length, take, drop, Option, Some}
use Rattle.std.proofs.Common.{None, Result, Ok, Err, refl, sym, ap, subst, ◌∙◌, inl, inr, arith, length-append}
use Rattle.std.specs.Prelude.{◌⊎◌, option_map}
use Rattle.std.proofs.lemmas.List.{length-take-le}
use Rattle.ls_base.specs.declared.mark.Mark.{Mark}
use Rattle.wal_frames.specs.declared.header.WalHeader.{WalHeader}
use Rattle.wal_frames.specs.WalFormat.{read_header}
use Rattle.wal_frames.specs.WalFrame.{frame_length}
use Rattle.wal_frames.specs.Marks.{IsMark, place_of, last_mark_of}
use Rattle.wal_frames.specs.View.{frames_up_to}
use Rattle.wal_frames.specs.Scanned.{Scanned, HasTaken, scanned_to}
use Rattle.wal_frames.proofs.LogLemmas.{cut_keeps, stays_mark, ends_within}
use Rattle.live_gate.specs.declared.fault.LiveFault.{LiveFault}
use Rattle.live_gate.specs.LiveRecord.{Database, Asked, LiveRecord, IsPrefix}
use Rattle.live_gate.specs.LiveCalls.{AgreeInFront, Aims, read_offset}
use Rattle.live_gate.specs.Coincidence.{read_bytes}
use Rattle.live_gate.specs.Step.{IsWriterStep}
use Rattle.live_gate.proofs.StepLemmas.{step_join}
use Rattle.snapshot_read.specs.Reading.{AsksOfTheLog}
use Rattle.snapshot_read.proofs.ReadLemmas.{asks_nothing, asks_then}
use Rattle.wal_follow.specs.declared.fault.FollowFault.{FollowFault}
use Rattle.wal_follow.specs.declared.following.Following.{Following}
use Rattle.wal_follow.specs.declared.gather.Gathered.{Gathered}
use Rattle.wal_follow.specs.declared.gathering.Gathering.{Gathering}
use Rattle.wal_follow.specs.AtMark.{sought, least_at_pass}
use Rattle.wal_follow.specs.Gathering.{HasGathered, Begins, KeepsBase}
use Rattle.wal_follow.specs.Gathers.{IsGathered}
use Rattle.wal_follow.specs.LogGathering.{WasCommitted, ReadsHead, GathersWhat, GathersLog, IsRecordedAt, GathersFrom}
use Rattle.wal_follow.specs.LogReading.{HasRead, IsEnough, ReadsOn}
use Rattle.wal_follow.proofs.FitsLemmas.{still_accepted, still_mark, same_front}
use Rattle.wal_follow.proofs.LogFoundLemmas.{IsOver, head_over, all_none, all_some, behind_some, behind_none, begun}
use Rattle.wal_follow.proofs.LogFoundLemmas.{begun_at, end_at}
use Rattle.wal_follow.proofs.HeaderLemmas.{agrees_prefix, front_agrees, aim_asks, aim_taken, aimed_checked}
use Rattle.wal_follow.proofs.HeaderLemmas.{still_committed}
use Rattle.wal_follow.proofs.ReadLemmas.{agree_append, agree_front, keeps_hold}

-- ---- from the header on

pub log_failed : (bytes : ℕ) (h : WalHeader) (f after : Following) (result : Result (Option Gathered) FollowFault)
    (fault : FollowFault) (old new : LiveRecord) → result ≡ Err fault → IsWriterStep old.database new.database
    → AsksOfTheLog old.asked new.asked → GathersLog bytes h f after result old new
log_failed bytes h f after result fault old new is step asked =
    subst (λ (r : Result (Option Gathered) FollowFault). GathersLog bytes h f after r old new) (sym is) (record {
      step = step;
      asked = asked;
      awake = λ was ok. absurd cc;
      found = λ first was head awake none. tt;
    })

module _ (bytes : ℕ) (h : WalHeader) (first : Database) (got : List ℕ) (old new : LiveRecord)
    (was : WasCommitted bytes first old.database) (head : ReadsHead h first old) (read : HasRead got old new)
    (enough : IsEnough (bytes - 32) got old) (woke : new.database.stopped ≡ false) where
  abbrev log : List ℕ
  log = old.asked.answered ++ got

  offset : read_offset old ≡ length old.asked.answered
  offset = omega (arith, head.aimed)

  there : AgreeInFront got (drop (length old.asked.answered) first.committed)
  there = agree_front got first.committed old.database.committed (length old.asked.answered) was.grown
      (subst (λ (n : ℕ). AgreeInFront got (drop n old.database.committed)) offset (read.agrees was.gate woke))

  enough_read : length first.committed ≤ length log
  enough_read = by (enough.least was.gate)
    where
      by : (length got ≡ bytes - 32) ⊎ (length old.database.committed ≤ read_offset old + length got)
          → length first.committed ≤ length log
      by (inl all) = omega (arith, all, was.long, head.long, length-append old.asked.answered got)
      by (inr over) = omega (
        arith,
        over,
        offset,
        length-append old.asked.answered got,
        ap length was.grown.is,
        length-append first.committed was.grown.rest,
      )

  covers : IsPrefix first.committed log
  covers = agrees_prefix log first.committed (agree_append old.asked.answered got first.committed head.agrees there)
      enough_read

  same : read_bytes new ≡ log
  same = ap (λ (n : ℕ). take n new.database.committed ++ new.asked.answered) (read.aimed ∙ head.aimed) ∙ read.answered

  checked : new.database.chances ≡ 0 → (q : Mark) → last_mark_of log ≡ Some q
      → IsPrefix (take q.end log) new.database.committed
  checked none q last = subst (λ (l : List ℕ). IsPrefix (take q.end l) new.database.committed) same
      (read.chance none (head.chance (omega (arith, none, read.step.chances))) (omega (arith, read.aimed, head.aimed)) q
      (ap last_mark_of same ∙ last))

module _ (bytes : ℕ) (h : WalHeader) (f after : Following) (scan : Scanned) (g0 g1 : Gathering) (old new : LiveRecord)
    (begins : Begins g0 scan (sought f) (least_at_pass f))
    (taken : (l : List ℕ) → length l ≡ 32 → read_header l ≡ Ok h → HasTaken scan l) (same_head : scan.head ≡ h)
    (base : KeepsBase g0 g1) (reads : ReadsOn (bytes - 32) g0 g1 (Ok tt) old new) (over : IsOver f g1 true after) where
  abbrev bytes_read : List ℕ
  bytes_read = reads.read.0

  whole : (first : Database) → ReadsHead h first old
      → HasGathered 0 (least_at_pass f) g1 (old.asked.answered ++ bytes_read)
  whole first head = reads.read.3 0 (least_at_pass f) old.asked.answered
      (begun g0 scan (sought f) (least_at_pass f) old.asked.answered begins
      (λ l long e. taken l long (e ∙ ap (λ (k : WalHeader). Ok k) same_head)) head.long
      (head.accepted ∙ ap (λ (k : WalHeader). Ok k) (sym same_head)))

  what : (result : Option Gathered) → IsGathered g1 result → (first : Database)
      → WasCommitted bytes first old.database → ReadsHead h first old → new.database.stopped ≡ false
      → new.database.chances ≡ 0 → GathersWhat f after result first new.database
  what None is first was head woke none =
      all_none f after g1 first new.database (old.asked.answered ++ bytes_read)
      (covers bytes h first bytes_read old new was head reads.read.1 reads.read.2 woke)
      (checked bytes h first bytes_read old new was head reads.read.1 reads.read.2 woke none)
      (whole first head) (base.place ∙ begins.is_place) over is
  what (Some d) is first was head woke none =
      all_some f after g1 first new.database (old.asked.answered ++ bytes_read)
      (covers bytes h first bytes_read old new was head reads.read.1 reads.read.2 woke)
      (checked bytes h first bytes_read old new was head reads.read.1 reads.read.2 woke none)
      (whole first head) (base.place ∙ begins.is_place) over d is

  pub log_read : (result : Option Gathered) → IsGathered g1 result → GathersLog bytes h f after (Ok result) old new
  log_read result is = record {
    step = reads.step;
    asked = reads.asked;
    awake = λ was ok. reads.awake was refl;
    found = λ first was head awake none. what result is first was head (reads.awake awake refl) none;
  }

-- ---- from a mark on

module _ (bytes : ℕ) (a : Mark) (first : Database) (got : List ℕ) (mid new : LiveRecord) (h : WalHeader)
    (was : WasCommitted bytes first mid.database) (accepted : read_header mid.database.committed ≡ Ok h)
    (is_a : IsMark mid.database.committed a) (aimed : mid.asked.aimed ≡ a.end) (fresh : mid.asked.answered ≡ [])
    (read : HasRead got mid new) (enough : IsEnough (bytes - a.end) got mid) (woke : new.database.stopped ≡ false) where
  abbrev cut : List ℕ
  cut = take a.end mid.database.committed

  within : a.end ≤ length mid.database.committed
  within = ends_within mid.database.committed a is_a

  cut_long : length cut ≡ a.end
  cut_long = length-take-le a.end mid.database.committed within

  offset_at : read_offset mid ≡ length cut
  offset_at = omega (arith, aimed, ap length fresh, cut_long)

  there_at : AgreeInFront got (drop (length cut) first.committed)
  there_at = agree_front got first.committed mid.database.committed (length cut) was.grown
      (subst (λ (n : ℕ). AgreeInFront got (drop n mid.database.committed)) offset_at (read.agrees was.gate woke))

  front_at : AgreeInFront cut first.committed
  front_at = agree_front cut first.committed mid.database.committed 0 was.grown
      (front_agrees a.end mid.database.committed)

  enough_at : length first.committed ≤ length (cut ++ got)
  enough_at = by (enough.least was.gate)
    where
      by : (length got ≡ bytes - a.end) ⊎ (length mid.database.committed ≤ read_offset mid + length got)
          → length first.committed ≤ length (cut ++ got)
      by (inl all) = omega (arith, all, was.long, cut_long, length-append cut got)
      by (inr over) = omega (
        arith,
        over,
        offset_at,
        length-append cut got,
        ap length was.grown.is,
        length-append first.committed was.grown.rest,
      )

  covers_at : IsPrefix first.committed (cut ++ got)
  covers_at = agrees_prefix (cut ++ got) first.committed (agree_append cut got first.committed front_at there_at)
      enough_at

  grown_at : IsPrefix mid.database.committed new.database.committed
  grown_at = (keeps_hold mid.database new.database was.gate read.step woke).committed

  same_at : read_bytes new ≡ cut ++ got
  same_at =
      ap (λ (n : ℕ). take n new.database.committed ++ new.asked.answered) (read.aimed ∙ aimed)
      ∙ ap (λ (l : List ℕ). l ++ new.asked.answered)
      (same_front mid.database.committed new.database.committed grown_at h accepted a is_a)
      ∙ ap (λ (l : List ℕ). cut ++ l) (read.answered ∙ ap (λ (l : List ℕ). l ++ got) fresh)

  checked_at : new.database.chances ≡ 0 → (q : Mark) → last_mark_of (cut ++ got) ≡ Some q
      → IsPrefix (take q.end (cut ++ got)) new.database.committed
  checked_at none q last =
      let more = ap length grown_at.is ∙ length-append mid.database.committed grown_at.rest in
      subst (λ (l : List ℕ). IsPrefix (take q.end l) new.database.committed) same_at
      (read.chance none (aimed_checked mid fresh) (omega (arith, read.aimed, aimed, within, more)) q
      (ap last_mark_of same_at ∙ last))

some_head : {x y : WalHeader} → ◌≡◌ {A = Option WalHeader} (Some x) (Some y) → x ≡ y
some_head e = cc

module _ (bytes : ℕ) (a : Mark) (f after : Following) (own : WalHeader) (g0 g1 : Gathering) (old mid new : LiveRecord)
    (has : option_map (λ (scan : Scanned). scan.head) f.scan ≡ Some own)
    (begins : Begins g0 (scanned_to own a) None (Some a.commit)) (base : KeepsBase g0 g1)
    (aims : Aims a.end (Ok tt) old mid) (over : IsOver f g1 false after) where
  kept_head : option_map (λ (scan : Scanned). scan.head) after.scan
      ≡ option_map (λ (scan : Scanned). scan.head) f.scan
  kept_head = head_over f after g1 false over
      ∙ ap (λ (k : WalHeader). Some k) (base.head ∙ ap (λ (s : Scanned). s.head) begins.is_scan) ∙ sym has

  module _ (reads : ReadsOn (bytes - a.end) g0 g1 (Ok tt) mid new) (first : Database)
      (was : WasCommitted bytes first old.database) (at : IsRecordedAt f a old.database)
      (none : new.database.chances ≡ 0) where
    abbrev h_at : WalHeader
    h_at = at.fits.h

    woke_at : new.database.stopped ≡ false
    woke_at = reads.awake (aims.call.awake refl) refl

    middle : WasCommitted bytes first mid.database
    middle = still_committed bytes first old.database mid.database was aims.call.step (aims.call.awake refl)

    grown_mid : IsPrefix old.database.committed mid.database.committed
    grown_mid = (keeps_hold old.database mid.database was.gate aims.call.step (aims.call.awake refl)).committed

    mark_old : IsMark old.database.committed a
    mark_old = subst (λ (m : Mark). IsMark old.database.committed m) at.is_mark at.fits.is_mark

    accepted_mid : read_header mid.database.committed ≡ Ok h_at
    accepted_mid = still_accepted old.database.committed mid.database.committed grown_mid h_at at.fits.accepted

    mark_mid : IsMark mid.database.committed a
    mark_mid = still_mark old.database.committed mid.database.committed grown_mid h_at at.fits.accepted a mark_old

    own_is : own ≡ h_at
    own_is = some_head (sym has ∙ at.fits.head)

    abbrev log_at : List ℕ
    log_at = take a.end mid.database.committed ++ reads.read.0

    aimed_at : mid.asked.aimed ≡ a.end
    aimed_at = ap (λ (x : Asked). x.aimed) aims.ok

    fresh_at : mid.asked.answered ≡ []
    fresh_at = ap (λ (x : Asked). x.answered) aims.ok

    gathered_at : HasGathered (frames_up_to h_at a) (Some a.commit) g1 log_at
    gathered_at = reads.read.3 (frames_up_to h_at a) (Some a.commit) (take a.end mid.database.committed)
        (begun_at mid.database.committed h_at accepted_mid a mark_mid g0 None
        (subst (λ (k : WalHeader). Begins g0 (scanned_to k a) None (Some a.commit)) own_is begins))

    head_at : g1.scan.head ≡ h_at
    head_at = base.head ∙ ap (λ (s : Scanned). s.head) begins.is_scan ∙ own_is

    mark_at : IsMark log_at a
    mark_at = stays_mark (take a.end mid.database.committed) reads.read.0 a
        (cut_keeps mid.database.committed a.end a mark_mid (omega arith))

    start_at : a.end ≡ 32 + frames_up_to h_at a * frame_length g1.scan.head
    start_at = end_at mid.database.committed h_at accepted_mid a mark_mid
        ∙ ap (λ (k : WalHeader). 32 + frames_up_to h_at a * frame_length k) (sym head_at)

    what_at : (result : Option Gathered) → IsGathered g1 result → GathersWhat f after result first new.database
    what_at None is = absurd (behind_none f after g1 first new.database log_at
        (covers_at bytes a first reads.read.0 mid new h_at middle accepted_mid mark_mid aimed_at fresh_at reads.read.1
        reads.read.2 woke_at)
        (checked_at bytes a first reads.read.0 mid new h_at middle accepted_mid mark_mid aimed_at fresh_at
        reads.read.1 reads.read.2 woke_at none)
        a (frames_up_to h_at a) gathered_at (ap (λ (k : WalHeader). frames_up_to k a) head_at)
        (base.place ∙ begins.is_place) over mark_at start_at at.recorded at.passed
        (at.fits.place ∙ ap (λ (m : Mark). Some (place_of m)) at.is_mark)
        (at.fits.pages ∙ ap (λ (m : Mark). Some m.commit) at.is_mark) is)
    what_at (Some d) is = behind_some f after g1 first new.database log_at
        (covers_at bytes a first reads.read.0 mid new h_at middle accepted_mid mark_mid aimed_at fresh_at reads.read.1
        reads.read.2 woke_at)
        (checked_at bytes a first reads.read.0 mid new h_at middle accepted_mid mark_mid aimed_at fresh_at
        reads.read.1 reads.read.2 woke_at none)
        a (frames_up_to h_at a) gathered_at (ap (λ (k : WalHeader). frames_up_to k a) head_at)
        (base.place ∙ begins.is_place) over mark_at start_at at.recorded at.passed
        (at.fits.place ∙ ap (λ (m : Mark). Some (place_of m)) at.is_mark)
        (at.fits.pages ∙ ap (λ (m : Mark). Some m.commit) at.is_mark) d is

  pub from_read : (result : Option Gathered) → IsGathered g1 result
      → ReadsOn (bytes - a.end) g0 g1 (Ok tt) mid new → GathersFrom bytes a f after (Ok result) old new
  from_read result is reads = record {
    step = step_join old.database mid.database new.database aims.call.step reads.step;
    asked = asks_then old.asked mid.asked new.asked (aim_asks a.end old mid aims) reads.asked;
    taken = omega (arith, reads.taken, aim_taken a.end old mid aims);
    awake = λ ok. reads.awake (aims.call.awake refl) refl;
    head = kept_head;
    found = λ first was at none. what_at reads first was at none result is;
  }

  pub from_failed : (result : Result (Option Gathered) FollowFault) (fault : FollowFault)
      (read : Result (Unit {0}) FollowFault) → result ≡ Err fault → ReadsOn (bytes - a.end) g0 g1 read mid new
      → GathersFrom bytes a f after result old new
  from_failed result fault read is reads =
      subst (λ (r : Result (Option Gathered) FollowFault). GathersFrom bytes a f after r old new) (sym is) (record {
        step = step_join old.database mid.database new.database aims.call.step reads.step;
        asked = asks_then old.asked mid.asked new.asked (aim_asks a.end old mid aims) reads.asked;
        taken = omega (arith, reads.taken, aim_taken a.end old mid aims);
        awake = λ ok. absurd cc;
        head = kept_head;
        found = λ first was at none. tt;
      })

pub from_unaimed : (bytes : ℕ) (a : Mark) (f : Following) (result : Result (Option Gathered) FollowFault)
    (fault : FollowFault) (live : LiveFault) (old new : LiveRecord) → result ≡ Err fault
    → Aims a.end (Err live) old new → GathersFrom bytes a f f result old new
from_unaimed bytes a f result fault live old new is aims =
    subst (λ (r : Result (Option Gathered) FollowFault). GathersFrom bytes a f f r old new) (sym is) (record {
      step = aims.call.step;
      asked = asks_nothing old.asked new.asked aims.err;
      taken = omega (arith, ap (λ (x : Asked). x.taken) aims.err);
      awake = λ ok. absurd cc;
      head = refl;
      found = λ first was at none. tt;
    })

-- without a scan no place is recorded in the log
pub from_nothing : (bytes : ℕ) (a : Mark) (f after : Following) (old new : LiveRecord) → Aims a.end (Ok tt) old new
    → f.scan ≡ None → after.scan ≡ None → GathersFrom bytes a f after (Ok None) old new
from_nothing bytes a f after old new aims none still = record {
  step = aims.call.step;
  asked = aim_asks a.end old new aims;
  taken = omega (arith, aim_taken a.end old new aims);
  awake = λ ok. aims.call.awake refl;
  head = ap (option_map (λ (scan : Scanned). scan.head)) (still ∙ sym none);
  found = λ first was at calm. absurd (no_head (sym (ap (option_map (λ (scan : Scanned). scan.head)) none)
      ∙ at.fits.head));
}
  where
    no_head : {h : WalHeader} → ◌≡◌ {A = Option WalHeader} None (Some h) → ⊥
    no_head e = cc
