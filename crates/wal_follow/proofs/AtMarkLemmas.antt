-- A follower that found a mark fits the live database.
use Rattle.std.proofs.Common.{◌≡◌, ℕ, ◌+◌, ◌*◌, ◌<◌, ◌≤◌, Bool, true, false, cond, List, length, Option, Some, None}
use Rattle.std.proofs.Common.{Result, Ok, Err, refl, sym, ap, subst, ◌∙◌, inl, inr, arith}
use Rattle.std.specs.Prelude.{◌⊎◌, ◌≢◌, option_map, if◌then◌else◌}
use Rattle.std.specs.Option.{option_or}
use Rattle.std.specs.FinMap.{get}
use Rattle.std.proofs.lemmas.Bool.{cases_eq}
use Rattle.ls_base.specs.Limits.{database_limit}
use Rattle.ls_base.specs.declared.mark.Mark.{Mark}
use Rattle.ls_base.specs.declared.place.Place.{Place}
use Rattle.ls_base.specs.State.{State}
use Rattle.ls_base.specs.History.{state_at}
use Rattle.wal_frames.specs.declared.header.WalHeader.{WalHeader}
use Rattle.wal_frames.specs.declared.fault.WalHeaderFault.{WalHeaderFault}
use Rattle.wal_frames.specs.WalFormat.{read_header}
use Rattle.wal_frames.specs.WalFrame.{frame_length}
use Rattle.wal_frames.specs.ValidPrefix.{valid_frames}
use Rattle.wal_frames.specs.Marks.{IsMark, place_of}
use Rattle.wal_frames.specs.View.{frames_to, view_at}
use Rattle.wal_frames.proofs.LogLemmas.{one_mark_an_end}
use Rattle.wal_frames.proofs.ViewLemmas.{is_view}
use Rattle.live_gate.specs.LiveRecord.{Database}
use Rattle.live_gate.specs.Legal.{IsLegal}
use Rattle.live_gate.specs.Step.{IsWriterStep}
use Rattle.snapshot_read.specs.Offsets.{offset_in}
use Rattle.snapshot_read.specs.PageOffsets.{Offsets, PageOffsets}
use Rattle.wal_follow.specs.declared.answer.Next.{Next}
use Rattle.wal_follow.specs.declared.answer.Next.TheVariants.{Same}
use Rattle.wal_follow.specs.declared.answer.Wanted.{Wanted}
use Rattle.wal_follow.specs.declared.answer.Wanted.TheVariants.{All, Listed}
use Rattle.wal_follow.specs.declared.following.Following.{Following}
use Rattle.wal_follow.specs.declared.following.Target.{Target}
use Rattle.wal_follow.specs.declared.fault.FollowFault.{FollowFault}
use Rattle.wal_follow.specs.declared.fault.FollowFault.TheVariants.{SizesDiffer, TooLarge, Memory}
use Rattle.wal_follow.specs.declared.gather.Gathered.{Gathered}
use Rattle.wal_follow.specs.Answers.{Answers}
use Rattle.wal_follow.specs.AtMark.{GathersMark, GathersSince, IsAsked, FollowsMark}
use Rattle.wal_follow.specs.Following.{is_in_log, gathered_at, HasLearned, AreOffsetsAt, FitsPassed, FitsRecorded}
use Rattle.wal_follow.specs.Following.{FitsFoundMark, FitsTarget, FitsCalm, Fits}
use Rattle.wal_follow.specs.Piece.{frames_between}
use Rattle.wal_follow.specs.Steps.{next_of}
use Rattle.wal_follow.proofs.FitsLemmas.{fits_stays}
use Rattle.wal_follow.proofs.FoundLemmas.{answers_sizes, answers_large, answers_same, answers_lost, answers_led}
use Rattle.wal_follow.proofs.GatherLemmas.{offset_in-append}
use Rattle.wal_follow.proofs.PieceLemmas.{marks_have_their_view}
use Rattle.wal_follow.proofs.ReadLemmas.{keeps_hold}
use Rattle.wal_follow.proofs.SinceLemmas.{earlier_mark}

-- ---- what is kept of what was gathered

-- how many pages the place has: as before, or the commit of the mark at it
abbrev pub HasPages : Following → Following → Mark → Type 0
HasPages g after q =
    (after.pages ≡ g.pages) ⊎ ((g.passed ≡ false) × (g.place ≡ Some (place_of q)) × (after.pages ≡ Some q.commit))

-- What was gathered is kept, and what is found is the mark.
pub record KeepsGathered (g after : Following) (d : Gathered) : Type 0 where
  pub place : after.place ≡ g.place
  pub recorded : after.recorded ≡ g.recorded
  pub passed : after.passed ≡ g.passed
  pub scan : after.scan ≡ g.scan
  pub fresh : after.fresh ≡ g.fresh
  pub kept : after.kept.offsets ≡ g.kept.offsets
  pub newer : after.newer.offsets ≡ g.newer.offsets
  pub pages : HasPages g after d.mark
  pub found : (target : Target) → after.found ≡ Some target
      → (target.place ≡ place_of d.mark) × (target.commit ≡ d.mark.commit) × (target.size ≡ d.size)

-- ---- the follower fits

both : ◌≡◌ {A = Bool} true false → ⊥
both e = cc

some_end : {a b : ℕ} → ◌≡◌ {A = Option ℕ} (Some a) (Some b) → a ≡ b
some_end e = cc

some_place : (a b : Place) → ◌≡◌ {A = Option Place} (Some a) (Some b) → a ≡ b
some_place a b e = cc

place_end : (a b : Mark) → place_of a ≡ place_of b → a.end ≡ b.end
place_end a b e = cc

header_same : (log : List ℕ) (a b : WalHeader) → read_header log ≡ Ok a → read_header log ≡ Ok b → a ≡ b
header_same log a b first second = ok_same (sym first ∙ second)
  where
    ok_same : {a b : WalHeader} → ◌≡◌ {A = Result WalHeader WalHeaderFault} (Ok a) (Ok b) → a ≡ b
    ok_same e = cc

module _ (f g after : Following) (d : Gathered) (old new : Database) (has : GathersMark f g d old new)
    (keeps : KeepsGathered g after d) (legal : IsLegal old) (step : IsWriterStep old new) (fits : Fits f old)
    (awake : new.stopped ≡ false) where
  abbrev now : Fits f new
  now = fits_stays f old new step awake fits

  abbrev log : List ℕ
  log = new.committed

  after_place : after.place ≡ f.place
  after_place = keeps.place ∙ ap (λ (x : Following). x.place) has.only

  after_passed : after.passed ≡ f.passed
  after_passed = keeps.passed ∙ ap (λ (x : Following). x.passed) has.only

  after_recorded : after.recorded ≡ f.recorded
  after_recorded = keeps.recorded ∙ ap (λ (x : Following). x.recorded) has.only

  after_kept : after.kept.offsets ≡ f.kept.offsets
  after_kept = keeps.kept ∙ ap (λ (x : Following). x.kept.offsets) has.only

  gathered_pages : g.pages ≡ f.pages
  gathered_pages = ap (λ (x : Following). x.pages) has.only

  -- the gate is held at a mark that isn't behind the one that was found
  held_upto : (end : ℕ) → new.held ≡ Some end → end ≤ d.mark.end
  held_upto end is =
      let held = keeps_hold old new fits.gate step awake in
      let same : fits.gate.0 ≡ end = some_end (sym held.held ∙ is) in
      let may = legal.is_held fits.gate.0 fits.gate.1 in
      elim (cases_eq fits.gate.0 0) [
        | inl none ↦ omega (arith, none, same)
        | inr some ↦
            let at = (may.at_mark some).0 in
            omega (arith, has.finds.latest at.0 at.1, at.2, same)
      ]

  copied_upto : new.copied ≤ d.mark.end
  copied_upto =
      let may = (step.legal legal).is_held now.gate.0 now.gate.1 in
      let upto = held_upto now.gate.0 now.gate.1 in
      elim (cases_eq now.gate.0 0) [
        | inl none ↦ omega (arith, may.at_no_mark none)
        | inr some ↦ omega (arith, (may.at_mark some).1, upto)
      ]

  same_mark : (a : Mark) → IsMark log a → place_of a ≡ place_of d.mark → a ≡ d.mark
  same_mark a is same = one_mark_an_end log a d.mark is has.finds.is_mark (place_end a d.mark same)

  pages_passed : f.passed ≡ true → after.pages ≡ f.pages
  pages_passed is = by keeps.pages
    where
      by : HasPages g after d.mark → after.pages ≡ f.pages
      by (inl same) = same ∙ gathered_pages
      by (inr learned) = absurd (both (sym is ∙ sym (ap (λ (x : Following). x.passed) has.only) ∙ learned.0))

  fits_passed : f.passed ≡ true → FitsPassed f new → FitsPassed after new
  fits_passed is p = record {
    held = p.held;
    entry = p.entry;
    stands = p.stands;
    at_rest = p.at_rest;
    place = p.place;
    is_place = after_place ∙ p.is_place;
    same = p.same;
    pages = pages_passed is ∙ p.pages;
  }

  fits_recorded : FitsRecorded f new → FitsRecorded after new
  fits_recorded r = record {
    h = r.h;
    mark = r.mark;
    accepted = r.accepted;
    is_mark = r.is_mark;
    place = after_place ∙ r.place;
    pages = by keeps.pages;
    head = ap (option_map (λ scan. scan.head)) keeps.scan ∙ has.head
        ∙ ap (λ (k : WalHeader). Some k) (header_same log has.h r.h has.finds.accepted r.accepted);
    offsets = λ number. ap (λ (m : Offsets). get m number) after_kept ∙ r.offsets number;
  }
    where
      by : HasPages g after d.mark → after.pages ≡ Some r.mark.commit
      by (inl same) = same ∙ gathered_pages ∙ r.pages
      by (inr learned) =
          let place = some_place (place_of r.mark) (place_of d.mark) (sym r.place
          ∙ sym (ap (λ (x : Following). x.place) has.only) ∙ learned.1) in
          learned.2 ∙ ap (λ (m : Mark). Some m.commit) (sym (same_mark r.mark r.is_mark place))

  module _ (calm : new.chances ≡ 0) where
    abbrev was : FitsCalm f new
    was = now.calm calm

    fits_learned : HasLearned after new.history
    fits_learned place pages in_log at many = by keeps.pages
      where
        by : HasPages g after d.mark → (s : State) × (state_at new.history place ≡ Some s) × (length s.pages ≡ pages)
        by (inl same) = was.learned place pages in_log (sym after_place ∙ at) (sym gathered_pages ∙ sym same ∙ many)
        by (inr learned) =
            let same : place ≡ place_of d.mark = some_place place (place_of d.mark) (sym at ∙ keeps.place
            ∙ learned.1) in
            let count : d.mark.commit ≡ pages = some_end (sym learned.2 ∙ many) in (
              view_at new.file log d.mark,
              ap (state_at new.history) same
                  ∙ marks_have_their_view new d.mark (step.legal legal) calm has.finds.is_mark copied_upto,
              (is_view log has.h has.finds.accepted new.file d.mark).many ∙ count,
            )

    gathered_offsets : (b : Bool) → GathersSince b f g d new has.h
        → AreOffsetsAt new has.h d.mark (gathered_at b g.kept.offsets g.newer.offsets)
    gathered_offsets true all number = all.offsets.each number
    gathered_offsets false it number =
        let h = has.h in
        let in_log : is_in_log f.place ≡ true = ap is_in_log it.place in
        let r = was.recorded it.passed it.recorded in_log in
        let one : r.mark ≡ it.a = one_mark_an_end log r.mark it.a r.is_mark it.is_mark (place_end r.mark it.a
        (some_place (place_of r.mark) (place_of it.a) (sym r.place ∙ it.place))) in
        let e = earlier_mark log h has.finds.accepted d.mark has.finds.is_mark it.a it.is_mark it.order in
        let between = frames_between h (valid_frames log) it.a d.mark in
        let end : it.a.end ≡ 32 + length e.earlier * frame_length h = e.end in
        let kept : get g.kept.offsets number ≡ offset_in h number 32 e.earlier =
        ap (λ (x : Following). get x.kept.offsets number) has.only ∙ r.offsets number
        ∙ ap (λ (k : WalHeader). offset_in k number 32 (frames_to k (valid_frames log) r.mark))
        (header_same log r.h h r.accepted has.finds.accepted)
        ∙ ap (λ (m : Mark). offset_in h number 32 (frames_to h (valid_frames log) m)) one
        ∙ ap (offset_in h number 32) e.own in
        ap (λ (o : Option ℕ). option_or o (get g.kept.offsets number)) (it.offsets.each number)
        ∙ ap (option_or (offset_in h number it.a.end between)) kept
        ∙ ap (λ (n : ℕ). option_or (offset_in h number n between) (offset_in h number 32 e.earlier)) end
        ∙ sym (offset_in-append h number 32 e.earlier between)
        ∙ ap (offset_in h number 32) (sym e.split)

    found_mark : (target : Target) → after.found ≡ Some target → FitsFoundMark after target new
    found_mark target is =
        let there = keeps.found target is in
        record {
          h = has.h;
          mark = d.mark;
          accepted = has.finds.accepted;
          is_mark = has.finds.is_mark;
          place = there.0;
          commit = there.1;
          size = there.2 ∙ has.size;
          held = held_upto;
          head = ap (option_map (λ scan. scan.head)) keeps.scan ∙ has.head;
          offsets = λ number.
              ap (λ (b : Bool). gathered_at b after.kept.offsets after.newer.offsets number) keeps.fresh
              ∙ ap (λ (m : Offsets). gathered_at g.fresh m after.newer.offsets number) keeps.kept
              ∙ ap (λ (m : Offsets). gathered_at g.fresh g.kept.offsets m number) keeps.newer
              ∙ gathered_offsets g.fresh has.since number;
        }

    fits_target : (target : Target) → after.found ≡ Some target → FitsTarget after target new target.place
    fits_target target is = subst (λ (p : Place). FitsTarget after target new p) (sym (keeps.found target is).0)
        (found_mark target is)

    fits_calm : FitsCalm after new
    fits_calm = record {
      passed = λ is. fits_passed (sym after_passed ∙ is) (was.passed (sym after_passed ∙ is));
      recorded = λ not_passed recorded in_log. fits_recorded (was.recorded (sym after_passed ∙ not_passed)
          (sym after_recorded ∙ recorded) (ap is_in_log (sym after_place) ∙ in_log));
      learned = fits_learned;
      found = fits_target;
    }

  pub fits_gathered : Fits after new
  fits_gathered = record { gate = now.gate; calm = fits_calm }

-- ---- what is answered

-- What is kept of what was gathered fits, whatever the live database was.
pub follows_by : (g after : Following) (d : Gathered) (result : Result Next FollowFault) → KeepsGathered g after d
    → ((f : Following) (old new : Database) → GathersMark f g d old new → (f.passed ≡ true → FitsPassed f old)
    → Answers f result old new) → FollowsMark g after d result
follows_by g after d result keeps answers f old new has = record {
  answers = λ legal step fits calm. answers f old new has (fits.calm (omega (arith, calm, step.chances))).passed;
  fits = λ legal step fits awake. fits_gathered f g after d old new has keeps legal step fits awake;
}

none_found : {t : Target} → ◌≡◌ {A = Option Target} (Some t) None → ⊥
none_found e = cc

some_target : {a b : Target} → ◌≡◌ {A = Option Target} (Some a) (Some b) → a ≡ b
some_target e = cc

-- nothing but room changed, and nothing was found
pub keeps_all : (g after : Following) (d : Gathered) → g.found ≡ None
    → after ≡ record g { kept = after.kept } → after.kept.offsets ≡ g.kept.offsets → KeepsGathered g after d
keeps_all g after d none only kept = record {
  place = ap (λ (x : Following). x.place) only;
  recorded = ap (λ (x : Following). x.recorded) only;
  passed = ap (λ (x : Following). x.passed) only;
  scan = ap (λ (x : Following). x.scan) only;
  fresh = ap (λ (x : Following). x.fresh) only;
  kept = kept;
  newer = ap (λ (x : Following). x.newer.offsets) only;
  pages = inl (ap (λ (x : Following). x.pages) only);
  found = λ target is. absurd (none_found (sym is ∙ ap (λ (x : Following). x.found) only ∙ none));
}

-- the pages at the mark were learned
learns_pages : (b : Bool) (old new pages : Option ℕ) (here : Type 0) → here → new ≡ cond b old pages
    → (new ≡ old) ⊎ ((b ≡ false) × here × (new ≡ pages))
learns_pages true old new pages here at is = inl is
learns_pages false old new pages here at is = inr (refl, at, is)

pub keeps_learned : (g after : Following) (d : Gathered) (size : Option ℕ) → g.found ≡ None
    → g.place ≡ Some (place_of d.mark)
    → after ≡ record g { size = size; pages = if g.passed then g.pages else Some d.mark.commit }
    → KeepsGathered g after d
keeps_learned g after d size none place only = record {
  place = ap (λ (x : Following). x.place) only;
  recorded = ap (λ (x : Following). x.recorded) only;
  passed = ap (λ (x : Following). x.passed) only;
  scan = ap (λ (x : Following). x.scan) only;
  fresh = ap (λ (x : Following). x.fresh) only;
  kept = ap (λ (x : Following). x.kept.offsets) only;
  newer = ap (λ (x : Following). x.newer.offsets) only;
  pages = learns_pages g.passed g.pages after.pages (Some d.mark.commit) (g.place ≡ Some (place_of d.mark)) place
      (ap (λ (x : Following). x.pages) only);
  found = λ target is. absurd (none_found (sym is ∙ ap (λ (x : Following). x.found) only ∙ none));
}

-- the mark was found
pub keeps_found : (g after : Following) (kept : PageOffsets) (d : Gathered) (size : ℕ) → d.size ≡ size
    → kept.offsets ≡ g.kept.offsets
    → after ≡ record g {
      kept = kept;
      size = Some size;
      found = Some (record { size = size; place = place_of d.mark; commit = d.mark.commit });
    } → KeepsGathered g after d
keeps_found g after kept d size same offsets only = record {
  place = ap (λ (x : Following). x.place) only;
  recorded = ap (λ (x : Following). x.recorded) only;
  passed = ap (λ (x : Following). x.passed) only;
  scan = ap (λ (x : Following). x.scan) only;
  fresh = ap (λ (x : Following). x.fresh) only;
  kept = ap (λ (x : Following). x.kept.offsets) only ∙ offsets;
  newer = ap (λ (x : Following). x.newer.offsets) only;
  pages = inl (ap (λ (x : Following). x.pages) only);
  found = λ target is.
      let t : target ≡ record { size = size; place = place_of d.mark; commit = d.mark.commit } =
      some_target (sym is ∙ ap (λ (x : Following). x.found) only) in (
        ap (λ (x : Target). x.place) t,
        ap (λ (x : Target). x.commit) t,
        ap (λ (x : Target). x.size) t ∙ sym same,
      );
}

-- ---- each way out

pub refuses_sizes : (g : Following) (d : Gathered) (size : ℕ) → g.found ≡ None → d.size ≢ size
    → FollowsMark g g d (Err (SizesDiffer size d.size))
refuses_sizes g d size none differ = follows_by g g d (Err (SizesDiffer size d.size)) (keeps_all g g d none refl refl)
    (λ f old new has passed. answers_sizes f g d old new has passed size differ)

pub refuses_large : (g : Following) (d : Gathered) (size n : ℕ) → g.found ≡ None → d.size ≡ size
    → n ≡ d.mark.commit * size → database_limit < n → FollowsMark g g d (Err (TooLarge n))
refuses_large g d size n none same is past = follows_by g g d (Err (TooLarge n)) (keeps_all g g d none refl refl)
    (λ f old new has passed. answers_large f g d old new has passed size n same is past)

pub refuses_memory : (g after : Following) (d : Gathered) → g.found ≡ None
    → after ≡ record g { kept = after.kept } → after.kept.offsets ≡ g.kept.offsets → FollowsMark g after d (Err Memory)
refuses_memory g after d none only kept = follows_by g after d (Err Memory) (keeps_all g after d none only kept)
    (λ f old new has passed. tt)

pub stays_there : (g after : Following) (d : Gathered) (size : Option ℕ) → g.found ≡ None
    → g.place ≡ Some (place_of d.mark)
    → after ≡ record g { size = size; pages = if g.passed then g.pages else Some d.mark.commit }
    → FollowsMark g after d (Ok Same)
stays_there g after d size none place only = follows_by g after d (Ok Same)
    (keeps_learned g after d size none place only)
    (λ f old new has passed. answers_same f g d old new has passed place)

pub finds_mark : (g after : Following) (kept : PageOffsets) (d : Gathered) (size : ℕ) (wanted : Wanted)
    → d.size ≡ size → d.mark.commit * size ≤ database_limit → g.place ≢ Some (place_of d.mark)
    → kept.offsets ≡ g.kept.offsets → IsAsked (record g { kept = kept }) d size wanted
    → after ≡ record g {
      kept = kept;
      size = Some size;
      found = Some (record { size = size; place = place_of d.mark; commit = d.mark.commit });
    } → FollowsMark g after d (Ok (next_of size (place_of d.mark) d.mark.commit wanted))
finds_mark g after kept d size All same bound later offsets asked only =
    follows_by g after d (Ok (next_of size (place_of d.mark) d.mark.commit All))
    (keeps_found g after kept d size same offsets only)
    (λ f old new has passed. answers_lost f g d old new has passed size same bound asked)
finds_mark g after kept d size (Listed numbers) same bound later offsets asked only =
    follows_by g after d (Ok (next_of size (place_of d.mark) d.mark.commit (Listed numbers)))
    (keeps_found g after kept d size same offsets only)
    (λ f old new has passed. answers_led f g d old new has passed size numbers same bound later asked)
