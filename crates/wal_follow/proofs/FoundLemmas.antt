-- What a follower that found a mark answers.
use Rattle.std.proofs.Common.{◌≡◌, ℕ, ◌+◌, ◌*◌, ◌<◌, ◌≤◌, Bool, true, false, List, [], length, Option, Some, None, Ok}
use Rattle.std.proofs.Common.{Err, refl, sym, ap, subst, ◌∙◌, inl, inr, arith}
use Rattle.std.specs.Prelude.{◌⊎◌, ◌≢◌, if◌then◌else◌}
use Rattle.ls_base.specs.Limits.{database_limit}
use Rattle.ls_base.specs.declared.mark.Mark.{Mark}
use Rattle.ls_base.specs.declared.place.Place.{Place}
use Rattle.ls_base.specs.declared.place.Place.TheVariants.{Wal, Rest}
use Rattle.wal_frames.specs.declared.header.WalHeader.{WalHeader}
use Rattle.wal_frames.specs.WalFrame.{frame_length}
use Rattle.wal_frames.specs.ValidPrefix.{valid_frames}
use Rattle.wal_frames.specs.Marks.{IsMark, place_of}
use Rattle.wal_frames.specs.View.{frames_to}
use Rattle.live_gate.specs.LiveRecord.{Database}
use Rattle.snapshot_read.specs.Offsets.{offset_in, AreOffsets}
use Rattle.snapshot_read.proofs.OffsetLemmas.{not_past, at_offset}
use Rattle.wal_follow.specs.declared.answer.Next.TheVariants.{Same, Piece, Lost}
use Rattle.wal_follow.specs.declared.answer.Wanted.TheVariants.{All, Listed}
use Rattle.wal_follow.specs.declared.fault.FollowFault.TheVariants.{SizesDiffer, TooLarge}
use Rattle.wal_follow.specs.declared.following.Following.{Following}
use Rattle.wal_follow.specs.declared.gather.Gathered.{Gathered}
use Rattle.wal_follow.specs.Answers.{Answers, AreSince, AreWanted, IsLostAtMark}
use Rattle.wal_follow.specs.AtMark.{GathersMark, GathersAll, GathersBehind, GathersSince, IsAsked}
use Rattle.wal_follow.specs.Following.{FitsPassed}
use Rattle.wal_follow.specs.Gathering.{least_since}
use Rattle.wal_follow.specs.Piece.{frames_between, least_size}
use Rattle.wal_follow.specs.Steps.{behind}
use Rattle.wal_follow.specs.WantedPages.{AreListed}
use Rattle.wal_follow.proofs.ChangedLemmas.{are_wanted}
use Rattle.wal_follow.proofs.SinceLemmas.{least_since-met, IsMet, IsUnmet, cases_met, IsMarkMet, mark_met, no_mark_met}
use Rattle.wal_follow.proofs.SinceLemmas.{earlier_mark}

-- ---- values that are there

some_none : {A : Type 0} (x : A) → ◌≡◌ {A = Option A} (Some x) None → ⊥
some_none x e = cc

some_same : (a b : ℕ) → ◌≡◌ {A = Option ℕ} (Some a) (Some b) → a ≡ b
some_same a b e = cc

-- ---- whether the place is lost

lost_nowhere : (passed : Bool) (place : Option Place) (log : List ℕ) (q : Mark) → behind passed place ≡ None
    → IsLostAtMark passed place log q
lost_nowhere passed None log q none = tt
lost_nowhere passed (Some (Rest sum)) log q none = tt
lost_nowhere passed (Some (Wal a b c d e)) log q none = absurd cc

lost_unmet : (place : Option Place) (log : List ℕ) (q : Mark)
    → ((m : Mark) → IsMark log m → m.end ≤ q.end → place ≡ Some (place_of m) → ⊥) → IsLostAtMark false place log q
lost_unmet None log q none = tt
lost_unmet (Some (Rest sum)) log q none = tt
lost_unmet (Some (Wal a b c d e)) log q none = (
  refl,
  λ m is order same. none m is order (ap (λ (p : Place). Some p) (sym same)),
)

follows_passed : (place : Option Place) (offset : ℕ) (log : List ℕ) (q : Mark) → behind true place ≡ Some offset
    → IsLostAtMark true place log q → ⊥
follows_passed None offset log q is lost = absurd cc
follows_passed (Some (Rest sum)) offset log q is lost = absurd cc
follows_passed (Some (Wal a b c d e)) offset log q is lost = both lost.0
  where
    both : ◌≡◌ {A = Bool} true false → ⊥
    both e = cc

from_start : (place : Option Place) (offset : ℕ) → behind true place ≡ Some offset → offset ≡ 0
from_start None offset is = absurd cc
from_start (Some (Rest sum)) offset is = absurd cc
from_start (Some (Wal a b c d e)) offset is = let same : 0 ≡ offset = cc in sym same

-- the place of a mark that is there isn't lost
pub follows_mark : (passed : Bool) (place : Option Place) (log : List ℕ) (a q : Mark) → IsMark log a → a.end ≤ q.end
    → place ≡ Some (place_of a) → IsLostAtMark passed place log q → ⊥
follows_mark passed place log a q is order same lost =
    (subst (λ (p : Option Place). IsLostAtMark passed p log q) same lost).1 a is order refl

-- ---- what the frames that were gathered say

module _ (f g : Following) (d : Gathered) (old new : Database) (has : GathersMark f g d old new)
    (passed_fits : f.passed ≡ true → FitsPassed f old) where
  abbrev h : WalHeader
  h = has.h

  abbrev log : List ℕ
  log = new.committed

  abbrev upto : List (List ℕ)
  upto = frames_to h (valid_frames log) d.mark

  pub place_same : g.place ≡ f.place
  place_same = ap (λ (x : Following). x.place) has.only

  pub passed_same : g.passed ≡ f.passed
  passed_same = ap (λ (x : Following). x.passed) has.only

  offset_of : (offset : ℕ) → behind g.passed g.place ≡ Some offset → behind f.passed f.place ≡ Some offset
  offset_of offset is = ap (λ (b : Bool). behind b f.place) (sym passed_same)
      ∙ ap (λ (p : Option Place). behind g.passed p) (sym place_same) ∙ is

  -- ---- the place is lost

  abbrev IsLost : Type 0
  IsLost = IsLostAtMark f.passed f.place log d.mark

  never_behind : GathersBehind f g d new h → d.least ≡ None → ⊥
  never_behind b none = some_none _ (sym (b.least ∙ least_since-met h None b.a.commit (frames_to h (valid_frames log)
      b.a) (frames_between h (valid_frames log) b.a d.mark)) ∙ none)

  least_passed : GathersAll f g d new h → (is : f.passed ≡ true)
      → d.least ≡ Some (least_size (length (passed_fits is).entry.pages) upto)
  least_passed all is =
      all.least
      ∙ ap (λ (b : Bool). least_since h (if b then None else f.place) (if b then f.pages else None) [] upto) is
      ∙ ap (λ (o : Option ℕ). least_since h None o [] upto) (passed_fits is).pages
      ∙ least_since-met h None (length (passed_fits is).entry.pages) [] upto

  least_sought : GathersAll f g d new h → f.passed ≡ false → d.least ≡ least_since h f.place None [] upto
  least_sought all is = all.least
      ∙ ap (λ (b : Bool). least_since h (if b then None else f.place) (if b then f.pages else None) [] upto) is

  lost_in_all : GathersAll f g d new h → d.least ≡ None → (b : Bool) → f.passed ≡ b → IsLost
  lost_in_all all none true is = absurd (some_none _ (sym (least_passed all is) ∙ none))
  lost_in_all all none false is = subst (λ (b : Bool). IsLostAtMark b f.place log d.mark) (sym is)
      (by (cases_met h f.place [] upto))
    where
      by : IsMet h f.place [] upto ⊎ IsUnmet h f.place [] upto → IsLostAtMark false f.place log d.mark
      by (inl met) = absurd (some_none _ (sym met.least ∙ sym (least_sought all is) ∙ none))
      by (inr unmet) = lost_unmet f.place log d.mark
          (no_mark_met log h has.finds.accepted d.mark has.finds.is_mark f.place unmet)

  lost_since : (b : Bool) → GathersSince b f g d new h → d.least ≡ None → IsLost
  lost_since true all none = lost_in_all all none f.passed refl
  lost_since false behind_it none = absurd (never_behind behind_it none)

  -- where all pages are asked for, the place is lost
  pub is_lost : (size : ℕ) → IsAsked g d size All → IsLost
  is_lost size (inl none) = lost_since g.fresh has.since none
  is_lost size (inr nowhere) = lost_nowhere f.passed f.place log d.mark (ap (λ (b : Bool). behind b f.place) (sym
      passed_same) ∙ ap (λ (p : Option Place). behind g.passed p) (sym place_same) ∙ nowhere)

  -- ---- the log leads on from the place

  -- where pages are listed, the log leads on and they are those of the piece
  pub record IsLed (numbers : List ℕ) : Type 0 where
    pub follows : IsLost → ⊥
    pub start : ℕ
    pub since : List (List ℕ)
    pub are_since : AreSince f.passed f log h d.mark start since
    pub wanted : AreWanted h.size start d.mark.commit since numbers

  module _ (numbers : List ℕ) (least offset : ℕ) (least_is : d.least ≡ Some least)
      (behind_is : behind f.passed f.place ≡ Some offset)
      (listed : AreListed g.newer.offsets offset h.size least d.mark.commit numbers) where
    -- from a mark on
    led_from : (a : Mark) → f.passed ≡ false → IsMark log a → a.end ≤ d.mark.end → f.place ≡ Some (place_of a)
        → AreWanted h.size a.commit d.mark.commit (frames_between h (valid_frames log) a d.mark) numbers → IsLed numbers
    led_from a not_passed is order place wanted = record {
      follows = follows_mark f.passed f.place log a d.mark is order place;
      start = a.commit;
      since = frames_between h (valid_frames log) a d.mark;
      are_since = subst (λ (b : Bool). AreSince b f log h d.mark a.commit (frames_between h (valid_frames log) a
          d.mark)) (sym not_passed) (a, is, place, order, refl, refl);
      wanted = wanted;
    }

    offset_at : (a : Mark) → f.passed ≡ false → f.place ≡ Some (place_of a) → offset ≡ a.end
    offset_at a not_passed place = some_same offset a.end (sym behind_is ∙ ap (λ (b : Bool). behind b f.place)
        not_passed ∙ ap (behind false) place)

    nothing_before : (p at start : ℕ) → offset_in h p start [] ≡ Some at → at ≤ offset
    nothing_before p at start is = absurd (some_none at (sym is))

    led_behind : GathersBehind f g d new h → IsLed numbers
    led_behind b =
        let between = frames_between h (valid_frames log) b.a d.mark in
        let met = b.least ∙ least_since-met h None b.a.commit (frames_to h (valid_frames log) b.a) between in
        let same : offset ≡ b.a.end = offset_at b.a b.passed b.place in
        led_from b.a b.passed b.is_mark b.order b.place
        (are_wanted h g.newer.offsets b.a.end offset [] between b.offsets (omega (arith, same))
        (λ p at is. nothing_before p at b.a.end is)
        h.size b.a.commit d.mark.commit least numbers (some_same least _ (sym least_is ∙ met)) listed)

    led_met : GathersAll f g d new h → f.passed ≡ false
        → IsMarkMet log h has.finds.accepted d.mark has.finds.is_mark f.place → IsLed numbers
    led_met all not_passed met =
        let a = met.a in
        let between = frames_between h (valid_frames log) a d.mark in
        let e = earlier_mark log h has.finds.accepted d.mark has.finds.is_mark a met.is_mark met.order in
        let same : offset ≡ a.end = offset_at a not_passed met.place_is in
        let end : a.end ≡ 32 + length e.earlier * frame_length h = e.end in
        led_from a not_passed met.is_mark met.order met.place_is
        (are_wanted h g.newer.offsets 32 offset e.earlier between
        (subst (λ (fs : List (List ℕ)). AreOffsets h g.newer.offsets 32 fs) e.split all.offsets)
        (omega (arith, same, end))
        (λ p at is. let near = at_offset h.size offset at (offset_in h p 32 e.earlier) (not_past h p 32 offset e.earlier
        (omega (arith, same, end))) is in omega (arith, near))
        h.size a.commit d.mark.commit least numbers
        (some_same least _ (sym least_is ∙ least_sought all not_passed ∙ met.least)) listed)

    led_passed : GathersAll f g d new h → f.passed ≡ true → IsLed numbers
    led_passed all is =
        let fits = passed_fits is in
        let behind_all : behind true f.place ≡ Some offset = ap (λ (b : Bool). behind b f.place) (sym is) ∙ behind_is in
        let zero : offset ≡ 0 = from_start f.place offset behind_all in
        record {
          follows = λ lost. follows_passed f.place offset log d.mark behind_all
              (subst (λ (b : Bool). IsLostAtMark b f.place log d.mark) is lost);
          start = length fits.entry.pages;
          since = upto;
          are_since = subst (λ (b : Bool). AreSince b f log h d.mark (length fits.entry.pages) upto) (sym is)
              (fits.pages, refl);
          wanted = are_wanted h g.newer.offsets 32 offset [] upto all.offsets (omega (arith, zero))
              (λ p at found. nothing_before p at 32 found) h.size (length fits.entry.pages) d.mark.commit least numbers
              (some_same least _ (sym least_is ∙ least_passed all is)) listed;
        }

    led_in_all : GathersAll f g d new h → (b : Bool) → f.passed ≡ b → IsLed numbers
    led_in_all all true is = led_passed all is
    led_in_all all false is = by (cases_met h f.place [] upto)
      where
        by : IsMet h f.place [] upto ⊎ IsUnmet h f.place [] upto → IsLed numbers
        by (inl met) = led_met all is
            (mark_met log h has.finds.accepted d.mark has.finds.is_mark f.place met)
        by (inr unmet) = absurd (some_none least (sym least_is ∙ least_sought all is ∙ unmet.least))

    led_since : (b : Bool) → GathersSince b f g d new h → IsLed numbers
    led_since true all = led_in_all all f.passed refl
    led_since false behind_it = led_behind behind_it

  pub is_led : (numbers : List ℕ) → IsAsked g d h.size (Listed numbers) → IsLed numbers
  is_led numbers asked = led_since numbers asked.0 asked.1 asked.2 (offset_of asked.1 asked.3) asked.4 g.fresh has.since

  -- ---- the answers

  pub answers_sizes : (size : ℕ) → d.size ≢ size → Answers f (Err (SizesDiffer size d.size)) old new
  answers_sizes size differ = record {
    h = h;
    q = d.mark;
    finds = has.finds;
    is_wal = sym has.size;
    differ = λ same. differ (sym same);
  }

  pub answers_large : (size n : ℕ) → d.size ≡ size → n ≡ d.mark.commit * size → database_limit < n
      → Answers f (Err (TooLarge n)) old new
  answers_large size n same is past = (
    past,
    inl (h, d.mark, has.finds, is ∙ ap (λ (s : ℕ). d.mark.commit * s) (sym same ∙ has.size)),
  )

  pub answers_same : g.place ≡ Some (place_of d.mark) → Answers f (Ok Same) old new
  answers_same is =
      let same = sym place_same ∙ is in
      inl (record {
        h = h;
        q = d.mark;
        finds = has.finds;
        follows = follows_mark f.passed f.place log d.mark d.mark has.finds.is_mark (omega arith) same;
        same = same;
      })

  pub answers_lost : (size : ℕ) → d.size ≡ size → d.mark.commit * size ≤ database_limit → IsAsked g d size All
      → Answers f (Ok (Lost (record { size = size; place = place_of d.mark; commit = d.mark.commit; wanted = All })))
      old new
  answers_lost size same bound asked = (
    inl (record {
      h = h;
      q = d.mark;
      finds = has.finds;
      describes = record { size = sym same ∙ has.size; place = refl; commit = refl };
      lost = is_lost size asked;
    }),
    refl,
    bound,
  )

  pub answers_led : (size : ℕ) (numbers : List ℕ) → d.size ≡ size → d.mark.commit * size ≤ database_limit
      → g.place ≢ Some (place_of d.mark) → IsAsked g d size (Listed numbers)
      → Answers f (Ok (Piece (record {
        size = size;
        place = place_of d.mark;
        commit = d.mark.commit;
        wanted = Listed numbers;
      }))) old new
  answers_led size numbers same bound later asked =
      let led = is_led numbers (subst (λ (s : ℕ). IsAsked g d s (Listed numbers)) (sym same ∙ has.size) asked) in (
        record {
          h = h;
          q = d.mark;
          finds = has.finds;
          describes = record { size = sym same ∙ has.size; place = refl; commit = refl };
          follows = led.follows;
          later = λ is. later (place_same ∙ is);
          start = led.start;
          since = led.since;
          are_since = led.are_since;
          numbers = numbers;
          listed = refl;
          wanted = led.wanted;
        },
        bound,
      )
