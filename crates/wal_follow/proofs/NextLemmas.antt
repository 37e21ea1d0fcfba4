-- What each step of the follower keeps.
use Rattle.std.specs.Prelude.{if◌then◌else◌}
use Rattle.std.proofs.Common.{◌≡◌, ℕ, ◌≤◌, Bool, true, false, Option, Some, None, Result, Ok, Err}
use Rattle.std.proofs.Common.{refl, sym, ap, subst, ◌∙◌, arith}
use Rattle.ls_base.specs.declared.place.Place.{Place}
use Rattle.live_gate.specs.declared.fault.LiveFault.{LiveFault}
use Rattle.snapshot_read.specs.Offsets.{AreWithinLimit}
use Rattle.snapshot_read.specs.PageOffsets.{Offsets}
use Rattle.wal_frames.specs.Scanned.{Scanned}
use Rattle.wal_follow.specs.declared.fault.FollowFault.{FollowFault}
use Rattle.wal_follow.specs.declared.following.Following.{Following}
use Rattle.wal_follow.specs.declared.gathering.Gathering.{Gathering}
use Rattle.wal_follow.specs.Gathering.{Begins, KeepsBase}
use Rattle.wal_follow.specs.Gathers.{KeepsPlaces, IsHeadAnswer, IsGatherAnswer}
use Rattle.wal_follow.specs.declared.fault.FollowFault.TheVariants.{Header, SizesDiffer, WalTooLong, TooLarge}
use Rattle.wal_follow.specs.declared.fault.FollowFault.TheVariants.{GateBroken, Live, Memory}
use Rattle.wal_follow.specs.declared.answer.Next.TheVariants.{Same}
use Rattle.wal_follow.specs.Calls.{FollowHasCause, KnowsPlace, Learns}
use Rattle.wal_follow.proofs.KeptLemmas.{none_within}

-- a fault that rose since a later moment rose since an earlier one
pub cause_then : {T : Type 0} (result : Result T FollowFault) (before mid now : ℕ) → before ≤ mid
    → FollowHasCause mid now result → FollowHasCause before now result
cause_then result before mid now first cause = record {
  later = omega (arith, first, cause.later);
  rose = λ fault is. let rose = cause.rose fault is in record { least = omega (arith, first, rose.least) };
}

-- what was gathered since nothing was is near
pub gathered_within : (g after : Gathering) (scan : Scanned) (place : Option Place) (least : Option ℕ)
    → Begins g scan place least → KeepsBase g after → AreWithinLimit 65536 after.newer.offsets
gathered_within g after scan place least begins base = base.within (none_within 65536 g.newer.offsets begins.newer)

some_scan : {s : Scanned} → ◌≡◌ {A = Option Scanned} (Some s) None → ⊥
some_scan e = cc

-- what was gathered is taken over
pub takes_over : (old new : Following) (g : Gathering) (fresh : Bool)
    → new ≡ record old { scan = Some g.scan; newer = g.newer; fresh = fresh }
    → AreWithinLimit 65536 g.newer.offsets → KeepsPlaces old new
takes_over old new g fresh is within = record {
  only = is ∙ sym (ap (λ (f : Following). record old { scan = f.scan; newer = f.newer; fresh = f.fresh }) is);
  scan = λ none. absurd (some_scan (sym (ap (λ (f : Following). f.scan) is) ∙ none));
  within = λ was. subst (λ (m : Offsets). AreWithinLimit 65536 m)
      (sym (ap (λ (f : Following). f.newer.offsets) is)) within;
}

-- why the header couldn't be read is why nothing was gathered
pub gather_fault : (after : Following) (fault : FollowFault) → IsHeadAnswer (Err fault)
    → IsGatherAnswer after (Err fault)
gather_fault after (Live fault) is = tt
gather_fault after Memory is = absurd is
gather_fault after (Header fault) is = absurd is
gather_fault after (WalTooLong n) is = absurd is
gather_fault after (SizesDiffer db wal) is = absurd is
gather_fault after (TooLarge n) is = absurd is
gather_fault after (GateBroken broken) is = absurd is

pub cause_ok : {T : Type 0} (value : T) (before now : ℕ) → before ≤ now → FollowHasCause before now (Ok value)
cause_ok value before now later = record { later = later; rose = λ fault is. absurd cc }

-- a fault that is handed on has the cause that it had
pub cause_err : {S T : Type 0} (first : Result S FollowFault) (second : Result T FollowFault) (e : FollowFault)
    (before now : ℕ) → first ≡ Err e → second ≡ Err e → FollowHasCause before now first
    → FollowHasCause before now second
cause_err {S} {T} first second e before now one two cause = record {
  later = cause.later;
  rose = λ fault is. cause.rose fault (one ∙ ap (λ (x : FollowFault). Err x) (same fault (sym two ∙ is)));
}
  where
    same : (fault : LiveFault) → ◌≡◌ {A = Result T FollowFault} (Err e) (Err (Live fault)) → e ≡ Live fault
    same fault is = cc

-- ---- the same place again

-- a follower that found its own place learns how many pages the state there has
module _ (f after : Following) (size : Option ℕ) (commit : ℕ) (place : Place) (here : f.place ≡ Some place)
    (is : after ≡ record f { size = size; pages = if f.passed then f.pages else Some commit }) where
  pages_by : (passed : Bool) → passed ≡ false → (if passed then f.pages else Some commit) ≡ Some commit
  pages_by false stays = refl
  pages_by true stays = absurd cc

  knows : KnowsPlace after
  knows = record {
    place = place;
    is_place = ap (λ (k : Following). k.place) is ∙ here;
    pages = λ stays log. (
      commit,
      ap (λ (k : Following). k.pages) is
          ∙ pages_by f.passed (sym (ap (λ (k : Following). k.passed) is) ∙ stays),
    );
  }

  pub learns_same : f.found ≡ None → Learns (Ok Same) f after
  learns_same none = record {
    keeps = record {
      place = ap (λ (k : Following). k.place) is;
      recorded = ap (λ (k : Following). k.recorded) is;
      passed = ap (λ (k : Following). k.passed) is;
      kept = ap (λ (k : Following). k.kept.offsets) is;
    };
    found = ap (λ (k : Following). k.found) is ∙ none;
    none = tt;
    size = tt;
    pages = tt;
    same = λ e. knows;
  }
