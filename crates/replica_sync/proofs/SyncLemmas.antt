-- A sync, step by step.
use Rattle.std.proofs.Common.{◌≡◌, ℕ, ◌<◌, ◌≤◌, Bool, true, false, List, Option, Some, None, Result, Ok, Err, refl, sym}
use Rattle.std.proofs.Common.{ap, subst, ◌∙◌, ⊎_elim, arith}
use Rattle.std.specs.Prelude.{◌≢◌, IsOk}
use Rattle.crash_disk.specs.declared.fault.DiskFault.{DiskFault}
use Rattle.ls_base.specs.declared.mark.Mark.{Mark}
use Rattle.ls_base.specs.declared.place.Place.{Place}
use Rattle.ls_base.specs.declared.place.Place.TheVariants.{Wal, Rest}
use Rattle.wal_frames.specs.Marks.{place_of, IsMark}
use Rattle.live_gate.specs.declared.fault.LiveFault.{LiveFault}
use Rattle.live_gate.specs.LiveRecord.{Database, LiveRecord}
use Rattle.live_gate.specs.Legal.{IsLegal}
use Rattle.live_gate.proofs.StepLemmas.{step_itself, step_join}
use Rattle.replica_store.specs.declared.dated_names.Dated.{Dated}
use Rattle.replica_store.specs.declared.file_name.FileName.{FileName}
use Rattle.wal_follow.specs.declared.answer.Found.{Found}
use Rattle.wal_follow.specs.declared.answer.Next.{Next}
use Rattle.wal_follow.specs.declared.answer.Next.TheVariants as next
use Rattle.wal_follow.specs.declared.answer.Wanted.{Wanted}
use Rattle.wal_follow.specs.declared.answer.Wanted.TheVariants.{All, Listed}
use Rattle.wal_follow.specs.declared.fault.FollowFault.{FollowFault}
use Rattle.wal_follow.specs.declared.fault.FollowFault.TheVariants.{Header, SizesDiffer, WalTooLong, TooLarge}
use Rattle.wal_follow.specs.declared.fault.FollowFault.TheVariants.{GateBroken, Live, Memory}
use Rattle.wal_follow.specs.declared.following.Following.{Following}
use Rattle.wal_follow.specs.declared.following.Target.{Target}
use Rattle.wal_follow.specs.Following.{Fits, FitsFoundMark, FitsFoundRest, FitsTarget}
use Rattle.wal_follow.specs.Calls.{Follows, FollowHasCause, NeverBroken, target_of}
use Rattle.wal_follow.specs.Answers.{StaysAtMark, StaysAtRest, IsLostAtRest}
use Rattle.wal_follow.proofs.ReadLemmas.{keeps_hold}
use Rattle.wal_frames.specs.View.{rest_place}
use Rattle.live_gate.specs.Step.{IsWriterStep}
use Rattle.std.proofs.lemmas.Bool.{cases_lt}
use Rattle.round_line.specs.declared.round.Synced.{Synced}
use Rattle.round_line.specs.declared.round.Synced.TheVariants.{Same}
use Rattle.replica_sync.specs.declared.answer.SyncFault.{SyncFault}
use Rattle.replica_sync.specs.declared.answer.SyncFault.TheVariants.{Follow, TxidSpent, Store, Memory as want}
use Rattle.replica_sync.specs.Answers.{IsNamed, IsNextAnswer, HasCauses, last_txid}
use Rattle.replica_sync.specs.LiveSide.{HasFollowed, Shows, MayAdvanceTo, Syncs, StoresLive, IsPiece, IsWhole, found_of}
use Rattle.replica_sync.specs.Newest.{newest_of}
use Rattle.replica_sync.specs.Reading.{ReadsFound, ConfirmsFound, IsStoreFault}
use Rattle.replica_sync.specs.Storing.{IsNextName, synced_of}
use Rattle.replica_sync.proofs.ReadingLemmas.{passes_join}

same_err : {T : Type 0} (a b : SyncFault) → ◌≡◌ {A = Result T SyncFault} (Err a) (Err b) → a ≡ b
same_err a b e = cc

err_is_ok : (T : Type 0) (e : SyncFault) → IsOk {T = T} {E = SyncFault} (Err e) → ⊥
err_is_ok T e ok = let is : false ≡ true = ok in cc

-- ---- causes

-- what is neither a fault of the live database nor of the store blames nobody
pub blames_none : {T : Type 0} (result : Result T SyncFault) (e : SyncFault) (live store : ℕ) → result ≡ Err e
    → ((fault : LiveFault) → e ≡ Follow (Live fault) → ⊥) → ((fault : DiskFault) → e ≡ Store fault → ⊥)
    → HasCauses live live store store result
blames_none result e live store was no_live no_store = record {
  live_later = omega arith;
  store_later = omega arith;
  live_rose = λ fault same. absurd (no_live fault (same_err e (Follow (Live fault)) (sym was ∙ same)));
  store_rose = λ fault same. absurd (no_store fault (same_err e (Store fault) (sym was ∙ same)));
}

-- a refusal that is handed on has the cause that it had
pub recast : {S T : Type 0} (result : Result T SyncFault) (e : SyncFault) (live_old live_new old new : ℕ)
    → result ≡ Err e → HasCauses {T = S} live_old live_new old new (Err e) → HasCauses live_old live_new old new result
recast {S} result e live_old live_new old new was causes = record {
  live_later = causes.live_later;
  store_later = causes.store_later;
  live_rose = λ fault same. causes.live_rose fault
      (ap (λ (x : SyncFault). Err x) (same_err e (Follow (Live fault)) (sym was ∙ same)));
  store_rose = λ fault same. causes.store_rose fault
      (ap (λ (x : SyncFault). Err x) (same_err e (Store fault) (sym was ∙ same)));
}

pub later_recast : {S T : Type 0} (result : Result T SyncFault) (e : SyncFault) (live_old live_mid live_new old new : ℕ)
    → result ≡ Err e → live_old ≤ live_mid → HasCauses {T = S} live_mid live_new old new (Err e)
    → HasCauses live_old live_new old new result
later_recast {S} result e live_old live_mid live_new old new was later causes = record {
  live_later = omega (arith, later, causes.live_later);
  store_later = causes.store_later;
  live_rose = λ fault same.
      let rose = causes.live_rose fault
      (ap (λ (x : SyncFault). Err x) (same_err e (Follow (Live fault)) (sym was ∙ same))) in
      record { least = omega (arith, later, rose.least) };
  store_rose = λ fault same. causes.store_rose fault
      (ap (λ (x : SyncFault). Err x) (same_err e (Store fault) (sym was ∙ same)));
}

pub all_well : {T : Type 0} (value : T) (live_old live_new old new : ℕ) → live_old ≤ live_new → old ≤ new
    → HasCauses live_old live_new old new (Ok value)
all_well value live_old live_new old new live store = record {
  live_later = live;
  store_later = store;
  live_rose = λ fault same. absurd cc;
  store_rose = λ fault same. absurd cc;
}

pub follow_causes : {S T : Type 0} (result : Result T SyncFault) (first : Result S FollowFault) (fault : FollowFault)
    (live_old live_new store : ℕ) → result ≡ Err (Follow fault) → first ≡ Err fault
    → FollowHasCause live_old live_new first → HasCauses live_old live_new store store result
follow_causes {S} {T} result first fault live_old live_new store was is cause = record {
  live_later = cause.later;
  store_later = omega arith;
  live_rose = λ found same. cause.rose found (is ∙ ap (λ (x : FollowFault). Err x) (inner found (sym was ∙ same)));
  store_rose = λ found same. absurd (other found (sym was ∙ same));
}
  where
    inner : (found : LiveFault) → ◌≡◌ {A = Result T SyncFault} (Err (Follow fault)) (Err (Follow (Live found)))
        → fault ≡ Live found
    inner found e = cc

    other : (found : DiskFault) → ◌≡◌ {A = Result T SyncFault} (Err (Follow fault)) (Err (Store found)) → ⊥
    other found e = cc

-- ---- the hold

module _ (f : Following) (target : Target) (d : Database) (fits : Fits f d) (found : f.found ≡ Some target) where
  advances_at : (place : Place) → place ≡ target.place → MayAdvanceTo (Some place) d
  advances_at (Wal a b end s0 s1) is = λ calm.
      let m : FitsFoundMark f target d = subst (λ (p : Place). FitsTarget f target d p) (sym is)
      ((fits.calm calm).found target found) in
      let gate = fits.gate in
      let same : Wal a b end s0 s1 ≡ place_of m.mark = is ∙ m.place in
      let ends : end ≡ m.mark.end = wal_ends a b end s0 s1 m.mark same in
      let low = m.held gate.0 gate.1 in
      (gate.0, gate.1, omega (arith, low, ends), (m.mark, m.is_mark, sym ends))
    where
      wal_ends : (a b end s0 s1 : ℕ) (mark : Mark) → Wal a b end s0 s1 ≡ place_of mark → end ≡ mark.end
      wal_ends a b end s0 s1 mark e = cc
  advances_at (Rest sum) is = λ calm.
      let r : FitsFoundRest f target d = subst (λ (p : Place). FitsTarget f target d p) (sym is)
      ((fits.calm calm).found target found) in
      r.held

  pub may_advance : MayAdvanceTo (Some target.place) d
  may_advance = advances_at target.place refl

-- ---- storing

pub unstored : {T : Type 0} (f : Following) (place : Place) (result : Result T SyncFault) (e : SyncFault)
    (r : LiveRecord)
    → result ≡ Err e → ((fault : FollowFault) → e ≡ Follow fault → ⊥) → Fits f r.database
    → StoresLive f f place result r r
unstored {T} f place result e r was other fits =
    subst (λ (x : Result T SyncFault). StoresLive f f place x r r) (sym was) (record {
      step = step_itself r.database;
      awake = λ ok before. before;
      fits = λ legal awake. fits;
      hold = λ ok before. absurd (err_is_ok T e ok);
      broken = λ broken is. absurd (other (GateBroken broken) (same_err {T = T} e (Follow (GateBroken broken)) is));
      whole = λ broken is legal calm. other (GateBroken broken) (same_err {T = T} e (Follow (GateBroken broken)) is);
      passes = (refl, refl);
    })

pub not_stored : {T : Type 0} (f : Following) (place : Place) (result : Result T SyncFault) (e : SyncFault)
    (old new : LiveRecord)
    → result ≡ Err e → ReadsFound f place (Err e) old new → StoresLive f f place result old new
not_stored {T} f place result e old new was reads =
    subst (λ (x : Result T SyncFault). StoresLive f f place x old new) (sym was) (record {
      step = reads.step;
      awake = λ ok before. absurd (err_is_ok T e ok);
      fits = λ legal awake. reads.fits awake;
      hold = λ ok before. absurd (err_is_ok T e ok);
      broken = λ broken is. reads.broken broken
          (ap (λ (x : SyncFault). Err x) (same_err {T = T} e (Follow (GateBroken broken)) is));
      whole = λ broken is legal calm. reads.whole broken
          (ap (λ (x : SyncFault). Err x) (same_err {T = T} e (Follow (GateBroken broken)) is)) legal calm;
      passes = reads.passes;
    })

pub was_stored : (f after : Following) (found : Found) (name : FileName) (old new : LiveRecord)
    → f.found ≡ Some (target_of found)
    → ((d : Database) → IsLegal d → Fits f d → Fits after d) → ReadsFound f found.place (Ok tt) old new
    → StoresLive f after found.place (Ok name) old new
was_stored f after found name old new is_found stored reads = record {
  step = reads.step;
  awake = λ ok before. reads.awake refl before;
  fits = λ legal awake. stored new.database (reads.step.legal legal) (reads.fits awake);
  hold = λ ok before. may_advance f (target_of found) new.database (reads.fits (reads.awake refl before)) is_found;
  broken = λ broken is. absurd cc;
  whole = λ broken is legal calm. absurd cc;
  passes = reads.passes;
}

pub next_answer : {T : Type 0} (dated : List Dated) (result : Result T SyncFault) (e : SyncFault) → result ≡ Err e
    → IsStoreFault (Err e)
    → newest_of dated < last_txid → IsNextAnswer dated result
next_answer {T} dated result e was answer left = subst (λ (x : Result T SyncFault). IsNextAnswer dated x) (sym was)
    (by e answer)
  where
    by : (e : SyncFault) → IsStoreFault (Err e) → IsNextAnswer {T = T} dated (Err e)
    by (Store cause) answer = left
    by (Follow (GateBroken broken)) answer = left
    by (Follow (Live cause)) answer = tt
    by (Follow (Header cause)) answer = answer
    by (Follow (SizesDiffer db wal)) answer = answer
    by (Follow (WalTooLong n)) answer = answer
    by (Follow (TooLarge n)) answer = answer
    by (Follow Memory) answer = answer
    by TxidSpent answer = absurd answer
    by want answer = tt

-- ---- the names

pub named_follow : (dated : List Dated) (fault : FollowFault) → NeverBroken (Err fault)
    → IsNamed dated (Err (Follow fault))
named_follow dated (Header cause) never = tt
named_follow dated (SizesDiffer db wal) never = tt
named_follow dated (WalTooLong n) never = tt
named_follow dated (TooLarge n) never = tt
named_follow dated (GateBroken broken) never = absurd never
named_follow dated (Live cause) never = tt
named_follow dated Memory never = tt

pub named_refused : (dated : List Dated) (e : SyncFault) → IsNextAnswer {T = FileName} dated (Err e)
    → IsNamed dated (Err e)
named_refused dated TxidSpent answer = answer
named_refused dated (Store cause) answer = answer
named_refused dated (Follow (GateBroken broken)) answer = answer
named_refused dated (Follow (Live cause)) answer = tt
named_refused dated (Follow (Header cause)) answer = tt
named_refused dated (Follow (SizesDiffer db wal)) answer = tt
named_refused dated (Follow (WalTooLong n)) answer = tt
named_refused dated (Follow (TooLarge n)) answer = tt
named_refused dated (Follow Memory) answer = tt
named_refused dated want answer = tt

pub named_stored : (dated : List Dated) (wanted : Wanted) (name : FileName) → IsNextName dated wanted name
    → IsNamed dated (Ok (synced_of wanted name))
named_stored dated All name is = is
named_stored dated (Listed numbers) name is = is

-- ---- the live database

pub syncs_err : (f after : Following) (fault : FollowFault) (old new : LiveRecord) → NeverBroken (Err fault)
    → Follows f after (Err fault) old new → Syncs f after (Err (Follow fault)) old new
syncs_err f after fault old new never follows = record {
  step = follows.step;
  awake = λ ok. absurd (err_is_ok Synced (Follow fault) ok);
  fits = follows.fits;
  hold = λ legal ok. absurd (err_is_ok Synced (Follow fault) ok);
  shows = by fault never follows;
  passes = follows.passes;
}
  where
    by : (fault : FollowFault) → NeverBroken (Err fault) → Follows f after (Err fault) old new
        → Shows f after (Err (Follow fault)) old new
    by (Header cause) never follows = follows
    by (SizesDiffer db wal) never follows = follows
    by (WalTooLong n) never follows = follows
    by (TooLarge n) never follows = follows
    by (GateBroken broken) never follows = absurd never
    by (Live cause) never follows = tt
    by Memory never follows = tt

module _ (f kept after : Following) (answer : Next) (found : Found) (old mid new : LiveRecord)
    (first : Follows f kept (Ok answer) old mid)
    (is : found_of answer ≡ Some found) where
  abbrev followed : IsWriterStep mid.database new.database → HasFollowed f answer old new
  followed step = record { kept = kept; mid = mid; follows = first; on = step }

  not_same : answer ≢ next.Same
  not_same same = by (sym (ap found_of same) ∙ is)
    where
      by : ◌≡◌ {A = Option Found} None (Some found) → ⊥
      by e = cc

  pub syncs_refused : (dated : List Dated) (e : SyncFault) → IsNextAnswer {T = FileName} dated (Err e)
      → StoresLive {T = FileName} kept after found.place (Err e) mid new → Syncs f after (Err e) old new
  syncs_refused dated e refused second = record {
    step = step_join old.database mid.database new.database first.step second.step;
    awake = λ ok. absurd (err_is_ok Synced e ok);
    fits = λ legal awake. second.fits (first.step.legal legal) awake;
    hold = λ legal ok. absurd (err_is_ok Synced e ok);
    shows = by e refused second;
    passes = passes_join old.asked mid.asked new.asked first.passes second.passes;
  }
    where
      by : (e : SyncFault) → IsNextAnswer {T = FileName} dated (Err e)
          → StoresLive {T = FileName} kept after found.place (Err e) mid new
          → Shows f after (Err e) old new
      by TxidSpent refused second = record { answer = answer; some = not_same; followed = followed second.step }
      by (Store cause) refused second = record { answer = answer; some = not_same; followed = followed second.step }
      by (Follow (GateBroken broken)) refused second = record {
        found = record { answer = answer; some = not_same; followed = followed second.step };
        place = found.place;
        is = second.broken broken refl;
        never = λ legal calm. second.whole broken refl (first.step.legal legal) calm;
      }
      by (Follow (Live cause)) refused second = tt
      by (Follow Memory) refused second = absurd refused
      by (Follow (Header cause)) refused second = absurd refused
      by (Follow (SizesDiffer db wal)) refused second = absurd refused
      by (Follow (WalTooLong n)) refused second = absurd refused
      by (Follow (TooLarge n)) refused second = absurd refused
      by want refused second = tt

  pub syncs_stored : (name : FileName) → after.place ≡ Some found.place
      → StoresLive kept after found.place (Ok name) mid new → ConfirmsFound kept (target_of found) mid new
      → Syncs f after (Ok (synced_of found.wanted name)) old new
  syncs_stored name place second confirms = record {
    step = step_join old.database mid.database new.database first.step second.step;
    awake = λ ok. second.awake refl (first.awake refl);
    fits = λ legal awake. second.fits (first.step.legal legal) awake;
    hold = λ legal ok passed. subst (λ (p : Option Place). MayAdvanceTo p new.database) (sym place)
        (second.hold refl (first.awake refl));
    shows = by found.wanted refl;
    passes = passes_join old.asked mid.asked new.asked first.passes second.passes;
  }
    where
      by : (w : Wanted) → found.wanted ≡ w → Shows f after (Ok (synced_of w name)) old new
      by All kind = record {
        answer = answer;
        found = found;
        is = is;
        followed = followed second.step;
        confirmed = confirms;
        kind =
            subst IsWhole (sym kind) tt;
        place = place;
      }
      by (Listed numbers) kind = record {
        answer = answer;
        found = found;
        is = is;
        followed = followed second.step;
        confirmed = confirms;
        kind = subst IsPiece (sym kind)
            tt;
        place = place;
      }

-- ---- nothing changed

module _ (f after : Following) (old new : LiveRecord) (follows : Follows f after (Ok next.Same) old new)
    (legal : IsLegal old.database)
    (fits : Fits f old.database) (place : after.place ≡ f.place) (passed : after.passed ≡ f.passed) where
  held_now : (q : Mark) → ((m : Mark) → IsMark old.database.committed m → m.end ≤ q.end)
      → (held : ℕ) × (new.database.held ≡ Some held) × (held ≤ q.end)
  held_now q latest =
      let hold = keeps_hold old.database new.database fits.gate follows.step (follows.awake refl) in
      let may = legal.is_held fits.gate.0 fits.gate.1 in (
        fits.gate.0,
        hold.held,
        ⊎_elim
            (λ (some : 0 < fits.gate.0).
            let mark = (may.at_mark (λ none. omega (arith, some, none))).0 in
            let low = latest mark.0 mark.1 in
            omega (arith, low, mark.2))
            (λ (none : fits.gate.0 ≤ 0). omega (arith, none))
            (cases_lt 0 fits.gate.0),
      )

  at_place : (p : Option Place) → f.place ≡ p → f.passed ≡ false → MayAdvanceTo p new.database
  at_place None is still = tt
  at_place (Some (Wal a b end s0 s1)) is still = λ calm.
      ⊎_elim
      (λ (stays : StaysAtMark f old.database new.database).
      let same : end ≡ stays.q.end = mark_end a b end s0 s1 stays.q (sym is ∙ stays.same) in
      let held = held_now stays.q stays.finds.latest in
      (held.0, held.1, omega (arith, held.2, same), (stays.q, stays.finds.is_mark, sym same)))
      (λ (stays : StaysAtRest f old.database new.database).
      absurd (stays.follows (subst (λ (b : Bool). IsLostAtRest b f.place (rest_place stays.size new.database.file))
      (sym still)
      (subst (λ (p : Option Place). IsLostAtRest false p (rest_place stays.size new.database.file)) (sym is) refl))))
      (follows.answers legal calm)
    where
      mark_end : (a b end s0 s1 : ℕ) (q : Mark) → ◌≡◌ {A = Option Place} (Some (Wal a b end s0 s1))
          (Some (place_of q)) → end ≡ q.end
      mark_end a b end s0 s1 q e = cc
  at_place (Some (Rest sum)) is still = λ calm.
      ⊎_elim
      (λ (stays : StaysAtMark f old.database new.database). absurd (not_rest sum stays.q (sym is ∙ stays.same)))
      (λ (stays : StaysAtRest f old.database new.database). stays.finds.held)
      (follows.answers legal calm)
    where
      not_rest : (sum : ℕ) (q : Mark) → ◌≡◌ {A = Option Place} (Some (Rest sum)) (Some (place_of q)) → ⊥
      not_rest sum q e = cc

  pub syncs_same : Syncs f after (Ok Same) old new
  syncs_same = record {
    step = follows.step;
    awake = λ ok. follows.awake refl;
    fits = follows.fits;
    hold = λ also ok still. subst (λ (p : Option Place). MayAdvanceTo p new.database) (sym place)
        (at_place f.place refl (sym passed ∙ still));
    shows = follows;
    passes = follows.passes;
  }
