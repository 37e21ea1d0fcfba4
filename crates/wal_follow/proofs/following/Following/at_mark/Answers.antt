use Rattle.std.proofs.Common.{rules, ◌≡◌, ◌∙◌, ◌*◌, ◌≤◌, ℕ, Bool, true, false, Some, Ok, Err, Result, refl, sym, ap}
use Rattle.std.proofs.Common.{subst}
use Rattle.std.specs.Prelude.{◌≢◌}
use Rattle.ls_base.specs.Limits.{database_limit}
use Rattle.ls_base.specs.declared.place.Place.{Place}
use Rattle.wal_frames.specs.Marks.{place_of}
use Rattle.wal_follow.specs.AtMark.{FollowsMark}
use Rattle.wal_follow.specs.declared.answer.Next.{Next}
use Rattle.wal_follow.specs.declared.fault.FollowFault.{FollowFault}
use Rattle.wal_follow.specs.declared.fault.FollowFault.TheVariants.{SizesDiffer}
use Rattle.wal_follow.specs.Gathering.{is_place}
use Rattle.wal_follow.specs.Steps.{next_of}
use Rattle.wal_follow.proofs.SinceLemmas.{place_found, place_itself}
use Rattle.wal_follow.proofs.AtMarkLemmas.{refuses_sizes, refuses_large, refuses_memory, stays_there, finds_mark}
use Rattle.wal_follow.proofs.NextLemmas.{learns_same}
use Rattle.snapshot_read.proofs.TellLemmas.{err_of}
use Rattle.wal_follow.proofs.following.Following.at_mark.Goals as goal

pub returns-then-ne-clause-told : goal.returns-then-ne-clause-told
returns-then-ne-clause-told c =
    let g = c.args.self.now in
    let d = c.args.at.now in
    let differ : d.size ≢ c.args.size = search rules in
    let db : c.args.size ≡ c.get.result = search rules in
    let wal : d.size ≡ c.get-then-ne.result = search rules in
    subst (λ (result : Result Next FollowFault). FollowsMark g g d result)
    (ap (λ (n : ℕ). Err (SizesDiffer n d.size)) db ∙ ap (λ (n : ℕ). Err (SizesDiffer c.get.result n)) wal)
    (refuses_sizes g d c.args.size c.requires.none differ)

pub returns-in_err-check_bytes-clause-told : goal.returns-in_err-check_bytes-clause-told
returns-in_err-check_bytes-clause-told c =
    let g = c.args.self.now in
    let d = c.args.at.now in
    let same : d.size ≡ c.args.size = search rules in
    let bytes : c.get-2.result ≡ c.args.size = c.get-2.ensures.value in
    let n = d.mark.commit * c.get-2.result in
    subst (λ (result : Result Next FollowFault). FollowsMark g g d result)
    (ap (λ (fault : FollowFault). Err fault) (sym c.in_err-check_bytes.ensures.large.0)
    ∙ sym (err_of _ _ c.from_residual.ensures.1))
    (refuses_large g d c.args.size n c.requires.none same (ap (λ (s : ℕ). d.mark.commit * s) bytes)
    c.in_err-check_bytes.ensures.large.1)

pub returns-then-is_at-clause-told : goal.returns-then-is_at-clause-told
returns-then-is_at-clause-told c =
    let g = c.args.self.now in
    let d = c.args.at.now in
    let place : c.place_of-place.result ≡ place_of d.mark = c.place_of-place.ensures in
    let here : g.place ≡ Some (place_of d.mark) =
    place_found g.place (place_of d.mark) (ap (is_place g.place) (sym place) ∙ sym c.is_at.ensures ∙ c.if-is_at.true) in
    stays_there g c.learn.new.self d (Some c.args.size) c.requires.none here c.learn.ensures

pub returns-then-is_at-clause-learns : goal.returns-then-is_at-clause-learns
returns-then-is_at-clause-learns c =
    let g = c.args.self.now in
    let d = c.args.at.now in
    let place : c.place_of-place.result ≡ place_of d.mark = c.place_of-place.ensures in
    let here : g.place ≡ Some (place_of d.mark) =
    place_found g.place (place_of d.mark) (ap (is_place g.place) (sym place) ∙ sym c.is_at.ensures ∙ c.if-is_at.true) in
    learns_same g c.learn.new.self (Some c.args.size) d.mark.commit (place_of d.mark) here c.learn.ensures
    c.requires.none

pub returns-in_err-reserve-clause-told : goal.returns-in_err-reserve-clause-told
returns-in_err-reserve-clause-told c =
    let g = c.args.self.now in
    let d = c.args.at.now in
    subst (λ (result : Result Next FollowFault). FollowsMark g (record g { kept = c.reserve.new.self }) d result)
    (sym (err_of _ _ c.from_residual-in_err-reserve.ensures.1))
    (refuses_memory g (record g { kept = c.reserve.new.self }) d c.requires.none refl c.in_err-reserve.ensures.offsets)

pub returns-in_err-wanted-clause-told : goal.returns-in_err-wanted-clause-told
returns-in_err-wanted-clause-told c =
    let g = c.args.self.now in
    let d = c.args.at.now in
    subst (λ (result : Result Next FollowFault). FollowsMark g (record g { kept = c.reserve.new.self }) d result)
    (sym (err_of _ _ c.from_residual-in_err-wanted.ensures.1))
    (refuses_memory g (record g { kept = c.reserve.new.self }) d c.requires.none refl c.in_ok-reserve.ensures.offsets)

pub returns-clause-told : goal.returns-clause-told
returns-clause-told c =
    let g = c.args.self.now in
    let d = c.args.at.now in
    let kept = c.reserve.new.self in
    let wanted = c.in_ok-wanted.wanted in
    let same : d.size ≡ c.args.size = search rules in
    let bytes : c.get-2.result ≡ c.args.size = c.get-2.ensures.value in
    let bound : d.mark.commit * c.args.size ≤ database_limit =
    subst (λ (s : ℕ). d.mark.commit * s ≤ database_limit) bytes c.in_ok-check_bytes.ensures.ok in
    let place : c.place_of-place.result ≡ place_of d.mark = c.place_of-place.ensures in
    let later : g.place ≢ Some (place_of d.mark) =
    λ here. both (sym (place_itself g.place (place_of d.mark) here) ∙ ap (is_place g.place) (sym place)
    ∙ sym c.is_at.ensures ∙ c.if-is_at.false) in
    subst (λ (result : Result Next FollowFault). FollowsMark g c.answer.new.self d result)
    (ap (λ (p : Place). Ok (next_of c.args.size p d.mark.commit wanted)) (sym place)
    ∙ ap (λ (n : Next). Ok n) (sym c.answer.ensures.value))
    (finds_mark g c.answer.new.self kept d c.args.size wanted same bound later
    c.in_ok-reserve.ensures.offsets c.in_ok-wanted.ensures
    (c.answer.ensures.keeps ∙ ap (λ (p : Place). record g {
      kept = kept;
      size = Some c.args.size;
      found = Some (record { size = c.args.size; place = p; commit = d.mark.commit });
    }) place))
  where
    both : ◌≡◌ {A = Bool} true false → ⊥
    both e = cc
