use Rattle.std.proofs.Common.{rules, ◌≡◌, ◌∙◌, ◌+◌, ◌-◌, ◌≤◌, length, take, Ok, refl, sym, ap, subst, arith}
use Rattle.std.proofs.lemmas.List.{append-nil}
use Rattle.std.proofs.lemmas.Slice.{take-put_mid}
use borrow.Rule.Slice.PartMut.{put_mid}
use Rattle.live_gate.specs.LiveCalls.{Reads}
use Rattle.snapshot_read.proofs.TellLemmas.{goes_then, goes_weaker, keeps_then}
use Rattle.snapshot_read.proofs.ReadLemmas.{front_more}
use Rattle.wal_follow.specs.LogReading.{HasRead}
use Rattle.wal_follow.proofs.ReadLemmas.{filled_more, awake_now, filled_failed, filled_ended, filled_whole}
use Rattle.wal_follow.proofs.reading.fill.Goals as goal

pub loop-filled-preserved : goal.loop-filled-preserved
loop-filled-preserved g c =
    let into = c.loop-filled.into in
    let filled = c.loop-filled.filled in
    let count = c.in_ok-count.count in
    let part = c.read.new.into in
    let fits = c.loop-filled.invariant.1 in
    let room : length part ≡ length into - filled = search rules in
    let few : count ≤ length part = omega (arith, c.in_ok-count.ensures.bound, room) in
    let whole = take-put_mid filled (length into - filled) into part (filled + length part) (omega arith) fits in
    let front = front_more filled count into part _ fits few whole in (
      goes_then _ _ _ _ _ _ c.loop-filled.invariant.0 c.in_ok-count.ensures.told (λ x y z so_far reads. (
        subst (λ got. HasRead got x z) (sym front) (filled_more
            (take filled into) part count x y z so_far.0 reads),
        λ some. awake_now
            (take filled into) part count x y z so_far.0 reads,
      )),
      search rules,
      search rules,
      keeps_then _ _ _ _ _ _ c.loop-filled.invariant.3 c.in_ok-count.ensures.keeps,
      omega (arith, c.loop-filled.invariant.4, c.in_ok-count.ensures.cause.later),
    )

pub returns-in_err-count-clause-told : goal.returns-in_err-count-clause-told
returns-in_err-count-clause-told g c =
    let filled = c.loop-filled.filled in
    let into = c.loop-filled.into in
    goes_then _ _ _ _ _ _ c.loop-filled.invariant.0 c.in_err-count.ensures.told (λ x y z so_far reads.
    filled_failed _ c.in_err-count.field-0.0 (take filled into) _ c.read.new.into x y z (search rules)
    (search rules) so_far.0 reads)

pub returns-then-count-eq0-clause-told : goal.returns-then-count-eq0-clause-told
returns-then-count-eq0-clause-told g c =
    let into = c.loop-filled.into in
    let filled = c.loop-filled.filled in
    let part = c.read.new.into in
    let fits = c.loop-filled.invariant.1 in
    let room : length part ≡ length into - filled = search rules in
    let whole = take-put_mid filled (length into - filled) into part (filled + length part) (omega arith) fits in
    let front = front_more filled 0 into part (put_mid filled (length into - filled) into part) fits
    (omega arith) whole in
    let same : filled ≡ filled + 0 = omega arith in
    goes_then _ _ _ _ _ _ c.loop-filled.invariant.0 c.in_ok-count.ensures.told (λ x y z so_far reads.
    filled_ended filled (take filled into) (take filled into) _ part x y z so_far.0 (subst (λ n. Reads
    (Ok n) part y z) (search rules) reads) refl (ap (λ n. take n (put_mid filled
    (length into - filled) into part)) same ∙ front ∙ append-nil (take filled into)) (search rules))

pub returns-clause-told : goal.returns-clause-told
returns-clause-told g c =
    goes_weaker _ _ _ _ c.loop-filled.invariant.0 (λ x y so_far. filled_whole c.loop-filled.filled c.loop-filled.into
    x y so_far.0 so_far.1 (search rules))
