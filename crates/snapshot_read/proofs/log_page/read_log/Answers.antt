use Rattle.std.proofs.Common.{rules, ◌≡◌, ◌+◌, ◌-◌, ◌≤◌, length, take, Ok, sym, subst, arith}
use Rattle.std.proofs.lemmas.List.{length-take-le, take_all}
use Rattle.std.proofs.lemmas.Slice.{take-put_mid}
use Rattle.live_gate.specs.LiveCalls.{Reads}
use Rattle.snapshot_read.proofs.TellLemmas.{goes_then, goes_weaker, keeps_then, err_of}
use Rattle.snapshot_read.proofs.ReadLemmas.{IsReading, begin, more, front_more, read_failed, ended, filled_whole}
use Rattle.snapshot_read.proofs.log_page.read_log.Goals as goal

pub loop-filled-init : goal.loop-filled-init
loop-filled-init g c = record {
  fits = omega arith;
  told = goes_weaker _ _ _ _ c.in_ok-aim.ensures.told (λ x y aims. begin c.args.at (length c.args.into.now) x y aims);
  keeps = c.in_ok-aim.ensures.keeps;
  later = c.in_ok-aim.ensures.cause.later;
}

pub loop-filled-preserved : goal.loop-filled-preserved
loop-filled-preserved g c =
    let into = c.loop-filled.into in
    let filled = c.loop-filled.filled in
    let count = c.in_ok-count.count in
    let part = c.read.new.into in
    let long : length into ≡ length c.args.into.now = search rules in
    let room : length part ≡ length into - filled = search rules in
    let few : count ≤ length part = omega (arith, c.in_ok-count.ensures.bound, room) in
    let fits = c.loop-filled.invariant.fits in
    let whole = take-put_mid filled (length into - filled) into part (filled + length part) (omega arith) fits in
    let front = front_more filled count into part _ fits few whole in
    let within : length (take filled into) + length (take count part) ≤ length c.args.into.now =
    omega (arith, length-take-le filled into fits, length-take-le count part few, long, few, room, fits) in
    record {
      fits = search rules;
      told = goes_then _ _ _ _ _ _ c.loop-filled.invariant.told c.in_ok-count.ensures.told (λ x y z so_far reads.
          subst (λ got. IsReading c.args.at (length c.args.into.now) got x z) (sym front)
          (more c.args.at (length c.args.into.now) (take filled into) x y z so_far count part reads within));
      keeps = keeps_then _ _ _ _ _ _ c.loop-filled.invariant.keeps c.in_ok-count.ensures.keeps;
      later = omega (arith, c.loop-filled.invariant.later, c.in_ok-count.ensures.cause.later);
    }

pub returns-in_err-count-clause-told : goal.returns-in_err-count-clause-told
returns-in_err-count-clause-told g c =
    goes_then _ _ _ _ _ _ c.loop-filled.invariant.told c.in_err-count.ensures.told (λ x y z so_far reads.
    read_failed c.args.at (length c.args.into.now)
    (take c.loop-filled.filled c.loop-filled.into) _ c.in_err-count.field-0.0 _ c.read.new.into x y z
    (err_of _ _ c.from_residual-in_err-count.ensures.1) so_far reads)

pub returns-then-count-eq0-clause-told : goal.returns-then-count-eq0-clause-told
returns-then-count-eq0-clause-told g c =
    let into = c.loop-filled.into in
    let filled = c.loop-filled.filled in
    let front : length (take filled into) ≡ filled = length-take-le filled into c.loop-filled.invariant.fits in
    goes_then _ _ _ _ _ _ c.loop-filled.invariant.told c.in_ok-count.ensures.told (λ x y z so_far reads.
    ended c.args.at (length c.args.into.now) (c.args.at + filled) (take filled into) _ c.read.new.into x y z so_far
    (subst (λ n. Reads (Ok n) c.read.new.into y z) (search rules) reads) (search rules) (search rules)
    (omega (arith, front)))

pub returns-clause-told : goal.returns-clause-told
returns-clause-told g c =
    let into = c.loop-filled.into in
    goes_weaker _ _ _ _ c.loop-filled.invariant.told (λ x y so_far.
    filled_whole c.args.at (length c.args.into.now) (take c.loop-filled.filled into) into x y so_far
    (take_all c.loop-filled.filled into (search rules)) (search rules))
