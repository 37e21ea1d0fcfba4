use Rattle.std.proofs.Common.{rules, ◌≡◌, ◌∙◌, ◌++◌, ◌≤◌, List, ℕ, length, take, drop, Ok, ap, subst, refl, arith}
use Rattle.std.proofs.lemmas.List.{take-append-le, length-take}
use Rattle.live_gate.specs.LiveCalls.{Reads}
use Rattle.snapshot_read.proofs.TellLemmas.{goes_then, goes_weaker, goes_nowhere, keeps_then, err_of}
use Rattle.wal_follow.specs.Gathering.{HasGathered}
use Rattle.wal_follow.proofs.ReadLemmas.{IsReadOn, read_begins, read_goes_on, read_stops, read_all, read_on_failed}
use Rattle.wal_follow.proofs.ReadLemmas.{read_starved}
use Rattle.wal_follow.proofs.reading.read_on.Goals as goal

pub loop-left-init : goal.loop-left-init
loop-left-init g c = record {
  told = goes_nowhere _ _ (λ x. read_begins c.args.left c.args.gathering.now x);
  few = omega arith;
  taken = refl;
  base = record { head = refl; place = refl; within = λ was. was };
  room = c.requires.room;
  keeps = record { attached = refl; there = refl };
  later = omega arith;
}

pub returns-in_err-count-clause-told : goal.returns-in_err-count-clause-told
returns-in_err-count-clause-told g c =
    goes_then _ _ _ _ _ _ c.loop-left.invariant.told c.in_err-count.ensures.told (λ x y z so_far reads.
    read_on_failed c.args.left c.loop-left.left _ _ c.in_err-count.field-0.0 c.read.new.into c.args.gathering.now
    c.loop-left.gathering c.loop-left.gathering x y z (err_of _ _ c.from_residual.ensures.1) so_far reads)

pub returns-then-count-eq0-clause-told : goal.returns-then-count-eq0-clause-told
returns-then-count-eq0-clause-told g c =
    goes_then _ _ _ _ _ _ c.loop-left.invariant.told c.in_ok-count.ensures.told (λ x y z so_far reads.
    read_stops c.args.left c.loop-left.left c.read.new.into c.args.gathering.now c.loop-left.gathering x y z
    so_far (subst (λ n. Reads (Ok n) c.read.new.into y z) (search rules) reads))

pub returns-in_err-take-clause-told : goal.returns-in_err-take-clause-told
returns-in_err-take-clause-told g c =
    goes_then _ _ _ _ _ _ c.loop-left.invariant.told c.in_ok-count.ensures.told (λ x y z so_far reads.
    read_starved c.args.left c.loop-left.left c.in_ok-count.count _ _ c.read.new.into c.args.gathering.now
    c.loop-left.gathering c.take.new.self x y z
    (err_of _ _ c.from_residual-in_err-take.ensures.1) so_far reads (search rules) (search rules))

pub loop-left-preserved : goal.loop-left-preserved
loop-left-preserved g c =
    let count = c.in_ok-count.count in
    let part = c.read.new.into in
    let few : count ≤ length part = search rules in
    let within : count ≤ c.loop-left.left = search rules in
    let same : take count (part ++ drop c.min-room.result c.loop-left.buffer) ≡ take count part = take-append-le count
    part (drop c.min-room.result c.loop-left.buffer) few in
    record {
      told = goes_then _ _ _ _ _ _ c.loop-left.invariant.told c.in_ok-count.ensures.told (λ x y z so_far reads.
          read_goes_on c.args.left c.loop-left.left count part c.args.gathering.now c.loop-left.gathering
          c.take.new.self x y z so_far reads few within (λ base initial log was.
          subst (λ (l : List ℕ). HasGathered base initial c.take.new.self (log ++ l)) same
          (c.in_ok-take.ensures.gathers base initial log was)));
      few = omega (arith, c.loop-left.invariant.few);
      taken = omega (
        arith,
        c.loop-left.invariant.taken,
        c.in_ok-take.ensures.taken,
        within,
        few,
        ap length same,
        length-take count part,
      );
      base = record {
        head = c.take.ensures.keeps.head
            ∙ c.loop-left.invariant.base.head;
        place = c.take.ensures.keeps.place
            ∙ c.loop-left.invariant.base.place;
        within = λ was. c.take.ensures.keeps.within
            (c.loop-left.invariant.base.within was);
      };
      room = search rules;
      keeps = keeps_then _ _ _ _ _ _ c.loop-left.invariant.keeps c.in_ok-count.ensures.keeps;
      later = omega (arith, c.loop-left.invariant.later, c.in_ok-count.ensures.cause.later);
    }

pub returns-clause-told : goal.returns-clause-told
returns-clause-told g c =
    goes_weaker _ _ _ _ c.loop-left.invariant.told (λ x y so_far. read_all c.args.left c.args.gathering.now
    c.loop-left.gathering x y (subst (λ n. IsReadOn c.args.left n c.args.gathering.now c.loop-left.gathering x y)
    (search rules) so_far))
