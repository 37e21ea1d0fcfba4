use Rattle.std.proofs.Common.{rules, get_or, arith}
use Rattle.std.proofs.lemmas.Bool.{ltb-true, ltb-false}
use Rattle.std.proofs.lemmas.List.Sorted.{IsPartitionPoint-from_clause, IsPartitionedBy-ltb}
use Rattle.std.specs.Prelude.{nat_lt}
use Rattle.std.proofs.lemmas.List.{get_or_read}
use Rattle.retention.proofs.SweepLemmas.{not_at_place, rises_by}
use Rattle.retention.proofs.retained.place_of.Goals as goal
use Rattle.retention.proofs.retained.place_of.Goals.{else-at-ts-via-then-at-ts+else-number, else-at-ts-via-else-at-ts}

pub returns-clause-none : goal.returns-clause-none
returns-clause-none c =
    let ts = c.args.ts.now in
    let t = c.args.t in
    let at = c.partition_point-at.result in
    let point = IsPartitionPoint-from_clause (λ n. nat_lt n t) ts at c.partition_point-at.ensures.partitioned
    (IsPartitionedBy-ltb (λ n. n) ts t (rises_by ts c.requires)) (λ a r q k. search rules) in
    not_at_place ts t at c.requires
    (λ k below. ltb-true (get_or ts k 0) t (point.0 k 0 (omega arith) below))
    (λ k from low. ltb-false (get_or ts k 0) t (point.1 k 0 from low))
    (λ low is. elim c.else-at-ts.branch [
      | else-at-ts-via-then-at-ts+else-number w ↦ let e = get_or_read ts at w.index-ts-at.result low w.index-ts-at.is
          0 in w.if-number.false (omega (arith, w.number.ensures.value, w.number-then-at-ts.ensures.value, e, is))
      | else-at-ts-via-else-at-ts w ↦ omega (arith, w.if-at-ts.false)
    ])
