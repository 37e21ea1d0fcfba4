use Rattle.std.proofs.Common.{rules, ℕ, ltb, arith}
use Rattle.std.proofs.lemmas.Bool.{ltb-true, ltb-false}
use Rattle.std.proofs.lemmas.List.Sorted.{IsPartitionPoint-from_clause, IsPartitionedBy-ltb}
use Rattle.std.proofs.lemmas.Map.Keys.{non_decreasing_from_sorted, sorted_from_strictly_increasing}
use Rattle.ls_base.proofs.change_pages.rank.Goals as goal

pub returns-clause-below : goal.returns-clause-below
returns-clause-below c = λ j low.
    let parted = IsPartitionedBy-ltb (λ (n : ℕ). n) c.args.numbers.now c.args.number
    (non_decreasing_from_sorted c.args.numbers.now
    (sorted_from_strictly_increasing c.args.numbers.now c.requires)) in
    let point = IsPartitionPoint-from_clause (λ (n : ℕ). ltb n c.args.number) _ _
    c.partition_point.ensures.partitioned parted (λ a r q k. search rules) in
    ltb-true _ _ (point.0 j 0 (omega arith) low)

pub returns-clause-above : goal.returns-clause-above
returns-clause-above c = λ j high fits.
    let parted = IsPartitionedBy-ltb (λ (n : ℕ). n) c.args.numbers.now c.args.number
    (non_decreasing_from_sorted c.args.numbers.now
    (sorted_from_strictly_increasing c.args.numbers.now c.requires)) in
    let point = IsPartitionPoint-from_clause (λ (n : ℕ). ltb n c.args.number) _ _
    c.partition_point.ensures.partitioned parted (λ a r q k. search rules) in
    ltb-false _ _ (point.1 j 0 high fits)
