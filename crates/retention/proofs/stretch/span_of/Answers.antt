use Rattle.std.proofs.Common.{rules, ◌-◌}
use Rattle.std.specs.Prelude.{nat_lt, nat_le}
use Rattle.std.proofs.lemmas.List.Sorted.{IsPartitionPoint-from_clause, IsPartitionedBy-ltb, IsPartitionedBy-leb}
use Rattle.retention.specs.declared.stretch.Stretch.{Stretch}
use Rattle.retention.proofs.StretchLemmas.{spanned_by}
use Rattle.retention.proofs.stretch.span_of.Goals as goal

pub returns : goal.returns
returns c =
    let stretches = c.args.stretches.now in
    let name = c.args.name.now in
    let by_before = IsPartitionPoint-from_clause (λ (s : Stretch). nat_lt s.before (name.min - 1)) stretches
    c.partition_point-begins.result c.partition_point-begins.ensures.partitioned
    (IsPartitionedBy-ltb (λ (s : Stretch). s.before) stretches (name.min - 1) c.requires.before)
    (λ a r q k. search rules) in
    let by_goal = IsPartitionPoint-from_clause (λ (s : Stretch). nat_lt s.goal name.max) stretches
    c.partition_point-within.result c.partition_point-within.ensures.partitioned
    (IsPartitionedBy-ltb (λ (s : Stretch). s.goal) stretches name.max c.requires.goal) (λ a r q k. search rules) in
    let by_end = IsPartitionPoint-from_clause (λ (s : Stretch). nat_le s.end name.max) stretches
    c.partition_point-to.result c.partition_point-to.ensures.partitioned
    (IsPartitionedBy-leb (λ (s : Stretch). s.end) stretches name.max c.requires.end) (λ a r q k. search rules) in
    spanned_by name stretches c.partition_point-begins.result c.partition_point-within.result
    c.partition_point-to.result c.max.result c.number.ensures.positive by_before by_goal by_end
    c.partition_point-begins.ensures.bound c.partition_point-within.ensures.bound
    c.partition_point-to.ensures.bound c.max.ensures
