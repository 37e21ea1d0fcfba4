use Rattle.std.proofs.Common.{rules, sym, subst}
use Rattle.std.proofs.lemmas.Result.{IfOk-weaker}
use Rattle.std.specs.List.Sorted.{IsNonDecreasingBy, IsPermutation}
use Rattle.std.proofs.lemmas.List.Sorted.{IsNonDecreasingBy-from_sort_by_key}
use Rattle.replica_store.specs.declared.file_name.FileName.{FileName}
use Rattle.retention.specs.Retained.{AreRetained}
use Rattle.retention.proofs.SweepLemmas.{retained_permuted}
use Rattle.retention.proofs.retained.retained_in.Goals as goal

pub sweep-requires : goal.sweep-requires
sweep-requires c =
    let sorted = IsNonDecreasingBy-from_sort_by_key (λ (name : FileName). name.max) c.sort_by_key.new.self.items
    c.in_ok-sort_by_key.ensures.sorted (λ a r q k. search rules) in
    subst (λ xs. IsNonDecreasingBy (λ (name : FileName). name.max) xs) (sym c.as_slice.ensures.value) sorted

pub returns : goal.returns
returns c =
    let moved = subst (λ xs. IsPermutation xs c.sort_by_key.new.self.items) c.in_ok-by_end.ensures.items
    c.sort_by_key.ensures.permutation in
    let there = subst (λ xs. IsPermutation c.args.names.now xs) (sym c.as_slice.ensures.value) moved in
    IfOk-weaker c.sweep.result (λ ts. AreRetained c.as_slice.result.now ts.items)
    (λ ts. AreRetained c.args.names.now ts.items)
    (λ ts are. retained_permuted c.args.names.now c.as_slice.result.now ts.items there are) c.sweep.ensures
