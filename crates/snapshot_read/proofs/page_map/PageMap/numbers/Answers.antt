use Rattle.std.proofs.Common.{ap, subst, ◌∙◌}
use Rattle.std.specs.FinMap.{keys}
use Rattle.std.specs.List.Sorted.{IsPermutation}
use Rattle.snapshot_read.proofs.MapLemmas.{numbers_are}
use Rattle.snapshot_read.proofs.page_map.PageMap.numbers.Goals as goal

pub returns : goal.returns
returns c =
    let es = c.self.inside.offsets.entries in
    let moved = subst (λ ns. IsPermutation ns c.sort_unstable.new.self.items) c.in_ok-numbers.ensures.value
    c.sort_unstable.ensures.permutation in
    numbers_are es c.sort_unstable.new.self.items c.unsorted_keys.ensures.unique moved c.sort_unstable.ensures.sorted
    ∙ ap (λ m. keys m.offsets) c.self.view_is
