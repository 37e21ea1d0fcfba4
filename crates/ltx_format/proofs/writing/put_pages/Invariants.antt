use Rattle.std.proofs.Common.{◌≡◌, ◌≤◌, ◌++◌, length, take}
use Rattle.std.specs.FinMap.{entries}
use Rattle.std.specs.List.{flat_map}
use Rattle.ltx_format.specs.LtxFormat.{page_block}
use Rattle.ltx_format.proofs.writing.put_pages.Given as goal

abbrev pub invariant-loop-at : goal.invariant-loop-at
invariant-loop-at l = record {
  put : l.out ≡ l.initial.out ++ flat_map page_block (take l.at (entries l.pages));
  counted : l.at ≤ length (entries l.pages);
}
