use Rattle.std.proofs.Common.{◌≡◌, take}
use Rattle.std.specs.List.{filter}
use Rattle.std.specs.FinMap.{keys}
use Rattle.wal_follow.specs.WantedPages.{has_written}
use Rattle.wal_follow.proofs.wanted.written_pages.Given as goal

abbrev pub invariant-loop-number : goal.invariant-loop-number
invariant-loop-number l =
    (l.number-items ≡ keys l.newer.offsets)
    × (l.list ≡ filter (has_written l.newer.offsets l.behind l.lock l.least) (take l.number-index l.number-items))
