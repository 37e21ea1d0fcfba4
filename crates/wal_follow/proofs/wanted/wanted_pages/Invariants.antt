use Rattle.std.proofs.Common.{◌≡◌, min}
use Rattle.ls_base.specs.PageSize.{lock_page}
use Rattle.wal_follow.specs.WantedPages.{AreListed}
use Rattle.wal_follow.proofs.wanted.wanted_pages.Given as goal

abbrev pub invariant-loop-below : goal.invariant-loop-below
invariant-loop-below l =
    AreListed l.newer.offsets l.behind l.fn.size l.least (min l.below l.commit) l.list × (l.lock ≡ lock_page l.fn.size)
