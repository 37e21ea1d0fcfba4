use Rattle.std.proofs.Common.{◌≡◌, ◌<◌, ℕ, Some}
use Rattle.std.specs.Prelude.{slice_get}
use Rattle.page_cursors.specs.declared.cursor.Cursor.{Cursor}
use Rattle.page_cursors.specs.Ending.{HoldsEach}
use Rattle.page_cursors.proofs.ending.lacking.Given as goal

abbrev pub invariant-loop-cursor : goal.invariant-loop-cursor
invariant-loop-cursor l = (k : ℕ) (other : Cursor) → k < l.cursor-index → slice_get l.cursors k ≡ Some other
    → HoldsEach other
