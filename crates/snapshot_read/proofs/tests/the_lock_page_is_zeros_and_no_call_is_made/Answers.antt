use Rattle.std.proofs.Common.{rules}
use Rattle.snapshot_read.proofs.tests.the_lock_page_is_zeros_and_no_call_is_made.Goals as goal

pub page_at-requires-clause-offsets : goal.page_at-requires-clause-offsets
page_at-requires-clause-offsets g c = c.in_ok-map.ensures _ (search rules)
