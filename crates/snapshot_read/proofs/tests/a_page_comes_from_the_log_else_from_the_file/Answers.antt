use Rattle.std.proofs.Common.{rules}
use Rattle.snapshot_read.proofs.tests.a_page_comes_from_the_log_else_from_the_file.Goals as goal

pub page_at-requires-clause-offsets : goal.page_at-requires-clause-offsets
page_at-requires-clause-offsets g c = c.in_ok-map.ensures _ (search rules)
