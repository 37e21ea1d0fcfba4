use Rattle.std.proofs.Common.{rules}
use Rattle.snapshot_read.proofs.tests.tried.Goals as goal

pub page_at-answer-requires-clause-offsets : goal.page_at-answer-requires-clause-offsets
page_at-answer-requires-clause-offsets c = c.in_ok-map.ensures _ (search rules)
