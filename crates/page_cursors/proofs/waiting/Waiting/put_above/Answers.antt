use Rattle.std.proofs.Common.{ap, ◌∙◌}
use Rattle.page_cursors.specs.Queue.{number_above}
use Rattle.page_cursors.proofs.QueueLemmas.{put_none, not_above, no_next}
use Rattle.page_cursors.proofs.waiting.Waiting.put_above.Goals as goal

pub returns-else-last-next-clause-numbers : goal.returns-else-last-next-clause-numbers
returns-else-last-next-clause-numbers c =
    put_none c.args.self.now.numbers c.args.place c.args.last c.args.next c.requires.waits_not
    (ap (number_above c.args.last) c.in-Some.is ∙ not_above c.args.last c.in-Some.next c.if-last-next.false)

pub returns-in_default-clause-numbers : goal.returns-in_default-clause-numbers
returns-in_default-clause-numbers c = put_none c.args.self.now.numbers c.args.place c.args.last c.args.next
    c.requires.waits_not (no_next c.args.last c.args.next c.in_default.not-Some)
