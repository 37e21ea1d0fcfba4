use Rattle.page_cursors.proofs.QueueLemmas.{put_back}
use Rattle.page_cursors.proofs.waiting.Waiting.pop_with.Goals as goal

pub returns-then-least-number-clause-unchanged : goal.returns-then-least-number-clause-unchanged
returns-then-least-number-clause-unchanged c =
    put_back c.args.self.now.numbers c.pop.new.self.numbers c.put.new.self.numbers c.in_ok-least.place
    c.in_ok-least.least c.in_ok-least.ensures.least.waits
    c.in_ok-least.ensures.numbers c.put.ensures.numbers
