use Rattle.page_cursors.proofs.QueueLemmas.{put_back}
use Rattle.page_cursors.proofs.waiting.Waiting.least.Goals as goal

pub returns-clause-unchanged : goal.returns-clause-unchanged
returns-clause-unchanged c =
    put_back c.args.self.now.numbers c.pop.new.self.numbers c.put.new.self.numbers c.in_ok-number.place
    c.in_ok-number.number c.in_ok-number.ensures.least.waits
    c.in_ok-number.ensures.numbers c.put.ensures.numbers
