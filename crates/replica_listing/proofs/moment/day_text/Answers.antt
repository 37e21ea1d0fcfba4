use Rattle.std.proofs.Common.{arith}
use Rattle.replica_listing.proofs.MomentLemmas.{day_of_date}
use Rattle.replica_listing.proofs.moment.day_text.Goals as goal

pub returns : goal.returns
returns c =
    let same = day_of_date c.args.day c.date_of.result (omega arith) c.date_of.ensures in
    rw (← same.0, ← same.1, ← same.2) c.date_text.ensures
