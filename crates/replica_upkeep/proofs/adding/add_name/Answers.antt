use Rattle.replica_upkeep.proofs.AddingLemmas.{is_with_at}
use Rattle.replica_upkeep.proofs.adding.add_name.Goals as goal

pub returns-clause-ok : goal.returns-clause-ok
returns-clause-ok c =
    is_with_at c.args.dated.now.items c.deref.result.now c.insert.new.self.items c.args.one c.place_for-place.result
    c.deref.ensures.value c.requires.in_order c.place_for-place.ensures.within c.place_for-place.ensures.here
    c.place_for-place.ensures.before c.in_ok-insert.ensures.items
