use Rattle.wal_follow.proofs.KeptLemmas.{none_within}
use Rattle.wal_follow.proofs.follower.Follower.start.Goals as goal

pub invariant_of-result : goal.invariant_of-result
invariant_of-result c = record {
  scan = λ has log none. absurd cc;
  pages = λ has log none. absurd cc;
  found = λ target has. absurd cc;
  sized = λ target has. absurd cc;
  room = λ target has. absurd cc;
  kept = none_within 65536 _ c.new.ensures;
  newer = none_within 65536 _ c.new-2.ensures;
}
