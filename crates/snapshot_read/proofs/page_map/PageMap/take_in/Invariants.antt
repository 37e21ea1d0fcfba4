use Rattle.std.proofs.Common.{◌≡◌, ℕ, ◌+◌, ◌≤◌, ◌++◌, length, map}
use Rattle.std.specs.Prelude.{nat_eq}
use Rattle.std.specs.HashMap as hash
use Rattle.std.specs.Map.{update_all}
use Rattle.std.specs.Map.Iter.{deref_pair}
use Rattle.snapshot_read.proofs.page_map.PageMap.take_in.Given as goal

abbrev pub invariant-loop-number : goal.invariant-loop-number
invariant-loop-number l = record {
  list : map deref_pair l.yielded ++ l.number-iterator ≡ l.initial.number-iterator;
  updates : (q : ℕ) → hash.get nat_eq l.self-inside.offsets q
      ≡ update_all nat_eq (hash.get nat_eq l.initial.self-inside.offsets) (map deref_pair l.yielded) q;
  spare : hash.spare l.initial.self-inside.offsets ≤ hash.spare l.self-inside.offsets + length l.yielded;
}
