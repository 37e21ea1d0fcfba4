-- What is told goes on.
use Rattle.std.proofs.Common.{◌≡◌, Some}
use Rattle.live_gate.specs.LiveRecord.{LiveRecord, Told, GoesOn}

-- what follows from what holds of a call
pub goes_map : (old new : Told) (P Q : LiveRecord → LiveRecord → Type 0) → GoesOn old new P
    → ((r after : LiveRecord) → P r after → Q r after) → GoesOn old new Q
goes_map old new P Q goes each = record {
  told = λ r is. let after = goes.told r is in (after.0, after.1, each r after.0 after.2);
  silent = goes.silent;
}

-- two calls, one after the other
pub goes_join : (a b c : Told) (P Q R : LiveRecord → LiveRecord → Type 0) → GoesOn a b P → GoesOn b c Q
    → ((r mid after : LiveRecord) → P r mid → Q mid after → R r after) → GoesOn a c R
goes_join a b c P Q R first second each = record {
  told = λ r is.
      let mid = first.told r is in
      let after = second.told mid.0 mid.1 in
      (after.0, after.1, each r mid.0 after.0 mid.2 after.2);
  silent = λ is. second.silent (first.silent is);
}

-- the same, where what is told at first is known
pub goes_from : (old new : Told) (P Q : LiveRecord → LiveRecord → Type 0) → GoesOn old new P
    → ((r after : LiveRecord) → old ≡ Some r → P r after → Q r after) → GoesOn old new Q
goes_from old new P Q goes each = record {
  told = λ r is. let after = goes.told r is in (after.0, after.1, each r after.0 is after.2);
  silent = goes.silent;
}

pub goes_both : (a b c : Told) (P Q R : LiveRecord → LiveRecord → Type 0) → GoesOn a b P → GoesOn b c Q
    → ((r mid after : LiveRecord) → a ≡ Some r → P r mid → Q mid after → R r after) → GoesOn a c R
goes_both a b c P Q R first second each = record {
  told = λ r is.
      let mid = first.told r is in
      let after = second.told mid.0 mid.1 in
      (after.0, after.1, each r mid.0 after.0 is mid.2 after.2);
  silent = λ is. second.silent (first.silent is);
}
