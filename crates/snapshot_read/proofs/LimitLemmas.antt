-- Offsets far from the greatest number.
use Rattle.std.proofs.Common.{◌≡◌, ℕ, ◌+◌, ◌^◌, ◌<◌, Bool, true, false, cond, Option, Some, None, sym, ◌∙◌, arith}
use Rattle.std.specs.Cmp.{nat_cmp_total}
use Rattle.std.specs.FinMap.{empty, insert, get, get-empty, get-insert}
use Rattle.std.specs.Ordering.{nat_cmp, eq_by_cmp}
use Rattle.snapshot_read.specs.PageOffsets.{Offsets}
use Rattle.snapshot_read.specs.Offsets.{AreWithinLimit}

pub within_none : (size : ℕ) → AreWithinLimit size empty
within_none size number at found = let none : None ≡ Some at = sym (get-empty nat_cmp number) ∙ found in absurd cc

either : (size at put : ℕ) (b : Bool) (old : Option ℕ) → put + size < 2 ^ 64 → (old ≡ Some at → at + size < 2 ^ 64)
    → cond b (Some put) old ≡ Some at → at + size < 2 ^ 64
either size at put true old fits before found = let same : put ≡ at = cc in omega (arith, fits, same)
either size at put false old fits before found = before found

pub within_more : (size : ℕ) (offsets : Offsets) (number at : ℕ) → AreWithinLimit size offsets → at + size < 2 ^ 64
    → AreWithinLimit size (insert offsets number at)
within_more size offsets number at before fits other other_at found =
    either size other_at at (eq_by_cmp nat_cmp other number) (get offsets other) fits (before other other_at)
    (sym (get-insert nat_cmp_total offsets number at other) ∙ found)
