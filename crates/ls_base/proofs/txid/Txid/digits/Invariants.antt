use Rattle.std.proofs.Common.{◌≡◌, ℕ, ◌-◌, ◌*◌, ◌/◌, ◌%◌, ◌^◌, ◌<◌, length, get_or}
use Rattle.ls_base.specs.Txid.{hex_digit}
use Rattle.ls_base.proofs.txid.Txid.digits.Given as goal

abbrev pub invariant-loop-i : goal.invariant-loop-i
invariant-loop-i l = (length l.digits ≡ 16)
    × ((k : ℕ) → k < l.i → get_or l.digits k 0 ≡ hex_digit (l.number / 2 ^ (4 * (15 - k)) % 16))
