use Rattle.std.proofs.Common.{◌≡◌, ℕ, ◌+◌, ◌*◌, ◌^◌, ◌<◌, ◌≤◌, sym, subst, lit<, arith}
use Rattle.std.proofs.Math.Nat.{pow-le-pow_right}
use Rattle.std.proofs.lemmas.Nat.{mul-le}
use Rattle.ls_base.specs.PageSize.{IsPageSize}
use Rattle.ltx_reader.proofs.reader.LtxReader.block_offset.Goals as goal

-- so many blocks of the largest pages end before 2^50
blocks_fit : (count size n : ℕ) → count < 2 ^ 32 → n ≡ size → IsPageSize size → 100 + count * (6 + n) < 2 ^ 50
blocks_fit count size n few same (k, low, high, is) =
    let small : size ≤ 2 ^ 16 = subst (λ (n : ℕ). n ≤ 2 ^ 16) (sym is) (pow-le-pow_right {n = 2} (lit< tt) high) in
    let most = mul-le count (6 + n) (2 ^ 32) (6 + 2 ^ 16) (omega arith) (omega arith) in
    omega (arith, most)

pub returns-clause-bound : goal.returns-clause-bound
returns-clause-bound c =
    let fits = blocks_fit c.from.result c.self.inside.header.size c.from-2.result (omega arith) (omega arith)
    c.get.ensures.valid in
    omega (arith, fits)
