use Rattle.std.proofs.Common.{rules, ◌≡◌, ℕ, ◌+◌, ◌^◌, ◌<◌, sym, ap, subst, ◌∙◌, arith}
use Rattle.std.specs.FinMap.{empty, insert}
use Rattle.snapshot_read.specs.PageOffsets.{Offsets}
use Rattle.snapshot_read.specs.Offsets.{AreWithinLimit}
use Rattle.snapshot_read.proofs.LimitLemmas.{within_none, within_more}
use Rattle.snapshot_read.proofs.tests.map_of.Goals as goal

pub returns : goal.returns
returns c size low =
    let at = c.from.result in
    let is : c.put.new.self.offsets ≡ insert empty c.args.number at = c.in_ok-put.ensures.ok
    ∙ ap (λ (m : Offsets). insert m c.args.number at) c.new-map.ensures in
    let fits : at + size < 2 ^ 64 = omega (arith, low, c.from.ensures) in
    subst (λ (m : Offsets). AreWithinLimit size m) (sym is)
    (within_more size empty c.args.number at (within_none size) fits)
