use Rattle.std.proofs.Common.{rules, ◌≡◌, ◌∙◌, ℕ, sym, ap, subst, get_or, arith}
use Rattle.std.specs.FinMap.{insert}
use Rattle.snapshot_read.specs.Offsets.{AreWithinLimit}
use Rattle.snapshot_read.specs.PageOffsets.{Offsets}
use Rattle.snapshot_read.proofs.LimitLemmas.{within_more}
use Rattle.wal_follow.specs.declared.gathering.PageOffset.{PageOffset}
use Rattle.wal_follow.proofs.GatherLemmas.{put_all-next}
use Rattle.wal_follow.proofs.gathering.put_all.Goals as goal

pub loop-page-preserved : goal.loop-page-preserved
loop-page-preserved c =
    let none : PageOffset = c.page-item.result in
    let page = get_or c.args.pages.now c.loop-page.page-index none in
    let same : c.page-item.result ≡ page = c.page-item.is in
    let put = c.in_ok-put.ensures.ok
    ∙ ap (λ (n : ℕ). insert c.loop-page.offsets.offsets c.page-item.result.number n) c.get.ensures.value in (
      put ∙ ap (λ (q : PageOffset). insert c.loop-page.offsets.offsets q.number q.at) same
          ∙ ap (λ m. insert m page.number page.at) c.loop-page.invariant.0
          ∙ sym (put_all-next c.args.offsets.now.offsets c.args.pages.now c.loop-page.page-index none (search rules)),
      λ was. subst (λ (m : Offsets). AreWithinLimit 65536 m) (sym c.in_ok-put.ensures.ok)
          (within_more 65536 _ _ _ (c.loop-page.invariant.1 was) (omega
          (arith, c.get.ensures.value, c.get.ensures.bound))),
    )
