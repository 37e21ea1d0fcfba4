use Rattle.std.proofs.Common.{◌≡◌, ◌∙◌, ℕ, ◌+◌, ◌≤◌, List, [], ◌∷◌, ◌++◌, min, sym, ap, subst, arith, rules}
use Rattle.wal_follow.specs.WantedPages.{AreListed, written}
use Rattle.wal_follow.proofs.WantedLemmas.{listed_begins, listed_below, listed_skip, listed_more}
use Rattle.wal_follow.proofs.wanted.wanted_pages.Goals as goal
use Rattle.wal_follow.proofs.wanted.wanted_pages.Goals.{then-number-lock+in_ok-push, else-number-lock}

pub loop-below-init : goal.loop-below-init
loop-below-init c = (
  subst (λ (l : List ℕ). AreListed c.args.newer.now.offsets c.args.behind c.args.size c.args.least
      (min c.args.least c.args.commit) l)
      (sym (c.in_ok-list.ensures.value ∙ ap (written c.args.newer.now.offsets c.args.behind c.lock_page-lock.result)
      c.min.ensures))
      (listed_begins c.args.newer.now.offsets c.args.behind c.args.size c.lock_page-lock.result c.args.least
      c.args.commit
      c.lock_page-lock.ensures),
  c.lock_page-lock.ensures,
)

pub push-requires : goal.push-requires
push-requires c = λ k last at.
    let upto = min c.loop-below.below c.args.commit in
    let low = listed_below c.args.newer.now.offsets c.args.behind c.args.size c.args.least upto k last
    c.loop-below.list c.loop-below.invariant.0 at in
    omega (arith, low, c.loop-below-test.true)

pub loop-below-preserved : goal.loop-below-preserved
loop-below-preserved c =
    let o = c.args.newer.now.offsets in
    let below = c.loop-below.below in
    let upto = min below c.args.commit in
    let list = c.loop-below.list in
    let was = c.loop-below.invariant in
    let next : min (below + 1) c.args.commit ≡ upto + 1 = omega (arith, c.loop-below-test.true) in
    let here : below + 1 ≡ upto + 1 = omega (arith, c.loop-below-test.true) in
    let low : c.args.least ≤ upto = omega (arith, c.loop-below-test.true, c.loop-below.auto.below) in (
      subst (λ (n : ℕ). AreListed o c.args.behind c.args.size c.args.least n c.if-number-lock.list) (sym next)
          (elim c.if-number-lock.branch [
            | then-number-lock+in_ok-push w ↦
                subst (λ (l : List ℕ). AreListed o c.args.behind c.args.size c.args.least (upto + 1) l)
                (sym (w.list-is ∙ w.in_ok-push.ensures.ok ∙ ap (λ (n : ℕ). list ++ n ∷ []) here))
                (listed_more o c.args.behind c.args.size c.args.least upto list was.0 low
                (λ lock. w.if-number-lock.true (here ∙ lock ∙ sym was.1)))
            | else-number-lock w ↦
                subst (λ (l : List ℕ). AreListed o c.args.behind c.args.size c.args.least (upto + 1) l) (sym w.list-is)
                (listed_skip o c.args.behind c.args.size c.args.least upto list was.0
                (sym here ∙ search rules))
          ]),
      was.1,
    )
