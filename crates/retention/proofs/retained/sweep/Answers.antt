use Rattle.std.proofs.Common.{◌≡◌, ◌+◌, ◌<◌, ◌∷◌, [], ◌++◌, length, sym, ◌∙◌, subst, arith}
use Rattle.std.proofs.lemmas.Bool.{false≢true}
use Rattle.replica_store.specs.Chain.{MayComeNext}
use Rattle.retention.proofs.SweepLemmas.{IsSwept, swept_takes, swept_passes, swept_all}
use Rattle.retention.proofs.retained.sweep.Goals as goal
use Rattle.retention.proofs.retained.sweep.Goals.{then-may_come_next+in_ok-push, else-may_come_next}

pub loop-name-preserved : goal.loop-name-preserved
loop-name-preserved c =
    let names = c.args.by_end.now in
    let i = c.loop-name.name-index in
    let ts = c.loop-name.retained.items in
    let name = c.name-item.result in
    let low : i < length names = omega arith in
    elim c.if-may_come_next.branch [
      | then-may_come_next+in_ok-push w ↦
          let next : MayComeNext c.loop-name.reached name = c.may_come_next.ensures.0 w.if-may_come_next.true in
          let reached : name.max ≡ c.if-may_come_next.reached = omega
          (arith, w.reached-is, w.number-reached.ensures.value) in
          let items : ts ++ name.max ∷ [] ≡ c.if-may_come_next.retained.items = cc (w.in_ok-push.ensures.items) in
          let taken = swept_takes names c.requires i c.loop-name.reached ts name low c.name-item.is
          c.loop-name.invariant next in
          subst (λ n. IsSwept names (i + 1) n c.if-may_come_next.retained.items) reached
          (subst (λ xs. IsSwept names (i + 1) name.max xs) items taken)
      | else-may_come_next w ↦
          let reached : c.loop-name.reached ≡ c.if-may_come_next.reached = cc in
          let items : ts ≡ c.if-may_come_next.retained.items = cc in
          let passed = swept_passes names i c.loop-name.reached ts name low c.name-item.is c.loop-name.invariant
          (λ h. false≢true (sym w.if-may_come_next.false ∙ c.may_come_next.ensures.1 h)) in
          subst (λ n. IsSwept names (i + 1) n c.if-may_come_next.retained.items) reached
          (subst (λ xs. IsSwept names (i + 1) c.loop-name.reached xs) items passed)
    ]

pub returns : goal.returns
returns c = swept_all c.args.by_end.now c.loop-name.name-index c.loop-name.reached c.loop-name.retained.items
    (omega arith) c.loop-name.invariant
