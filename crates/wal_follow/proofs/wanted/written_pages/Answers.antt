use Rattle.std.proofs.Common.{◌∙◌, ℕ, List, sym, ap, subst, rules}
use Rattle.std.specs.List.{slice_get}
use Rattle.std.specs.List.Sorted.{IsStrictlyIncreasing}
use Rattle.ls_base.proofs.MapLemmas.{keys_increase}
use Rattle.wal_follow.proofs.WantedLemmas.{kept_below}
use Rattle.wal_follow.proofs.wanted.written_pages.Goals as goal

pub push-requires : goal.push-requires
push-requires c = λ k last at.
    let i = c.loop-number.invariant in
    kept_below _ _ c.loop-number.number-index k last (subst IsStrictlyIncreasing (sym i.0) (keys_increase _))
    (search rules)
    (ap (λ (l : List ℕ). slice_get l k) (sym i.1) ∙ at)
