use Rattle.std.proofs.Common.{◌≡◌, ℕ, List, rules, ap, sym, subst, ◌∙◌}
use Rattle.std.specs.Prelude.{insert as insert_at}
use Rattle.std.specs.List.Sorted.{IsStrictlyIncreasing}
use Rattle.std.specs.Ordering.{nat_cmp}
use Rattle.std.specs.FinMap.{from_entries, keys, insert}
use Rattle.ls_base.proofs.MapLemmas.{IsRank, after-is, keys_increase, numbers_grow, numbers_stay}
use Rattle.ls_base.proofs.change_pages.ChangePages.put.Goals as goal
use Rattle.ls_base.proofs.change_pages.ChangePages.put.Goals.{then-is_none+in_ok-insert, else-is_none}

pub rank-at-requires : goal.rank-at-requires
rank-at-requires c =
    let numbers : c.as_slice.result.now ≡ keys (from_entries {R = nat_cmp} c.self.inside.pages.entries) =
    c.as_slice.ensures.value ∙ c.reserve.ensures.items ∙ c.self.invariant in
    subst IsStrictlyIncreasing (sym numbers) (keys_increase (from_entries {R = nat_cmp} c.self.inside.pages.entries))

pub invariant_of-self-in-Continue-branch-3 : goal.invariant_of-self-in-Continue-branch-3
invariant_of-self-in-Continue-branch-3 c =
    let numbers : c.as_slice.result.now ≡ keys (from_entries {R = nat_cmp} c.self.inside.pages.entries) =
    c.as_slice.ensures.value ∙ c.reserve.ensures.items ∙ c.self.invariant in
    let rank : IsRank c.as_slice.result.now c.args.number c.rank-at.result = record
    { within = c.rank-at.ensures.within; below = c.rank-at.ensures.below; above = c.rank-at.ensures.above } in
    let put : c.insert-then-is_none.new.self.items ≡ insert_at
    (keys (from_entries {R = nat_cmp} c.self.inside.pages.entries)) c.rank-at.result c.args.number =
    c.in_ok-insert.ensures.items ∙ ap (λ (ns : List ℕ). insert_at ns c.rank-at.result c.args.number)
    (c.reserve.ensures.items ∙ c.self.invariant) in
    put ∙ numbers_grow c.self.inside.pages.entries c.insert.new.self.entries c.args.number c.args.page c.in_ok-old.old
    c.in_ok-old.ensures.entries c.in_ok-old.ensures.old c.rank-at.result (search rules)
    (subst (λ (ns : List ℕ). IsRank ns c.args.number c.rank-at.result) numbers rank)

pub invariant_of-self-else-is_none : goal.invariant_of-self-else-is_none
invariant_of-self-else-is_none c =
    c.reserve.ensures.items ∙ c.self.invariant
    ∙ numbers_stay c.self.inside.pages.entries c.insert.new.self.entries c.args.number c.args.page c.in_ok-old.old
    c.in_ok-old.ensures.entries c.in_ok-old.ensures.old (search rules)

pub returns-clause-ok : goal.returns-clause-ok
returns-clause-ok c =
    let is = after-is c.self.inside.pages.entries c.insert.new.self.entries c.args.number c.args.page c.in_ok-old.old
    c.in_ok-old.ensures.entries c.in_ok-old.ensures.old in
    elim c.if-is_none.branch [
      | then-is_none+in_ok-insert w ↦ w.self-is ∙ is ∙ ap (λ m. insert m c.args.number c.args.page) c.self.view_is
      | else-is_none w ↦ w.self-is ∙ is ∙ ap (λ m. insert m c.args.number c.args.page) c.self.view_is
    ]
