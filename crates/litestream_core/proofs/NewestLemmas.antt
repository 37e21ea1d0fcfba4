-- The greatest end of names, found in one pass.
use Rattle.std.proofs.Common.{◌≡◌, ◌≢◌, ℕ, ◌+◌, ◌<◌, ◌≤◌, get_or, length, true, false, Less, Equal, Greater, Ordering}
use Rattle.std.proofs.Common.{is_gt, nat_cmp, List, [], ◌∷◌, refl, sym, ap, subst, ◌∙◌, ⊎_elim, arith}
use Rattle.std.specs.List.{Contains}
use Rattle.std.specs.Cmp.{ranks}
use Rattle.std.specs.Ordering.{MatchOrdering}
use Rattle.std.proofs.lemmas.Bool.{cases_lt}
use Rattle.std.proofs.lemmas.List.{get_or_default}
use Rattle.replica_store.specs.declared.file_name.FileName.{FileName}
use Rattle.litestream_core.specs.Asked.{IsNewest}

pub first_found : (names : List FileName) (d : FileName) → names ≢ [] → (name : FileName) × Contains names name
    × (name.max ≡ (get_or names 0 d).max)
first_found [] d some = absurd (some refl)
first_found (x ∷ xs) d some = (x, (0, omega arith, refl), refl)

-- the names up to a place end no later
abbrev pub EndBy : List FileName → ℕ → ℕ → Type 0
EndBy names at newest = (k : ℕ) (d : FileName) → k < at → (get_or names k d).max ≤ newest

pub one_more : (names : List FileName) (at newest after : ℕ) (item : FileName) → at < length names
    → item ≡ get_or names at item → EndBy names at newest → newest ≤ after → item.max ≤ after
    → EndBy names (at + 1) after
one_more names at newest after item below is so_far kept new k d within =
    ⊎_elim (λ before. let low = so_far k d before in omega (arith, low, kept))
    (λ from.
    let here : k ≡ at = omega (arith, from, within) in
    let same : get_or names k d ≡ item = ap (λ i. get_or names i d) here ∙ get_or_default names at d item below
    ∙ sym is in
    subst (λ (name : FileName). name.max ≤ after) (sym same) new) (cases_lt k at)

pub is_newest : (names : List FileName) (at newest : ℕ) → length names ≤ at → (name : FileName) × Contains names name
    × (name.max ≡ newest) → EndBy names at newest → IsNewest names newest
is_newest names at newest all (name, there, ends) by = record {
  name = name;
  there = there;
  ends = ends;
  greatest = λ other has. subst (λ (n : FileName). n.max ≤ newest) has.2 (by has.0 other (omega (arith, has.1, all)));
}

above : (a b : ℕ) (o : Ordering) → MatchOrdering o (a < b) (a ≡ b) (b < a) → true ≡ is_gt o → b < a
above a b Less holds e = absurd cc
above a b Equal holds e = absurd cc
above a b Greater holds e = holds

within : (a b : ℕ) (o : Ordering) → MatchOrdering o (a < b) (a ≡ b) (b < a) → false ≡ is_gt o → a ≤ b
within a b Less holds e = omega (arith, holds)
within a b Equal holds e = omega (arith, holds)
within a b Greater holds e = absurd cc

pub gt_true : (a b : ℕ) → true ≡ is_gt (nat_cmp a b) → b < a
gt_true a b e = above a b (nat_cmp a b) (ranks a b) e

pub gt_false : (a b : ℕ) → false ≡ is_gt (nat_cmp a b) → a ≤ b
gt_false a b e = within a b (nat_cmp a b) (ranks a b) e
