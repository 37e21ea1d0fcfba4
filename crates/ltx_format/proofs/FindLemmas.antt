-- The pages that are found among blocks.
use Rattle.std.proofs.Common.{◌≡◌, ℕ, ◌<◌, ◌≤◌, ◌≢◌, Bool, true, false, eqb, ltb, ◌&&◌, T, List, [], ◌∷◌, length}
use Rattle.std.proofs.Common.{Option, Some, refl, sym, ap, subst, ◌∙◌, arith, inl, inr}
use Rattle.std.specs.Ordering.{nat_cmp, is_lt}
use Rattle.std.specs.FinMap.{find, is_sorted}
use Rattle.std.specs.FinMap.Entries.{below_all}
use Rattle.std.proofs.lemmas.Bool.{cases_Bool, cases_eq, le-ltb, ltb-true, eq-eqb, ne_eqb}
use Rattle.ls_base.specs.PageSize.{lock_page}
use Rattle.ltx_format.proofs.FieldLaws.{AreBytes}
use Rattle.ltx_format.proofs.BlockLoop.{Blocks}
use Rattle.ltx_format.proofs.BlockLaws.{AreBlocks}

pub find_here : (number : ℕ) (block : ℕ × List ℕ) (blocks : Blocks) → number ≡ block.0
    → find nat_cmp number (block ∷ blocks) ≡ Some block.1
find_here number block blocks e = rw (le-ltb number block.0 (omega arith), eq-eqb number block.0 e) refl

pub find_there : (number : ℕ) (block : ℕ × List ℕ) (blocks : Blocks) → (number ≡ block.0 → ⊥)
    → find nat_cmp number (block ∷ blocks) ≡ find nat_cmp number blocks
find_there number block blocks ne =
    elim (cases_Bool (ltb number block.0)) [
      | inl below ↦ rw below refl
      | inr above ↦ rw (above, ne_eqb number block.0 ne) refl
    ]

-- what is found has a number above all that stand before
abbrev pub IsFound : ℕ → ℕ → ℕ → ℕ → List ℕ → Type 0
IsFound size commit last number page = (last < number) × (number ≤ commit) × (length page ≡ size) × AreBytes page
    × (number ≢ lock_page size)

abbrev given : List ℕ → Option (List ℕ)
given page = Some page

same_some : (page other : List ℕ) → given page ≡ given other → page ≡ other
same_some page other e = cc

pub found-from_blocks : (size commit last : ℕ) (blocks : Blocks) (number : ℕ) (page : List ℕ)
    → AreBlocks size commit last blocks → find nat_cmp number blocks ≡ Some page → IsFound size commit last number page
found-from_blocks size commit last [] number page are e = absurd cc
found-from_blocks size commit last (block ∷ blocks) number page are e =
    let above = are.0.above in
    elim (cases_eq number block.0) [
      | inl same ↦
          let page_is : block.1 ≡ page = same_some block.1 page (sym (find_here number block blocks same) ∙ e) in (
            omega arith,
            rw same are.0.at_most,
            ap length (sym page_is)
                ∙ are.0.sized,
            subst AreBytes page_is are.0.small,
            rw same are.0.unlocked,
          )
      | inr ne ↦
          let later = found-from_blocks size commit block.0 blocks number page are.1
          (sym (find_there number block blocks ne) ∙ e) in
          let later_above = later.0 in
          (omega arith, later.1, later.2, later.3, later.4)
    ]

pub both_of : (a b : Bool) → T (a && b) → T a × T b
both_of true b h = (tt, h)
both_of false b h = absurd h

lt-from_cmp : (x y : ℕ) → T (is_lt (nat_cmp x y)) → x < y
lt-from_cmp x y h =
    elim (cases_Bool (ltb x y)) [
      | inl below ↦ ltb-true x y below
      | inr above ↦ absurd (elim (cases_Bool (eqb x y)) [
        | inl same ↦ rw (above, same) at h
        | inr ne ↦
            rw (above, ne) at h
      ])
    ]

pub above_all : (x : ℕ) (blocks : Blocks) (number : ℕ) (page : List ℕ) → T (below_all nat_cmp x blocks)
    → find nat_cmp number blocks ≡ Some page → x < number
above_all x [] number page below e = absurd cc
above_all x (block ∷ blocks) number page below e =
    let parts = both_of (is_lt (nat_cmp x block.0)) (below_all nat_cmp x blocks) below in
    elim (cases_eq number block.0) [
      | inl same ↦ rw same (lt-from_cmp x block.0 parts.0)
      | inr ne ↦ above_all x blocks number page parts.1 (sym (find_there number block blocks ne) ∙ e)
    ]

pub blocks-from_found : (size commit last : ℕ) (blocks : Blocks) → T (is_sorted nat_cmp blocks)
    → ((number : ℕ) (page : List ℕ) → find nat_cmp number blocks ≡ Some page → IsFound size commit last number page)
    → AreBlocks size commit last blocks
blocks-from_found size commit last [] sorted each = tt
blocks-from_found size commit last (block ∷ blocks) sorted each =
    let parts = both_of (below_all nat_cmp block.0 blocks) (is_sorted nat_cmp blocks) sorted in
    let first = each block.0 block.1 (find_here block.0 block blocks refl) in (
      record { above = first.0; at_most = first.1; sized = first.2; small = first.3; unlocked = first.4 },
      blocks-from_found size commit block.0 blocks parts.1 (λ number page e.
          let above = above_all block.0 blocks number page parts.0 e in
          let found = each number page (find_there number block blocks (λ same. omega arith) ∙ e) in
          (above, found.1, found.2, found.3, found.4)),
    )
