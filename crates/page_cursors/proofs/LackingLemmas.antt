-- The first file that lacks a page.
use Rattle.std.proofs.Common.{◌≡◌, ℕ, ◌+◌, ◌<◌, List, Some, subst, arith, inl}
use Rattle.std.proofs.Common.{inr}
use Rattle.std.specs.Prelude.{slice_get}
use Rattle.std.proofs.lemmas.Bool.{cases_lt}
use Rattle.page_cursors.specs.declared.cursor.Cursor.{Cursor}
use Rattle.page_cursors.specs.Ending.{HoldsEach}
use Rattle.page_cursors.proofs.DamageLemmas.{same_cursor}

-- one cursor more holds each page
pub holds_next : (cursors : List Cursor) (place : ℕ) (cursor : Cursor) → ((k : ℕ) (other : Cursor) → k < place
    → slice_get cursors k ≡ Some other → HoldsEach other)
    → slice_get cursors place ≡ Some cursor → HoldsEach cursor → (k : ℕ) (other : Cursor) → k < place + 1
    → slice_get cursors k ≡ Some other → HoldsEach other
holds_next cursors place cursor before is holds k other low at = elim (cases_lt k place) [
  | inl less ↦ before k other less at
  | inr past ↦
      let here : k ≡ place = omega (arith, low, past) in
      subst HoldsEach (same_cursor (slice_get cursors place) cursor other is (subst (λ
      (n : ℕ). slice_get cursors n ≡ Some other) here at)) holds
]
