-- A page whose number is above all others stands last in a map.
use Rattle.std.proofs.Common.{◌≡◌, ℕ, ◌<◌, T, List, [], ◌∷◌, ◌++◌, Option, Some, Ordering}
use Rattle.std.proofs.Common.{refl, sym, ap, subst, ◌∙◌, arith}
use Rattle.std.specs.Prelude.{IsSome, map}
use Rattle.std.specs.declared.cmp.Ordering.TheVariants.{Greater}
use Rattle.std.specs.List.{flat_map}
use Rattle.std.specs.Ordering.{nat_cmp}
use Rattle.std.specs.Cmp.{nat_cmp_total, nat_cmp_is}
use Rattle.std.specs.FinMap.{get, insert, keys, entries, entries_sorted, entries-insert, get-entries}
use Rattle.std.specs.FinMap.{find, put, is_sorted}
use Rattle.std.specs.FinMap.Entries.{by_order, below_all}
use Rattle.std.proofs.lemmas.List.{append-nil, map-append}
use Rattle.std.proofs.lemmas.List.Concat.{flat_map-append, flat_map-cons}
use Rattle.ltx_format.specs.LtxFormat.{page_block, page_blocks}
use Rattle.ltx_format.specs.Writing.{PageMap}
use Rattle.ltx_format.proofs.BlockLoop.{Blocks}
use Rattle.ltx_format.proofs.FindLemmas.{find_here, find_there, both_of, above_all}

abbrev Block : Type 0
Block = ℕ × List ℕ

put_greater : (k : ℕ) (v : List ℕ) (e : Block) (es : Blocks) → e.0 < k
    → put nat_cmp k v (e ∷ es) ≡ e ∷ put nat_cmp k v es
put_greater k v e es above =
    let place : Ordering → Blocks = λ o. by_order o ((k, v) ∷ e ∷ es) ((e.0, v) ∷ es) (e ∷ put nat_cmp k v es) in
    ap place (sym (nat_cmp_is k e.0 Greater above))

-- each number that is found is below this one
abbrev AllBelow : Blocks → ℕ → Type 0
AllBelow es k = (n : ℕ) (x : List ℕ) → find nat_cmp n es ≡ Some x → n < k

put_last : (k : ℕ) (v : List ℕ) (es : Blocks) → T (is_sorted nat_cmp es) → AllBelow es k
    → put nat_cmp k v es ≡ es ++ (k, v) ∷ []
put_last k v [] sorted low = refl
put_last k v (e ∷ es) sorted low =
    let parts = both_of (below_all nat_cmp e.0 es) (is_sorted nat_cmp es) sorted in
    let later : AllBelow es k = λ n x found.
    let above = above_all e.0 es n x parts.0 found in
    low n x (find_there n e es (λ same. omega (arith, above, same)) ∙ found) in
    put_greater k v e es (low e.0 e.1 (find_here e.0 e es refl))
    ∙ ap (λ (rest : Blocks). e ∷ rest) (put_last k v es parts.1 later)

is_found : (o : Option (List ℕ)) (x : List ℕ) → o ≡ Some x → IsSome o
is_found o x e = subst IsSome (sym e) refl

abbrev number_of : Block → ℕ
number_of e = e.0

module _ (m : PageMap) (k : ℕ) (v : List ℕ) (above : (n : ℕ) → IsSome (get m n) → n < k) where
  entries-insert_last : entries (insert m k v) ≡ entries m ++ (k, v) ∷ []
  entries-insert_last =
      let below : AllBelow (entries m) k = λ n x found. above n (is_found (get m n) x (get-entries m n ∙ found)) in
      entries-insert nat_cmp_total m k v ∙ put_last k v (entries m) (entries_sorted m) below

  pub keys-insert_last : keys (insert m k v) ≡ keys m ++ k ∷ []
  keys-insert_last =
      ap (map number_of) entries-insert_last ∙ map-append number_of (entries m) ((k, v) ∷ [])

  pub page_blocks-insert_last : page_blocks (insert m k v) ≡ page_blocks m ++ page_block (k, v)
  page_blocks-insert_last =
      ap (flat_map page_block) entries-insert_last
      ∙ flat_map-append page_block (entries m) ((k, v) ∷ [])
      ∙ ap (λ (x : List ℕ). page_blocks m ++ x) (flat_map-cons page_block (k, v) [] ∙ append-nil (page_block (k, v)))
