-- The names of a tree of files are those of its map, in order.
use Rattle.std.proofs.Common.{◌≡◌, ℕ, List, [], ◌∷◌, map, Bool, true, false, T, String, string_bytes, string_cmp, Less}
use Rattle.std.proofs.Common.{refl, ap, sym, subst, ◌∙◌}
use Rattle.std.specs.Prelude.{◌&&◌}
use Rattle.std.specs.List.{AllByRecursion}
use Rattle.std.specs.List.Sorted.{IsStrictlySortedBy}
use Rattle.std.proofs.lemmas.Map.Keys.{sorted_head, sorted_tail}
use Rattle.std.specs.Ordering.{nat_cmp, is_lt}
use Rattle.std.specs.Cmp.Lexicographic.{slice_cmp, nat_list_cmp_total}
use Rattle.std.specs.BTreeMap as tree
use Rattle.std.specs.FinMap.{keys, from_entries, from_sorted, get-from_entries, get-from_sorted, entries-from_sorted}
use Rattle.std.specs.FinMap.{same_map, nat_cmp-IsAntisymmetric, slice_cmp-IsAntisymmetric}
use Rattle.std.specs.FinMap.Entries.{is_sorted, below_all}
use Rattle.crash_disk.specs.Files.{Files}
use Rattle.crash_disk.specs.FileTable.{by_name}

both : (a b : Bool) → T a → T b → T (a && b)
both true b p q = q
both false b p q = absurd p

module _ {A : Type 0} where
  abbrev by_bytes : List (String A × List ℕ) → List (List ℕ × List ℕ)
  by_bytes es = map (λ e. (string_bytes e.0, e.1)) es

  below_rest : (name : String A) (es : List (String A × List ℕ)) → AllByRecursion
      (λ y. string_cmp name y ≡ Less) (map (λ e. e.0) es) → T
      (below_all (slice_cmp nat_cmp) (string_bytes name) (by_bytes es))
  below_rest name [] all = tt
  below_rest name (e ∷ es) all = both _ _ (subst (λ r. T (is_lt r)) (sym all.0) tt) (below_rest name es all.1)

  sorted_by_bytes : (es : List (String A × List ℕ)) → IsStrictlySortedBy string_cmp (map (λ e. e.0) es)
      → T (is_sorted (slice_cmp nat_cmp) (by_bytes es))
  sorted_by_bytes [] sorted = tt
  sorted_by_bytes (e ∷ es) sorted = both _ _
      (below_rest e.0 es (sorted_head string_cmp e.0 (map (λ x. x.0) es) sorted))
      (sorted_by_bytes es (sorted_tail string_cmp e.0 (map (λ x. x.0) es) sorted))

  bytes_of_keys : (es : List (String A × List ℕ)) → map (λ e. e.0) (by_bytes es) ≡ map string_bytes (map (λ e. e.0) es)
  bytes_of_keys [] = refl
  bytes_of_keys (e ∷ es) = ap (λ rest. string_bytes e.0 ∷ rest) (bytes_of_keys es)

  pub keys-by_name : (m : tree.BTreeMap (String A) (List ℕ)) → tree.IsOrdered string_cmp m
      → keys (by_name m.entries) ≡ map string_bytes (tree.keys m)
  keys-by_name m ordered =
      let es = by_bytes m.entries in
      let sorted : T (is_sorted (slice_cmp nat_cmp) es) = sorted_by_bytes m.entries ordered in
      let same : ◌≡◌ {A = Files} (from_entries es) (from_sorted es) =
      same_map nat_list_cmp_total (slice_cmp-IsAntisymmetric nat_cmp-IsAntisymmetric) (from_entries es) (from_sorted es)
      (λ q. get-from_entries nat_list_cmp_total es q ∙ sym (get-from_sorted (slice_cmp nat_cmp) es q sorted)) in
      ap keys same ∙ ap (map (λ e. e.0)) (entries-from_sorted (slice_cmp nat_cmp) es sorted) ∙ bytes_of_keys m.entries
