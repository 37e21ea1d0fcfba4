-- A `HashMap` read as a finite map.
use Rattle.std.proofs.Common.{◌≡◌, ℕ, ◌+◌, ◌≤◌, Bool, false, List, [], ◌∷◌, length, refl, ap, sym, ◌∙◌, cond, Option}
use Rattle.std.proofs.Common.{Some, None, Result, Ok, Err, OnOk, ◌++◌, arith}
use Rattle.std.specs.Prelude.{nat_eq, is_some}
use Rattle.std.specs.Option.{option_or}
use Rattle.std.specs.List.{list_any, IsDistinct, AllByRecursion}
use Rattle.std.specs.List.Sorted.{IsPermutation, IsSorted}
use Rattle.std.specs.Ordering.{nat_cmp, eq_by_cmp}
use Rattle.std.specs.Cmp.{nat_cmp_total, unsigned_tied, nat_eq_equiv}
use Rattle.std.specs.Map.{lookup, keys_of, update_all}
use Rattle.std.specs.FinMap.{get, get-empty, insert, keys, len, from_entries, find, empty, contains_key, get-insert}
use Rattle.std.specs.FinMap.{get-from_entries, len-insert, len-empty, same_map, contains_key-keys}
use Rattle.std.specs.FinMap.{nat_cmp-IsAntisymmetric}
use Rattle.std.specs.FinMap.Entries.{is_some-find}
use Rattle.std.proofs.lemmas.Bool.{eq-eqb}
use Rattle.std.proofs.lemmas.List.{append-nil, append_assoc, length-append}
use Rattle.std.proofs.lemmas.Map.Keys.{IsDistinct-head, IsDistinct-tail, IsDistinct-IsPermutation}
use Rattle.std.proofs.lemmas.Map.Keys.{IsStrictlyIncreasing-from_distinct, sorted_from_strictly_increasing}
use Rattle.std.proofs.lemmas.Map.Lookups.{btree_set_from_contains, exact_unsigned}
use Rattle.std.proofs.lemmas.Map.Made.{update_all_distinct, is_some-lookup}
use Rattle.std.proofs.lemmas.List.Sorted.{list_any-IsPermutation, IsNonDecreasingBy-from_sort}
use Rattle.ls_base.proofs.MapLemmas.{keys_rise}
use Rattle.snapshot_read.specs.PageOffsets.{Offsets, IsTakenIn}

-- the finite map of these entries
abbrev pub offsets_of : List (ℕ × ℕ) → Offsets
offsets_of es = from_entries {R = nat_cmp} es

lookup_is_find : (es : List (ℕ × ℕ)) (q : ℕ) → lookup (nat_eq q) es ≡ find nat_cmp q es
lookup_is_find [] q = refl
lookup_is_find (e ∷ es) q =
    ap (λ (b : Bool). cond b (Some e.1) (lookup (nat_eq q) es)) (sym (unsigned_tied q e.0))
    ∙ ap (λ rest. cond (eq_by_cmp nat_cmp q e.0) (Some e.1) rest) (lookup_is_find es q)

-- what the one finds is what the other has
pub get_is_lookup : (es : List (ℕ × ℕ)) (q : ℕ) → get (offsets_of es) q ≡ lookup (nat_eq q) es
get_is_lookup es q = get-from_entries nat_cmp_total es q ∙ sym (lookup_is_find es q)

pub same_offsets : (m n : Offsets) → ((q : ℕ) → get m q ≡ get n q) → m ≡ n
same_offsets m n same = same_map nat_cmp_total nat_cmp-IsAntisymmetric m n same

get_inserted : (m : Offsets) (k v q : ℕ) → get (insert m k v) q ≡ cond (nat_eq q k) (Some v) (get m q)
get_inserted m k v q = get-insert nat_cmp_total m k v q
    ∙ ap (λ (b : Bool). cond b (Some v) (get m q)) (unsigned_tied q k)

flip : (a b : ℕ) → nat_eq a b ≡ nat_eq b a
flip a b = nat_eq_equiv.symm a b

-- an entry more
pub inserted : (before after : List (ℕ × ℕ)) (k v : ℕ)
    → ((q : ℕ) → lookup (nat_eq q) after ≡ cond (nat_eq k q) (Some v) (lookup (nat_eq q) before))
    → offsets_of after ≡ insert (offsets_of before) k v
inserted before after k v updates =
    same_offsets (offsets_of after) (insert (offsets_of before) k v) (λ q. get_is_lookup after q ∙ updates q
    ∙ ap (λ (b : Bool). cond b (Some v) (lookup (nat_eq q) before)) (flip k q)
    ∙ ap (λ (o : Option ℕ). cond (nat_eq q k) (Some v) o) (sym (get_is_lookup before q))
    ∙ sym (get_inserted (offsets_of before) k v q))

-- the same entries in another order
pub reordered : (before after : List (ℕ × ℕ)) → ((q : ℕ) → lookup (nat_eq q) after ≡ lookup (nat_eq q) before)
    → offsets_of after ≡ offsets_of before
reordered before after same = same_offsets (offsets_of after) (offsets_of before)
    (λ q. get_is_lookup after q ∙ same q ∙ sym (get_is_lookup before q))

-- ---- how many

new_key : (k : ℕ) (es : List (ℕ × ℕ)) → IsDistinct nat_eq (k ∷ keys_of es) → contains_key (offsets_of es) k ≡ false
new_key k es distinct = ap is_some (get_is_lookup es k) ∙ is_some-lookup (nat_eq k) es
    ∙ none k (keys_of es) (IsDistinct-head nat_eq k (keys_of es) distinct)
  where
    none : (k : ℕ) (ks : List ℕ) → AllByRecursion (λ y. nat_eq k y ≡ false) ks → list_any (nat_eq k) ks ≡ false
    none k [] all = refl
    none k (x ∷ ks) all = rw all.0 (none k ks all.1)

pub len_is : (es : List (ℕ × ℕ)) → IsDistinct nat_eq (keys_of es) → len (offsets_of es) ≡ length es
len_is [] distinct = len-empty nat_cmp ℕ
len_is (e ∷ es) distinct =
    let before = len_is es (IsDistinct-tail nat_eq e.0 (keys_of es) distinct) in
    let one : len (offsets_of (e ∷ es)) ≡ len (offsets_of es) + 1 = len-insert nat_cmp_total (offsets_of es) e.0 e.1
    ∙ ap (λ (b : Bool). cond b (len (offsets_of es)) (len (offsets_of es) + 1)) (new_key e.0 es distinct) in
    omega (arith, before, one)

pub no_entry : (es : List (ℕ × ℕ)) → length es ≡ 0 → offsets_of es ≡ empty
no_entry [] none = refl
no_entry (e ∷ es) none = absurd (omega (arith, none))

pub no_entry_back : (es : List (ℕ × ℕ)) → offsets_of es ≡ empty → length es ≡ 0
no_entry_back [] none = refl
no_entry_back (e ∷ es) none =
    let found : get (offsets_of (e ∷ es)) e.0 ≡ Some e.1 = get_is_lookup (e ∷ es) e.0
    ∙ ap (λ (b : Bool). cond b (Some e.1) (lookup (nat_eq e.0) es)) (eq-eqb e.0 e.0 refl) in
    let lost : get (offsets_of (e ∷ es)) e.0 ≡ None = ap (λ (m : Offsets). get m e.0) none ∙ get-empty nat_cmp e.0 in
    let no : None ≡ Some e.1 = sym lost ∙ found in
    absurd cc

-- ---- the numbers in their order

pub numbers_are : (es : List (ℕ × ℕ)) (numbers : List ℕ) → IsDistinct nat_eq (keys_of es)
    → IsPermutation (keys_of es) numbers → IsSorted nat_cmp numbers → numbers ≡ keys (offsets_of es)
numbers_are es numbers distinct moved sorted =
    let differ = IsDistinct-IsPermutation nat_eq flip (keys_of es) numbers moved distinct in
    let rising = sorted_from_strictly_increasing numbers
    (IsStrictlyIncreasing-from_distinct numbers
    (IsNonDecreasingBy-from_sort (λ (n : ℕ). n) numbers sorted) differ) in
    btree_set_from_contains nat_cmp_total (record { keys = numbers }) (record { keys = keys (offsets_of es) }) rising
    (keys_rise (offsets_of es))
    (λ q. sym (list_any-IsPermutation (eq_by_cmp nat_cmp q) (keys_of es) numbers moved)
    ∙ sym (is_some-find nat_cmp q es) ∙ ap is_some (sym (get-from_entries nat_cmp_total es q))
    ∙ contains_key-keys (offsets_of es) q) exact_unsigned

-- ---- taking in

-- entries put one after another over those of an old map
pub taken_whole : (before after done es : List (ℕ × ℕ)) → done ≡ es → IsDistinct nat_eq (keys_of es)
    → ((q : ℕ) → lookup (nat_eq q) after ≡ update_all nat_eq (λ k. lookup (nat_eq k) before) done q)
    → IsTakenIn (offsets_of before) (offsets_of es) (offsets_of after)
taken_whole before after done es whole distinct updates = record {
  each = λ q.
      get_is_lookup after q ∙ updates q ∙ ap (λ (list : List (ℕ × ℕ)). update_all nat_eq
      (λ k. lookup (nat_eq k) before) list q) whole
      ∙ update_all_distinct nat_eq_equiv nat_eq (λ x y. refl) (λ k. lookup (nat_eq k) before) es q distinct
      ∙ ap (λ (o : Option ℕ). option_or (lookup (nat_eq q) es) o) (sym (get_is_lookup before q))
      ∙ ap (λ (o : Option ℕ). option_or o (get (offsets_of before) q)) (sym (get_is_lookup es q));
}

-- what is said of Ok holds there
pub at_ok : {T E : Type 0} (r : Result T E) (x : T) (P : Type 0) → OnOk r P → r ≡ Ok x → P
at_ok (Ok y) x P said is = said
at_ok (Err e) x P said is = absurd cc

-- ---- the entries of a newer map, one after another

-- one more of them
pub next_left : (before : List (ℕ × ℕ)) (e : ℕ × ℕ) (left rest all : List (ℕ × ℕ)) → before ++ left ≡ all
    → left ≡ e ∷ rest → (before ++ e ∷ []) ++ rest ≡ all
next_left before e left rest all split first = append_assoc before (e ∷ []) rest
    ∙ ap (λ (es : List (ℕ × ℕ)). before ++ es) (sym first) ∙ split

pub many_left : (before left rest : List (ℕ × ℕ)) (e : ℕ × ℕ) (all : List (ℕ × ℕ)) → before ++ left ≡ all
    → left ≡ e ∷ rest → length before + 1 ≤ length all
many_left before left rest e all split first =
    omega (
      arith,
      length-append before left,
      ap (λ (es : List (ℕ × ℕ)). length es) split,
      ap
          (λ (es : List (ℕ × ℕ)). length es) first,
    )

-- all of them were taken
pub taken_all : (before left all : List (ℕ × ℕ)) → before ++ left ≡ all → left ≡ [] → before ≡ all
taken_all before left all split none = sym (append-nil before) ∙ ap (λ (es : List (ℕ × ℕ)). before ++ es) (sym none)
    ∙ split
