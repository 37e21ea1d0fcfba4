-- What the list of a replica's files has, by the texts that it was read from.
use Rattle.std.proofs.Common.{◌≡◌, ◌≢◌, ℕ, suc, ◌+◌, take, List, [], ◌∷◌, ◌++◌, map, Bool, true, false, ◌||◌, ◌&&◌, T}
use Rattle.std.proofs.Common.{Ordering, Less, Equal, Greater, is_eq, Option, Some, None, refl, sym, ap, subst, ◌∙◌, inl}
use Rattle.std.proofs.Common.{inr, ⊎_elim, arith}
use Rattle.std.specs.Prelude.{◌⊎◌, IsSome, is_some, slice_get}
use Rattle.std.specs.List.{IsDistinct, All, AllByRecursion, list_any}
use Rattle.std.specs.List.Sorted.{IsPermutation}
use Rattle.std.specs.FinMap.{keys, entries, entries_sorted, contains_key-keys}
use Rattle.std.specs.FinMap.Entries.{is_sorted, below_all}
use Rattle.std.proofs.lemmas.Cmp.{eq_by_cmp_equiv}
use Rattle.std.proofs.lemmas.Option.{slice_get_within, get_or_from_slice_get}
use Rattle.std.proofs.Math.Seq.{take-suc}
use Rattle.std.specs.Ordering.{nat_cmp, is_lt}
use Rattle.std.specs.Cmp.Lexicographic.{slice_cmp, nat_list_cmp_total}
use Rattle.std.proofs.lemmas.List.Elements.{All-nil, All-cons}
use Rattle.std.proofs.lemmas.List.Sorted.{IsPermutation-map, list_any-IsPermutation, All-permutation}
use Rattle.std.proofs.lemmas.Map.Keys.{IsDistinct-IsPermutation}
use Rattle.std.proofs.lemmas.Map.Views.{Contains-from_any, list_any-from_Contains}
use Rattle.crash_disk.specs.declared.event.Event.{Event}
use Rattle.crash_disk.specs.Files.{files_after, file_at, is_name, AreNamesOf}
use Rattle.crash_disk.proofs.FileLaws.{is_name-other}
use Rattle.crash_disk.proofs.NumberLaws.{by_names}
use Rattle.replica_store.specs.declared.file_name.FileName.{FileName}
use Rattle.replica_store.specs.NameText.{IsName, file_path}
use Rattle.replica_store.specs.Chain.{IsListOrdered}
use Rattle.replica_store.specs.Listing.{path_of, paths_of, IsValid, IsFilePath, AreReadOf, AreListed}

-- one text more
pub read_more : (texts : List (List ℕ)) (names : List FileName) (text : List ℕ) (name : FileName)
    → AreReadOf texts names → text ≡ path_of name → IsValid name → AreReadOf (texts ++ text ∷ []) (names ++ name ∷ [])
read_more [] names text name read is path = inl (name, [], ap (λ ns. ns ++ name ∷ []) read, is, path, refl)
read_more (first ∷ texts) names text name (inl (n, rest, names-are, e, valid, tail)) is path =
    inl (
      n,
      rest ++ name ∷ [],
      ap (λ ns. ns ++ name ∷ []) names-are,
      e,
      valid,
      read_more texts rest text name tail is
          path,
    )
read_more (first ∷ texts) names text name (inr (none, tail)) is path = inr
    (none, read_more texts names text name tail is path)

pub read_past : (texts : List (List ℕ)) (names : List FileName) (text : List ℕ) → AreReadOf texts names
    → (IsFilePath text → ⊥) → AreReadOf (texts ++ text ∷ []) names
read_past [] names text read none = inr (none, read)
read_past (first ∷ texts) names text (inl (n, rest, names-are, e, valid, tail)) none = inl
    (n, rest, names-are, e, valid, read_past texts rest text tail none)
read_past (first ∷ texts) names text (inr (passed, tail)) none = inr (passed, read_past texts names text tail none)

-- a path is among the texts exactly where it is among those of the names
read_any : (texts : List (List ℕ)) (names : List FileName) (q : List ℕ) → AreReadOf texts names → IsFilePath q
    → list_any (is_name q) (paths_of names) ≡ list_any (is_name q) texts
read_any [] names q read path = ap (λ ns. list_any (is_name q) (paths_of ns)) read
read_any (text ∷ texts) names q (inl (n, rest, names-are, is, valid, tail)) path =
    ap (λ ns. list_any (is_name q) (paths_of ns)) names-are
    ∙ ap (λ t. is_name q t || list_any (is_name q) (paths_of rest)) (sym is)
    ∙ ap (λ b. is_name q text || b) (read_any texts rest q tail path)
read_any (text ∷ texts) names q (inr (none, tail)) path =
    let other : is_name q text ≡ false = is_name-other q text (λ same. none (subst IsFilePath same path)) in
    read_any texts names q tail path ∙ ap (λ b. b || list_any (is_name q) texts) (sym other)

-- and what is among those of the names is a path
or_true : (a b : Bool) → (a || b) ≡ true → (a ≡ true) ⊎ (b ≡ true)
or_true true b e = inl refl
or_true false b e = inr e

same_name : (q name : List ℕ) → is_name q name ≡ true → q ≡ name
same_name q name e = by_names q name (λ same. same)
    (λ other. let no : false ≡ true = sym (is_name-other q name other) ∙ e in absurd cc)

read_paths : (texts : List (List ℕ)) (names : List FileName) (q : List ℕ) → AreReadOf texts names
    → list_any (is_name q) (paths_of names) ≡ true → IsFilePath q
read_paths [] names q read any = let no : false ≡ true = sym (ap (λ ns. list_any (is_name q) (paths_of ns)) read)
    ∙ any in absurd cc
read_paths (text ∷ texts) names q (inl (n, rest, names-are, is, valid, tail)) any =
    ⊎_elim (λ here. record {
      level = n.level;
      min = n.min;
      max = n.max;
      valid = valid;
      is = same_name q (path_of n)
          here;
    }) (λ there. read_paths texts rest q tail there)
    (or_true (is_name q (path_of n)) (list_any (is_name q) (paths_of rest))
    (sym (ap (λ ns. list_any (is_name q) (paths_of ns)) names-are) ∙ any))
read_paths (text ∷ texts) names q (inr (none, tail)) any = read_paths texts names q tail any

-- texts that differ make names that differ
read_apart : (first : List ℕ) (texts : List (List ℕ)) (names : List FileName) → AreReadOf texts names → AllByRecursion
    (λ y. is_name first y ≡ false) texts → AllByRecursion (λ y. is_name first y ≡ false) (paths_of names)
read_apart first [] names read all = subst (λ ns. AllByRecursion (λ y. is_name first y ≡ false) (paths_of ns))
    (sym read) tt
read_apart first (text ∷ texts) names (inl (n, rest, names-are, is, valid, tail)) all =
    subst (λ ns. AllByRecursion (λ y. is_name first y ≡ false) (paths_of ns)) (sym names-are)
    (subst (λ t. is_name first t ≡ false) is all.0, read_apart first texts rest tail all.1)
read_apart first (text ∷ texts) names (inr (none, tail)) all = read_apart first texts names tail all.1

read_distinct : (texts : List (List ℕ)) (names : List FileName) → AreReadOf texts names → IsDistinct is_name texts
    → IsDistinct is_name (paths_of names)
unfolding IsDistinct
read_distinct [] names read d = subst (λ ns. IsDistinct is_name (paths_of ns)) (sym read) tt
read_distinct (text ∷ texts) names (inl (n, rest, names-are, is, valid, tail)) d =
    subst (λ ns. IsDistinct is_name (paths_of ns)) (sym names-are) (
      subst (λ t. AllByRecursion (λ y. is_name t y ≡ false) (paths_of rest)) is
          (read_apart text texts rest tail d.0),
      read_distinct texts rest tail d.1,
    )
read_distinct (text ∷ texts) names (inr (none, tail)) d = read_distinct texts names tail d.1

read_valid : (texts : List (List ℕ)) (names : List FileName) → AreReadOf texts names → All IsValid names
read_valid [] names read = subst (All IsValid) (sym read) (All-nil IsValid)
read_valid (text ∷ texts) names (inl (n, rest, names-are, is, valid, tail)) = subst (All IsValid) (sym names-are)
    (All-cons IsValid n rest valid (read_valid texts rest tail))
read_valid (text ∷ texts) names (inr (none, tail)) = read_valid texts names tail

-- ---- the names of a store

both_true : (a b : Bool) → T (a && b) → T a × T b
both_true true b t = (tt, t)
both_true false b t = absurd t

less_apart : (o : Ordering) → T (is_lt o) → is_eq o ≡ false
less_apart Less t = refl
less_apart Equal t = absurd t
less_apart Greater t = absurd t

below_apart : (q : List ℕ) (es : List (List ℕ × List ℕ)) → T (below_all (slice_cmp nat_cmp) q es) → AllByRecursion
    (λ y. is_name q y ≡ false) (map (λ e. e.0) es)
below_apart q [] t = tt
below_apart q (e ∷ es) t = let parts = both_true (is_lt (slice_cmp nat_cmp q e.0)) _ t in
    (less_apart (slice_cmp nat_cmp q e.0) parts.0, below_apart q es parts.1)

sorted_distinct : (es : List (List ℕ × List ℕ)) → T (is_sorted (slice_cmp nat_cmp) es)
    → IsDistinct is_name (map (λ e. e.0) es)
unfolding IsDistinct
sorted_distinct [] t = tt
sorted_distinct (e ∷ es) t = let parts = both_true (below_all (slice_cmp nat_cmp) e.0 es) _ t in
    (below_apart e.0 es parts.0, sorted_distinct es parts.1)

flips : (q r : List ℕ) → is_name q r ≡ is_name r q
flips q r = (eq_by_cmp_equiv nat_list_cmp_total).symm q r

texts_distinct : (events : List Event) (texts : List (List ℕ)) → AreNamesOf events texts → IsDistinct is_name texts
texts_distinct events texts are =
    IsDistinct-IsPermutation is_name flips (keys (files_after events)) texts are.each
    (sorted_distinct (entries (files_after events)) (entries_sorted (files_after events)))

some_true : (file : Option (List ℕ)) → is_some file ≡ true → IsSome file
some_true None e = absurd cc
some_true (Some bytes) e = refl

texts_there : (events : List Event) (texts : List (List ℕ)) (q : List ℕ) → AreNamesOf events texts
    → list_any (is_name q) texts ≡ is_some (file_at events q)
texts_there events texts q are = sym (list_any-IsPermutation (is_name q) (keys (files_after events)) texts are.each)
    ∙ sym (contains_key-keys (files_after events) q)

pub are_listed : (events : List Event) (texts : List (List ℕ)) (read names : List FileName) → AreNamesOf events texts
    → AreReadOf texts read → IsPermutation read names → IsListOrdered names → AreListed (files_after events) names
are_listed events texts read names are reads moved ordered =
    let paths = IsPermutation-map path_of read names moved in
    let any : (q : List ℕ) → list_any (is_name q) (paths_of read) ≡ list_any (is_name q) (paths_of names) = λ q.
    list_any-IsPermutation (is_name q) (paths_of read) (paths_of names) paths in
    record {
      ordered = ordered;
      valid = All-permutation IsValid read names moved (read_valid texts read reads);
      once = IsDistinct-IsPermutation is_name flips (paths_of read) (paths_of names) paths
          (read_distinct texts read reads (texts_distinct events texts are));
      each = λ q. (
        λ has.
            let found = any q ∙ list_any-from_Contains (eq_by_cmp_equiv nat_list_cmp_total) q (paths_of names) has in
            let path = read_paths texts read q reads found in (
              path,
              some_true (file_at events q)
                  (sym (texts_there events texts q are) ∙ sym (read_any texts read q reads path) ∙ found),
            ),
        λ is.
            Contains-from_any same_name q (paths_of names)
            (sym (any q) ∙ read_any texts read q reads is.0 ∙ texts_there events texts q are ∙ is.1),
      );
    }

-- ---- the loop over the texts

pub take_next : (texts : List (List ℕ)) (at : ℕ) (text : List ℕ) → slice_get texts at ≡ Some text
    → take (at + 1) texts ≡ take at texts ++ text ∷ []
take_next texts at text is =
    let next : at + 1 ≡ suc at = omega arith in
    ap (λ n. take n texts) next ∙ take-suc texts at [] (slice_get_within texts at text is)
    ∙ ap (λ t. take at texts ++ t ∷ []) (get_or_from_slice_get texts at text [] is)

pub next_read : (texts : List (List ℕ)) (at : ℕ) (text : List ℕ) (names after : List FileName) (name : FileName)
    → slice_get texts at ≡ Some text → AreReadOf (take at texts) names → text ≡ path_of name
    → IsName name.level name.min name.max
    → after ≡ names ++ name ∷ [] → AreReadOf (take (at + 1) texts) after
next_read texts at text names after name here read is valid after-is =
    subst (AreReadOf (take (at + 1) texts)) (sym after-is)
    (subst (λ ts. AreReadOf ts (names ++ name ∷ [])) (sym (take_next texts at text here))
    (read_more (take at texts) names text name read is valid))

pub next_past : (texts : List (List ℕ)) (at : ℕ) (text : List ℕ) (names after : List FileName)
    → slice_get texts at ≡ Some text → AreReadOf (take at texts) names
    → ((level min max : ℕ) → IsName level min max → text ≢ file_path level min max) → after ≡ names
    → AreReadOf (take (at + 1) texts) after
next_past texts at text names after here read none after-is =
    subst (AreReadOf (take (at + 1) texts)) (sym after-is)
    (subst (λ ts. AreReadOf ts names) (sym (take_next texts at text here))
    (read_past (take at texts) names text read (λ path. none path.level path.min path.max path.valid path.is)))
