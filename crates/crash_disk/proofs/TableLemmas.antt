-- A tree with texts as its keys, read as a finite map of files.
use Rattle.std.proofs.Common.{◌≡◌, ℕ, ◌<◌, ◌^◌, ◌≢◌, List, [], ◌∷◌, map, length, Bool, true, false, cond, Option, Some}
use Rattle.std.proofs.Common.{None, option_map, option_copied, IfSome, IsSome, Bor, MutBor, String, string_bytes, refl}
use Rattle.std.proofs.Common.{ap, sym, subst, ◌∙◌}
use Rattle.std.proofs.lemmas.Bool.{both_ways}
use Rattle.std.specs.Option.{option_copied_mut}
use Rattle.std.specs.Ordering.{nat_cmp, eq_by_cmp}
use Rattle.std.specs.Cmp.{eq_by_cmp_equiv}
use Rattle.std.specs.Cmp.Lexicographic.{slice_cmp, nat_list_cmp_total}
use Rattle.std.specs.String.{string_cmp}
use Rattle.std.specs.BTreeMap as tree
use Rattle.std.specs.Map.{lookup}
use Rattle.std.specs.FinMap.{get, insert, remove, empty, find, get-empty, get-insert, get-remove, get_tied}
use Rattle.std.specs.FinMap.{get-from_entries, same_map, nat_cmp-IsAntisymmetric, slice_cmp-IsAntisymmetric}
use Rattle.std.proofs.lemmas.Map.Text.{is_eq-slice_cmp, btree_map_updates_text}
use Rattle.crash_disk.specs.Files.{Files, changed, moved, is_name}
use Rattle.crash_disk.proofs.FileLaws.{by_name_test, at_name, at_other, get-changed, get-moved}
use Rattle.crash_disk.specs.FileTable.{by_name, IsShort}

-- two maps that have the same file at each name are equal
same_files : (m n : Files) → ((q : List ℕ) → get m q ≡ get n q) → m ≡ n
same_files m n same = same_map nat_list_cmp_total (slice_cmp-IsAntisymmetric nat_cmp-IsAntisymmetric) m n same

module _ {A : Type 0} where
  found_in : (entries : List (String A × List ℕ)) (q : List ℕ)
      → find (slice_cmp nat_cmp) q (map (λ entry. (string_bytes entry.0, entry.1)) entries) ≡ lookup
      (tree.is_at (λ k. slice_cmp nat_cmp q (string_bytes k))) entries
  found_in [] q = refl
  found_in (e ∷ es) q = ap (λ rest. cond (eq_by_cmp (slice_cmp nat_cmp) q (string_bytes e.0)) (Some e.1) rest)
      (found_in es q)

  -- what the tree finds is what the map has
  pub get-by_name : (entries : List (String A × List ℕ)) (q : List ℕ)
      → get (by_name entries) q ≡ lookup (tree.is_at (λ k. slice_cmp nat_cmp q (string_bytes k))) entries
  get-by_name entries q = get-from_entries nat_list_cmp_total _ q ∙ found_in entries q

  -- after a change at a name, each name has what it had, or the new file
  get_updated : (name : List ℕ) (m n : tree.BTreeMap (String A) (List ℕ)) (file : Option (List ℕ))
      → tree.UpdatesBy string_cmp (λ k. slice_cmp nat_cmp name (string_bytes k)) m n file
      → (q : List ℕ) → get (by_name n.entries) q ≡ cond (eq_by_cmp (slice_cmp nat_cmp) q name) file
      (get (by_name m.entries) q)
  get_updated name m n file updates q =
      get-by_name n.entries q ∙ btree_map_updates_text name m n file updates q
      ∙ ap (λ b. cond b file (tree.get_by_text m q))
      (sym (is_eq-slice_cmp name q) ∙ (eq_by_cmp_equiv nat_list_cmp_total).symm name q)
      ∙ ap (λ old. cond (eq_by_cmp (slice_cmp nat_cmp) q name) file old) (sym (get-by_name m.entries q))

  pub by_name-inserts : (name : List ℕ) (m n : tree.BTreeMap (String A) (List ℕ)) (file : List ℕ)
      → tree.UpdatesBy string_cmp (λ k. slice_cmp nat_cmp name (string_bytes k)) m n (Some file)
      → by_name n.entries ≡ insert (by_name m.entries) name file
  by_name-inserts name m n file updates = same_files _ _
      (λ q. get_updated name m n (Some file) updates q ∙ sym (get-insert nat_list_cmp_total _ name file q))

  pub by_name-removes : (name : List ℕ) (m n : tree.BTreeMap (String A) (List ℕ))
      → tree.UpdatesBy string_cmp (λ k. slice_cmp nat_cmp name (string_bytes k)) m n None
      → by_name n.entries ≡ remove (by_name m.entries) name
  by_name-removes name m n updates = same_files _ _
      (λ q. get_updated name m n None updates q ∙ sym (get-remove nat_list_cmp_total _ name q))

-- what a look-up found is what the map has
pub found_by_name : {A : Type 0} (name : List ℕ) (m : tree.BTreeMap (String A) (List ℕ)) (file : Option (List ℕ))
    → file ≡ tree.get_by (λ k. slice_cmp nat_cmp name (string_bytes k)) m
    → get (by_name m.entries) name ≡ file
found_by_name name m file found = get-by_name m.entries name ∙ sym found

-- other bytes written over those of a file that is there
pub by_name-writes : {A : Type 0} (name : List ℕ) (m n : tree.BTreeMap (String A) (List ℕ)) (old new : List ℕ)
    → Some old ≡ tree.get_by (λ k. slice_cmp nat_cmp name (string_bytes k)) m
    → tree.WritesThrough string_cmp (λ k. slice_cmp nat_cmp name (string_bytes k)) m new n
    → by_name n.entries ≡ insert (by_name m.entries) name new
by_name-writes name m n old new found writes = by_name-inserts name m n new (writes.3 (subst IsSome found refl))

-- the same bytes put in the place of a file's change nothing
pub insert-same : (files : Files) (name bytes : List ℕ) → get files name ≡ Some bytes → insert files name bytes ≡ files
insert-same files name bytes there =
    same_files _ _ (λ q. get-insert nat_list_cmp_total files name bytes q
    ∙ by_name_test q name (get files q) (Some bytes)
    (λ tied. sym there ∙ get_tied nat_list_cmp_total files q name tied))

-- the bytes that were there, written again
pub by_name-kept : {A : Type 0} (name : List ℕ) (m n : tree.BTreeMap (String A) (List ℕ)) (old new : List ℕ)
    → Some old ≡ tree.get_by (λ k. slice_cmp nat_cmp name (string_bytes k)) m
    → new ≡ old → tree.WritesThrough string_cmp (λ k. slice_cmp nat_cmp name (string_bytes k)) m new n
    → by_name n.entries ≡ by_name m.entries
by_name-kept name m n old new found same writes =
    by_name-writes name m n old new found writes ∙ ap (insert (by_name m.entries) name) same
    ∙ insert-same (by_name m.entries) name old (found_by_name name m (Some old) found)

-- a file written over is a file changed
pub by_name-changes : {A : Type 0} (name : List ℕ) (m n : tree.BTreeMap (String A) (List ℕ)) (old new : List ℕ)
    (f : List ℕ → List ℕ) → new ≡ f old
    → Some old ≡ tree.get_by (λ k. slice_cmp nat_cmp name (string_bytes k)) m → tree.WritesThrough string_cmp
    (λ k. slice_cmp nat_cmp name (string_bytes k)) m new n
    → by_name n.entries ≡ changed (by_name m.entries) name (get (by_name m.entries) name) f
by_name-changes name m n old new f is found writes =
    by_name-writes name m n old new found writes ∙ ap (insert (by_name m.entries) name) is
    ∙ ap (λ file. changed (by_name m.entries) name file f) (sym (found_by_name name m (Some old) found))

-- where there is no file, nothing is changed
pub by_name-absent : {A : Type 0} (name : List ℕ) (m n : tree.BTreeMap (String A) (List ℕ)) (f : List ℕ → List ℕ)
    (found : Option (MutBor (List ℕ))) → found ≡ None
    → option_copied_mut found ≡ tree.get_by (λ k. slice_cmp nat_cmp name (string_bytes k)) m → n ≡ m
    → by_name n.entries ≡ changed (by_name m.entries) name (get (by_name m.entries) name) f
by_name-absent name m n f found none value same =
    ap (λ t. by_name t.entries) same ∙ ap (λ file. changed (by_name m.entries) name file f)
    (sym (found_by_name name m None (sym (ap option_copied_mut none) ∙ value)))

pub empty-IsShort : IsShort empty
empty-IsShort = record { each = λ q. rw (get-empty (slice_cmp nat_cmp) q) tt }

IfSome-cond : (b : Bool) (x y : Option (List ℕ)) (P : List ℕ → Type 0) → IfSome x P → IfSome y P → IfSome (cond b x y) P
IfSome-cond true x y P p q = p
IfSome-cond false x y P p q = q

pub insert-IsShort : (files : Files) (name bytes : List ℕ) → IsShort files → length bytes < 2 ^ 63
    → IsShort (insert files name bytes)
insert-IsShort files name bytes short h = record {
  each = λ q. rw (get-insert nat_list_cmp_total files name bytes q)
      (IfSome-cond (eq_by_cmp (slice_cmp nat_cmp) q name) (Some bytes) (get files q)
      (λ b. length b < 2 ^ 63) h (short.each q));
}

pub remove-IsShort : (files : Files) (name : List ℕ) → IsShort files → IsShort (remove files name)
remove-IsShort files name short = record {
  each = λ q. rw (get-remove nat_list_cmp_total files name q)
      (IfSome-cond (eq_by_cmp (slice_cmp nat_cmp) q name) None (get files q) (λ b. length b < 2 ^ 63) tt (short.each q));
}

-- a file that is found is as short as the others
pub short_at : (files : Files) (name bytes : List ℕ) → IsShort files → get files name ≡ Some bytes
    → length bytes < 2 ^ 63
short_at files name bytes short there = subst (λ file. IfSome file (λ b. length b < 2 ^ 63)) there (short.each name)

copied_there : (found : Option (Bor (List ℕ))) → IsSome found → IsSome (option_copied found)
copied_there None e = e
copied_there (Some x) e = refl

-- what was found under a name stays there where another name is given a file
get_beside : (files : Files) (from to bytes : List ℕ) → from ≢ to → get (insert files to bytes) from ≡ get files from
get_beside files from to bytes apart = get-insert nat_list_cmp_total files to bytes from ∙ at_other from to _ _ apart

-- a file that was found isn't absent after another name was given a file
pub still_there : (files : Files) (from to bytes : List ℕ) (found : Option (Bor (List ℕ))) → from ≢ to → IsSome found
    → option_copied found ≡ get files from
    → None ≡ get (insert files to bytes) from → ⊥
still_there files from to bytes found apart some is absent = both_ways false refl
    (subst IsSome (is ∙ sym (get_beside files from to bytes apart) ∙ sym absent) (copied_there found some))

choice_hidden : (b c : Bool) (x y z : Option (List ℕ)) → cond b x (cond c None (cond b y z)) ≡ cond b x (cond c None z)
choice_hidden true c x y z = refl
choice_hidden false c x y z = refl

steps_at : (files : Files) (from to bytes : List ℕ) → from ≢ to → (q : List ℕ)
    → get (changed (remove (insert files to []) from) to (get (remove (insert files to []) from) to) (λ _. bytes)) q
    ≡ cond (is_name q to) (Some bytes) (cond (is_name q from) None (get files q))
steps_at files from to bytes apart q =
    let emptied = insert files to [] in
    let empty_there : get (remove emptied from) to ≡ Some [] =
    get-remove nat_list_cmp_total emptied from to ∙ at_other to from None (get emptied to) (λ e. apart (sym e))
    ∙ get-insert nat_list_cmp_total files to [] to ∙ at_name to (Some []) (get files to) in
    get-changed (remove emptied from) to (λ _. bytes) q
    ∙ ap (λ (file : Option (List ℕ)). cond (is_name q to) (option_map (λ _. bytes) file)
    (get (remove emptied from) q)) empty_there
    ∙ ap (λ file. cond (is_name q to) (Some bytes) file)
    (get-remove nat_list_cmp_total emptied from q ∙ ap (λ file. cond (is_name q from) None file)
    (get-insert nat_list_cmp_total files to [] q))
    ∙ choice_hidden (is_name q to) (is_name q from) (Some bytes) (Some []) (get files q)

-- a name that is given an empty file first, and then the bytes of the other name, which loses them, is a move
pub moved_in_steps : (files : Files) (from to bytes : List ℕ) → from ≢ to → Some bytes ≡ get (insert files to []) from
    → changed (remove (insert files to []) from) to (get (remove (insert files to []) from) to)
    (λ _. bytes) ≡ moved files from to (get files from)
moved_in_steps files from to bytes apart found =
    let there : get files from ≡ Some bytes = sym (get_beside files from to [] apart) ∙ sym found in
    same_files _ _ (λ q. steps_at files from to bytes apart q ∙ sym (get-moved files from to bytes q there))

-- the same, with a name for what each step left
pub moved_by_steps : (files given taken after : Files) (from to none bytes : List ℕ) → from ≢ to → none ≡ []
    → given ≡ insert files to none → Some bytes ≡ get given from → taken ≡ remove given from
    → after ≡ changed taken to (get taken to) (λ _. bytes) → after ≡ moved files from to (get files from)
moved_by_steps files given taken after from to none bytes apart is_none gives found takes changes =
    let emptied : given ≡ insert files to [] = gives ∙ ap (insert files to) is_none in
    changes ∙ ap (λ m. changed m to (get m to) (λ _. bytes)) (takes ∙ ap (λ m. remove m from) emptied)
    ∙ moved_in_steps files from to bytes apart (found ∙ ap (λ m. get m from) emptied)
