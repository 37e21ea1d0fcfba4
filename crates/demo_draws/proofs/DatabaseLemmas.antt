-- Drawn commits are commits of a database.
use Rattle.std.proofs.Common.{◌≡◌, ◌≢◌, ◌∙◌, ◌<◌, ◌≤◌, ℕ, zero, suc, ◌+◌, ◌*◌, Bool, true, false, cond}
use Rattle.std.proofs.Common.{List, [], ◌∷◌, ◌++◌, length, take, drop, Option, Some, None}
use Rattle.std.proofs.Common.{refl, ap, sym, subst, inl, inr, arith}
use Rattle.std.specs.Prelude.{◌==◌, if◌then◌else◌, unwrap_or}
use Rattle.std.specs.Int.{w64, to_be_bytes}
use Rattle.std.specs.Ordering.{nat_cmp}
use Rattle.std.specs.Map.{keys_of}
use Rattle.std.specs.Cmp.{nat_cmp_total, unsigned_tied}
use Rattle.std.specs.FinMap.{empty, get, insert, keys, entries, find, get-insert, get-empty, get-entries}
use Rattle.std.proofs.Math.Seq.{take-append_seam}
use Rattle.std.proofs.lemmas.Bool.{cases_eq, ne_eqb}
use Rattle.std.proofs.lemmas.List.{length-append, length-drop}
use Rattle.ls_base.proofs.ChangeLemmas.{get-insert_at}
use Rattle.demo_draws.specs.Generator.{advanced, advanced_by, drawn}
use Rattle.demo_draws.specs.DrawnPage.{page_words, page_bytes, drawn_bytes, database_header, page_of_draws}
use Rattle.demo_draws.specs.DrawnCommit.{PagesByNumber, first_pages, first_commit, drawn_pages, drawn_number}
use Rattle.demo_draws.specs.DrawnCommit.{drawn_size, drawn_count, before_page, commit_of_draws}
use Rattle.demo_draws.specs.DatabaseCommit.{IsPageUpTo, IsDatabaseCommit}
use Rattle.demo_draws.proofs.PageLemmas.{drawn_bytes-more}

-- ---- a page

length-drawn_bytes : (x n : ℕ) → length (drawn_bytes x n) ≡ 8 * n
unfolding drawn_bytes
length-drawn_bytes x zero = refl
length-drawn_bytes x (suc n) =
    let next : suc n ≡ n + 1 = omega arith in
    let word = to_be_bytes w64 (advanced (advanced_by n x)) in
    let more = length-append (drawn_bytes x n) word in
    let eight : length word ≡ 8 = refl in
    ap (λ (k : ℕ). length (drawn_bytes x k)) next ∙ ap length (drawn_bytes-more x n)
    ∙ omega (arith, more, eight, length-drawn_bytes x n)

length-headed : (b : Bool) (bytes : List ℕ) → length bytes ≡ page_bytes
    → length (if b then database_header ++ drop 100 bytes else bytes) ≡ page_bytes
length-headed true bytes long =
    omega (arith, length-append database_header (drop 100 bytes), length-drop 100 bytes, long)
length-headed false bytes long = long

-- a drawn page of a number up to the size
pub is_page : (x size number : ℕ) → 1 ≤ number → number ≤ size → IsPageUpTo size number (page_of_draws x number)
is_page x size number from upto = record {
  from = from;
  upto = upto;
  sized = length-headed (number == 1) (drawn_bytes x page_words) (length-drawn_bytes x page_words);
  headed = λ first. ap (λ (n : ℕ). take 100 (page_of_draws x n)) first
      ∙ take-append_seam database_header (drop 100 (drawn_bytes x page_words));
}

-- a page keeps its place where the database is as large or larger
larger : (size more number : ℕ) (page : List ℕ) → size ≤ more → IsPageUpTo size number page
    → IsPageUpTo more number page
larger size more number page grows is = record {
  from = is.from;
  upto = omega (arith, is.upto, grows);
  sized = is.sized;
  headed = is.headed;
}

-- ---- pages by their numbers

other_page : (m : PagesByNumber) (k : ℕ) (v : List ℕ) (q : ℕ) → q ≢ k → get (insert m k v) q ≡ get m q
other_page m k v q other = get-insert nat_cmp_total m k v q
    ∙ ap (λ (b : Bool). cond b (Some v) (get m q)) (unsigned_tied q k ∙ ne_eqb q k other)

insert-keeps : (size : ℕ) (m : PagesByNumber) (k : ℕ) (v : List ℕ) → IsPageUpTo size k v
    → ((n : ℕ) (page : List ℕ) → get m n ≡ Some page → IsPageUpTo size n page)
    → (n : ℕ) (page : List ℕ) → get (insert m k v) n ≡ Some page → IsPageUpTo size n page
insert-keeps size m k v new each n page found = elim (cases_eq n k) [
  | inl same ↦
      let there : get (insert m k v) n ≡ Some v =
      ap (λ (q : ℕ). get (insert m k v) q) same ∙ get-insert_at m k v in
      let is : v ≡ page = ap (λ (o : Option (List ℕ)). unwrap_or o []) (sym there ∙ found) in
      subst (λ (p : List ℕ). IsPageUpTo size n p) is (subst (λ (q : ℕ). IsPageUpTo size q v) (sym same) new)
  | inr other ↦ each n page (sym (other_page m k v n other) ∙ found)
]

no_entry : (es : List (ℕ × List ℕ)) (k : ℕ) (v : List ℕ) → find nat_cmp k es ≡ Some v → keys_of es ≢ []
no_entry [] k v found none = absurd cc
no_entry (e ∷ es) k v found none = absurd cc

insert-some : (m : PagesByNumber) (k : ℕ) (v : List ℕ) → keys (insert m k v) ≢ []
insert-some m k v = no_entry (entries (insert m k v)) k v (sym (get-entries (insert m k v) k) ∙ get-insert_at m k v)

-- ---- commits

no_page : (n : ℕ) (page : List ℕ) {Wanted : Type 0} → get {R = nat_cmp} (empty {X = List ℕ}) n ≡ Some page → Wanted
no_page n page found = let none : None ≡ Some page = sym (get-empty nat_cmp n) ∙ found in absurd cc

first-each : (x last n : ℕ) (page : List ℕ) → get (first_pages x last) n ≡ Some page → IsPageUpTo last n page
unfolding first_pages
first-each x zero n page found = no_page n page found
first-each x (suc last) n page found =
    let y = advanced_by (page_words * last) x in
    insert-keeps (suc last) (first_pages x last) (suc last) (page_of_draws y (suc last))
    (is_page y (suc last) (suc last) (omega arith) (omega arith))
    (λ k old there. larger last (suc last) k old (omega arith) (first-each x last k old there)) n page found

drawn-each : (x size count n : ℕ) (page : List ℕ) → 0 < size → get (drawn_pages x size count) n ≡ Some page
    → IsPageUpTo size n page
unfolding drawn_pages
drawn-each x size zero n page some found = no_page n page found
drawn-each x size (suc k) n page some found =
    let y = before_page x k in
    let below : drawn y size < size = omega (arith, some) in
    insert-keeps size (drawn_pages x size k) (drawn_number y size)
    (page_of_draws (advanced y) (drawn_number y size))
    (is_page (advanced y) size (drawn_number y size) (omega arith) (omega (arith, below)))
    (λ q old there. drawn-each x size k q old some there) n page found

first-some : (x last : ℕ) → 0 < last → keys (first_pages x last) ≢ []
unfolding first_pages
first-some x zero some = absurd (omega (arith, some))
first-some x (suc n) some = insert-some (first_pages x n) (suc n)
    (page_of_draws (advanced_by (page_words * n) x) (suc n))

drawn-some : (x size count : ℕ) → 0 < count → keys (drawn_pages x size count) ≢ []
unfolding drawn_pages
drawn-some x size zero some = absurd (omega (arith, some))
drawn-some x size (suc k) some =
    let y = before_page x k in
    insert-some (drawn_pages x size k) (drawn_number y size) (page_of_draws (advanced y) (drawn_number y size))

pub first_commit-is : (x : ℕ) → IsDatabaseCommit (first_commit x)
first_commit-is x = record { some = first-some x 300 (omega arith); each = first-each x 300 }

pub commit-is : (x : ℕ) → IsDatabaseCommit (commit_of_draws x)
commit-is x =
    let y = advanced_by 2 x in
    let size = drawn_size x in
    let count = drawn_count x in
    record {
      some = drawn-some y size count (omega arith);
      each = λ n page found. drawn-each y size count n page (omega arith) found;
    }
