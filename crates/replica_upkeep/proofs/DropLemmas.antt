-- What the drops keep.
use Rattle.std.proofs.Common.{◌≡◌, ℕ, zero, suc, ◌<◌, ◌≤◌, ◌==◌, List, [], ◌∷◌, slice_get, Bool, true, false, Option}
use Rattle.std.proofs.Common.{Some, refl, sym, ap, subst, ◌∙◌, inl, inr, arith}
use Rattle.std.specs.Prelude.{if◌then◌else◌}
use Rattle.std.specs.List.{Contains, IsDistinct}
use Rattle.std.specs.Option.{IsSomeAnd, option_map}
use Rattle.std.proofs.lemmas.Bool.{cases_lt, eqb-true}
use Rattle.std.proofs.lemmas.Bool.Decides.{nat_tests}
use Rattle.std.proofs.lemmas.Option.{slice_get-map}
use Rattle.crash_disk.specs.Files.{is_name}
use Rattle.crash_disk.proofs.FileLaws.{is_name-same}
use Rattle.ls_base.proofs.StateLemmas.{all_at}
use Rattle.replica_store.specs.declared.dated_names.Dated.{Dated}
use Rattle.replica_store.specs.declared.file_name.FileName.{FileName}
use Rattle.replica_store.specs.Chain.{LeadsBy, moment_of, names_of}
use Rattle.replica_store.specs.Listing.{path_of, paths_of}
use Rattle.retention.specs.Protected.{IsOld, IsProtected}
use Rattle.retention.specs.Protected as protected
use Rattle.retention.specs.Walk.{dropped}

-- ---- which names were dropped

-- the name at a place isn't kept
pub record IsGone (kept : List Bool) (dated : List Dated) (name : FileName) : Type 0 where
  pub place : ℕ
  pub one : Dated
  pub there : slice_get dated place ≡ Some one
  pub named : one.name ≡ name
  pub gone : slice_get kept place ≡ Some false

one_later : (keep : Bool) (kept : List Bool) (d : Dated) (dated : List Dated) (name : FileName) → IsGone kept dated name
    → IsGone (keep ∷ kept) (d ∷ dated) name
one_later keep kept d dated name g =
    record { place = suc g.place; one = g.one; there = g.there; named = g.named; gone = g.gone }

pub gone_at : (kept : List Bool) (dated : List Dated) (k : ℕ) (name : FileName)
    → slice_get (dropped kept dated) k ≡ Some name
    → IsGone kept dated name
gone_at [] dated k name is = absurd cc
gone_at (keep ∷ kept) [] k name is = absurd cc
gone_at (true ∷ kept) (d ∷ dated) k name is = one_later true kept d dated name (gone_at kept dated k name is)
gone_at (false ∷ kept) (d ∷ dated) zero name is =
    record { place = zero; one = d; there = refl; named = (cc); gone = refl }
gone_at (false ∷ kept) (d ∷ dated) (suc k) name is = one_later false kept d dated name (gone_at kept dated k name is)

itself : (path : List ℕ) → is_name path path ≡ false → ⊥
itself path is = let e : true ≡ false = sym (is_name-same path) ∙ is in absurd cc

-- each path stands once
pub one_place : (paths : List (List ℕ)) → IsDistinct is_name paths → (i j : ℕ) (path : List ℕ)
    → slice_get paths i ≡ Some path
    → slice_get paths j ≡ Some path → i ≡ j
unfolding IsDistinct
one_place [] once i j path here there = absurd cc
one_place (p ∷ paths) once zero zero path here there = refl
one_place (p ∷ paths) once zero (suc j) path here there =
    let e : p ≡ path = (cc) in
    absurd (itself path (subst (λ (x : List ℕ). is_name x path ≡ false) e
    (all_at (λ y. is_name p y ≡ false) paths j path once.0 there)))
one_place (p ∷ paths) once (suc i) zero path here there =
    let e : p ≡ path = (cc) in
    absurd (itself path (subst (λ (x : List ℕ). is_name x path ≡ false) e
    (all_at (λ y. is_name p y ≡ false) paths i path once.0 here)))
one_place (p ∷ paths) once (suc i) (suc j) path here there = ap suc (one_place paths once.1 i j path here there)

pub path_at : (dated : List Dated) (k : ℕ) (one : Dated) (name : FileName) → slice_get dated k ≡ Some one
    → one.name ≡ name
    → slice_get (paths_of (names_of dated)) k ≡ Some (path_of name)
path_at dated k one name at named =
    slice_get-map path_of (names_of dated) k
    ∙ ap (λ (o : Option FileName). option_map path_of o)
    (slice_get-map (λ (d : Dated). d.name) dated k ∙ ap (λ (o : Option Dated). option_map (λ (d : Dated). d.name) o) at)
    ∙ ap (λ (n : FileName). Some (path_of n)) named

pub name_of_path : (names : List FileName) (k : ℕ) (path : List ℕ) → slice_get (paths_of names) k ≡ Some path
    → (name : FileName) × (slice_get names k ≡ Some name) × (path_of name ≡ path)
name_of_path [] k path is = absurd cc
name_of_path (n ∷ names) zero path is = (n, refl, cc)
name_of_path (n ∷ names) (suc k) path is = name_of_path names k path is

-- ---- chains

ends_there : (IsThere : FileName → Type 0) (from : ℕ) (chain : List FileName) (t : ℕ) → LeadsBy IsThere from chain t
    → t ≤ from
    → from ≡ t
ends_there IsThere from [] t leads high = leads
ends_there IsThere from (name ∷ chain) t (there, next, leads) high =
    let up = next.goes_on in
    let same = ends_there IsThere name.max chain t leads (omega (arith, up, high)) in absurd
    (omega (arith, same, up, high))

-- a chain of files ends with the transaction that it leads to
pub chain_last : (IsThere : FileName → Type 0) (from : ℕ) (chain : List FileName) (t : ℕ)
    → LeadsBy IsThere from chain t → from < t
    → (name : FileName) × IsThere name × (name.max ≡ t)
chain_last IsThere from [] t leads low = absurd (omega (arith, leads, low))
chain_last IsThere from (name ∷ chain) t (there, next, leads) low = elim (cases_lt name.max t) [
  | inl further ↦ chain_last IsThere name.max chain t leads further
  | inr end ↦ (name, there, ends_there IsThere name.max chain t leads end)
]

-- ---- moments

by_test : {P : Type 0} (b : Bool) → (b ≡ true → P) → (b ≡ false → P) → P
by_test true f g = f refl
by_test false f g = g refl

eqb-same : (n : ℕ) → (n == n) ≡ true
eqb-same n = grind (arith, nat_tests)

some_and : (own cut : ℕ) (o : Option ℕ) → o ≡ Some own → cut ≤ own → IsSomeAnd o (λ own. cut ≤ own)
some_and own cut o is late = subst (λ (o : Option ℕ). IsSomeAnd o (λ own. cut ≤ own)) (sym is) late

not_first : (d : Dated) (dated : List Dated) (name : FileName) (t : ℕ) → (d.name.max == t) ≡ false
    → Contains (names_of (d ∷ dated)) name → name.max ≡ t → Contains (names_of dated) name
not_first d dated name t other (zero, low, here) is =
    let e : true ≡ false = sym (eqb-same t) ∙ ap (λ (n : ℕ). n == t) (sym is ∙ ap (λ (n : FileName). n.max) (sym here))
    ∙ other in absurd cc
not_first d dated name t other (suc k, low, there) is = (k, omega (arith, low), there)

-- the moment of a transaction isn't before the cut where that of no file is that ends with it
pub young_moment : (dated : List Dated) (cut t : ℕ) (name : FileName)
    → ((d : Dated) → Contains dated d → d.name.max ≡ t → cut ≤ d.moment) → Contains (names_of dated) name → name.max ≡ t
    → protected.IsYoung dated cut t
young_moment [] cut t name late has is = absurd (omega (arith, has.1))
young_moment (d ∷ dated) cut t name late has is =
    by_test (d.name.max == t)
    (λ ends.
    some_and d.moment cut (moment_of (d ∷ dated) t)
    (ap (λ (b : Bool). if b then Some d.moment else moment_of dated t) ends)
    (late d (zero, omega arith, refl) (eqb-true d.name.max t ends)))
    (λ other.
    let rest = young_moment dated cut t name
    (λ e there is. late e (suc there.0, omega (arith, there.1), there.2) is) (not_first d dated name t other has is) is
    in
    subst (λ (o : Option ℕ). IsSomeAnd o (λ own. cut ≤ own))
    (sym (ap (λ (b : Bool). if b then Some d.moment else moment_of dated t) other)) rest)
