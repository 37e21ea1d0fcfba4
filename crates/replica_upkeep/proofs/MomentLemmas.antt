-- The moments that a list tells, and those of headers.
use Rattle.std.proofs.Common.{◌≡◌, ℕ, ◌==◌, ◌&&◌, List, [], ◌∷◌, Bool, true, false, Some, refl, sym, ap, subst, ◌∙◌}
use Rattle.std.proofs.Common.{inl, inr, arith}
use Rattle.std.specs.Prelude.{if◌then◌else◌}
use Rattle.std.specs.List.{Contains}
use Rattle.std.proofs.lemmas.Bool.{eqb-true}
use Rattle.std.proofs.lemmas.Bool.Decides.{nat_tests}
use Rattle.crash_disk.specs.Files.{Files}
use Rattle.ltx_format.specs.declared.header.LtxHeader.{LtxHeader}
use Rattle.ltx_format.proofs.FrontLemmas.{same_header}
use Rattle.compact_levels.specs.Due.{is_same_name, file_moment}
use Rattle.replica_store.specs.declared.dated_names.Dated.{Dated}
use Rattle.replica_store.specs.declared.file_name.FileName.{FileName}
use Rattle.replica_store.specs.Chain.{names_of}
use Rattle.replica_store.specs.Dating.{HaveMoments, IsHeaderUnder}
use Rattle.replica_store.specs.Listing.{bytes_under, path_of}
use Rattle.replica_store.proofs.PathLemmas.{same_parts}
use Rattle.replica_upkeep.proofs.ListedLemmas.{head_or_tail}

by_test : {P : Type 0} (b : Bool) → (b ≡ true → P) → (b ≡ false → P) → P
by_test true f g = f refl
by_test false f g = g refl

both_true : (a b : Bool) → (a && b) ≡ true → (a ≡ true) × (b ≡ true)
both_true true b e = (refl, e)
both_true false b e = absurd cc

eqb-same : (n : ℕ) → (n == n) ≡ true
eqb-same n = grind (arith, nat_tests)

same_name : (a b : FileName) → is_same_name a b ≡ true → a ≡ b
same_name a b e =
    let outer = both_true (a.level == b.level && a.min == b.min) (a.max == b.max) e in
    let inner = both_true (a.level == b.level) (a.min == b.min) outer.0 in
    same_parts a b (eqb-true a.level b.level inner.0) (eqb-true a.min b.min inner.1) (eqb-true a.max b.max outer.1)

is_same : (a : FileName) → is_same_name a a ≡ true
is_same a =
    ap (λ (t : Bool). t && a.min == a.min && a.max == a.max) (eqb-same a.level)
    ∙ ap (λ (t : Bool). t && a.max == a.max) (eqb-same a.min) ∙ eqb-same a.max

pub one_header : (files : Files) (name : FileName) (a b : LtxHeader) → IsHeaderUnder files name a
    → IsHeaderUnder files name b → a ≡ b
one_header files name a b first second = same_header (bytes_under files (path_of name)) a b first.has second.has

-- the list tells the moment of the header
pub told_moment : (files : Files) (dated : List Dated) (name : FileName) (header : LtxHeader) → HaveMoments files dated
    → Contains (names_of dated) name → IsHeaderUnder files name header → file_moment dated name ≡ Some header.moment
told_moment files [] name header has there under = absurd (omega (arith, there.1))
told_moment files (d ∷ dated) name header (own, has) there under =
    by_test (is_same_name d.name name)
    (λ yes.
    let is = same_name d.name name yes in
    let one = one_header files name own.0 header (subst (λ (n : FileName). IsHeaderUnder files n own.0) is own.1) under
    in
    ap (λ (t : Bool). if t then Some d.moment else file_moment dated name) yes
    ∙ ap (λ (m : ℕ). Some m) (sym own.2 ∙ ap (λ (h : LtxHeader). h.moment) one))
    (λ no.
    ap (λ (t : Bool). if t then Some d.moment else file_moment dated name) no
    ∙ elim (head_or_tail d.name name (names_of dated) there) [
      | inl is ↦
          let e : true ≡ false = sym (is_same name) ∙ ap (λ (n : FileName). is_same_name n name) (sym is) ∙ no in
          absurd cc
      | inr later ↦ told_moment files dated name header has later under
    ])

-- the moment of a name in the list is that of its header
pub header_told : (files : Files) (dated : List Dated) (d : Dated) (header : LtxHeader) → HaveMoments files dated
    → Contains dated d
    → IsHeaderUnder files d.name header → header.moment ≡ d.moment
header_told files [] d header has there under = absurd (omega (arith, there.1))
header_told files (e ∷ dated) d header (own, has) there under = elim (head_or_tail e d dated there) [
  | inl is ↦
      let name : e.name ≡ d.name = ap (λ (x : Dated). x.name) is in
      let one = one_header files d.name own.0 header (subst (λ (n : FileName). IsHeaderUnder files n own.0) name own.1)
      under in
      sym (ap (λ (h : LtxHeader). h.moment) one) ∙ own.2 ∙ ap (λ (x : Dated). x.moment) is
  | inr later ↦ header_told files dated d header has later under
]
