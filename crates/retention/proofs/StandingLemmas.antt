-- Which names stand.
use Rattle.std.proofs.Common.{◌≡◌, ℕ, zero, suc, Bool, true, false, List, [], ◌∷◌, Option, Some, slice_get, refl, ap}
use Rattle.std.proofs.Common.{◌∙◌, arith}
use Rattle.std.proofs.lemmas.Option.{slice_get-map}
use Rattle.std.specs.List.{Contains}
use Rattle.std.specs.Option.{option_map}
use Rattle.replica_store.specs.declared.dated_names.Dated.{Dated}
use Rattle.replica_store.specs.declared.file_name.FileName.{FileName}
use Rattle.replica_store.specs.Chain.{names_of}
use Rattle.retention.specs.Walk.{standing}
use Rattle.retention.proofs.ListLemmas.{contains_at, contained_at}

-- the name stands at a place, where it wasn't dropped
pub record IsStanding (kept : List Bool) (dated : List Dated) (name : FileName) : Type 0 where
  pub place : ℕ
  pub one : Dated
  pub there : slice_get dated place ≡ Some one
  pub named : one.name ≡ name
  pub stands : slice_get kept place ≡ Some false → ⊥

among_more : (name first : FileName) (names : List FileName) → Contains names name → Contains (first ∷ names) name
among_more name first names there = (suc there.0, omega (arith, there.1), there.2)

pub named_among : (dated : List Dated) (i : ℕ) (one : Dated) → slice_get dated i ≡ Some one
    → Contains (names_of dated) one.name
named_among dated i one there = contains_at (names_of dated) i one.name
    (slice_get-map (λ (d : Dated). d.name) dated i ∙ ap (λ (o : Option Dated). option_map (λ (d : Dated). d.name) o)
    there)

pub in_standing : (kept : List Bool) (dated : List Dated) (i : ℕ) (one : Dated) → slice_get dated i ≡ Some one
    → (slice_get kept i ≡ Some false → ⊥) → Contains (standing kept dated) one.name
in_standing [] dated i one there not = named_among dated i one there
in_standing (keep ∷ kept) [] i one there not = absurd cc
in_standing (true ∷ kept) (d ∷ dated) zero one there not = let e : d ≡ one = (cc) in
    (zero, omega arith, ap (λ (x : Dated). x.name) e)
in_standing (false ∷ kept) (d ∷ dated) zero one there not = absurd (not refl)
in_standing (true ∷ kept) (d ∷ dated) (suc i) one there not = among_more one.name d.name (standing kept dated)
    (in_standing kept dated i one there not)
in_standing (false ∷ kept) (d ∷ dated) (suc i) one there not = in_standing kept dated i one there not

standing_at_name : (dated : List Dated) (k : ℕ) (name : FileName) → slice_get (names_of dated) k ≡ Some name
    → IsStanding [] dated name
standing_at_name [] k name is = absurd cc
standing_at_name (d ∷ dated) zero name is = record
    { place = zero; one = d; there = refl; named = (cc); stands = λ h. absurd cc }
standing_at_name (d ∷ dated) (suc k) name is =
    let s = standing_at_name dated k name is in
    record { place = suc s.place; one = s.one; there = s.there; named = s.named; stands = λ h. absurd cc }

one_later : (keep : Bool) (kept : List Bool) (d : Dated) (dated : List Dated) (name : FileName)
    → IsStanding kept dated name → IsStanding (keep ∷ kept) (d ∷ dated) name
one_later keep kept d dated name s = record
    { place = suc s.place; one = s.one; there = s.there; named = s.named; stands = s.stands }

standing_at : (kept : List Bool) (dated : List Dated) (k : ℕ) (name : FileName)
    → slice_get (standing kept dated) k ≡ Some name → IsStanding kept dated name
standing_at [] dated k name is = standing_at_name dated k name is
standing_at (keep ∷ kept) [] k name is = absurd cc
standing_at (true ∷ kept) (d ∷ dated) zero name is = record
    { place = zero; one = d; there = refl; named = (cc); stands = λ h. absurd cc }
standing_at (true ∷ kept) (d ∷ dated) (suc k) name is = one_later true kept d dated name
    (standing_at kept dated k name is)
standing_at (false ∷ kept) (d ∷ dated) k name is = one_later false kept d dated name (standing_at kept dated k name is)

pub from_standing : (kept : List Bool) (dated : List Dated) (name : FileName) → Contains (standing kept dated) name
    → IsStanding kept dated name
from_standing kept dated name there = let a = contained_at (standing kept dated) name there in standing_at kept dated
    a.0 name a.1
