-- Whatever the removal of dropped names leaves, each protected transaction is retained in it.
use Rattle.std.proofs.Common.{◌≡◌, ℕ, inl, inr, zero, suc, Bool, true, false, cond, List, [], ◌∷◌, length, Option, Some}
use Rattle.std.proofs.Common.{slice_get, refl, sym, ap, ◌∙◌, subst}
use Rattle.std.specs.Prelude.{IsSome}
use Rattle.std.specs.FinMap.{get}
use Rattle.std.specs.List.{Contains, IsDistinct, AllByRecursion}
use Rattle.std.specs.Option.{option_map}
use Rattle.std.proofs.lemmas.Bool.{false≢true}
use Rattle.std.proofs.lemmas.Option.{slice_get-map}
use Rattle.crash_disk.specs.declared.event.Event.{Event}
use Rattle.crash_disk.specs.Files.{Files, is_name}
use Rattle.crash_disk.specs.GoesOn.{GoesOn}
use Rattle.crash_disk.specs.Told.{Told}
use Rattle.crash_disk.proofs.GoesOnLemmas.{goes_on-weaker}
use Rattle.crash_disk.specs.Images.{WasCrashImageSince}
use Rattle.crash_disk.proofs.FileLaws.{at_name}
use Rattle.crash_disk.proofs.PutTheorem.{image_with}
use Rattle.replica_store.specs.declared.dated_names.Dated.{Dated}
use Rattle.replica_store.specs.declared.file_name.FileName.{FileName}
use Rattle.replica_store.specs.Chain.{names_of}
use Rattle.replica_store.specs.Dropping.{MayDropAll}
use Rattle.replica_store.specs.Listing.{path_of, paths_of, IsIn}
use Rattle.retention.specs.Drops.{AreDrops}
use Rattle.retention.specs.Pruning.{IsDroppedInOrder, LeavesAll, KeepsProtectedSince}
use Rattle.retention.specs.Walk.{standing, dropped}
use Rattle.retention.proofs.LeadLemmas.{leads_larger}
use Rattle.retention.proofs.ListLemmas.{contained_at}
use Rattle.retention.proofs.OrderLemmas.{path_there, told_among}
use Rattle.retention.proofs.StandingLemmas.{from_standing, named_among}

-- ---- each path stands once

all_at : (P : List ℕ → Type 0) (paths : List (List ℕ)) (i : ℕ) (path : List ℕ) → AllByRecursion P paths
    → slice_get paths i ≡ Some path → P path
all_at P [] i path all at = absurd cc
all_at P (p ∷ paths) zero path all at = let e : p ≡ path = (cc) in subst P e all.0
all_at P (p ∷ paths) (suc i) path all at = all_at P paths i path all.1 at

itself : (path : List ℕ) → is_name path path ≡ false → ⊥
itself path is = false≢true (sym (ap (λ b. cond b true false) is) ∙ at_name path true false)

one_place : (paths : List (List ℕ)) → IsDistinct is_name paths → (i j : ℕ) (path : List ℕ)
    → slice_get paths i ≡ Some path → slice_get paths j ≡ Some path → i ≡ j
unfolding IsDistinct
one_place [] once i j path here there = absurd cc
one_place (p ∷ paths) once zero zero path here there = refl
one_place (p ∷ paths) once zero (suc j) path here there = let e : p ≡ path = (cc) in absurd
    (itself path (subst (λ x. is_name x path ≡ false) e (all_at (λ y. is_name p y ≡ false) paths j path once.0 there)))
one_place (p ∷ paths) once (suc i) zero path here there = let e : p ≡ path = (cc) in absurd
    (itself path (subst (λ x. is_name x path ≡ false) e (all_at (λ y. is_name p y ≡ false) paths i path once.0 here)))
one_place (p ∷ paths) once (suc i) (suc j) path here there = ap suc (one_place paths once.1 i j path here there)

-- a dropped path is that of a name which isn't kept
record IsGone (kept : List Bool) (dated : List Dated) (path : List ℕ) : Type 0 where
  place : ℕ
  at : slice_get (paths_of (names_of dated)) place ≡ Some path
  gone : slice_get kept place ≡ Some false

gone_at : (kept : List Bool) (dated : List Dated) (k : ℕ) (path : List ℕ)
    → slice_get (paths_of (dropped kept dated)) k ≡ Some path → IsGone kept dated path
gone_at [] dated k path is = absurd cc
gone_at (keep ∷ kept) [] k path is = absurd cc
gone_at (true ∷ kept) (d ∷ dated) k path is = let g = gone_at kept dated k path is in record
    { place = suc g.place; at = g.at; gone = g.gone }
gone_at (false ∷ kept) (d ∷ dated) zero path is = record { place = zero; at = is; gone = refl }
gone_at (false ∷ kept) (d ∷ dated) (suc k) path is = let g = gone_at kept dated k path is in record
    { place = suc g.place; at = g.at; gone = g.gone }

-- whatever a crash left since has the names that are kept
kept_in : (dated : List Dated) (cut : ℕ) (names : List FileName) (lost : List ℕ)
    (drops : AreDrops dated cut names lost) (before now : List Event) → MayDropAll (paths_of names) before now
    → IsDistinct is_name (paths_of (names_of dated)) → LeavesAll (names_of dated) before → (image : Files)
    → WasCrashImageSince now (length before) image
    → (name : FileName) → Contains (standing drops.kept dated) name → IsIn image name
kept_in dated cut names lost drops before now may once leaves image was name there =
    let s = from_standing drops.kept dated name there in
    let q = path_of name in
    let among : Contains (names_of dated) name = subst (λ n. Contains (names_of dated) n) s.named
    (named_among dated s.place s.one s.there) in
    elim (may.at_a_stop image was q) [
      | inl stands ↦
          let with = image_with before q (get image q) stands in
          let was_in = leaves _ with.0 name among in
          record { valid = was_in.valid; there = subst (λ (file : Option (List ℕ)). IsSome file) with.1 was_in.there }
      | inr gone ↦
          let a = contained_at (paths_of names) q gone.0 in
          let g = gone_at drops.kept dated a.0 q (ap (λ ns. slice_get (paths_of ns) a.0) (sym drops.drops) ∙ a.1) in
          let mine : slice_get (paths_of (names_of dated)) s.place ≡ Some q = path_there (names_of dated) s.place name
          (slice_get-map (λ (d : Dated). d.name) dated s.place
          ∙ ap (λ (o : Option Dated). option_map (λ (d : Dated). d.name) o) s.there ∙ ap Some s.named) in
          let same = one_place (paths_of (names_of dated)) once s.place g.place q mine g.at in
          absurd (s.stands (ap (slice_get drops.kept) same ∙ g.gone))
    ]

keeps_protected : (dated : List Dated) (cut : ℕ) (names : List FileName) (lost : List ℕ) → AreDrops dated cut names lost
    → (before now : List Event) → MayDropAll (paths_of names) before now → KeepsProtectedSince dated cut before now
keeps_protected dated cut names lost drops before now may once leaves image was t is =
    let kept = drops.protected t is in
    let Kept = Contains (standing drops.kept dated) in
    let there = kept_in dated cut names lost drops before now may once leaves image was in
    record {
      positive = kept.positive;
      chain = kept.chain;
      leads = leads_larger Kept (IsIn image) there 0 kept.chain t kept.leads;
    }

pub told_protected : (t u : Told) (dated : List Dated) (cut : ℕ) (names : List FileName) (lost : List ℕ)
    → AreDrops dated cut names lost → GoesOn t u (IsDroppedInOrder names) → GoesOn t u (KeepsProtectedSince dated cut)
told_protected t u dated cut names lost drops order =
    goes_on-weaker t u (MayDropAll (paths_of names)) (KeepsProtectedSince dated cut) (told_among t u names order)
    (λ x y may. keeps_protected dated cut names lost drops x y may)
