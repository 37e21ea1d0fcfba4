-- Sizes that are asked for one after another.
use Rattle.std.proofs.Common.{◌≡◌, ℕ, suc, ◌+◌, ◌<◌, ◌≤◌, List, [], ◌∷◌, ◌++◌, map, length, take, get_or, Option, Some}
use Rattle.std.proofs.Common.{None, refl, sym, ap, ◌∙◌, arith}
use Rattle.std.specs.Prelude.{option_map, unwrap_or}
use Rattle.std.proofs.Math.Seq.{take-suc}
use Rattle.std.proofs.lemmas.List.{map-append, take_all}
use Rattle.crash_disk.specs.declared.event.Event.{Event}
use Rattle.crash_disk.specs.Files.{Files, files_after, size_of}
use Rattle.replica_store.specs.declared.dated_names.Dated.{Dated}
use Rattle.replica_store.specs.Chain.{names_of}
use Rattle.replica_store.specs.Listing.{path_of}
use Rattle.ltx_command.specs.Files.{size_under}

-- an absent file has no bytes
none_or : (found : Option (List ℕ)) → unwrap_or (option_map length found) 0 ≡ length (unwrap_or found [])
none_or None = refl
none_or (Some bytes) = refl

-- the sizes of the first names
abbrev pub sizes_to : Files → List Dated → ℕ → List ℕ
sizes_to files dated at = map (λ d. size_under files d.name) (take at dated)

-- one size more
pub size_more : (events : List Event) (dated : List Dated) (at : ℕ) (one : Dated) (sizes after : List ℕ)
    (size : Option ℕ) → at < length dated → one ≡ get_or dated at one → size ≡ size_of events (path_of one.name)
    → sizes ≡ sizes_to (files_after events) dated at → after ≡ sizes ++ unwrap_or size 0 ∷ []
    → after ≡ sizes_to (files_after events) dated (at + 1)
size_more events dated at one sizes after size below is asked so_far pushed =
    let f : Dated → ℕ = λ d. size_under (files_after events) d.name in
    let next : at + 1 ≡ suc at = omega arith in
    let last : unwrap_or size 0 ≡ f one = ap (λ s. unwrap_or s 0) asked ∙ none_or _ in
    pushed ∙ ap (λ xs. xs ++ unwrap_or size 0 ∷ []) so_far ∙ ap (λ n. map f (take at dated) ++ n ∷ []) last
    ∙ sym (map-append f (take at dated) (one ∷ []))
    ∙ ap (λ d. map f (take at dated ++ d ∷ [])) is
    ∙ ap (map f) (sym (take-suc dated at one below) ∙ ap (λ k. take k dated) (sym next))

names_sizes : (files : Files) (dated : List Dated)
    → map (λ d. size_under files d.name) dated ≡ map (size_under files) (names_of dated)
names_sizes files [] = refl
names_sizes files (d ∷ dated) = ap (λ xs. size_under files d.name ∷ xs) (names_sizes files dated)

-- all sizes
pub sizes_all : (files : Files) (dated : List Dated) (at : ℕ) (sizes : List ℕ) → length dated ≤ at
    → sizes ≡ sizes_to files dated at → sizes ≡ map (size_under files) (names_of dated)
sizes_all files dated at sizes all so_far =
    so_far ∙ ap (map (λ d. size_under files d.name)) (take_all at dated all) ∙ names_sizes files dated
