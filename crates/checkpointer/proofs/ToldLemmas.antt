-- What holds of the record after one more change.
use Rattle.std.proofs.Common.{◌≡◌, ◌∙◌, ℕ, List, ◌∷◌, Option, Some, None, IsSome, sym, subst, refl}
use Rattle.crash_disk.specs.declared.event.Event.{Event}
use Rattle.crash_disk.specs.declared.event.Event.TheVariants.{Cut}
use Rattle.crash_disk.specs.Files.{file_at, IsThere}
use Rattle.crash_disk.specs.Told.{Told, IfTold, gains}
use Rattle.crash_disk.proofs.FileLaws.{file_at-Cut-here}

pub gained : (old new : Told) (event : Event) (P Q : List Event → Type 0) → new ≡ gains old event
    → ((x : List Event) → P x → Q (event ∷ x)) → IfTold old P → IfTold new Q
gained None new event P Q is step held events told = let none : ◌≡◌ {A = Told} None (Some events) = sym is
    ∙ told in absurd cc
gained (Some x) new event P Q is step held events told =
    let both : ◌≡◌ {A = Told} (Some (event ∷ x)) (Some events) = sym is ∙ told in
    let same : event ∷ x ≡ events = cc in
    subst Q same (step x (held x refl))

there_cut : (events : List Event) (name : List ℕ) (size : ℕ) (file : Option (List ℕ)) → file_at events name ≡ file
    → IsSome file → IsThere (Cut name size ∷ events) name
there_cut events name size None e some = absurd cc
there_cut events name size (Some bytes) e some = record
    { there = subst (λ (x : Option (List ℕ)). IsSome x) (sym (file_at-Cut-here events name size bytes e)) refl }

pub still_there_cut : (events : List Event) (name : List ℕ) (size : ℕ) → IsThere events name
    → IsThere (Cut name size ∷ events) name
still_there_cut events name size is = there_cut events name size (file_at events name) refl is.there
