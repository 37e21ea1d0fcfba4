-- Once the names are synced a crash leaves exactly those that are there.
use Rattle.std.proofs.Common.{ℕ, List, ◌∷◌, Option, Some, None, refl, sym, subst, ⊎_elim}
use Rattle.std.specs.Prelude.{◌↔◌, IsSome}
use Rattle.std.specs.FinMap.{get}
use Rattle.crash_disk.specs.declared.event.Event.{Event}
use Rattle.crash_disk.specs.declared.event.Event.TheVariants.{NamesSynced}
use Rattle.crash_disk.specs.Files.{Files}
use Rattle.crash_disk.specs.Images.{IsImageOf, IsCrashImage}
use Rattle.crash_disk.specs.Numbers.{number_at, numbers_at, file_of}
use Rattle.crash_disk.proofs.ReadFiles.{bytes_by, file_at-numbered}
use Rattle.replica_store.specs.Putting.{LeavesTheNames}

-- an image of a number is there where the number is
both_there : (events : List Event) (number : Option ℕ) (file : Option (List ℕ)) → IsImageOf events number file
    → IsSome file ↔ IsSome (bytes_by (file_of events) number)
both_there events None None is = (λ h. h, λ h. h)
both_there events None (Some bytes) is = absurd is
both_there events (Some n) None is = absurd is
both_there events (Some n) (Some bytes) is = (λ h. refl, λ h. refl)

the_number : (events : List Event) (q : List ℕ) (image : Files) → IsCrashImage (NamesSynced ∷ events) image
    → IsImageOf (NamesSynced ∷ events) (number_at (NamesSynced ∷ events) q) (get image q)
unfolding numbers_at number_at
the_number events q image crash = ⊎_elim (λ is. is) (λ none. absurd none) (crash.each q).one

pub leaves_the_names : (events : List Event) → LeavesTheNames (NamesSynced ∷ events)
leaves_the_names events image crash q =
    subst (λ (file : Option (List ℕ)). IsSome (get image q) ↔ IsSome file)
    (sym (file_at-numbered (NamesSynced ∷ events) q))
    (both_there (NamesSynced ∷ events) (number_at (NamesSynced ∷ events) q) (get image q)
    (the_number events q image crash))
