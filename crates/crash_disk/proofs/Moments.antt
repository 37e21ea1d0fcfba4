-- What a crash at some moment may have left, as the record grows.
use Rattle.std.proofs.Common.{◌≡◌, ℕ, zero, suc, ◌+◌, ◌≤◌, ◌⊎◌, inl, inr, List, ◌∷◌, length, drop, subst, arith}
use Rattle.crash_disk.specs.declared.event.Event.{Event}
use Rattle.crash_disk.specs.Files.{Files}
use Rattle.crash_disk.specs.Images.{IsCrashImage, WasCrashImageSince}

-- a crash now is one since each moment up to now
pub since_now : (events : List Event) (moment : ℕ) (image : Files) → moment ≤ length events
    → IsCrashImage events image → WasCrashImageSince events moment image
since_now events moment image past is = record { ago = 0; since = omega arith; was = is }

-- what might have been left since stays so
pub since_kept : (event : Event) (events : List Event) (moment : ℕ) (image : Files)
    → WasCrashImageSince events moment image → WasCrashImageSince (event ∷ events) moment image
since_kept event events moment image was = record { ago = suc was.ago; since = omega (arith, was.since); was = was.was }

more_since : (event : Event) (events : List Event) (moment ago : ℕ) (image : Files)
    → moment + ago ≤ length (event ∷ events) → IsCrashImage (drop ago (event ∷ events)) image
    → IsCrashImage (event ∷ events) image ⊎ WasCrashImageSince events moment image
more_since event events moment zero image since was = inl was
more_since event events moment (suc ago) image since was = inr (record { ago = ago; since = omega arith; was = was })

-- after one more change it grows by the present images alone
pub since_more : (event : Event) (events : List Event) (moment : ℕ) (image : Files)
    → WasCrashImageSince (event ∷ events) moment image → IsCrashImage (event ∷ events) image
    ⊎ WasCrashImageSince events moment image
since_more event events moment image was = more_since event events moment was.ago image was.since was.was

-- since now there are the present images alone
pub since_start : (events : List Event) (image : Files) → WasCrashImageSince events (length events) image
    → IsCrashImage events image
since_start events image was =
    let now : was.ago ≡ 0 = omega (arith, was.since) in
    subst (λ ago. IsCrashImage (drop ago events) image) now was.was
