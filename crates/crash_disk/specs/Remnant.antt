-- What `crash` of a disk in memory leaves of the changes of a name and of a file's bytes, by its choice. This
-- project's rule.
use Rattle.std.specs.Prelude.{ℕ, ◌+◌, ◌-◌, ◌*◌, ◌/◌, ◌%◌, min, Bool, if◌then◌else◌, ◌==◌, nat_lt, List, [], ◌∷◌, ◌++◌}
use Rattle.std.specs.Prelude.{length, sum, take, drop, replicate}
use Rattle.crash_disk.specs.declared.remnant.Remnant.{Remnant}
use Rattle.crash_disk.specs.declared.remnant.Remnant.TheVariants.{OfTheSync, AsRead, Torn, OfEarlierLength}
use Rattle.crash_disk.specs.Files.{with_length}
use Rattle.crash_disk.specs.FileState.{FileState, Range}

-- the choices from 3 on mix: this number's last three bits say what is taken at a name
abbrev pub mix : ℕ → List ℕ → ℕ
mix choice name = choice % 8 + (choice / 8 % 8 + 1) * (sum name % 8)

-- whether the changes of the name since its sync are taken: not at choice 0, and at choices 1 and 2
abbrev pub takes_names : ℕ → List ℕ → Bool
takes_names choice name = if nat_lt choice 3 then nat_lt 0 choice else mix choice name / 4 % 2 == 1

-- one of the four, by number
abbrev pub mixed : ℕ → Remnant
mixed n = if n == 0 then OfTheSync else (if n == 1 then AsRead else (if n == 2 then Torn else OfEarlierLength))

-- what is left of its file's bytes: as at their sync at choices 0 and 2, as they read at choice 1
abbrev pub remnant_at : ℕ → List ℕ → Remnant
remnant_at choice name =
    if nat_lt choice 3
    then (if choice == 1 then AsRead else OfTheSync)
    else mixed (mix choice name % 4)

-- the bytes with stray ones inside the range
abbrev pub scribbled : Range → List ℕ → List ℕ
scribbled range bytes =
    let start = min range.start (length bytes) in
    let stray = replicate (min range.end (length bytes) - start) 90 in
    take start bytes ++ stray ++ drop (start + length stray) bytes

-- the same inside each of the ranges
abbrev pub torn : List Range → List ℕ → List ℕ
torn [] bytes = bytes
torn (range ∷ ranges) bytes = scribbled range (torn ranges bytes)

-- the length before the newest one, or the only one
abbrev pub length_before : List ℕ → ℕ
length_before [] = 0
length_before (now ∷ []) = now
length_before (now ∷ before ∷ _) = before

-- what is left of a file's bytes
abbrev pub bytes_left : Remnant → FileState → List ℕ
bytes_left OfTheSync file = file.synced
bytes_left AsRead file = file.bytes
bytes_left Torn file = torn file.ranges file.bytes
bytes_left OfEarlierLength file =
    with_length (length_before file.lengths) (file.bytes ++ drop (length file.bytes) file.synced)
