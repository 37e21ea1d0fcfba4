-- The definition of crash images at small disks worked by hand: which files a crash may leave, and which it can't.
use Rattle.std.proofs.Common.{◌≡◌, ℕ, zero, suc, ◌<◌, List, [], ◌∷◌, length, Some, None, inl, inr, refl, sym, ◌∙◌}
use Rattle.std.proofs.Common.{subst, arith, lit<}
use Rattle.std.specs.Prelude.{slice_index}
use Rattle.std.specs.FinMap.{get, get-insert}
use Rattle.std.specs.Cmp.Lexicographic.{nat_list_cmp_total}
use Rattle.crash_disk.specs.declared.event.Event.{Event}
use Rattle.crash_disk.specs.declared.event.Event.TheVariants.{Placed, Created, Appended, Wrote, Renamed}
use Rattle.crash_disk.specs.Files.{Files, files_after, file_at}
use Rattle.crash_disk.specs.FileState.{Range, IsInside, SomeOf, IsFileImage}
use Rattle.crash_disk.specs.Numbers.{number_at, numbers_at, file_of}
use Rattle.crash_disk.specs.Images.{MayStandAt, IsCrashImage}
use Rattle.crash_disk.proofs.FileLaws.{file_at-Renamed, file_at-Placed-here}
use Rattle.crash_disk.proofs.PutTheorem.{image_with}

-- the bytes 1 2 3 were placed under the name 97, and 9 was written over the 2
abbrev written_over : List Event
written_over = Wrote (97 ∷ []) 1 (9 ∷ []) ∷ Placed (97 ∷ []) (1 ∷ 2 ∷ 3 ∷ []) ∷ []

-- the written byte may be any
torn_inside : MayStandAt written_over (97 ∷ []) (Some (1 ∷ 77 ∷ 3 ∷ []))
unfolding numbers_at number_at file_of
torn_inside = record { one = inl (record { had_length = inl refl; kept = same }) }
  where
    same : (place : ℕ) → place < 3 → place < 3 → (SomeOf (IsInside place) (record { start = 1; end = 2 } ∷ []) → ⊥)
        → slice_index (1 ∷ 77 ∷ 3 ∷ []) place ≡ slice_index (1 ∷ 2 ∷ 3 ∷ []) place
    same zero below synced free = refl
    same (suc zero) below synced free = absurd (free (inl (omega arith, omega arith)))
    same (suc (suc zero)) below synced free = refl
    same (suc (suc (suc n))) below synced free = absurd (omega arith)

-- a byte beside it is as it was
torn_outside : MayStandAt written_over (97 ∷ []) (Some (7 ∷ 9 ∷ 3 ∷ [])) → ⊥
unfolding numbers_at number_at file_of
torn_outside stands = elim stands.one [
  | inl image ↦
      let kept : 7 ≡ 1 = image.kept 0 (lit< tt) (lit< tt)
      (λ some. elim some [ inl inside ↦ omega (arith, inside.0) | inr none ↦ none ]) in
      omega (arith, kept)
  | inr none ↦ none
]

-- the length is one that the file had
never_so_short : MayStandAt written_over (97 ∷ []) (Some (1 ∷ 9 ∷ [])) → ⊥
unfolding numbers_at number_at file_of
never_so_short stands = elim stands.one [
  | inl image ↦ elim image.had_length
      [ inl now ↦ omega (arith, now) | inr before ↦ elim before [ inl same ↦ omega (arith, same) | inr none ↦ none ] ]
  | inr none ↦ none
]

-- a file that was made and written to, and never synced, may have any bytes of its length
abbrev never_synced : List Event
never_synced = Appended (97 ∷ []) (1 ∷ 2 ∷ []) ∷ Created (97 ∷ []) ∷ []

any_bytes : MayStandAt never_synced (97 ∷ []) (Some (5 ∷ 6 ∷ []))
unfolding numbers_at number_at file_of
any_bytes = record {
  one = inl
      (record { had_length = inl refl; kept = λ place below synced free. absurd (omega (arith, synced)) });
}

-- and so may not be there
not_there : MayStandAt never_synced (97 ∷ []) None
unfolding numbers_at number_at file_of
not_there = record { one = inr (inl tt) }

-- the bytes 1 2 were placed under the name 97, which then became 98
abbrev renamed : List Event
renamed = Renamed (97 ∷ []) (98 ∷ []) ∷ Placed (97 ∷ []) (1 ∷ 2 ∷ []) ∷ []

old_name_stays : MayStandAt renamed (97 ∷ []) (Some (1 ∷ 2 ∷ []))
unfolding numbers_at number_at file_of
old_name_stays = record { one = inr (inl (record { had_length = inl refl; kept = λ place below synced free. refl })) }

-- a crash may leave the file under both names
under_both : (image : Files) × IsCrashImage renamed image × (get image (97 ∷ []) ≡ Some (1 ∷ 2 ∷ []))
    × (get image (98 ∷ []) ≡ Some (1 ∷ 2 ∷ []))
under_both =
    let image = image_with renamed (97 ∷ []) (Some (1 ∷ 2 ∷ [])) old_name_stays in (
      _,
      image.0,
      image.1,
      get-insert nat_list_cmp_total (files_after renamed) (97 ∷ []) (1 ∷ 2 ∷ []) (98 ∷ [])
          ∙ file_at-Renamed (Placed (97 ∷ []) (1 ∷ 2 ∷ []) ∷ []) (97 ∷ []) (98 ∷ []) (1 ∷ 2 ∷ []) (98 ∷ [])
          (file_at-Placed-here [] (97 ∷ []) (1 ∷ 2 ∷ [])),
    )

-- but not other bytes under either
no_other_bytes : MayStandAt renamed (98 ∷ []) (Some (1 ∷ 3 ∷ [])) → ⊥
unfolding numbers_at number_at file_of
no_other_bytes stands = elim stands.one [
  | inl image ↦
      let kept : 3 ≡ 2 = image.kept 1 (lit< tt) (lit< tt) (λ none. none) in
      omega (arith, kept)
  | inr rest ↦ elim rest [ inl none ↦ none | inr none ↦ none ]
]
