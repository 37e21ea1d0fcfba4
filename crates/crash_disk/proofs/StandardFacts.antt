-- The definitions at values from outside: what a file system is expected to show after a few calls.
use Rattle.std.proofs.Common.{◌≡◌, List, [], ◌∷◌, Some, None, refl, ◌∙◌}
use Rattle.crash_disk.specs.declared.event.Event.{Event}
use Rattle.crash_disk.specs.declared.event.Event.TheVariants.{Placed, Created, Appended, Renamed}
use Rattle.crash_disk.specs.Files.{file_at, with_bytes_at, with_length}
use Rattle.crash_disk.proofs.FileLaws.{file_at-beginning, file_at-Created-here, file_at-Appended-here, file_at-Renamed}
use Rattle.crash_disk.proofs.FileLaws.{file_at-Placed}

-- a file was created under the name 97, appended to twice, and renamed to 98
abbrev two_pieces : List Event
two_pieces = Appended (97 ∷ []) (3 ∷ []) ∷ Appended (97 ∷ []) (1 ∷ 2 ∷ []) ∷ Created (97 ∷ []) ∷ []

there : file_at two_pieces (97 ∷ []) ≡ Some (1 ∷ 2 ∷ 3 ∷ [])
there = file_at-Appended-here _ (97 ∷ []) (3 ∷ []) (1 ∷ 2 ∷ [])
    (file_at-Appended-here _ (97 ∷ []) (1 ∷ 2 ∷ []) [] (file_at-Created-here [] (97 ∷ [])))

-- it reads as both pieces under its new name
renamed_reads : file_at (Renamed (97 ∷ []) (98 ∷ []) ∷ two_pieces) (98 ∷ []) ≡ Some (1 ∷ 2 ∷ 3 ∷ [])
renamed_reads = file_at-Renamed two_pieces (97 ∷ []) (98 ∷ []) (1 ∷ 2 ∷ 3 ∷ []) (98 ∷ []) there

-- and not at all under its old one
old_name_absent : file_at (Renamed (97 ∷ []) (98 ∷ []) ∷ two_pieces) (97 ∷ []) ≡ None
old_name_absent = file_at-Renamed two_pieces (97 ∷ []) (98 ∷ []) (1 ∷ 2 ∷ 3 ∷ []) (97 ∷ []) there

-- a name that begins as another is another name
longer_name_absent : file_at (Placed (97 ∷ []) (1 ∷ []) ∷ []) (97 ∷ 97 ∷ []) ≡ None
longer_name_absent = file_at-Placed [] (97 ∷ []) (1 ∷ []) (97 ∷ 97 ∷ []) ∙ file_at-beginning (97 ∷ 97 ∷ [])

-- a write inside, over the end and past it, where zeros fill the gap
write_inside : with_bytes_at 1 (9 ∷ []) (1 ∷ 2 ∷ 3 ∷ []) ≡ 1 ∷ 9 ∷ 3 ∷ []
write_inside = refl

write_over_the_end : with_bytes_at 2 (8 ∷ 9 ∷ []) (1 ∷ 2 ∷ 3 ∷ []) ≡ 1 ∷ 2 ∷ 8 ∷ 9 ∷ []
write_over_the_end = refl

write_past_the_end : with_bytes_at 4 (9 ∷ []) (1 ∷ 2 ∷ []) ≡ 1 ∷ 2 ∷ 0 ∷ 0 ∷ 9 ∷ []
write_past_the_end = refl

-- a length that is shorter, and one that is longer
cut_shorter : with_length 1 (1 ∷ 2 ∷ []) ≡ 1 ∷ []
cut_shorter = refl

cut_longer : with_length 4 (1 ∷ 2 ∷ []) ≡ 1 ∷ 2 ∷ 0 ∷ 0 ∷ []
cut_longer = refl
