use Rattle.compact_levels.proofs.merging.merge.Given as goal

abbrev pub ghosts-merge_files : goal.ghosts-merge_files
ghosts-merge_files g a = record { name = a.blank.name; parts = a.blank.parts }
