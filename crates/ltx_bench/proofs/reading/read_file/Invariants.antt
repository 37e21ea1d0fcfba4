use Rattle.ltx_bench.proofs.reading.read_file.Given as goal

abbrev pub ghosts-read_pages : goal.ghosts-read_pages
ghosts-read_pages a = record { name = a.blank.name; parts = a.blank.parts }
