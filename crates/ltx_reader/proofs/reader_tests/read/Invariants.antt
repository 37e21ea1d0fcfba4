use Rattle.ltx_reader.proofs.reader_tests.read.Given as goal

abbrev pub ghosts-turns : goal.ghosts-turns
ghosts-turns a = record { name = a.blank.name; parts = a.blank.parts }
