use Rattle.ltx_tests.proofs.short_readings.pages.Given as goal

abbrev pub ghosts-turns : goal.ghosts-turns
ghosts-turns a = record { name = a.blank.name; parts = a.blank.parts }
