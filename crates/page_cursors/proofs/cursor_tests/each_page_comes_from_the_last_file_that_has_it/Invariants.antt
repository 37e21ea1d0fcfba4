use Rattle.page_cursors.proofs.cursor_tests.each_page_comes_from_the_last_file_that_has_it.Given as goal

abbrev pub ghosts-turns : goal.ghosts-turns
ghosts-turns l a = record { name = a.blank.name; parts = a.blank.parts }
