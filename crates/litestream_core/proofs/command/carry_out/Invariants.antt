use Rattle.litestream_core.proofs.command.carry_out.Given as goal

abbrev pub ghosts-restore : goal.ghosts-restore
ghosts-restore g a = record { name = a.blank.name; parts = a.blank.parts }
