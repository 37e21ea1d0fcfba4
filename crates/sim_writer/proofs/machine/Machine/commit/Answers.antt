use Rattle.sim_writer.proofs.DoneLemmas.{commits_done, sound_done}
use Rattle.sim_writer.proofs.machine.Machine.commit.Goals as goal

pub returns-clause-ok : goal.returns-clause-ok
returns-clause-ok c = commits_done c.args.self.now c.requires.sound c.args.pages.now c.args.size c.requires.commit
    c.in_ok-made.made c.in_ok-made.ensures c.put.new.self c.in_ok-put.ensures.ok

pub returns-clause-sound : goal.returns-clause-sound
returns-clause-sound c = sound_done c.args.self.now c.requires.sound c.args.pages.now c.args.size c.requires.commit
    c.in_ok-made.made c.in_ok-made.ensures c.put.new.self c.in_ok-put.ensures.ok
