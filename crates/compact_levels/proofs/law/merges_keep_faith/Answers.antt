use Rattle.compact_levels.proofs.FaithMergeLemmas.{merges_keep_faith}
use Rattle.compact_levels.proofs.FaithSoundLemmas.{runs_are_sound, runs_are_whole}
use Rattle.compact_levels.proofs.law.merges_keep_faith.Goals as goal

pub returns-clause-faith : goal.returns-clause-faith
returns-clause-faith c = merges_keep_faith

pub returns-clause-sound : goal.returns-clause-sound
returns-clause-sound c = runs_are_sound

pub returns-clause-whole : goal.returns-clause-whole
returns-clause-whole c = runs_are_whole
