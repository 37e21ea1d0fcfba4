use Rattle.ls_words.proofs.Theorems.{well_formed_answer}
use Rattle.ls_words.proofs.reading.read_words.Goals as goal

pub returns-clause-well_formed : goal.returns-clause-well_formed
returns-clause-well_formed c = well_formed_answer c.command_of.result c.args.words.now c.command_of.ensures
