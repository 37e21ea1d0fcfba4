use Rattle.ls_words.proofs.PathLemmas.{cut-from_none, name_behind, name_alone}
use Rattle.ls_words.proofs.path.name_of.Goals as goal

pub returns-in-Some : goal.returns-in-Some
returns-in-Some c = name_behind c.args.path.now c.in-Some.field-0-0.now c.in-Some.name.now c.in-Some.ensures.cases

pub returns-in-None : goal.returns-in-None
returns-in-None c = name_alone c.args.path.now
    (cut-from_none c.args.path.now c.rsplit_once.result c.rsplit_once.ensures.cases (λ x e. absurd cc))
