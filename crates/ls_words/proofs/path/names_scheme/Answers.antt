use Rattle.std.proofs.Common.{[], ◌∷◌}
use Rattle.std.proofs.lemmas.Bool.Decides.{same_from_decides}
use Rattle.std.proofs.lemmas.Str.Pattern.{contains_text}
use Rattle.ls_words.specs.Path.{names_scheme}
use Rattle.ls_words.proofs.PathLemmas.{named-from_slice, slice-from_named}
use Rattle.ls_words.proofs.path.names_scheme.Goals as goal

pub returns : goal.returns
returns c =
    let word = c.args.word.now in
    let holds = contains_text c.contains.result (58 ∷ 47 ∷ 47 ∷ []) word c.contains.ensures.cases in
    same_from_decides c.contains.result (names_scheme word) (holds.0, holds.1)
    (slice-from_named word, named-from_slice word)
