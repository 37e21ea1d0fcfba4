use Rattle.std.proofs.Common.{sym, ap, ◌∙◌, ◌+◌, length}
use Rattle.ls_words.specs.Verb.{plain_words}
use Rattle.ls_words.proofs.WordLemmas.{counted-exact}
use Rattle.ls_words.proofs.command.command_from.Goals as goal

pub replicate_of-requires : goal.replicate_of-requires
replicate_of-requires c =
    ap (λ n. c.args.first + n) (sym (ap plain_words c.in-Replicate.is) ∙ sym c.plain_words.ensures)
    ∙ counted-exact (length c.args.words.now) c.args.first c.plain_words.result _ c.requires c.in_ok-counted.ensures
