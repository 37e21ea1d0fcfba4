use Rattle.std.proofs.Common.{arith, refl, ap, ◌∙◌}
use Rattle.std.proofs.lemmas.Str.Pattern.{strip_prefix_char}
use Rattle.ls_words.proofs.FlagLemmas.{without-from_strip}
use Rattle.ls_words.proofs.flag_word.without_dash.Goals as goal

pub returns : goal.returns
returns c =
    let strips = strip_prefix_char 45 c.args.word.now c.strip_prefix.result c.strip_prefix.ensures.cases (omega arith)
    in
    ap (λ x. x.now) c.unwrap_or.ensures ∙ without-from_strip c.args.word.now c.strip_prefix.result c.args.word strips
    refl
