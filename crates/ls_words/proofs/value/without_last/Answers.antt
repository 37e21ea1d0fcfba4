use Rattle.std.proofs.lemmas.Str.Pattern.{strip_suffix_char}
use Rattle.ls_words.proofs.ValueLemmas.{without-from_strip}
use Rattle.ls_words.proofs.value.without_last.Goals as goal

pub returns : goal.returns
returns c =
    without-from_strip c.args.last c.args.text.now c.strip_suffix.result c.requires.some
    (strip_suffix_char c.args.last c.args.text.now c.strip_suffix.result c.strip_suffix.ensures.cases c.requires.ascii)
