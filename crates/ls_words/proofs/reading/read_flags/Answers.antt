use Rattle.std.proofs.Common.{◌∙◌, sym, arith}
use Rattle.ls_words.specs.GivenView.{as_given}
use Rattle.ls_words.proofs.WordLemmas.{flags_more}
use Rattle.ls_words.proofs.reading.read_flags.Goals as goal

pub loop-at-preserved : goal.loop-at-preserved
loop-at-preserved c = record {
  within = omega (arith, c.in_ok-given.ensures.within);
  same = flags_more c.args.verb c.loop-at.at c.loop-at.settings c.in_ok-settings.settings c.args.words.now
      c.word_at-word.result.now (as_given c.in_ok-given.given) (omega arith) c.word_at-word.ensures
      (sym c.is_flag.ensures ∙ c.if-not-is_flag.false) (sym c.is_end.ensures ∙ c.if-is_end.false)
      c.in_ok-given.ensures.value c.in_ok-settings.ensures c.in_ok-given.ensures.within ∙ c.loop-at.invariant.same;
}
