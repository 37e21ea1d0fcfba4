use Rattle.std.proofs.Common.{rules, ap, sym, ◌∙◌, option_copied, arith}
use Rattle.sim_writer.specs.Twins.{HasNoTwin}
use Rattle.sim_writer.proofs.ListLemmas.{each_more}
use Rattle.std.proofs.lemmas.Option.{slice_get_within}
use Rattle.sim_writer.proofs.history.History.have_twins.Goals as goal

pub loop-at-preserved : goal.loop-at-preserved
loop-at-preserved c = each_more (HasNoTwin c.args.self.now) c.args.more.now c.loop-at.at c.in-Some.entry.now
    (sym c.get.ensures ∙ ap (λ o. option_copied o) c.in-Some.is) (c.has_twin.ensures.none (search rules))
    c.loop-at.invariant

pub returns-clause-none : goal.returns-clause-none
returns-clause-none c _ = record {
  each = λ k entry found. c.loop-at.invariant k entry
      (omega (arith, slice_get_within c.args.more.now k entry found, c.loop-at-test.false, c.len-at-end.ensures)) found;
}
