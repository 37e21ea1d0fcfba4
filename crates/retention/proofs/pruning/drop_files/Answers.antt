use Rattle.std.proofs.Common.{arith, ◌∙◌}
use Rattle.retention.proofs.OrderLemmas.{told_or_not, told_more, told_synced, told_in_order}
use Rattle.retention.proofs.pruning.drop_files.Goals as goal

pub returns-in_err-drop_file-clause-order : goal.returns-in_err-drop_file-clause-order
returns-in_err-drop_file-clause-order g c =
    grind (arith, told_or_not, c.loop-i.invariant.dropped, c.in_err-drop_file.ensures.err)

pub loop-i-preserved : goal.loop-i-preserved
loop-i-preserved g c = record {
  dropped = grind (arith, told_more, c.loop-i.invariant.dropped, c.in_ok-drop_file.ensures.ok);
  keeps = record {
    folder = c.in_ok-drop_file.ensures.keeps.folder ∙ c.loop-i.invariant.keeps.folder;
    given = c.in_ok-drop_file.ensures.keeps.given ∙ c.loop-i.invariant.keeps.given;
  };
  later = omega (arith, c.in_ok-drop_file.ensures.cause.later, c.loop-i.invariant.later);
}

pub returns-clause-ok : goal.returns-clause-ok
returns-clause-ok g c = grind (arith, told_synced, c.loop-i.invariant.dropped, c.settle.ensures.ok)

pub returns-clause-order : goal.returns-clause-order
returns-clause-order g c =
    grind (arith, told_in_order, c.loop-i.invariant.dropped, c.settle.ensures.ok, c.settle.ensures.err)
