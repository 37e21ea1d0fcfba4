use Rattle.std.proofs.Common.{sym, ◌∙◌}
use Rattle.litestream_core.proofs.RequestLemmas.{cut-from_none, cut-from_some, placed_here, placed_at_root}
use Rattle.litestream_core.proofs.RequestLemmas.{placed_in_folder}
use Rattle.litestream_core.proofs.request.cut.Goals as goal

pub returns-in_default : goal.returns-in_default
returns-in_default c = placed_here c.args.path.now
    (cut-from_none c.args.path.now c.rsplit_once.result c.rsplit_once.ensures.cases c.in_default.not-Some)

pub returns-then-is_empty : goal.returns-then-is_empty
returns-then-is_empty c =
    placed_at_root c.args.path.now c.in-Some.folder.now c.in-Some.name.now
    (cut-from_some c.args.path.now c.in-Some.folder.now c.in-Some.name.now c.in-Some.ensures.cases)
    (sym c.is_empty.ensures ∙ c.if-is_empty.true)

pub returns : goal.returns
returns c =
    placed_in_folder c.args.path.now c.in-Some.folder.now c.in-Some.name.now
    (cut-from_some c.args.path.now c.in-Some.folder.now c.in-Some.name.now c.in-Some.ensures.cases)
    (sym c.is_empty.ensures ∙ c.if-is_empty.false)
