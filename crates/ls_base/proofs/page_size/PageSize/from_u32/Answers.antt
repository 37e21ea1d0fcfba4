use Rattle.std.proofs.Common.{refl, sym, ◌∙◌}
use Rattle.std.proofs.lemmas.Bool.{false≢true}
use Rattle.ls_base.proofs.PageSizeLemmas.{size_from_test, test_passes}
use Rattle.ls_base.proofs.page_size.PageSize.from_u32.Goals as goal

pub returns-then-contains : goal.returns-then-contains
returns-then-contains c = (size_from_test c.args.n (sym c.contains.ensures.value ∙ c.if-contains.true), refl)

pub returns : goal.returns
returns c = λ size. absurd (false≢true (sym c.if-contains.false ∙ c.contains.ensures.value ∙ test_passes c.args.n size))
