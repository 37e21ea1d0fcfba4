use Rattle.std.proofs.Common.{rules}
use Rattle.ls_base.proofs.PageSizeLemmas.{size_from_test}
use Rattle.ls_base.proofs.page_size.PageSize.get.Goals as goal

pub returns-clause-valid : goal.returns-clause-valid
returns-clause-valid c = size_from_test c.args.self.now (search rules)
