use Rattle.std.proofs.Common.{◌≢◌, ℕ, sym, ◌∙◌}
use Rattle.std.proofs.lemmas.Option.{none-some}
use Rattle.ls_base.specs.Change.{Change}
use Rattle.ls_base.specs.PageSize.{lock_page}
use Rattle.ls_base.specs.State.{State}
use Rattle.ls_base.proofs.ChangeLemmas.{page_after-lock}
use Rattle.ltx_format.specs.LtxFormat.{change_of}
use Rattle.replica_store.specs.Applying.{LacksPage}
use Rattle.restore_apply.proofs.law.missing_pages_are_stored.Goals as goal

lacks_other : (s : State) (c : Change) (number : ℕ) → LacksPage s c number → number ≢ lock_page c.page_size
lacks_other s c number lacks is = none-some _ (sym lacks.missing ∙ page_after-lock s c number is)

pub returns : goal.returns
returns c = λ files plan name number missing. lacks_other missing.state (change_of missing.file) number missing.lacks
