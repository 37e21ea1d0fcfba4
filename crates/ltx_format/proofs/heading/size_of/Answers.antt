use Rattle.std.proofs.Common.{ℕ, Option, Some, None, refl}
use Rattle.std.specs.Option.{SomeIff, ok_or}
use Rattle.std.proofs.lemmas.Bool.{false_from_ne_true}
use Rattle.ls_base.specs.PageSize.{IsPageSize}
use Rattle.ls_base.proofs.PageSizeLemmas.{size_from_test, test_passes}
use Rattle.ltx_format.specs.declared.fault.LtxFault.TheVariants.{BadPageSize}
use Rattle.ltx_format.specs.Reading.{Reads, size_from}
use Rattle.ltx_format.proofs.heading.size_of.Goals as goal

size_read : (n : ℕ) (size : Option ℕ) → SomeIff size (IsPageSize n) n
    → Reads (λ x. x) (ok_or size BadPageSize) (size_from n)
unfolding size_from
size_read n None none = rw (false_from_ne_true _ (λ e. none (size_from_test n e))) refl
size_read n (Some size) some = rw (some.1, test_passes n some.0) refl

pub returns : goal.returns
returns c = rw c.ok_or.ensures.value (size_read c.args.number c.from_u32.result c.from_u32.ensures)
