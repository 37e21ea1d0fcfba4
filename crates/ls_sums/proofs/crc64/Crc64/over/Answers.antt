use Rattle.std.proofs.Common.{ℕ, ◌∙◌, ap}
use Rattle.ls_sums.specs.Crc64.{after_bytes, all_ones}
use Rattle.ls_sums.proofs.ByteLemmas.{after_bytes-append}
use Rattle.ls_sums.proofs.crc64.Crc64.over.Goals as goal

pub returns-clause-behind : goal.returns-clause-behind
returns-clause-behind c = λ before behind.
    c.after_slice-self-inside.ensures
    ∙ ap (λ (x : ℕ). after_bytes x c.args.bytes.now) (c.self.view_is ∙ behind)
    ∙ after_bytes-append all_ones before c.args.bytes.now
