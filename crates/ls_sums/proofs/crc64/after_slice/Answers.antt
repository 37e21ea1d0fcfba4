use Rattle.std.proofs.Common.{List, ℕ, ◌/◌, ◌*◌, ◌∙◌, ap, length, drop}
use Rattle.std.specs.List.{concat}
use Rattle.ls_sums.specs.Crc64.{after_bytes}
use Rattle.ls_sums.proofs.ByteLemmas.{after_bytes-cut}
use Rattle.ls_sums.proofs.PieceLemmas.{concat_chunks}
use Rattle.ls_sums.proofs.crc64.after_slice.Goals as goal

pub returns : goal.returns
returns c =
    let bytes = c.args.bytes.now in
    let count = length bytes / 8 in
    c.after_each.ensures
    ∙ ap (λ (xs : List ℕ). after_bytes c.after_all.result xs) c.as_chunks.ensures.back
    ∙ ap (λ (x : ℕ). after_bytes x (drop (count * 8) bytes)) (c.after_all.ensures
    ∙ ap (λ (xs : List (List ℕ)). after_bytes c.args.register (concat xs)) c.as_chunks.ensures.front
    ∙ ap (λ (xs : List ℕ). after_bytes c.args.register xs) (concat_chunks 8 count bytes))
    ∙ after_bytes-cut c.args.register bytes (count * 8)
