use Rattle.std.proofs.Common.{◌+◌, ◌*◌, ℕ, ap, ◌∙◌, arith}
use Rattle.std.proofs.lemmas.Bool.{eqb-true}
use Rattle.replica_sync.proofs.NumberLemmas.{on_true, frame_end}
use Rattle.replica_sync.proofs.wanted.is_frame_end.Goals as goal

pub returns : goal.returns
returns c =
    let size = c.get.ensures.value in
    on_true _ (λ whole.
    let f = frame_end c.args.end (24 + c.get.result) (omega (arith, c.if-end-le-LOG_HEADER_BYTES.false))
    (eqb-true _ 0 whole) in
    (f.0, f.1, f.2 ∙ ap (λ (n : ℕ). 32 + f.0 * (24 + n)) size, omega (arith, c.if-end-gt-LOG_LIMIT.false)))
