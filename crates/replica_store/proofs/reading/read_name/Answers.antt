use Rattle.std.proofs.Common.{◌≡◌, ℕ, Some, ◌∙◌, sym, ap, arith, length}
use Rattle.replica_store.specs.NameText.{IsName, file_path}
use Rattle.replica_store.proofs.PathLemmas.{length-file_path, one_file_name}
use Rattle.replica_store.proofs.ReadingLemmas.{if_none, not_read, level_is, min_of, max_of, no_level, same_level}
use Rattle.replica_store.proofs.ReadingLemmas.{same_txid, same_name, same_path, is_same, are_same}
use Rattle.replica_store.proofs.reading.read_name.Goals as goal

pub returns-then-bytes-ne43-clause-only : goal.returns-then-bytes-ne43-clause-only
returns-then-bytes-ne43-clause-only c = λ level min max is same. c.if-bytes-ne43.true
    (ap length (c.as_bytes-bytes.ensures.value ∙ same) ∙ length-file_path level min max)

pub returns-in_err-level-clause-only : goal.returns-in_err-level-clause-only
returns-in_err-level-clause-only c = if_none c.from_residual.result c.args.text.now (λ level min max is same.
    no_level _ level c.checked_sub.result c.checked_sub.ensures c.in_err-level.was
    (level_is c.as_bytes-bytes.result.now level min max (c.as_bytes-bytes.ensures.value ∙ same)))

pub returns-in_err-min-clause-only : goal.returns-in_err-min-clause-only
returns-in_err-min-clause-only c = if_none c.from_residual-in_err-min.result c.args.text.now (λ level min max is same.
    not_read min c.txid_of.result (λ positive fits. c.txid_of.ensures min positive fits
    (min_of c.as_bytes-bytes.result.now level min max (c.as_bytes-bytes.ensures.value ∙ same))) c.in_err-min.was
    (omega (arith, is.from_first)) (omega (arith, is.in_order, is.max_fits)))

pub returns-in_err-max-clause-only : goal.returns-in_err-max-clause-only
returns-in_err-max-clause-only c = if_none c.from_residual-in_err-max.result c.args.text.now (λ level min max is same.
    not_read max c.txid_of-2.result
    (λ positive fits. c.txid_of-2.ensures max positive fits
    (max_of c.as_bytes-bytes.result.now level min max (c.as_bytes-bytes.ensures.value ∙ same))) c.in_err-max.was
    (omega (arith, is.from_first, is.in_order)) is.max_fits)

pub returns-in_err-name-clause-only : goal.returns-in_err-name-clause-only
returns-in_err-name-clause-only c = if_none c.from_residual-in_err-name.result c.args.text.now (λ level min max is same.
    let text = c.as_bytes-bytes.ensures.value ∙ same in
    let first = same_level _ level c.in_ok-level.level c.checked_sub.result c.checked_sub.ensures c.in_ok-level.was
    (level_is c.as_bytes-bytes.result.now level min max text) in
    let second = same_txid min c.in_ok-min.min c.txid_of.result
    (λ positive fits. c.txid_of.ensures min positive fits (min_of c.as_bytes-bytes.result.now level min max text))
    c.in_ok-min.was (omega (arith, is.from_first)) (omega (arith, is.in_order, is.max_fits)) in
    let third = same_txid max c.in_ok-max.max c.txid_of-2.result
    (λ positive fits. c.txid_of-2.ensures max positive fits
    (max_of c.as_bytes-bytes.result.now level min max text)) c.in_ok-max.was
    (omega (arith, is.from_first, is.in_order)) is.max_fits in
    c.in_err-name.ensures.only (same_name level min max _ _ _ first second third is))

pub returns-then-ne-clause-only : goal.returns-then-ne-clause-only
returns-then-ne-clause-only c = λ level min max is same.
    let text = c.as_bytes-bytes.ensures.value ∙ same in
    let first = same_level _ level c.in_ok-level.level c.checked_sub.result c.checked_sub.ensures c.in_ok-level.was
    (level_is c.as_bytes-bytes.result.now level min max text) in
    let second = same_txid min c.in_ok-min.min c.txid_of.result
    (λ positive fits. c.txid_of.ensures min positive fits (min_of c.as_bytes-bytes.result.now level min max text))
    c.in_ok-min.was (omega (arith, is.from_first)) (omega (arith, is.in_order, is.max_fits)) in
    let third = same_txid max c.in_ok-max.max c.txid_of-2.result
    (λ positive fits. c.txid_of-2.ensures max positive fits
    (max_of c.as_bytes-bytes.result.now level min max text)) c.in_ok-max.was
    (omega (arith, is.from_first, is.in_order)) is.max_fits in
    let written = c.as_str.ensures ∙ c.write_name.ensures ∙ same_path level min max c.in_ok-name.name.level
    c.in_ok-name.name.min c.in_ok-name.name.max (c.in_ok-name.ensures.level ∙ first)
    (c.in_ok-name.ensures.min ∙ second) (c.in_ok-name.ensures.max ∙ third) in
    is_same c.as_str.result.now c.args.text.now c.if-ne.ensures (written ∙ sym same)

pub returns-then-bytes-ne43-clause-written : goal.returns-then-bytes-ne43-clause-written
returns-then-bytes-ne43-clause-written c = λ name valid written.
    let never : (level min max : ℕ) → IsName level min max → c.args.text.now ≡ file_path level min max
    → ⊥ = λ level min max is same. c.if-bytes-ne43.true
    (ap length (c.as_bytes-bytes.ensures.value ∙ same) ∙ length-file_path level min max) in
    absurd (never name.level name.min name.max valid written)

pub returns-in_err-level-clause-written : goal.returns-in_err-level-clause-written
returns-in_err-level-clause-written c = λ name valid written.
    let never : (level min max : ℕ) → IsName level min max → c.args.text.now ≡ file_path level min max
    → ⊥ = λ level min max is same.
    no_level _ level c.checked_sub.result c.checked_sub.ensures c.in_err-level.was
    (level_is c.as_bytes-bytes.result.now level min max (c.as_bytes-bytes.ensures.value ∙ same)) in
    absurd (never name.level name.min name.max valid written)

pub returns-in_err-min-clause-written : goal.returns-in_err-min-clause-written
returns-in_err-min-clause-written c = λ name valid written.
    let never : (level min max : ℕ) → IsName level min max → c.args.text.now ≡ file_path level min max
    → ⊥ = λ level min max is same.
    not_read min c.txid_of.result (λ positive fits. c.txid_of.ensures min positive fits
    (min_of c.as_bytes-bytes.result.now level min max (c.as_bytes-bytes.ensures.value ∙ same))) c.in_err-min.was
    (omega (arith, is.from_first)) (omega (arith, is.in_order, is.max_fits)) in
    absurd (never name.level name.min name.max valid written)

pub returns-in_err-max-clause-written : goal.returns-in_err-max-clause-written
returns-in_err-max-clause-written c = λ name valid written.
    let never : (level min max : ℕ) → IsName level min max → c.args.text.now ≡ file_path level min max
    → ⊥ = λ level min max is same.
    not_read max c.txid_of-2.result
    (λ positive fits. c.txid_of-2.ensures max positive fits
    (max_of c.as_bytes-bytes.result.now level min max (c.as_bytes-bytes.ensures.value ∙ same))) c.in_err-max.was
    (omega (arith, is.from_first, is.in_order)) is.max_fits in
    absurd (never name.level name.min name.max valid written)

pub returns-in_err-name-clause-written : goal.returns-in_err-name-clause-written
returns-in_err-name-clause-written c = λ name valid written.
    let never : (level min max : ℕ) → IsName level min max → c.args.text.now ≡ file_path level min max
    → ⊥ = λ level min max is same.
    let text = c.as_bytes-bytes.ensures.value ∙ same in
    let first = same_level _ level c.in_ok-level.level c.checked_sub.result c.checked_sub.ensures c.in_ok-level.was
    (level_is c.as_bytes-bytes.result.now level min max text) in
    let second = same_txid min c.in_ok-min.min c.txid_of.result
    (λ positive fits. c.txid_of.ensures min positive fits (min_of c.as_bytes-bytes.result.now level min max text))
    c.in_ok-min.was (omega (arith, is.from_first)) (omega (arith, is.in_order, is.max_fits)) in
    let third = same_txid max c.in_ok-max.max c.txid_of-2.result
    (λ positive fits. c.txid_of-2.ensures max positive fits
    (max_of c.as_bytes-bytes.result.now level min max text)) c.in_ok-max.was
    (omega (arith, is.from_first, is.in_order)) is.max_fits in
    c.in_err-name.ensures.only (same_name level min max _ _ _ first second third is) in
    absurd (never name.level name.min name.max valid written)

pub returns-then-ne-clause-written : goal.returns-then-ne-clause-written
returns-then-ne-clause-written c = λ name valid written.
    let never : (level min max : ℕ) → IsName level min max → c.args.text.now ≡ file_path level min max
    → ⊥ = λ level min max is same.
    let text = c.as_bytes-bytes.ensures.value ∙ same in
    let first = same_level _ level c.in_ok-level.level c.checked_sub.result c.checked_sub.ensures c.in_ok-level.was
    (level_is c.as_bytes-bytes.result.now level min max text) in
    let second = same_txid min c.in_ok-min.min c.txid_of.result
    (λ positive fits. c.txid_of.ensures min positive fits (min_of c.as_bytes-bytes.result.now level min max text))
    c.in_ok-min.was (omega (arith, is.from_first)) (omega (arith, is.in_order, is.max_fits)) in
    let third = same_txid max c.in_ok-max.max c.txid_of-2.result
    (λ positive fits. c.txid_of-2.ensures max positive fits
    (max_of c.as_bytes-bytes.result.now level min max text)) c.in_ok-max.was
    (omega (arith, is.from_first, is.in_order)) is.max_fits in
    let written = c.as_str.ensures ∙ c.write_name.ensures ∙ same_path level min max c.in_ok-name.name.level
    c.in_ok-name.name.min c.in_ok-name.name.max (c.in_ok-name.ensures.level ∙ first)
    (c.in_ok-name.ensures.min ∙ second) (c.in_ok-name.ensures.max ∙ third) in
    is_same c.as_str.result.now c.args.text.now c.if-ne.ensures (written ∙ sym same) in
    absurd (never name.level name.min name.max valid written)

pub returns-clause-written : goal.returns-clause-written
returns-clause-written c = λ name valid written.
    ap Some (one_file_name c.in_ok-name.name name c.in_ok-name.ensures.valid valid
    (sym (c.as_str.ensures ∙ c.write_name.ensures) ∙ are_same c.as_str.result.now c.args.text.now c.if-ne.ensures
    ∙ written))
