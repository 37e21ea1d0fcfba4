use Rattle.std.proofs.Common.{◌+◌, ◌^◌, ◌∙◌, take, arith, sym, ap, Some}
use Rattle.std.specs.Prelude.{bit_or}
use Rattle.std.proofs.lemmas.List.{length-take-le}
use Rattle.std.proofs.lemmas.Bool.{eqb-true, eqb-false}
use Rattle.ltx_reader.proofs.ReaderTestLemmas.{has_err}
use Rattle.ltx_reader.proofs.ReaderTrailerLemmas.{number_read, number_missing, trailer_read, trailer_short, trailer_cut}
use Rattle.ltx_reader.proofs.ReaderTrailerLemmas.{behind_short, sum_behind, trailer_reserved, trailer_sum}
use Rattle.ltx_reader.proofs.ReaderTrailerLemmas.{trailer_extra, trailer_ends}
use Rattle.ltx_reader.proofs.file_end.trailer_of.Goals as goal

pub returns-in_err-check : goal.returns-in_err-check
returns-in_err-check c = λ bytes at summed is.
    let trailer = c.args.trailer.now in
    let missing = number_missing _ trailer c.in_err-check.field-0.0 c.in_err-check.ensures in
    has_err _ c.from_residual.result _ c.from_residual.ensures.1 (trailer_short bytes at trailer is
    (trailer_cut bytes at trailer is (omega (arith, missing.0))) ∙ ap (λ f. Some f) (sym missing.1))

pub returns-in_err-kept : goal.returns-in_err-kept
returns-in_err-kept c = λ bytes at summed is.
    let trailer = c.args.trailer.now in
    let missing = number_missing _ c.in_ok-check.behind.now c.in_err-kept.field-0.0 c.in_err-kept.ensures in
    has_err _ c.from_residual-in_err-kept.result _ c.from_residual-in_err-kept.ensures.1
    (trailer_short bytes at trailer is (trailer_cut bytes at trailer is
    (behind_short trailer c.in_ok-check.check c.in_ok-check.behind.now c.in_ok-check.ensures missing.0))
    ∙ ap (λ f. Some f) (sym missing.1))

pub returns-then-check-ne0 : goal.returns-then-check-ne0
returns-then-check-ne0 c = λ bytes at summed is.
    let read = trailer_read bytes at c.args.trailer.now is c.in_ok-check.check c.in_ok-kept.kept
    c.in_ok-check.behind.now c.in_ok-kept.rest.now c.in_ok-check.ensures c.in_ok-kept.ensures in
    trailer_reserved bytes at c.in_ok-check.check c.in_ok-kept.kept _ 0 read c.if-check-ne0.true

pub slice_bounds-over-end : goal.slice_bounds-over-end
slice_bounds-over-end c = sym (length-take-le 8 c.args.trailer.now
    (number_read _ c.args.trailer.now c.in_ok-check.check c.in_ok-check.behind.now c.in_ok-check.ensures).long)

pub returns-then-kept-found : goal.returns-then-kept-found
returns-then-kept-found c = λ bytes at summed is.
    let read = trailer_read bytes at c.args.trailer.now is c.in_ok-check.check c.in_ok-kept.kept
    c.in_ok-check.behind.now c.in_ok-kept.rest.now c.in_ok-check.ensures c.in_ok-kept.ensures in
    let long = (number_read _ c.args.trailer.now c.in_ok-check.check c.in_ok-check.behind.now
    c.in_ok-check.ensures).long in
    let sum = c.finish-found.ensures.behind (take (at + 8) bytes)
    (sum_behind bytes at c.args.trailer.now is c.args.sum c.over.new.self long (c.over.ensures.behind
    (take at bytes) summed.sum)) in
    trailer_sum bytes at c.in_ok-check.check c.in_ok-kept.kept _ _ read c.if-check-ne0.false (ap (λ k. bit_or k
    (2 ^ 63)) sum) c.if-kept-found.true

pub returns-then-not-is_empty : goal.returns-then-not-is_empty
returns-then-not-is_empty c = λ bytes at summed is.
    let read = trailer_read bytes at c.args.trailer.now is c.in_ok-check.check c.in_ok-kept.kept
    c.in_ok-check.behind.now c.in_ok-kept.rest.now c.in_ok-check.ensures c.in_ok-kept.ensures in
    let long = (number_read _ c.args.trailer.now c.in_ok-check.check c.in_ok-check.behind.now
    c.in_ok-check.ensures).long in
    let sum = c.finish-found.ensures.behind (take (at + 8) bytes)
    (sum_behind bytes at c.args.trailer.now is c.args.sum c.over.new.self long (c.over.ensures.behind
    (take at bytes) summed.sum)) in
    trailer_extra bytes at c.in_ok-check.check c.in_ok-kept.kept _ _ read c.if-check-ne0.false (ap (λ k. bit_or k
    (2 ^ 63)) sum) c.if-kept-found.false (eqb-false _ _ (sym c.if-not-is_empty.ensures))

pub returns : goal.returns
returns c = λ bytes at summed is.
    let read = trailer_read bytes at c.args.trailer.now is c.in_ok-check.check c.in_ok-kept.kept
    c.in_ok-check.behind.now c.in_ok-kept.rest.now c.in_ok-check.ensures c.in_ok-kept.ensures in
    let long = (number_read _ c.args.trailer.now c.in_ok-check.check c.in_ok-check.behind.now
    c.in_ok-check.ensures).long in
    let sum = c.finish-found.ensures.behind (take (at + 8) bytes)
    (sum_behind bytes at c.args.trailer.now is c.args.sum c.over.new.self long (c.over.ensures.behind
    (take at bytes) summed.sum)) in
    trailer_ends bytes at c.in_ok-check.check c.in_ok-kept.kept _ _ read c.if-check-ne0.false (ap (λ k. bit_or k
    (2 ^ 63)) sum) c.if-kept-found.false (eqb-true _ _ (sym c.if-not-is_empty.ensures))
