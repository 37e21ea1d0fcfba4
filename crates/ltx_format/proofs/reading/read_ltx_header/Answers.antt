use Rattle.std.proofs.Common.{arith, refl}
use Rattle.ltx_format.proofs.FrontLemmas.{found, only, not_err, fault}
use Rattle.ltx_format.proofs.reading.read_ltx_header.Goals as goal

pub returns-in-Ok-clause-found : goal.returns-in-Ok-clause-found
returns-in-Ok-clause-found c = found c.args.bytes.now c.min.result
    (λ i. omega (arith, c.type_inv.bytes i)) c.min.ensures c.in-Ok.header c.in-Ok.field-0-1.now c.in-Ok.ensures

pub returns-in-Ok-clause-only : goal.returns-in-Ok-clause-only
returns-in-Ok-clause-only c = λ h has.
    let same = only c.args.bytes.now c.min.result (λ i. omega (arith, c.type_inv.bytes i)) c.min.ensures h
    c.in-Ok.header c.in-Ok.field-0-1.now c.in-Ok.ensures has in
    rw same refl

pub returns-in-Err-clause-only : goal.returns-in-Err-clause-only
returns-in-Err-clause-only c = λ h has.
    absurd (not_err c.args.bytes.now c.min.result (λ i. omega (arith, c.type_inv.bytes i)) c.min.ensures h
    c.in-Err.fault c.in-Err.ensures has)

pub returns-in-Err-clause-fault : goal.returns-in-Err-clause-fault
returns-in-Err-clause-fault c = fault c.args.bytes.now c.min.result
    (λ i. omega (arith, c.type_inv.bytes i)) c.min.ensures c.in-Err.fault c.in-Err.ensures
