use Rattle.std.proofs.Common.{arith}
use Rattle.ltx_format.proofs.Theorems.{what_is_read, what_is_spelled}
use Rattle.ltx_format.proofs.FileFaults.{explained}
use Rattle.ltx_format.proofs.reading.decode.Goals as goal

pub returns-clause-found : goal.returns-clause-found
returns-clause-found c = what_is_read c.args.bytes.now c.file_of.result
    (λ i. omega (arith, c.type_inv.bytes i)) c.file_of.ensures

pub returns-clause-only : goal.returns-clause-only
returns-clause-only c = what_is_spelled c.args.bytes.now c.file_of.result
    (λ i. omega (arith, c.type_inv.bytes i)) c.file_of.ensures

pub returns-clause-fault : goal.returns-clause-fault
returns-clause-fault c = explained c.args.bytes.now c.file_of.result
    (λ i. omega (arith, c.type_inv.bytes i)) c.file_of.ensures
