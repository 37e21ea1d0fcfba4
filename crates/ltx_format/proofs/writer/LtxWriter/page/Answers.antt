use Rattle.std.proofs.Common.{◌≡◌, ◌∙◌, ◌++◌, ap, arith}
use Rattle.ltx_format.specs.LtxFormat.{header_bytes, page_blocks}
use Rattle.ltx_format.specs.Writing.{Written}
use Rattle.ltx_format.proofs.WrittenLemmas.{last_block, has_gained}
use Rattle.ltx_format.proofs.writer.LtxWriter.page.Goals as goal

pub returns-clause-block : goal.returns-clause-block
returns-clause-block c pages has =
    rw c.page.ensures.front (last_block c.args.self.now c.args.number c.args.page.now pages c.requires.rises has)

pub returns-clause-written : goal.returns-clause-written
returns-clause-written c pages has =
    let old = c.args.self.now in
    let new = c.page.new.self in
    let header : new.header ≡ old.header = c.page.ensures.header ∙ ap (λ (w : Written). w.header) c.self.view_is in
    let check : c.self.inside.draft.check ≡ old.check = ap (λ (w : Written). w.check) c.self.view_is in
    let behind = c.page.ensures.check (header_bytes old.header ++ page_blocks pages) (check ∙ has.check) in
    has_gained old c.args.number c.args.page.now pages c.requires.rises has
    (record { header = new.header; last = new.last; check = new.check })
    header c.page.ensures.last c.requires.stored c.requires.sized (λ k. omega (arith, c.type_inv.page k)) behind
