use Rattle.std.proofs.Common.{◌≡◌, ◌∙◌, ℕ, List, [], ◌∷◌, ◌++◌, sym, ap, arith}
use Rattle.ltx_format.specs.LtxFormat.{header_bytes, page_blocks}
use Rattle.ltx_format.specs.Writing.{Indexed}
use Rattle.ltx_format.proofs.WrittenLemmas.{last_block, has_gained, numbers_gain}
use Rattle.ltx_format.proofs.index_writer.IndexWriter.page.Goals as goal

pub returns-clause-block : goal.returns-clause-block
returns-clause-block c pages has =
    rw c.page.ensures.front
    (last_block c.args.self.now.written c.args.number c.args.page.now pages c.requires.rises has.written)

pub returns-clause-written : goal.returns-clause-written
returns-clause-written c pages has =
    let old = c.args.self.now.written in
    let new = c.page.new.self in
    let header : new.header ≡ old.header =
    c.page.ensures.header ∙ ap (λ (w : Indexed). w.written.header) c.self.view_is in
    let check : c.self.inside.draft.check ≡ old.check = ap (λ (w : Indexed). w.written.check) c.self.view_is in
    let numbers : c.self.inside.numbers ≡ c.args.self.now.numbers =
    ap (λ (w : Indexed). w.numbers) c.self.view_is in
    let behind = c.page.ensures.check (header_bytes old.header ++ page_blocks pages) (check ∙ has.written.check) in
    record {
      written = has_gained old c.args.number c.args.page.now pages c.requires.rises has.written
          (record { header = new.header; last = new.last; check = new.check })
          header c.page.ensures.last c.requires.stored c.requires.sized (λ k. omega (arith, c.type_inv.page k)) behind;
      numbers = c.in_ok-push.ensures.ok ∙ ap (λ (x : List ℕ). x ++ c.args.number ∷ []) (numbers ∙ has.numbers)
          ∙ sym (numbers_gain old c.args.number c.args.page.now pages c.requires.rises has.written);
    }
