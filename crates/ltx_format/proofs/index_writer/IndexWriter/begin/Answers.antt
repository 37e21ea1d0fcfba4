use Rattle.std.proofs.Common.{◌∙◌, sym, subst}
use Rattle.ls_sums.specs.Crc64.{IsBehind}
use Rattle.ltx_format.specs.declared.header.LtxHeader.{LtxHeader}
use Rattle.ltx_format.specs.LtxFormat.{header_bytes, IsHeader}
use Rattle.ltx_format.proofs.WrittenLemmas.{has_begun, no_numbers}
use Rattle.ltx_format.proofs.index_writer.IndexWriter.begin.Goals as goal

pub returns-clause-written : goal.returns-clause-written
returns-clause-written c =
    let draft = c.begin-draft.result in
    let same = c.begin-draft.ensures.header in
    record {
      written = has_begun (record { header = draft.header; last = draft.last; check = draft.check })
          (subst IsHeader (sym same) c.requires.header)
          (subst (λ (h : LtxHeader). IsBehind (header_bytes h) draft.check) (sym same) c.begin-draft.ensures.check);
      numbers = c.new.ensures ∙ sym no_numbers;
    }
