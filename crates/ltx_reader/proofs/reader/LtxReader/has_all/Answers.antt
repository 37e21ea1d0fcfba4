use Rattle.std.proofs.Common.{◌∙◌, sym, ap}
use Rattle.ltx_reader.specs.Reader.{Reader}
use Rattle.ltx_reader.specs.ReaderIndex as index
use Rattle.ltx_reader.proofs.ReaderEndLemmas.{whole_by}
use Rattle.ltx_reader.proofs.reader.LtxReader.has_all.Goals as goal

pub returns : goal.returns
returns c = λ bytes has. c.has_all.ensures ∙ ap (λ (r : Reader). index.has_all r.header r.count) c.self.view_is
    ∙ sym (whole_by bytes c.args.self.now.header c.args.self.now.count has)
