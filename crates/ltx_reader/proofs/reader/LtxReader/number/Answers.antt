use Rattle.std.proofs.Common.{◌∙◌, sym, ap}
use Rattle.ltx_reader.specs.Reader.{Reader, bytes_named}
use Rattle.ltx_reader.proofs.ReaderGivenLemmas.{gives_none}
use Rattle.ltx_reader.proofs.ReaderProgressLemmas.{known_announces}
use Rattle.ltx_reader.proofs.reader.LtxReader.number.Goals as goal

pub returns-in-AtNumber-clause-number : goal.returns-in-AtNumber-clause-number
returns-in-AtNumber-clause-number g c = λ events told is.
    known_announces (bytes_named events c.args.self.now.name) c.args.self.now _ is (sym (ap (λ
    (r : Reader). r.progress) c.self.view_is) ∙ c.in-AtNumber.is)

pub returns-in-AtNumber-clause-gave : goal.returns-in-AtNumber-clause-gave
returns-in-AtNumber-clause-gave g c = λ events told is. gives_none _ _
