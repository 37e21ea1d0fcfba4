use Rattle.std.proofs.Common.{◌∙◌, ap}
use Rattle.ls_base.specs.Txid.{txid_of}
use Rattle.ls_base.specs.TxidLaws.{txid_of-hex_digits}
use Rattle.replica_store.proofs.ReadingLemmas.{utf8_digits}
use Rattle.replica_store.proofs.reading.txid_of.Goals as goal

pub returns-in_default : goal.returns-in_default
returns-in_default c = λ n positive fits same. absurd
    (c.in_default.ensures.cases.0 (utf8_digits n c.args.digits.now same))

pub returns : goal.returns
returns c = λ n positive fits same. c.from_hex.ensures.value ∙ ap txid_of (c.in-Ok.ensures.cases.0 ∙ same)
    ∙ txid_of-hex_digits n positive fits
