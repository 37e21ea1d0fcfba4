use Rattle.std.proofs.Common.{◌∙◌, sym, ap, subst, Some}
use Rattle.ltx_reader.specs.Reader.{Reader, bytes_named, IsReaderOf, Announces}
use Rattle.ltx_reader.specs.ReaderSteps.{IsNext}
use Rattle.ltx_reader.proofs.ReaderProgressLemmas.{faultless, stopped_reads, ended_reads, ended_announces, waits_reads}
use Rattle.ltx_reader.proofs.ReaderProgressLemmas.{waits_announces}
use Rattle.ltx_reader.proofs.reader.LtxReader.go_on.Goals as goal

pub returns-in-Err-clause-keeps : goal.returns-in-Err-clause-keeps
returns-in-Err-clause-keeps g c = λ events told is.
    let bytes = bytes_named events c.args.self.now.name in
    let found = c.in-Err.ensures.value events told is.header (faultless bytes c.args.self.now is c.requires.going) in
    subst (λ (r : Reader). IsReaderOf bytes r) (sym c.stopped_by.ensures.now)
    (stopped_reads bytes c.args.self.now is c.requires.going (IsNext bytes c.args.self.now) c.in-Err.fault found)

pub returns-then-number-eq0-clause-keeps : goal.returns-then-number-eq0-clause-keeps
returns-then-number-eq0-clause-keeps g c = λ events told is.
    let bytes = bytes_named events c.args.self.now.name in
    let found = c.in-Ok.ensures.value events told is.header (faultless bytes c.args.self.now is c.requires.going) in
    subst (λ (r : Reader). IsReaderOf bytes r) (sym c.end.ensures)
    (ended_reads bytes c.args.self.now is c.requires.going found.0 (found.1.is
    ∙ c.if-number-eq0.true) (found.1.ended c.if-number-eq0.true))

pub returns-then-number-eq0-clause-number : goal.returns-then-number-eq0-clause-number
returns-then-number-eq0-clause-number g c = λ events told is.
    let bytes = bytes_named events c.args.self.now.name in
    let found = c.in-Ok.ensures.value events told is.header (faultless bytes c.args.self.now is c.requires.going) in
    ended_announces bytes c.args.self.now is c.requires.going found.0 c.end.new.self (ap (λ
    (r : Reader). r.progress) c.end.ensures) (found.1.is ∙ c.if-number-eq0.true)

pub returns-clause-number : goal.returns-clause-number
returns-clause-number g c = λ events told is.
    let bytes = bytes_named events c.args.self.now.name in
    let found = c.in-Ok.ensures.value events told is.header (faultless bytes c.args.self.now is c.requires.going) in
    subst (λ (r : Reader). Announces bytes c.args.self.now r (Some c.in-Ok.read.0)) (sym c.wait.ensures)
    (waits_announces bytes c.args.self.now is c.requires.going found.0 c.in-Ok.read.0 c.in-Ok.read.1 found.1.is
    c.if-number-eq0.false found.1.summed)

pub returns-clause-keeps : goal.returns-clause-keeps
returns-clause-keeps g c = λ events told is.
    let bytes = bytes_named events c.args.self.now.name in
    let found = c.in-Ok.ensures.value events told is.header (faultless bytes c.args.self.now is c.requires.going) in
    subst (λ (r : Reader). IsReaderOf bytes r) (sym c.wait.ensures)
    (waits_reads bytes c.args.self.now is c.requires.going found.0 c.in-Ok.read.0 c.in-Ok.read.1 found.1.is
    c.if-number-eq0.false found.1.summed)
