use Rattle.std.proofs.Common.{◌∙◌, ℕ, List, Some, None, subst, refl, arith}
use Rattle.ltx_reader.specs.Reader.{bytes_named}
use Rattle.ltx_reader.specs.ReaderSteps.{IsFilled}
use Rattle.ltx_format.proofs.FrontLemmas.{no_header_fault}
use Rattle.ltx_reader.proofs.ReaderBeginLemmas.{header_short, header_stops, front_read, has_in_front, fault_in_front}
use Rattle.ltx_reader.proofs.ReaderBeginLemmas.{summed_header, begins, told_err}
use Rattle.ltx_reader.proofs.ReaderGivenLemmas.{gives_file}
use Rattle.ltx_reader.proofs.reader.LtxReader.begin.Goals as goal

pub returns-then-count-lt-HEADER_BYTES-clause-fault : goal.returns-then-count-lt-HEADER_BYTES-clause-fault
returns-then-count-lt-HEADER_BYTES-clause-fault g c = λ events told.
    let name = c.as_str.ensures.value ∙ c.in_ok-name.ensures.ok in
    let filled = subst (λ (q : List ℕ). IsFilled (bytes_named events q) 0 100 c.fill.new.into c.in_ok-count.count)
    name (c.in_ok-count.ensures.value events told) in
    let count = filled.count in
    header_stops (bytes_named events c.args.name.now) _ (header_short (bytes_named events c.args.name.now) (omega
    (arith, count, c.if-count-lt-HEADER_BYTES.true)))

pub returns-in_err-header-clause-fault : goal.returns-in_err-header-clause-fault
returns-in_err-header-clause-fault g c =
    told_err (g.D.Disk.told c.args.disk.now) c.args.name.now c.from_residual-in_err-header.result
    c.in_err-header.field-0.0 c.from_residual-in_err-header.ensures.1 (λ events told.
    let bytes = bytes_named events c.args.name.now in
    let name = c.as_str.ensures.value ∙ c.in_ok-name.ensures.ok in
    let filled = subst (λ (q : List ℕ). IsFilled (bytes_named events q) 0 100 c.fill.new.into c.in_ok-count.count)
    name (c.in_ok-count.ensures.value events told) in
    let front = front_read bytes c.fill.new.into c.in_ok-count.count filled c.fill.auto.into
    c.if-count-lt-HEADER_BYTES.false in
    header_stops bytes c.in_err-header.field-0.0 (fault_in_front bytes c.fill.new.into
    (Some c.in_err-header.field-0.0) front.same front.size front.long c.in_err-header.ensures.fault))

pub returns-clause-reads : goal.returns-clause-reads
returns-clause-reads g c = λ events told.
    let bytes = bytes_named events c.args.name.now in
    let name = c.as_str.ensures.value ∙ c.in_ok-name.ensures.ok in
    let filled = subst (λ (q : List ℕ). IsFilled (bytes_named events q) 0 100 c.fill.new.into c.in_ok-count.count)
    name (c.in_ok-count.ensures.value events told) in
    let front = front_read bytes c.fill.new.into c.in_ok-count.count filled c.fill.auto.into
    c.if-count-lt-HEADER_BYTES.false in
    let has = c.in_ok-header.ensures.found in
    let none = no_header_fault c.fill.new.into c.in_ok-header.header has in
    begins bytes _ (has_in_front bytes c.fill.new.into c.in_ok-header.header front.same front.size has)
    (fault_in_front bytes c.fill.new.into None front.same front.size front.long none)
    refl refl refl (summed_header bytes c.fill.new.into c.new-sum.result c.over.new.self front
    c.in_ok-count.ensures.are_bytes c.new-sum.ensures c.over.ensures.behind)

pub returns-clause-gave_file : goal.returns-clause-gave_file
returns-clause-gave_file g c = λ events told.
    let name = c.as_str.ensures.value ∙ c.in_ok-name.ensures.ok in
    gives_file events _ c.args.name.now 100 _ _ name (c.fill.ensures.gave events told)
