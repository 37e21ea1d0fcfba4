use Rattle.std.proofs.Common.{◌∙◌, arith, sym}
use Rattle.ltx_reader.specs.Reader.{bytes_named}
use Rattle.ltx_reader.proofs.ReaderIndexLemmas.{four_here, entry_read, entry_fails, entry_passes}
use Rattle.ltx_reader.proofs.ReaderGivenLemmas.{gives_then, gives_here}
use Rattle.ltx_reader.proofs.reader.LtxReader.entry_at.Goals as goal

pub returns-then-found-from_be_bytes-clause-value : goal.returns-then-found-from_be_bytes-clause-value
returns-then-found-from_be_bytes-clause-value g c = λ events told has inside.
    let name = c.args.self.now.name in
    let first = four_here events c.path.result.now name c.path.ensures c.args.at c.in_ok-entry.entry
    (c.in_ok-entry.ensures.value events told) in
    let second = four_here events c.path-2.result.now name c.path-2.ensures c.block_offset.result
    c.in_ok-number.number (c.in_ok-number.ensures.value events (c.in_ok-entry.ensures.unchanged ∙ told)) in
    let read = entry_read (bytes_named events name) c.args.self.now.header c.args.place c.args.at
    c.block_offset.result c.from_be_bytes-found.result c.from_be_bytes.result c.in_ok-entry.entry
    c.in_ok-number.number has c.block_offset.ensures.value first second.1 c.from_be_bytes-found.ensures
    c.from_be_bytes.ensures in
    entry_fails (bytes_named events name) c.args.place c.args.at c.from_be_bytes-found.result c.from_be_bytes.result
    read.inside read.is read.other_is c.if-found-from_be_bytes.true

pub returns-clause-value : goal.returns-clause-value
returns-clause-value g c = λ events told has inside.
    let name = c.args.self.now.name in
    let first = four_here events c.path.result.now name c.path.ensures c.args.at c.in_ok-entry.entry
    (c.in_ok-entry.ensures.value events told) in
    let second = four_here events c.path-2.result.now name c.path-2.ensures c.block_offset.result
    c.in_ok-number.number (c.in_ok-number.ensures.value events (c.in_ok-entry.ensures.unchanged ∙ told)) in
    let read = entry_read (bytes_named events name) c.args.self.now.header c.args.place c.args.at
    c.block_offset.result c.from_be_bytes-found.result c.from_be_bytes.result c.in_ok-entry.entry
    c.in_ok-number.number has c.block_offset.ensures.value first second.1 c.from_be_bytes-found.ensures
    c.from_be_bytes.ensures in (
      entry_passes (bytes_named events name) c.args.place c.args.at read.inside (read.is
          ∙ c.if-found-from_be_bytes.false ∙ sym read.other_is),
      first.1,
    )

pub returns-in_err-number-clause-gave : goal.returns-in_err-number-clause-gave
returns-in_err-number-clause-gave g c = λ events told. gives_then _ 4 _ _ _ _
    (gives_here events c.path.result.now c.args.self.now.name 4 c.args.at _ _ c.path.ensures
    (c.in_ok-entry.ensures.gave events told)) c.in_err-number.ensures.gave_room (omega arith)

pub returns-in_err-number-clause-gave_entry : goal.returns-in_err-number-clause-gave_entry
returns-in_err-number-clause-gave_entry g c = gives_then 4 4 8 _ _ _ c.in_ok-entry.ensures.gave_room
    c.in_err-number.ensures.gave_room (omega arith)

pub returns-then-found-from_be_bytes-clause-gave : goal.returns-then-found-from_be_bytes-clause-gave
returns-then-found-from_be_bytes-clause-gave g c = λ events told. gives_then _ 4 _ _ _ _
    (gives_here events c.path.result.now c.args.self.now.name 4 c.args.at _ _ c.path.ensures
    (c.in_ok-entry.ensures.gave events told)) c.in_ok-number.ensures.gave_room (omega arith)

pub returns-then-found-from_be_bytes-clause-gave_entry : goal.returns-then-found-from_be_bytes-clause-gave_entry
returns-then-found-from_be_bytes-clause-gave_entry g c = gives_then 4 4 8 _ _ _ c.in_ok-entry.ensures.gave_room
    c.in_ok-number.ensures.gave_room (omega arith)

pub returns-clause-gave : goal.returns-clause-gave
returns-clause-gave g c = λ events told. gives_then _ 4 _ _ _ _
    (gives_here events c.path.result.now c.args.self.now.name 4 c.args.at _ _ c.path.ensures
    (c.in_ok-entry.ensures.gave events told)) c.in_ok-number.ensures.gave_room (omega arith)

pub returns-clause-gave_entry : goal.returns-clause-gave_entry
returns-clause-gave_entry g c = gives_then 4 4 8 _ _ _ c.in_ok-entry.ensures.gave_room
    c.in_ok-number.ensures.gave_room (omega arith)
