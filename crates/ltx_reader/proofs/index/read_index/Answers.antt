use Rattle.std.proofs.Common.{◌≡◌, ◌∙◌, None, arith, sym}
use Rattle.std.specs.FinMap.{keys}
use Rattle.ltx_reader.specs.Reader.{bytes_named}
use Rattle.ltx_reader.specs.ReaderIndex.{stored_count, index_offset, numbers_from, numbers_fault, index_numbers}
use Rattle.ltx_reader.specs.ReaderIndex.{length_tests, listed_fault}
use Rattle.ltx_format.specs.FirstFault.{first_failed}
use Rattle.ltx_reader.proofs.ReaderGivenLemmas.{gives_then, gives_within}
use Rattle.ltx_reader.proofs.ReaderTestLemmas.{passes_on}
use Rattle.ltx_reader.proofs.ReaderListLemmas.{length_fails, numbers_fails, part_fails, none_fails, numbers_inside}
use Rattle.ltx_reader.proofs.ReaderListLemmas.{numbers_are, file_listed, passes_file}
use Rattle.ltx_reader.proofs.index.read_index.Goals as goal

pub returns-in_err-count-clause-value : goal.returns-in_err-count-clause-value
returns-in_err-count-clause-value g c = λ events told.
    let bytes = bytes_named events c.args.name.now in
    passes_on (λ count. count ≡ stored_count bytes) (λ list. list ≡ index_numbers c.args.header.now bytes) (first_failed
    (length_tests c.args.header.now bytes)) (listed_fault c.args.header.now bytes) c.from_residual.result
    c.in_err-count.field-0.0 c.from_residual.ensures.1 (c.in_err-count.ensures.value events told)
    (length_fails c.args.header.now bytes)

pub returns-in_err-count-clause-file : goal.returns-in_err-count-clause-file
returns-in_err-count-clause-file g c = λ events told change is.
    let bytes = bytes_named events c.args.name.now in
    let listed = file_listed bytes c.args.header.now change is c.requires.index in
    passes_file (λ list. list ≡ index_numbers c.args.header.now bytes) (λ list. list ≡ keys change.pages)
    (listed_fault c.args.header.now bytes) c.from_residual.result listed.no_fault (λ list here. here ∙ listed.listed)
    (returns-in_err-count-clause-value g c events told)

pub returns-in_err-count-clause-gave : goal.returns-in_err-count-clause-gave
returns-in_err-count-clause-gave g c = λ events told. gives_within 4 _ _ _ c.in_err-count.ensures.gave (omega arith)

pub returns-in_err-numbers-clause-value : goal.returns-in_err-numbers-clause-value
returns-in_err-numbers-clause-value g c = λ events told.
    let bytes = bytes_named events c.args.name.now in
    let header = c.args.header.now in
    let count = c.in_ok-count.ensures.value events told in
    let inside = numbers_inside bytes header c.in_ok-count.count (c.in_ok-count.ensures.length events told) in
    let value = c.in_err-numbers.ensures.value events (c.in_ok-count.ensures.unchanged ∙ told) inside in
    passes_on (λ list. list ≡ numbers_from c.in_ok-count.count bytes (index_offset header c.in_ok-count.count))
    (λ list. list ≡ index_numbers header bytes) (numbers_fault header 0 (numbers_from c.in_ok-count.count bytes
    (index_offset header c.in_ok-count.count))) (listed_fault header bytes) c.from_residual-in_err-numbers.result
    c.in_err-numbers.field-0.0 c.from_residual-in_err-numbers.ensures.1 value
    (numbers_fails header bytes count.0 c.in_ok-count.count count.1)

pub returns-in_err-numbers-clause-file : goal.returns-in_err-numbers-clause-file
returns-in_err-numbers-clause-file g c = λ events told change is.
    let bytes = bytes_named events c.args.name.now in
    let listed = file_listed bytes c.args.header.now change is c.requires.index in
    passes_file (λ list. list ≡ index_numbers c.args.header.now bytes) (λ list. list ≡ keys change.pages)
    (listed_fault c.args.header.now bytes) c.from_residual-in_err-numbers.result listed.no_fault
    (λ list here. here ∙ listed.listed) (returns-in_err-numbers-clause-value g c events told)

pub returns-in_err-numbers-clause-gave : goal.returns-in_err-numbers-clause-gave
returns-in_err-numbers-clause-gave g c = λ events told.
    let count = c.in_ok-count.ensures.value events told in
    gives_then 4 _ _ _ _ _ c.in_ok-count.ensures.gave c.in_err-numbers.ensures.gave (omega (arith, count.1))

pub returns-then-not-has_all-clause-value : goal.returns-then-not-has_all-clause-value
returns-then-not-has_all-clause-value g c = λ events told.
    let bytes = bytes_named events c.args.name.now in
    let header = c.args.header.now in
    let count = c.in_ok-count.ensures.value events told in
    let inside = numbers_inside bytes header c.in_ok-count.count (c.in_ok-count.ensures.length events told) in
    let value = c.in_ok-numbers.ensures.value events (c.in_ok-count.ensures.unchanged ∙ told) inside in
    part_fails header bytes count.0 c.in_ok-count.count count.1 value.0 (sym c.has_all.ensures
    ∙ c.if-not-has_all.true)

pub returns-then-not-has_all-clause-file : goal.returns-then-not-has_all-clause-file
returns-then-not-has_all-clause-file g c = λ events told change is.
    let bytes = bytes_named events c.args.name.now in
    sym (file_listed bytes c.args.header.now change is c.requires.index).no_fault
    ∙ returns-then-not-has_all-clause-value g c events told

pub returns-then-not-has_all-clause-gave : goal.returns-then-not-has_all-clause-gave
returns-then-not-has_all-clause-gave g c = λ events told.
    let count = c.in_ok-count.ensures.value events told in
    gives_then 4 _ _ _ _ _ c.in_ok-count.ensures.gave c.in_ok-numbers.ensures.gave (omega (arith, count.1))

pub returns-clause-value : goal.returns-clause-value
returns-clause-value g c = λ events told.
    let bytes = bytes_named events c.args.name.now in
    let header = c.args.header.now in
    let count = c.in_ok-count.ensures.value events told in
    let inside = numbers_inside bytes header c.in_ok-count.count (c.in_ok-count.ensures.length events told) in
    let value = c.in_ok-numbers.ensures.value events (c.in_ok-count.ensures.unchanged ∙ told) inside in (
      none_fails header bytes count.0 c.in_ok-count.count count.1 value.0 (sym c.has_all.ensures
          ∙ c.if-not-has_all.false),
      numbers_are header bytes c.in_ok-count.count count.1 c.in_ok-numbers.numbers value.1,
    )

pub returns-clause-file : goal.returns-clause-file
returns-clause-file g c = λ events told change is.
    let bytes = bytes_named events c.args.name.now in
    let listed = file_listed bytes c.args.header.now change is c.requires.index in (
      λ i. None,
      (returns-clause-value g c events told).1 ∙ listed.listed,
    )

pub returns-clause-gave : goal.returns-clause-gave
returns-clause-gave g c = λ events told.
    let count = c.in_ok-count.ensures.value events told in
    gives_then 4 _ _ _ _ _ c.in_ok-count.ensures.gave c.in_ok-numbers.ensures.gave (omega (arith, count.1))
