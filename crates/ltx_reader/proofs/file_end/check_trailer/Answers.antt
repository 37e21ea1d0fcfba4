use Rattle.ltx_reader.specs.Reader.{bytes_named}
use Rattle.ltx_reader.proofs.ReaderTrailerLemmas.{trailer_filled, whole_bytes}
use Rattle.ltx_reader.proofs.file_end.check_trailer.Goals as goal

pub returns-clause-value : goal.returns-clause-value
returns-clause-value g c = λ events told summed.
    let bytes = bytes_named events c.args.name.now in
    let filled = c.in_ok-count.ensures.value events told in
    let none = c.in_ok-trailer_of.ensures bytes c.args.at summed
    (trailer_filled bytes c.fill.new.into c.args.at c.in_ok-count.count filled) in (
      none,
      whole_bytes bytes c.fill.new.into c.args.at c.in_ok-count.count c.args.sum none summed filled
          c.in_ok-count.ensures.are_bytes,
    )
