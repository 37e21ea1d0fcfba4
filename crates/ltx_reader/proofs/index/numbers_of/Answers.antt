use Rattle.std.proofs.Common.{◌≡◌, ◌+◌, ◌*◌, ◌∙◌, arith, sym, ap}
use Rattle.std.specs.Int.{w32}
use Rattle.ltx_format.specs.FirstFault.{number}
use Rattle.ltx_reader.specs.Reader.{bytes_named}
use Rattle.ltx_reader.proofs.ReaderGivenLemmas.{gives_none, gives_then}
use Rattle.ltx_reader.proofs.ReaderNumbersLemmas.{listed_none, listed_more, numbers_start, numbers_step, numbers_fail}
use Rattle.ltx_reader.proofs.ReaderNumbersLemmas.{numbers_end, four_number, listed_at, fault_at}
use Rattle.ltx_reader.proofs.index.numbers_of.Goals as goal

pub loop-place-init : goal.loop-place-init
loop-place-init g c = record {
  unchanged = λ i. g.D.Disk.told c.args.disk.now;
  same_folder = λ i. g.D.Disk.folder c.args.disk.now;
  later = omega arith;
  gave = gives_none 0 _;
  listed = rw c.new-numbers.ensures (listed_none c.args.header.now);
  numbers = λ events told. rw c.new-numbers.ensures
      (numbers_start (bytes_named events c.args.name.now) c.args.header.now
      c.args.count c.index_offset-start.result);
}

pub returns-in_err-four_at-clause-gave : goal.returns-in_err-four_at-clause-gave
returns-in_err-four_at-clause-gave g c =
    gives_then (4 * c.loop-place.place) 4 _ _ _ _ c.loop-place.invariant.gave c.in_err-four_at.ensures.gave_room (omega
    (arith, c.loop-place-test.true))

pub returns-then-not-is_next-clause-value : goal.returns-then-not-is_next-clause-value
returns-then-not-is_next-clause-value g c = λ events told inside.
    let bytes = bytes_named events c.args.name.now in
    let to = c.loop-place.invariant.numbers events told in
    let read = c.in_ok-four_at.ensures.value events (c.loop-place.invariant.unchanged ∙ told) in
    let is = four_number bytes (c.index_offset-start.result + 4 * c.from.result) c.from_be_bytes-number.result
    c.in_ok-four_at.field-0 read c.from_be_bytes-number.ensures in
    let here = ap (λ k. number w32 (c.index_offset-start.result + 4 * k) bytes) (sym c.from.ensures) ∙ is in
    fault_at bytes c.args.header.now c.args.count _ _ _ c.index_offset-start.ensures.value (numbers_fail bytes
    c.args.header.now c.args.count c.index_offset-start.result c.loop-place.place c.loop-place.last
    c.from_be_bytes-number.result c.loop-place.numbers c.loop-place-test.true here to
    (sym c.is_next.ensures ∙ c.if-not-is_next.true))

pub returns-then-not-is_next-clause-gave : goal.returns-then-not-is_next-clause-gave
returns-then-not-is_next-clause-gave g c =
    gives_then (4 * c.loop-place.place) 4 _ _ _ _ c.loop-place.invariant.gave c.in_ok-four_at.ensures.gave_room (omega
    (arith, c.loop-place-test.true))

pub returns-in_err-push-clause-gave : goal.returns-in_err-push-clause-gave
returns-in_err-push-clause-gave g c =
    gives_then (4 * c.loop-place.place) 4 _ _ _ _ c.loop-place.invariant.gave c.in_ok-four_at.ensures.gave_room (omega
    (arith, c.loop-place-test.true))

pub loop-place-preserved : goal.loop-place-preserved
loop-place-preserved g c =
    let next = sym c.is_next.ensures ∙ c.if-not-is_next.false in
    record {
      unchanged = c.in_ok-four_at.ensures.unchanged ∙ c.loop-place.invariant.unchanged;
      same_folder = c.in_ok-four_at.ensures.same_folder ∙ c.loop-place.invariant.same_folder;
      later = omega (arith, c.in_ok-four_at.ensures.cause.later, c.loop-place.invariant.later);
      gave = gives_then (4 * c.loop-place.place) 4 _ _ _ _ c.loop-place.invariant.gave
          c.in_ok-four_at.ensures.gave_room (omega arith);
      listed = listed_more c.args.header.now c.loop-place.last c.from_be_bytes-number.result c.loop-place.numbers
          c.push.new.self c.loop-place.invariant.listed next c.in_ok-push.ensures.ok;
      numbers = λ events told.
          let bytes = bytes_named events c.args.name.now in
          let to = c.loop-place.invariant.numbers events told in
          let read = c.in_ok-four_at.ensures.value events (c.loop-place.invariant.unchanged ∙ told) in
          let is = four_number bytes (c.index_offset-start.result + 4 * c.from.result) c.from_be_bytes-number.result
          c.in_ok-four_at.field-0 read c.from_be_bytes-number.ensures in
          let here = ap (λ k. number w32 (c.index_offset-start.result + 4 * k) bytes) (sym c.from.ensures) ∙ is in
          numbers_step bytes c.args.header.now c.args.count c.index_offset-start.result c.loop-place.place
          c.loop-place.last c.from_be_bytes-number.result c.loop-place.numbers c.loop-place-test.true here to
          c.push.new.self next c.in_ok-push.ensures.ok;
    }

pub returns-clause-value : goal.returns-clause-value
returns-clause-value g c = λ events told inside.
    let bytes = bytes_named events c.args.name.now in
    let ended : c.loop-place.place ≡ c.args.count = omega
    (arith, c.loop-place-test.false, c.loop-place.auto.place-end) in
    let all = listed_at bytes c.args.header.now c.args.count _ _ c.loop-place.numbers
    c.index_offset-start.ensures.value (numbers_end bytes c.args.header.now c.args.count c.index_offset-start.result
    c.loop-place.place c.loop-place.last c.loop-place.numbers ended (c.loop-place.invariant.numbers events told)) in
    (all.no_fault, all.numbers)
