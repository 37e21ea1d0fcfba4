use Rattle.std.proofs.Common.{◌≡◌, ◌+◌, ◌*◌, ◌<◌, ℕ, List, ◌∙◌, arith, sym, ap, subst, None}
use Rattle.ltx_format.specs.FirstFault.{first_failed, entry_tests}
use Rattle.ltx_reader.specs.Reader.{Reader, bytes_named}
use Rattle.ltx_reader.specs.ReaderSteps.{StandAt, reaches}
use Rattle.ltx_reader.proofs.ReaderGivenLemmas.{gives_then, gives_here}
use Rattle.ltx_reader.proofs.ReaderIndexLemmas.{index_step, index_stops, entry_inside, four_here, four_at, index_short}
use Rattle.ltx_reader.proofs.ReaderIndexLemmas.{index_differs, index_whole, index_summed}
use Rattle.ltx_reader.proofs.ReaderTestLemmas.{passes_on}
use Rattle.ltx_reader.proofs.reader.LtxReader.check_index.Goals as goal

pub loop-place-preserved : goal.loop-place-preserved
loop-place-preserved g c = record {
  unchanged = c.in_ok-entry.ensures.unchanged ∙ c.loop-place.invariant.unchanged;
  same_folder = c.in_ok-entry.ensures.same_folder ∙ c.loop-place.invariant.same_folder;
  later = omega (arith, c.in_ok-entry.ensures.cause.later, c.loop-place.invariant.later);
  gave = gives_then (8 * c.loop-place.place) 8 _ _ _ _ c.loop-place.invariant.gave c.in_ok-entry.ensures.gave_entry
      (omega arith);
  up_to = λ events told has summed.
      let bytes = bytes_named events c.args.self.now.name in
      let up = c.loop-place.invariant.up_to events told has summed in
      let inside = summed.inside in
      let value = c.in_ok-entry.ensures.value events (c.loop-place.invariant.unchanged
      ∙ told) has (omega (arith, inside, c.requires.at)) in
      let here = subst (λ (k : ℕ). (first_failed (entry_tests bytes c.loop-place.place
      (c.args.at + 4 * k)) ≡ None) × StandAt bytes
      (c.args.at + 4 * k) 4 c.in_ok-entry.entry) c.from.ensures value in
      let less : c.loop-place.place < c.args.self.now.count = omega (
        arith,
        c.loop-place-test.true,
        ap (λ
            (r : Reader). r.count) c.self.view_is,
      ) in
      index_step bytes c.args.self.now.count c.args.at c.loop-place.place c.loop-place.sum up c.over.new.self
      c.in_ok-entry.entry less here.0 (entry_inside bytes c.loop-place.place
      (c.args.at + 4 * c.loop-place.place) here.0) here.1 c.over.ensures.behind;
}

pub returns-in_err-entry-clause-value : goal.returns-in_err-entry-clause-value
returns-in_err-entry-clause-value g c = λ events told has summed.
    let bytes = bytes_named events c.args.self.now.name in
    let up = c.loop-place.invariant.up_to events told has summed in
    let inside = summed.inside in
    let value = c.in_err-entry.ensures.value events (c.loop-place.invariant.unchanged
    ∙ told) has (omega (arith, inside, c.requires.at)) in
    let less : c.loop-place.place < c.args.self.now.count = omega (
      arith,
      c.loop-place-test.true,
      ap (λ
          (r : Reader). r.count) c.self.view_is,
    ) in
    passes_on (StandAt bytes (c.args.at + 4 * c.from.result) 4) _ (first_failed (entry_tests bytes c.loop-place.place
    (c.args.at + 4 * c.from.result))) _ c.from_residual.result c.in_err-entry.field-0.0 c.from_residual.ensures.1
    value
    (λ fault is. index_stops bytes c.args.self.now.count c.args.at c.loop-place.place c.loop-place.sum up fault less
    (ap (λ k. first_failed (entry_tests bytes c.loop-place.place (c.args.at + 4 * k))) (sym c.from.ensures) ∙ is))

pub returns-in_err-entry-clause-gave : goal.returns-in_err-entry-clause-gave
returns-in_err-entry-clause-gave g c = λ events told has summed.
    let up = c.loop-place.invariant.up_to events told has summed in
    let inside = up.summed.inside in
    let less : c.loop-place.place < c.args.self.now.count = omega (
      arith,
      c.loop-place-test.true,
      ap (λ
          (r : Reader). r.count) c.self.view_is,
    ) in
    gives_then (8 * c.loop-place.place) _ _ _ _ _ c.loop-place.invariant.gave (c.in_err-entry.ensures.gave events
    (c.loop-place.invariant.unchanged ∙ told)) (omega (arith, inside, less, c.from.ensures))

pub returns-in_err-count-clause-value : goal.returns-in_err-count-clause-value
returns-in_err-count-clause-value g c = λ events told has summed.
    let bytes = bytes_named events c.args.self.now.name in
    let up = c.loop-place.invariant.up_to events told has summed in
    let counted : c.from-2.result ≡ c.args.self.now.count = omega (
      arith,
      c.from-2.ensures,
      ap (λ
          (r : Reader). r.count) c.self.view_is,
    ) in
    let ended : c.loop-place.place ≡ c.args.self.now.count = omega
    (arith, c.loop-place-test.false, c.loop-place.auto.place-end, ap (λ (r : Reader). r.count) c.self.view_is) in
    let value = c.in_err-count.ensures.value events (c.loop-place.invariant.unchanged ∙ told) in
    passes_on (StandAt (bytes_named events c.path.result.now) (c.args.at + 4 * c.from-2.result) 4) _ (reaches
    (bytes_named events c.path.result.now) (c.args.at + 4 * c.from-2.result) 4) _
    c.from_residual-in_err-count.result c.in_err-count.field-0.0 c.from_residual-in_err-count.ensures.1 value
    (λ fault is. index_short bytes c.args.self.now.count c.args.at c.loop-place.place c.loop-place.sum ended up fault
    (ap (λ (q : List ℕ). reaches (bytes_named events q) (c.args.at + 4 * c.args.self.now.count) 4)
    (sym c.path.ensures) ∙ ap (λ k. reaches (bytes_named events c.path.result.now) (c.args.at + 4 * k) 4)
    (sym counted) ∙ is))

pub returns-in_err-count-clause-gave : goal.returns-in_err-count-clause-gave
returns-in_err-count-clause-gave g c = λ events told has summed.
    let up = c.loop-place.invariant.up_to events told has summed in
    let inside = up.summed.inside in
    let counted : c.from-2.result ≡ c.args.self.now.count = omega (
      arith,
      c.from-2.ensures,
      ap (λ
          (r : Reader). r.count) c.self.view_is,
    ) in
    let ended : c.loop-place.place ≡ c.args.self.now.count = omega
    (arith, c.loop-place-test.false, c.loop-place.auto.place-end, ap (λ (r : Reader). r.count) c.self.view_is) in
    let gave = gives_here events c.path.result.now c.args.self.now.name 4
    (c.args.at + 4 * c.from-2.result) _ _ c.path.ensures (c.in_err-count.ensures.gave events
    (c.loop-place.invariant.unchanged ∙ told)) in
    gives_then (8 * c.loop-place.place) _ _ _ _ _ c.loop-place.invariant.gave gave (omega
    (arith, inside, ended, counted))

pub returns-then-from_be_bytes-self-clause-value : goal.returns-then-from_be_bytes-self-clause-value
returns-then-from_be_bytes-self-clause-value g c = λ events told has summed.
    let bytes = bytes_named events c.args.self.now.name in
    let up = c.loop-place.invariant.up_to events told has summed in
    let counted : c.from-2.result ≡ c.args.self.now.count = omega (
      arith,
      c.from-2.ensures,
      ap (λ
          (r : Reader). r.count) c.self.view_is,
    ) in
    let ended : c.loop-place.place ≡ c.args.self.now.count = omega
    (arith, c.loop-place-test.false, c.loop-place.auto.place-end, ap (λ (r : Reader). r.count) c.self.view_is) in
    let read = four_here events c.path.result.now c.args.self.now.name c.path.ensures
    (c.args.at + 4 * c.from-2.result) c.in_ok-count.count (c.in_ok-count.ensures.value events
    (c.loop-place.invariant.unchanged ∙ told)) in
    let here = four_at bytes c.args.at c.from-2.result c.args.self.now.count counted c.in_ok-count.count read in
    index_differs bytes c.args.self.now.count c.args.at c.loop-place.place c.loop-place.sum ended up
    c.in_ok-count.count here c.from_be_bytes.result c.from_be_bytes.ensures (λ e. c.if-from_be_bytes-self.true
    (omega (arith, e, ap (λ (r : Reader). r.count) c.self.view_is)))

pub returns-then-from_be_bytes-self-clause-gave : goal.returns-then-from_be_bytes-self-clause-gave
returns-then-from_be_bytes-self-clause-gave g c = λ events told has summed.
    let up = c.loop-place.invariant.up_to events told has summed in
    let inside = up.summed.inside in
    let counted : c.from-2.result ≡ c.args.self.now.count = omega (
      arith,
      c.from-2.ensures,
      ap (λ
          (r : Reader). r.count) c.self.view_is,
    ) in
    let ended : c.loop-place.place ≡ c.args.self.now.count = omega
    (arith, c.loop-place-test.false, c.loop-place.auto.place-end, ap (λ (r : Reader). r.count) c.self.view_is) in
    let gave = gives_here events c.path.result.now c.args.self.now.name 4
    (c.args.at + 4 * c.from-2.result) _ _ c.path.ensures (c.in_ok-count.ensures.gave events
    (c.loop-place.invariant.unchanged ∙ told)) in
    gives_then (8 * c.loop-place.place) _ _ _ _ _ c.loop-place.invariant.gave gave (omega
    (arith, inside, ended, counted))

pub returns-clause-value : goal.returns-clause-value
returns-clause-value g c = λ events told has summed.
    let bytes = bytes_named events c.args.self.now.name in
    let up = c.loop-place.invariant.up_to events told has summed in
    let counted : c.from-2.result ≡ c.args.self.now.count = omega (
      arith,
      c.from-2.ensures,
      ap (λ
          (r : Reader). r.count) c.self.view_is,
    ) in
    let ended : c.loop-place.place ≡ c.args.self.now.count = omega
    (arith, c.loop-place-test.false, c.loop-place.auto.place-end, ap (λ (r : Reader). r.count) c.self.view_is) in
    let read = four_here events c.path.result.now c.args.self.now.name c.path.ensures
    (c.args.at + 4 * c.from-2.result) c.in_ok-count.count (c.in_ok-count.ensures.value events
    (c.loop-place.invariant.unchanged ∙ told)) in
    let here = four_at bytes c.args.at c.from-2.result c.args.self.now.count counted c.in_ok-count.count read in
    let same : c.from_be_bytes.result ≡ c.args.self.now.count = omega (
      arith,
      c.if-from_be_bytes-self.false,
      ap (λ
          (r : Reader). r.count) c.self.view_is,
    ) in (
      index_whole bytes c.args.self.now.count c.args.at c.loop-place.place c.loop-place.sum ended up
          c.in_ok-count.count here c.from_be_bytes.result c.from_be_bytes.ensures same,
      index_summed bytes c.args.self.now.count c.args.at c.loop-place.place c.loop-place.sum ended up
          c.in_ok-count.count here c.over-2.new.self c.over-2.ensures.behind,
    )

pub returns-clause-gave : goal.returns-clause-gave
returns-clause-gave g c = λ events told has summed.
    let up = c.loop-place.invariant.up_to events told has summed in
    let inside = up.summed.inside in
    let counted : c.from-2.result ≡ c.args.self.now.count = omega (
      arith,
      c.from-2.ensures,
      ap (λ
          (r : Reader). r.count) c.self.view_is,
    ) in
    let ended : c.loop-place.place ≡ c.args.self.now.count = omega
    (arith, c.loop-place-test.false, c.loop-place.auto.place-end, ap (λ (r : Reader). r.count) c.self.view_is) in
    let gave = gives_here events c.path.result.now c.args.self.now.name 4
    (c.args.at + 4 * c.from-2.result) _ _ c.path.ensures (c.in_ok-count.ensures.gave events
    (c.loop-place.invariant.unchanged ∙ told)) in
    gives_then (8 * c.loop-place.place) _ _ _ _ _ c.loop-place.invariant.gave gave (omega
    (arith, inside, ended, counted))

pub returns-clause-gave_index : goal.returns-clause-gave_index
returns-clause-gave_index g c =
    let ended : c.loop-place.place ≡ c.args.self.now.count = omega
    (arith, c.loop-place-test.false, c.loop-place.auto.place-end, ap (λ (r : Reader). r.count) c.self.view_is) in
    gives_then (8 * c.loop-place.place) 4 _ _ _ _ c.loop-place.invariant.gave c.in_ok-count.ensures.gave_room (omega
    (arith, ended))
