use Rattle.std.proofs.Common.{◌≡◌, ◌+◌, ◌*◌, ℕ, List, ◌∙◌, arith, sym, ap, subst}
use Rattle.ltx_format.specs.FirstFault.{first_failed, trailer_tests, index_fault}
use Rattle.ltx_reader.specs.Reader.{Reader, bytes_named, IsSummed, AreBytes}
use Rattle.ltx_reader.specs.ReaderSteps.{Passes}
use Rattle.ltx_reader.proofs.ReaderTestLemmas.{passes_on}
use Rattle.ltx_reader.proofs.ReaderGivenLemmas.{gives_then, gives_here, again_indexed}
use Rattle.ltx_reader.proofs.ReaderEndLemmas.{tail_plain, tail_index, tail_trailer, passes_same}
use Rattle.ltx_reader.proofs.reader.LtxReader.check_tail.Goals as goal

pub returns-then-not-self-clause-value : goal.returns-then-not-self-clause-value
returns-then-not-self-clause-value g c = λ events told has summed.
    let name = c.args.self.now.name in
    let bytes = bytes_named events name in
    let value = subst (λ (q : List ℕ). IsSummed (bytes_named events q) c.args.at c.args.sum
    → Passes (λ _. AreBytes (bytes_named events q)) (first_failed (trailer_tests
    (bytes_named events q) c.args.at)) c.check_trailer.result) c.path.ensures
    (c.check_trailer.ensures.value events told) in
    passes_same (λ _. AreBytes bytes) _ _ c.check_trailer.result
    (tail_plain bytes c.args.self.now.header has c.args.self.now.count c.args.at (sym (ap (λ
    (r : Reader). r.header.index) c.self.view_is) ∙ c.if-not-self.true)) (value summed)

pub returns-in_err-sum-clause-value : goal.returns-in_err-sum-clause-value
returns-in_err-sum-clause-value g c = λ events told has summed.
    let bytes = bytes_named events c.args.self.now.name in
    passes_on (IsSummed bytes (c.args.at + 4 * c.args.self.now.count + 4)) _
    (index_fault c.args.self.now.count bytes 0 c.args.at) _ c.from_residual.result c.in_err-sum.field-0.0
    c.from_residual.ensures.1 (c.in_err-sum.ensures.value events told has summed)
    (λ fault is. tail_index bytes c.args.self.now.header has c.args.self.now.count c.args.at (sym (ap (λ
    (r : Reader). r.header.index) c.self.view_is) ∙ c.if-not-self.false) fault is)

pub returns-clause-value : goal.returns-clause-value
returns-clause-value g c = λ events told has summed.
    let bytes = bytes_named events c.args.self.now.name in
    let index = c.in_ok-sum.ensures.value events told has summed in
    let count : c.from.result ≡ c.args.self.now.count = omega (
      arith,
      c.from.ensures,
      ap (λ
          (r : Reader). r.count) c.self.view_is,
    ) in
    let told_now = c.in_ok-sum.ensures.unchanged ∙ told in
    let value = subst (λ (q : List ℕ). IsSummed (bytes_named events q)
    (c.args.at + 4 * c.from.result + 4) c.in_ok-sum.sum
    → Passes (λ _. AreBytes (bytes_named events q)) (first_failed (trailer_tests (bytes_named events q)
    (c.args.at + 4 * c.from.result + 4))) c.check_trailer-2.result) c.path-2.ensures
    (c.check_trailer-2.ensures.value events told_now) in
    let here = subst (λ (k : ℕ). IsSummed bytes (c.args.at + 4 * k + 4) c.in_ok-sum.sum
    → Passes (λ _. AreBytes bytes) (first_failed (trailer_tests bytes
    (c.args.at + 4 * k + 4))) c.check_trailer-2.result) count value in
    passes_same (λ _. AreBytes bytes) _ _ c.check_trailer-2.result
    (tail_trailer bytes c.args.self.now.header has c.args.self.now.count c.args.at (sym (ap (λ
    (r : Reader). r.header.index) c.self.view_is) ∙ c.if-not-self.false) index.0) (here index.1)

pub returns-clause-gave : goal.returns-clause-gave
returns-clause-gave g c = λ events told has summed.
    let index = c.in_ok-sum.ensures.value events told has summed in
    let inside = index.1.inside in
    let again = again_indexed c.args.self.now.header c.args.self.now.count (sym (ap (λ
    (r : Reader). r.header.index) c.self.view_is) ∙ c.if-not-self.false) in
    let count : c.from.result ≡ c.args.self.now.count = omega (
      arith,
      c.from.ensures,
      ap (λ
          (r : Reader). r.count) c.self.view_is,
    ) in
    let trailer = gives_here events c.path-2.result.now c.args.self.now.name 17
    (c.args.at + 4 * c.from.result + 4) _ _ c.path-2.ensures (c.check_trailer-2.ensures.gave events
    (c.in_ok-sum.ensures.unchanged ∙ told)) in
    gives_then (8 * c.args.self.now.count + 4) _ _ _ _ _ c.in_ok-sum.ensures.gave_index trailer (omega
    (arith, inside, again, count))
