use Rattle.std.proofs.Common.{◌≡◌, ◌∙◌, ◌≤◌, ℕ, ◌+◌, ◌*◌, List, ◌++◌, length, take, drop, refl, ap, sym, arith}
use Rattle.std.specs.Int.{w64, to_be_bytes}
use Rattle.demo_draws.specs.Generator.{advanced, advanced_by}
use Rattle.demo_draws.specs.DrawnPage.{drawn_bytes}
use Rattle.demo_draws.proofs.GeneratorLemmas.{advanced_by-more}
use Rattle.demo_draws.proofs.PageLemmas.{drawn_bytes-more, take-put}
use Rattle.demo_draws.proofs.draws.Draws.fill.Goals as goal

pub loop-place-init : goal.loop-place-init
unfolding drawn_bytes advanced_by
loop-place-init c = record { sized = c.requires.sized; filled = refl; state = refl }

pub loop-place-preserved : goal.loop-place-preserved
loop-place-preserved c =
    let place = c.loop-place.place in
    let at = 8 * place in
    let old = c.loop-place.into in
    let x = c.args.self.now in
    let bytes = c.to_be_bytes.result in
    let last = advanced (advanced_by place x) in
    let value : c.next-number.result ≡ last =
    c.next-number.ensures.value ∙ ap advanced c.loop-place.invariant.state in
    let is : bytes ≡ to_be_bytes w64 last =
    c.to_be_bytes.ensures ∙ ap (to_be_bytes w64) value in
    let eight : length bytes ≡ 8 = ap length c.to_be_bytes.ensures in
    let ends : 8 * (place + 1) ≡ at + length bytes = omega (arith, eight) in
    let fits : at ≤ length old = omega (arith, c.loop-place.invariant.sized, c.loop-place-test.true) in
    record {
      sized = omega (arith, c.put.auto.into, c.loop-place.invariant.sized);
      filled =
          ap (λ (n : ℕ). take n c.put.new.into) ends
          ∙ ap (take (at + length bytes)) c.put.ensures
          ∙ take-put at old bytes (drop (at + length bytes) old) fits
          ∙ ap (λ (bs : List ℕ). bs ++ bytes) c.loop-place.invariant.filled
          ∙ ap (λ (bs : List ℕ). drawn_bytes x place ++ bs) is
          ∙ sym (drawn_bytes-more x place);
      state = c.next-number.ensures.state ∙ ap advanced c.loop-place.invariant.state ∙ sym (advanced_by-more place x);
    }
