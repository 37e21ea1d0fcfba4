use Rattle.std.proofs.Common.{◌≡◌, ◌*◌, length, take}
use Rattle.demo_draws.specs.Generator.{advanced_by}
use Rattle.demo_draws.specs.DrawnPage.{drawn_bytes, page_bytes}
use Rattle.demo_draws.proofs.draws.Draws.fill.Given as goal

abbrev pub invariant-loop-place : goal.invariant-loop-place
invariant-loop-place l = record {
  sized : length l.into ≡ page_bytes;
  filled : take (8 * l.place) l.into ≡ drawn_bytes l.initial.self l.place;
  state : l.self ≡ advanced_by l.place l.initial.self;
}
