use Rattle.std.proofs.Common.{refl, sym, ◌∙◌, arith}
use Rattle.std.proofs.lemmas.Option.{slice_get_within, get_or_from_slice_get}
use Rattle.restore_plan.proofs.WalkLemmas.{first_is_least}
use Rattle.restore_plan.proofs.walk.Walk.next_end.Goals as goal

pub returns-in_err-name-clause-least : goal.returns-in_err-name-clause-least
returns-in_err-name-clause-least c =
    λ name there level next. absurd (omega (arith, c.in_err-name.ensures.none name there level, next.goes_on))

pub returns-then-number-after-clause-least : goal.returns-then-number-after-clause-least
returns-then-number-after-clause-least c =
    λ name there level next. absurd (omega (
      arith,
      c.if-number-after.true,
      c.number.ensures.value,
      next.begins,
      (first_is_least c.args.names.now c.args.after c.first_beyond.new.self c.in_ok-name.name name c.requires.in_order
          c.requires.rising
          c.in_ok-name.ensures.walk c.in_ok-name.ensures.found there (level ∙ sym c.in_ok-name.ensures.level)
          next.goes_on).0,
    ))

pub returns-clause-end : goal.returns-clause-end
returns-clause-end c =
    let name = c.in_ok-name.name in
    let stands = c.in_ok-name.ensures.found in
    record {
      name = name;
      there = (
        c.first_beyond.new.self.at,
        slice_get_within c.args.names.now c.first_beyond.new.self.at name stands.here,
        get_or_from_slice_get c.args.names.now c.first_beyond.new.self.at name name stands.here,
      );
      next = record {
        begins = omega (arith, c.if-number-after.false, c.number.ensures.value);
        goes_on = stands.beyond;
      };
      ends = refl;
    }

pub returns-clause-least : goal.returns-clause-least
returns-clause-least c =
    λ name there level next. (first_is_least c.args.names.now c.args.after c.first_beyond.new.self c.in_ok-name.name
    name c.requires.in_order
    c.requires.rising c.in_ok-name.ensures.walk c.in_ok-name.ensures.found there
    (level ∙ sym c.in_ok-name.ensures.level) next.goes_on).1
