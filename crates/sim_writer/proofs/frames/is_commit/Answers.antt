use Rattle.std.proofs.Common.{rules, refl, ◌≡◌, false, sym, ap, subst, ◌∙◌, arith, option_copied}
use Rattle.std.specs.Prelude.{IsTrue}
use Rattle.std.specs.FinMap.{keys}
use Rattle.std.proofs.lemmas.Option.{slice_get_within}
use Rattle.sim_writer.specs.CommitFrames.{IsCommittable}
use Rattle.sim_writer.proofs.NumberLemmas.{place_below, number_has_page, committable_more, all_committable}
use Rattle.sim_writer.proofs.frames.is_commit.Goals as goal

pub unreachable-requires : goal.unreachable-requires
unreachable-requires c = number_has_page c.args.pages.now c.loop-number.at c.in-Some.number
    (sym c.number_at-in-loop-number.ensures ∙ c.in-Some.is) (sym c.get.ensures ∙ ap (λ o. option_copied o)
    c.in_default-get.is)

pub returns-then-not-is_committable : goal.returns-then-not-is_committable
returns-then-not-is_committable c = (
  λ e. absurd cc,
  λ is.
      let has = sym c.get.ensures ∙ ap (λ o. option_copied o) c.in-Some-get.is in
      let yes = c.is_committable.ensures.1 (is.each c.in-Some.number c.in-Some-get.page.now has) in
      let no : c.is_committable.result ≡ false = search rules in
      subst IsTrue no yes,
)

pub overflow_add-at : goal.overflow_add-at
overflow_add-at c =
    let m = c.args.pages.now in
    let is : IsCommittable c.args.page_size c.args.size c.in-Some.number c.in-Some-get.page.now =
    c.is_committable.ensures.0 (search rules) in
    omega (
      arith,
      place_below m c.loop-number.at c.in-Some.number (sym c.number_at-in-loop-number.ensures ∙ c.in-Some.is),
      is.upto,
      c.ranges.size.fits,
    )

pub loop-number-smaller : goal.loop-number-smaller
loop-number-smaller c = omega (
  arith,
  slice_get_within (keys c.args.pages.now) c.loop-number.at c.in-Some.number
      (sym c.number_at-in-loop-number.ensures ∙ c.in-Some.is),
)

pub loop-number-preserved : goal.loop-number-preserved
loop-number-preserved c = record {
  some = c.loop-number.invariant.some;
  each = committable_more c.args.page_size c.args.size c.loop-number.at c.in-Some.number c.args.pages.now
      c.in-Some-get.page.now c.loop-number.invariant.each
      (sym c.number_at-in-loop-number.ensures ∙ c.in-Some.is)
      (sym c.get.ensures ∙ ap (λ o. option_copied o) c.in-Some-get.is)
      (c.is_committable.ensures.0 (search rules));
}

pub returns : goal.returns
returns c = (
  λ _. all_committable c.args.page_size c.args.size c.loop-number.at c.args.pages.now c.loop-number.invariant.each
      (sym c.number_at-in-loop-number.ensures ∙ c.in_default.is) c.loop-number.invariant.some,
  λ _. refl,
)
