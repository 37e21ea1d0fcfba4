use Rattle.std.proofs.Common.{◌≤◌, ◌+◌, refl, sym, subst, arith}
use Rattle.std.proofs.lemmas.Option.{slice_get_read, slice_get_within}
use Rattle.ltx_format.specs.declared.header.LtxHeader.{LtxHeader}
use Rattle.page_cursors.specs.Wanted.{AreBelow, HoldsAll}
use Rattle.page_cursors.proofs.LackingLemmas.{holds_next}
use Rattle.page_cursors.proofs.ending.lacking.Goals as goal

pub returns-in-Some-clause-lacks : goal.returns-in-Some-clause-lacks
returns-in-Some-clause-lacks c = record {
  place = c.loop-cursor.cursor-index;
  cursor = c.cursor-item.result;
  is = slice_get_read c.args.cursors.now _ c.loop-cursor.cursor-index c.cursor-item.result refl
      c.loop-cursor-test.true c.cursor-item.is;
  named = refl;
  before = c.loop-cursor.invariant;
  lacks = λ lock above numbers below wants.
      let under = subst (λ (h : LtxHeader). AreBelow numbers (h.commit + 1)) (sym c.header-header.ensures.value) below
      in (
        c.in-Some.ensures.some lock above numbers under wants,
        subst (λ
            (h : LtxHeader). c.in-Some.number ≤ h.commit) c.header-header.ensures.value
            (c.in-Some.ensures.within lock above numbers under wants),
      );
}

pub loop-cursor-preserved : goal.loop-cursor-preserved
loop-cursor-preserved c =
    holds_next c.args.cursors.now c.loop-cursor.cursor-index c.cursor-item.result c.loop-cursor.invariant
    (slice_get_read c.args.cursors.now _ c.loop-cursor.cursor-index c.cursor-item.result refl c.loop-cursor-test.true
    c.cursor-item.is)
    (λ lock above numbers below wants.
    subst (λ (h : LtxHeader). HoldsAll lock above numbers h.commit) c.header-header.ensures.value
    (c.in_default.ensures.none lock above numbers (subst (λ (h : LtxHeader). AreBelow numbers (h.commit + 1))
    (sym c.header-header.ensures.value) below) wants))

pub returns-clause-whole : goal.returns-clause-whole
returns-clause-whole c = λ k cursor is. c.loop-cursor.invariant k cursor (omega
    (arith, slice_get_within c.args.cursors.now k cursor is, c.loop-cursor-test.false)) is
