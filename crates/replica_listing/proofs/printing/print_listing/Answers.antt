use Rattle.std.proofs.Common.{◌≡◌, ◌+◌, ◌<◌, ◌++◌, [], Some, refl, ◌∙◌, length, drop, slice_get, get_or, ap, sym, subst}
use Rattle.std.proofs.Common.{arith, rules}
use Rattle.std.proofs.lemmas.Option.{slice_get-get_or}
use Rattle.crash_disk.specs.Output.{gains_text, GainsFront}
use Rattle.replica_listing.specs.Listing.{file_line, file_lines, listing}
use Rattle.replica_listing.specs.Printing.{HasPutUpTo}
use Rattle.replica_listing.proofs.PrintingLemmas.{none_put, more_put, front_put, lines_at, lines_end, all_put}
use Rattle.replica_listing.proofs.printing.print_listing.Goals as goal

pub loop-at-init : goal.loop-at-init
loop-at-init g c = record {
  within = omega arith;
  put = subst (λ piece. HasPutUpTo (g.O.Out.text c.args.out.now) (g.O.Out.text c.args.out.now)
      (listing c.args.dated.now c.args.sizes.now) (piece ++ file_lines c.args.dated.now c.args.sizes.now))
      (sym c.head-piece.ensures) (none_put (g.O.Out.text c.args.out.now) (listing c.args.dated.now c.args.sizes.now));
  later = omega arith;
}

pub returns-in_err-add_line-clause-err : goal.returns-in_err-add_line-clause-err
returns-in_err-add_line-clause-err g c =
    let front : GainsFront (g.O.Out.text c.args.out.now) (g.O.Out.text c.add_line.new.out)
    (listing c.args.dated.now c.args.sizes.now) =
    front_put _ _ _ _ _ _ c.loop-at.invariant.put c.in_err-add_line.ensures.err in
    search rules

pub returns-in_err-add_line-clause-cause : goal.returns-in_err-add_line-clause-cause
returns-in_err-add_line-clause-cause g c = record {
  later = omega (arith, c.loop-at.invariant.later, c.add_line.ensures.cause.later);
  rose = λ _. record {
    least = omega (
      arith,
      c.loop-at.invariant.later,
      (c.in_err-add_line.ensures.cause.rose refl).least,
    );
  };
}

pub loop-at-preserved : goal.loop-at-preserved
loop-at-preserved g c =
    let at = c.loop-at.at in
    let names = c.args.dated.now in
    let sizes = c.args.sizes.now in
    let whole = listing names sizes in
    let low : at < length names = c.loop-at-test.true in
    let name : slice_get names at ≡ Some c.index-dated-at.result = slice_get-get_or names at c.index-dated-at.result
    low ∙ ap Some (sym c.index-dated-at.is) in
    let size : slice_get sizes at ≡ Some (get_or sizes at 0) = slice_get-get_or sizes at 0 (omega arith) in
    record {
      within = omega arith;
      put = more_put (g.O.Out.text c.args.out.now) (g.O.Out.text c.loop-at.out)
          (g.O.Out.text c.add_line.new.out) whole c.loop-at.piece.items (file_line c.index-dated-at.result
          (get_or sizes at 0))
          c.add_line.new.piece.items (file_lines (drop (at + 1) names) (drop (at + 1) sizes))
          (subst (λ rest. HasPutUpTo (g.O.Out.text c.args.out.now) (g.O.Out.text c.loop-at.out) whole
          (c.loop-at.piece.items ++ rest)) (lines_at at (at + 1) names sizes c.index-dated-at.result
          (get_or sizes at 0) (omega arith) name size) c.loop-at.invariant.put)
          c.in_ok-add_line.ensures.ok;
      later = omega (arith, c.loop-at.invariant.later, c.add_line.ensures.cause.later);
    }

pub returns-in_err-put-clause-err : goal.returns-in_err-put-clause-err
returns-in_err-put-clause-err g c =
    let piece : c.as_slice.result.now ≡ c.loop-at.piece.items = c.as_slice.ensures.value in
    let front : GainsFront (g.O.Out.text c.args.out.now) (g.O.Out.text c.put.new.self)
    (listing c.args.dated.now c.args.sizes.now) =
    front_put _ _ _ _ c.loop-at.piece.items _ c.loop-at.invariant.put
    (subst (GainsFront (g.O.Out.text c.loop-at.out) (g.O.Out.text c.put.new.self)) piece c.in_err-put.ensures.err) in
    search rules

pub returns-clause-ok : goal.returns-clause-ok
returns-clause-ok g c =
    let names = c.args.dated.now in
    let sizes = c.args.sizes.now in
    let end : c.loop-at.at ≡ length names = omega arith in
    let none : file_lines (drop c.loop-at.at names) (drop c.loop-at.at sizes) ≡ [] =
    ap (λ i. file_lines (drop i names) (drop c.loop-at.at sizes)) end ∙ lines_end names (drop c.loop-at.at sizes) in
    all_put (g.O.Out.text c.args.out.now) (g.O.Out.text c.loop-at.out) (g.O.Out.text c.put.new.self)
    (listing names sizes) c.loop-at.piece.items
    (subst (λ rest. HasPutUpTo (g.O.Out.text c.args.out.now) (g.O.Out.text c.loop-at.out) (listing names sizes)
    (c.loop-at.piece.items ++ rest)) none c.loop-at.invariant.put)
    (c.in_ok-put.ensures.ok ∙ ap (gains_text (g.O.Out.text c.loop-at.out)) c.as_slice.ensures.value)
