use Rattle.std.proofs.Common.{◌+◌, List, ℕ, Some, take, length, refl, sym, ap, subst}
use Rattle.std.proofs.Common.{◌∙◌, arith}
use Rattle.crash_disk.specs.Files.{files_after}
use Rattle.std.proofs.lemmas.List.{length_push}
use Rattle.ltx_format.specs.declared.header.LtxHeader.{LtxHeader}
use Rattle.page_cursors.specs.declared.cursor.Cursor.{Cursor}
use Rattle.page_cursors.specs.declared.opening.Found.{Found}
use Rattle.page_cursors.specs.Opening.{IsFound, IsNamed, HasSizeOf, names_of}
use Rattle.page_cursors.proofs.OpenLemmas.{AreOpenedTo, FitsSize, names_next, names_all, opened_next, fits_next}
use Rattle.page_cursors.proofs.OpenLemmas.{one_size, opened_odd, opened_all}
use Rattle.std.proofs.Common.{◌≡◌, ◌*◌, ◌++◌, ◌∷◌, [], suc, drop}
use Rattle.std.specs.Prelude.{slice_get}
use Rattle.std.proofs.lemmas.Option.{slice_get_read}
use Rattle.ltx_reader.proofs.ReaderGivenLemmas.{gives_then, gives_within}
use Rattle.page_cursors.specs.Costs.{AreCounted, FoundCosts, Takes, both, left_of_all, nothing, plan_cost}
use Rattle.page_cursors.proofs.CostLemmas.{takes_by, takes_none}
use Rattle.page_cursors.proofs.CostListLemmas.{counted-push, err_each, opened_more, opened_odd_cost, takes_all}
use Rattle.page_cursors.proofs.opening.open.Goals as goal

pub loop-name-preserved : goal.loop-name-preserved
loop-name-preserved g c =
    let before = c.loop-name.invariant in
    let cursor = c.in-Taken.cursor in
    let plan = c.args.plan.now in
    let at = c.loop-name.name-index in
    let now = c.in_ok-push.ensures.items in
    let sized = subst (HasSizeOf c.loop-name.size) c.in-Taken.is c.in_ok-cursor.ensures.sized in
    let header = c.header-header.result.now in
    let same = c.header-header.ensures.value in
    record {
      opened = λ events told.
          let found = subst (λ (f : Found). IsFound
          (files_after events) c.name-item.result c.loop-name.size c.loop-name.pages f) c.in-Taken.is
          (c.in_ok-cursor.ensures.found events (before.unchanged ∙ told)) in
          subst (λ (h : LtxHeader). AreOpenedTo (files_after events) (take (at + 1) plan)
          (Some h.size) h.commit c.push.new.self.items) (sym same)
          (subst (λ (cs : List Cursor). AreOpenedTo (files_after events) (take (at + 1) plan)
          (Some cursor.reader.header.size) cursor.reader.header.commit cs) (sym now)
          (opened_next (files_after events) plan at c.loop-name.size c.loop-name.pages c.loop-name.cursors.items
          cursor c.name-item.result c.loop-name-test.true c.name-item.is (before.opened events told)
          found.0 found.1 found.2 sized));
      costs = λ events told.
          let files = files_after events in
          let so_far = before.costs events told in
          let found = subst (λ (f : Found). FoundCosts files c.name-item.result f (g.S.Disk.given c.loop-name.store)
          (g.S.Disk.given c.open_file.new.store)) c.in-Taken.is (c.in_ok-cursor.ensures.costs events
          (before.unchanged ∙ told)) in
          let get : slice_get plan at ≡ Some c.name-item.result = slice_get_read plan _ at c.name-item.result refl
          c.loop-name-test.true c.name-item.is in
          let one : suc at ≡ at + 1 = omega arith in
          let x = g.S.Disk.given c.args.store.now in
          let z = g.S.Disk.given c.open_file.new.store in
          let more = opened_more files plan at c.loop-name.cursors.items c.name-item.result cursor x
          (g.S.Disk.given c.loop-name.store) z get so_far.1 found.1 in (
            subst (λ (cs : List Cursor). AreCounted files cs) (sym now)
                (counted-push files c.loop-name.cursors.items cursor so_far.0 found.0),
            subst (λ (cs : List Cursor). Takes (plan_cost files plan) (both (left_of_all files cs)
                (plan_cost files (drop (at + 1) plan))) 0 0 x z) (sym now)
                (subst (λ (n : ℕ). Takes (plan_cost files plan) (both (left_of_all files (c.loop-name.cursors.items
                ++ cursor ∷ [])) (plan_cost files (drop n plan))) 0 0 x z) one more),
          );
      within = omega (arith, c.loop-name-test.true);
      gave = gives_then _ _ _ _ _ _ before.gave c.open_file.ensures.gave (omega arith);
      names =
          ap names_of now
          ∙ names_next plan at c.loop-name.cursors.items cursor c.name-item.result c.loop-name-test.true
          c.name-item.is before.names
          (subst (IsNamed c.name-item.result) c.in-Taken.is c.in_ok-cursor.ensures.named);
      sized =
          subst (λ (h : LtxHeader). FitsSize (Some h.size) c.push.new.self.items) (sym same)
          (subst (λ (cs : List Cursor). FitsSize (Some cursor.reader.header.size) cs) (sym now)
          (fits_next c.loop-name.size c.loop-name.cursors.items cursor before.sized sized));
      count = ap length now ∙ length_push c.loop-name.cursors.items cursor ∙ ap (λ (n : ℕ). n + 1) before.count;
      unchanged = c.in_ok-cursor.ensures.unchanged ∙ before.unchanged;
      same_folder = c.in_ok-cursor.ensures.same_folder ∙ before.same_folder;
      later = omega (arith, c.in_ok-cursor.ensures.cause.later, before.later);
    }

pub returns-in-Left-clause-opened : goal.returns-in-Left-clause-opened
returns-in-Left-clause-opened g c = λ events told.
    let before = c.loop-name.invariant in
    let so_far = before.opened events told in
    let found = subst (λ (f : Found). IsFound (files_after events) c.name-item.result c.loop-name.size
    c.loop-name.pages f) c.in-Left.is (c.in_ok-cursor.ensures.found events (before.unchanged ∙ told)) in
    opened_odd (files_after events) c.args.plan.now c.loop-name.name-index c.loop-name.size c.loop-name.pages _
    c.in-Left.odd c.name-item.result c.loop-name-test.true c.name-item.is so_far refl
    found.0 (λ none. found.1 (so_far.none none)) found.2

pub returns-in-Left-clause-one_size : goal.returns-in-Left-clause-one_size
returns-in-Left-clause-one_size g c = one_size c.loop-name.size c.loop-name.cursors.items c.loop-name.invariant.sized

pub returns-clause-opened : goal.returns-clause-opened
returns-clause-opened g c = λ events told.
    opened_all (files_after events) c.args.plan.now c.loop-name.name-index c.loop-name.size c.loop-name.pages _
    c.loop-name-test.false (c.loop-name.invariant.opened events told) refl

pub returns-clause-one_size : goal.returns-clause-one_size
returns-clause-one_size g c = one_size c.loop-name.size c.loop-name.cursors.items c.loop-name.invariant.sized

pub returns-clause-names : goal.returns-clause-names
returns-clause-names g c = λ none.
    names_all c.args.plan.now _ c.loop-name.name-index c.loop-name-test.false c.loop-name.invariant.names

pub returns-in-Left-clause-costs : goal.returns-in-Left-clause-costs
returns-in-Left-clause-costs g c = λ events told.
    let files = files_after events in
    let plan = c.args.plan.now in
    let at = c.loop-name.name-index in
    let before = c.loop-name.invariant in
    let so_far = before.costs events told in
    let x = g.S.Disk.given c.args.store.now in
    let y = g.S.Disk.given c.loop-name.store in
    let z = g.S.Disk.given c.open_file.new.store in
    let found = subst (λ (f : Found). FoundCosts files c.name-item.result f y z) c.in-Left.is
    (c.in_ok-cursor.ensures.costs events (before.unchanged ∙ told)) in
    let get : slice_get plan at ≡ Some c.name-item.result = slice_get_read plan _ at c.name-item.result refl
    c.loop-name-test.true c.name-item.is in
    record {
      counted = so_far.0;
      odd = found.0;
      takes = opened_odd_cost files plan at c.loop-name.cursors.items c.name-item.result _ x y z get so_far.1 found.1;
    }

pub returns-in-Left-clause-gave : goal.returns-in-Left-clause-gave
returns-in-Left-clause-gave g c =
    gives_then _ _ _ _ _ _ c.loop-name.invariant.gave c.open_file.ensures.gave (omega (arith, c.loop-name-test.true))

pub returns-in_err-cursor-clause-spends : goal.returns-in_err-cursor-clause-spends
returns-in_err-cursor-clause-spends g c = err_each c.from_residual-in_err-cursor.result _ (λ events told.
    let files = files_after events in
    let plan = c.args.plan.now in
    let at = c.loop-name.name-index in
    let before = c.loop-name.invariant in
    let so_far = before.costs events told in
    let x = g.S.Disk.given c.args.store.now in
    let y = g.S.Disk.given c.loop-name.store in
    let z = g.S.Disk.given c.open_file.new.store in
    let get : slice_get plan at ≡ Some c.name-item.result = slice_get_read plan _ at c.name-item.result refl
    c.loop-name-test.true c.name-item.is in
    takes_all _ _ 0 0 x z (opened_odd_cost files plan at c.loop-name.cursors.items c.name-item.result nothing x y z get
    so_far.1 (c.in_err-cursor.ensures.spends events (before.unchanged ∙ told))))

pub returns-in_err-cursor-clause-gave : goal.returns-in_err-cursor-clause-gave
returns-in_err-cursor-clause-gave g c =
    gives_then _ _ _ _ _ _ c.loop-name.invariant.gave c.open_file.ensures.gave (omega (arith, c.loop-name-test.true))

pub returns-in_err-push-clause-spends : goal.returns-in_err-push-clause-spends
returns-in_err-push-clause-spends g c = err_each c.from_residual-in_err-push.result _ (λ events told.
    let plan = c.args.plan.now in
    let at = c.loop-name.name-index in
    let before = c.loop-name.invariant in
    let cursor = c.in-Taken.cursor in
    let files = files_after events in
    let so_far = before.costs events told in
    let found = subst (λ (f : Found). FoundCosts files c.name-item.result f (g.S.Disk.given c.loop-name.store)
    (g.S.Disk.given c.open_file.new.store)) c.in-Taken.is (c.in_ok-cursor.ensures.costs events
    (before.unchanged ∙ told)) in
    let get : slice_get plan at ≡ Some c.name-item.result = slice_get_read plan _ at c.name-item.result refl
    c.loop-name-test.true c.name-item.is in
    let one : suc at ≡ at + 1 = omega arith in
    let x = g.S.Disk.given c.args.store.now in
    let z = g.S.Disk.given c.open_file.new.store in
    let more = opened_more files plan at c.loop-name.cursors.items c.name-item.result cursor x
    (g.S.Disk.given c.loop-name.store) z get so_far.1 found.1 in
    takes_all _ _ 0 0 x z more)

pub returns-in_err-push-clause-gave : goal.returns-in_err-push-clause-gave
returns-in_err-push-clause-gave g c =
    gives_then _ _ _ _ _ _ c.loop-name.invariant.gave c.open_file.ensures.gave (omega (arith, c.loop-name-test.true))

pub returns-clause-costs : goal.returns-clause-costs
returns-clause-costs g c = λ events told.
    let so_far = c.loop-name.invariant.costs events told in
    record {
      counted = so_far.0;
      odd = tt;
      takes = takes_by _ _ _ _ 0 0 0 0 _ _ so_far.1 (omega arith) (omega arith);
    }

pub returns-clause-gave : goal.returns-clause-gave
returns-clause-gave g c = gives_within _ _ _ _ c.loop-name.invariant.gave (omega (arith, c.loop-name.invariant.within))
