use Rattle.std.proofs.Common.{◌≡◌, ℕ, length, sym, ap, subst, ◌∙◌, arith}
use Rattle.std.specs.List.{slice_get}
use Rattle.std.specs.FinMap.{entries, keys}
use Rattle.std.proofs.lemmas.List.{length-map}
use Rattle.std.proofs.lemmas.Result.{err_from_is_err_and}
use Rattle.ltx_format.specs.Reading.{Reads}
use Rattle.ltx_format.proofs.EntryLoop.{number_read, no_number, some_number, numbers_failed, numbers_done}
use Rattle.ltx_format.proofs.entries.index_of.Goals.{in-Some+in_ok-rest, in_default}
use Rattle.ltx_format.proofs.entries.index_of.Goals as goal

pub returns-in_err-rest : goal.returns-in_err-rest
returns-in_err-rest c =
    let numbers = keys c.args.pages.now in
    let here = sym (c.number_at.ensures ∙ ap (λ (k : ℕ). slice_get numbers k) c.from.ensures) ∙ c.in-Some.is in
    let p = err_from_is_err_and c.from_residual.result c.from_residual.ensures.1 in
    let failed = no_number numbers c.loop-at.at c.in-Some.number c.loop-at.rest.now _ here c.loop-at.invariant _
    c.in_err-rest.ensures in
    rw (p.1, p.2) (numbers_failed numbers c.args.bytes.now _ failed)

pub loop-at-preserved : goal.loop-at-preserved
loop-at-preserved c =
    let numbers = keys c.args.pages.now in
    let at = c.loop-at.at in
    let looked = c.number_at.ensures ∙ ap (λ (k : ℕ). slice_get numbers k) c.from.ensures in
    elim c.match-number_at.branch [
      | in-Some+in_ok-rest w ↦
          rw w.rest-is (number_read numbers at w.in-Some.number c.loop-at.rest.now _
          (sym looked ∙ w.in-Some.is) c.loop-at.invariant w.in_ok-rest.rest.now w.in_ok-rest.ensures)
      | in_default w ↦
          let count_is : c.args.count ≡ length numbers = c.requires
          ∙ sym (length-map (entries c.args.pages.now) (λ e. e.0)) in
          absurd (some_number numbers at (omega (arith, count_is, c.loop-at-test.true)) (sym looked ∙ w.in_default.is))
    ]

pub returns : goal.returns
returns c =
    let numbers = keys c.args.pages.now in
    let count_is : c.args.count ≡ length numbers = c.requires
    ∙ sym (length-map (entries c.args.pages.now) (λ e. e.0)) in
    let done = numbers_done numbers c.args.bytes.now c.loop-at.rest.now c.loop-at.at c.args.count
    (omega (arith, count_is, c.loop-at-test.false)) count_is c.loop-at.invariant in
    subst (Reads (λ x. x.now) c.behind_u32.result) done c.behind_u32.ensures
