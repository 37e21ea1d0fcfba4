use Rattle.std.proofs.Common.{◌≡◌, ℕ, List, ◌++◌, length, ◌≤◌, sym, ap, subst, ◌∙◌, append_assoc, arith}
use Rattle.std.specs.List.{slice_get}
use Rattle.std.specs.Int.{w32, to_be_bytes}
use Rattle.std.specs.FinMap.{entries, keys}
use Rattle.std.proofs.lemmas.List.{length-map, take_all}
use Rattle.std.specs.Result.{OnOk}
use Rattle.ltx_format.specs.LtxFormat.{index_bytes}
use Rattle.ltx_format.proofs.IndexLaws.{number_fields}
use Rattle.ltx_format.proofs.EntryLoop.{some_number, put_number}
use Rattle.ltx_format.proofs.writing.put_index.Goals.{in-Some+in_ok-extend, in_default}
use Rattle.ltx_format.proofs.writing.put_index.Goals as goal

pub loop-at-preserved : goal.loop-at-preserved
loop-at-preserved c =
    let numbers = keys c.args.pages.now in
    let at = c.loop-at.at in
    let looked = c.number_at.ensures ∙ ap (λ (k : ℕ). slice_get numbers k) c.from.ensures in
    elim c.match-number_at.branch [
      | in-Some+in_ok-extend w ↦
          w.out-is ∙ w.in_ok-extend.ensures.ok ∙ ap (λ (x : List ℕ). c.loop-at.out ++ x) w.to_be_bytes.ensures
          ∙ put_number numbers c.args.out.now c.loop-at.out at w.in-Some.number
          (sym looked ∙ w.in-Some.is) c.loop-at.invariant
      | in_default w ↦
          let count_is : c.args.count ≡ length numbers = c.requires
          ∙ sym (length-map (entries c.args.pages.now) (λ e. e.0)) in
          absurd (some_number numbers at (omega (arith, count_is, c.loop-at-test.true)) (sym looked ∙ w.in_default.is))
    ]

pub returns : goal.returns
returns c =
    let numbers = keys c.args.pages.now in
    let count_is : c.args.count ≡ length numbers = c.requires
    ∙ sym (length-map (entries c.args.pages.now) (λ e. e.0)) in
    let done : length numbers ≤ c.loop-at.at = omega (arith, count_is, c.loop-at-test.false) in
    let all : c.loop-at.out ≡ c.args.out.now ++ number_fields numbers = c.loop-at.invariant
    ∙ ap (λ (x : List ℕ). c.args.out.now ++ number_fields x) (take_all c.loop-at.at numbers done) in
    let counted : c.to_be_bytes-2.result ≡ to_be_bytes w32 (length numbers) = c.to_be_bytes-2.ensures
    ∙ ap (to_be_bytes w32) count_is in
    let put : c.loop-at.out ++ c.to_be_bytes-2.result ≡ c.args.out.now ++ index_bytes numbers =
    ap (λ (x : List ℕ). x ++ c.to_be_bytes-2.result) all ∙ append_assoc c.args.out.now
    (number_fields numbers) c.to_be_bytes-2.result
    ∙ ap (λ (x : List ℕ). c.args.out.now ++ (number_fields numbers ++ x)) counted in
    subst (λ (x : List ℕ). OnOk c.extend-2.result (c.extend-2.new.self ≡ x)) put c.extend-2.ensures.ok
