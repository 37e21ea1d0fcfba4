use Rattle.std.proofs.Common.{[], codes, ◌∙◌, rules, refl}
use Rattle.crash_disk.specs.Output.{GainsFront}
use Rattle.ls_answers.specs.declared.outcome.Why.TheVariants.{Usage}
use Rattle.ls_answers.specs.Refusal.{said_text, blamed_word}
use Rattle.ls_answers.proofs.SayingLemmas.{usage_pieces, none_put, more_put, front_put, all_put}
use Rattle.ls_answers.proofs.saying.put_usage.Goals as goal

pub returns-in_err-put-clause-err : goal.returns-in_err-put-clause-err
returns-in_err-put-clause-err g c =
    let words = c.args.words.now in
    let usage = c.args.usage in
    let said = said_text words (Usage usage) in
    let old = g.O.Out.text c.args.err.now in
    let head = c.as_slice.result.now in
    let word = blamed_word words usage.word in
    let split = usage_pieces words usage head word (c.as_slice.ensures.value ∙ c.usage_head.ensures) refl in
    let front : GainsFront old (g.O.Out.text c.put.new.self) said =
    front_put old old _ said head _ (none_put old said _ split) c.in_err-put.ensures.err in
    search rules

pub returns-in_err-put-2-clause-err : goal.returns-in_err-put-2-clause-err
returns-in_err-put-2-clause-err g c =
    let words = c.args.words.now in
    let usage = c.args.usage in
    let said = said_text words (Usage usage) in
    let old = g.O.Out.text c.args.err.now in
    let head = c.as_slice.result.now in
    let word = c.as_bytes.result.now in
    let split = usage_pieces words usage head word (c.as_slice.ensures.value ∙ c.usage_head.ensures)
    (c.as_bytes.ensures.value ∙ c.blamed_word.ensures) in
    let first = more_put old old _ said head _ (none_put old said _ split) c.in_ok-put.ensures.ok in
    let front : GainsFront old (g.O.Out.text c.put-2.new.self) said =
    front_put old _ _ said word (codes "\n") first c.in_err-put-2.ensures.err in
    search rules

pub returns-in_err-put-3-clause-err : goal.returns-in_err-put-3-clause-err
returns-in_err-put-3-clause-err g c =
    let words = c.args.words.now in
    let usage = c.args.usage in
    let said = said_text words (Usage usage) in
    let old = g.O.Out.text c.args.err.now in
    let head = c.as_slice.result.now in
    let word = c.as_bytes.result.now in
    let split = usage_pieces words usage head word (c.as_slice.ensures.value ∙ c.usage_head.ensures)
    (c.as_bytes.ensures.value ∙ c.blamed_word.ensures) in
    let first = more_put old old _ said head _ (none_put old said _ split) c.in_ok-put.ensures.ok in
    let second = more_put old _ _ said word (codes "\n") first c.in_ok-put-2.ensures.ok in
    let front : GainsFront old (g.O.Out.text c.put-3.new.self) said =
    front_put old _ _ said (codes "\n") [] second c.in_err-put-3.ensures.err in
    search rules

pub returns-clause-ok : goal.returns-clause-ok
returns-clause-ok g c =
    let words = c.args.words.now in
    let usage = c.args.usage in
    let said = said_text words (Usage usage) in
    let old = g.O.Out.text c.args.err.now in
    let head = c.as_slice.result.now in
    let word = c.as_bytes.result.now in
    let split = usage_pieces words usage head word (c.as_slice.ensures.value ∙ c.usage_head.ensures)
    (c.as_bytes.ensures.value ∙ c.blamed_word.ensures) in
    let first = more_put old old _ said head _ (none_put old said _ split) c.in_ok-put.ensures.ok in
    let second = more_put old _ _ said word (codes "\n") first c.in_ok-put-2.ensures.ok in
    all_put old _ said (more_put old _ _ said (codes "\n") [] second c.in_ok-put-3.ensures.ok)
