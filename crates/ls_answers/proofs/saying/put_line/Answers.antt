use Rattle.std.proofs.Common.{◌≡◌, Some, sym, ap, ◌∙◌, rules}
use Rattle.std.specs.Prelude.{option_map}
use Rattle.crash_disk.specs.Output.{gains_text}
use Rattle.ls_answers.specs.Refusal.{line_of, refusal_text, reason_text, said_text}
use Rattle.ls_answers.proofs.SayingLemmas.{reason_is, is_told}
use Rattle.ls_answers.proofs.saying.put_line.Goals as goal

pub returns : goal.returns
returns g c =
    let words = c.args.words.now in
    let why = c.args.why.now in
    let reason = c.in-Some.reason.items in
    let is : Some reason ≡ reason_text why =
    sym (ap (option_map (λ text. text.items)) c.in-Some.is) ∙ c.reason_of.ensures in
    let told = reason_is words why reason is in
    let line : c.as_slice.result.now ≡ said_text words why =
    c.as_slice.ensures.value ∙ c.line_of.ensures ∙ sym (ap line_of told) in
    record {
      ok = c.in_ok-put.ensures.ok ∙ ap (gains_text (g.O.Out.text c.args.err.now)) line;
      err = tt;
      cause = search rules;
      silent = λ none. absurd (is_told (refusal_text words why) reason told none);
    }
