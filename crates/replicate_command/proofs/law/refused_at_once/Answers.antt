use Rattle.std.proofs.Common.{refl, inr, arith}
use Rattle.ls_answers.specs.declared.outcome.Why.TheVariants.{Memory}
use Rattle.replicate_command.specs.Seen.{seen_of}
use Rattle.replicate_command.proofs.EndLemmas.{refused_first}
use Rattle.replicate_command.proofs.LaterLemmas.{later_itself, live_itself}
use Rattle.replicate_command.proofs.law.refused_at_once.Goals as goal

pub returns : goal.returns
returns g c = λ asked live store out.
    let seen = seen_of g.L.Live g.S.Disk g.O.Out asked live live store store out out in
    refused_first seen Memory refl tt (live_itself seen.live _ (λ r. later_itself r.database)) refl refl
    (record { live = omega arith; store = omega arith; sink = omega arith }) (λ r told none calm. inr refl)
    (λ live_fault memory. absurd (memory refl)) (λ done. absurd cc)
    (record { damaged = λ n d e. cc; lacking = λ n p e. cc })
