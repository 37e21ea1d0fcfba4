use Rattle.std.proofs.Common.{subst}
use Rattle.std.proofs.lemmas.Option.{same_Some}
use Rattle.live_gate.specs.Legal.{IsLegal}
use Rattle.live_gate.specs.LiveRecord.{LiveRecord}
use Rattle.live_gate.specs.contracts.still_live.StillLive.{the_view}
use Rattle.live_gate.proofs.Theorems.{still_is_legal}
use Rattle.live_gate.proofs.StillLemmas.{goes_on, on_err, starves_any, attaches}
use Rattle.live_gate.proofs.still_live.StillLiveLive.attach.Goals as goal

pub returns-in_err-extend-clause-content : goal.returns-in_err-extend-clause-content
returns-in_err-extend-clause-content c = goes_on _ _ _
    (starves_any c.args.self.now c.from_residual.result c.from_residual.ensures.0)

pub returns-in_err-extend-clause-told : goal.returns-in_err-extend-clause-told
returns-in_err-extend-clause-told c = on_err c.from_residual.result _
    (goes_on _ _ _ (starves_any c.args.self.now c.from_residual.result c.from_residual.ensures.0))

pub returns-clause-content : goal.returns-clause-content
returns-clause-content c = rw (← c.self.view_is) (goes_on _ _ _ (attaches (the_view c.self.inside)))

pub returns-clause-legal : goal.returns-clause-legal
returns-clause-legal c r is =
    subst (λ (told : LiveRecord). IsLegal told.database) (same_Some _ _ is) (still_is_legal _ _)
