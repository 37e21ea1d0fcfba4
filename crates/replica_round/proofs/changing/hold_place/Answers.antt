use Rattle.std.proofs.Common.{Ok, ◌∙◌, sym, subst}
use Rattle.live_gate.specs.LiveRecord.{GoesOn}
use Rattle.wal_follow.proofs.GoesOnLemmas.{goes_map}
use Rattle.replica_round.proofs.HoldLemmas.{holds_there, holds_nowhere, may_advance_to}
use Rattle.replica_round.specs.Steps.{HoldsAt}
use Rattle.replica_round.proofs.changing.hold_place.Goals as goal

pub advance-requires : goal.advance-requires
advance-requires g c = record {
  mark = λ r told.
      may_advance_to c.args.follower.now c.in-Some.end r.database (sym c.log_end.ensures ∙ c.in-Some.is)
      (λ stays. c.requires.mark stays r told);
}

pub returns-in-Some-clause-told : goal.returns-in-Some-clause-told
returns-in-Some-clause-told g c =
    subst (λ end. GoesOn (g.L.Live.told c.args.live.now) (g.L.Live.told c.advance.new.self)
    (HoldsAt end c.advance.result)) (sym (sym c.log_end.ensures ∙ c.in-Some.is))
    (goes_map _ _ _ _ c.advance.ensures.told (λ r after moved.
    holds_there c.in-Some.end c.advance.result r after moved))

pub returns-in-None-clause-told : goal.returns-in-None-clause-told
returns-in-None-clause-told g c =
    subst (λ end. GoesOn (g.L.Live.told c.args.live.now) (g.L.Live.told c.args.live.now) (HoldsAt end (Ok tt)))
    (sym (sym c.log_end.ensures ∙ c.in-None.is))
    (record { told = λ r is. (r, is, holds_nowhere r); silent = λ is. is })
