use Rattle.std.proofs.Common.{Result, refl, sym, ap, subst, ◌∙◌, arith}
use Rattle.crash_disk.specs.Output.{gains_text, GainsFront}
use Rattle.live_gate.specs.LiveRecord.{is_at_rest}
use Rattle.replica_round.proofs.ResultLemmas.{err_of}
use Rattle.replicate_command.specs.Asked.{asked_by}
use Rattle.replicate_command.specs.Stage.{RunsOn, stage_of, IsAt}
use Rattle.replicate_command.specs.Stop.{why_of}
use Rattle.replicate_command.specs.declared.stop.ReplicateStop.{ReplicateStop}
use Rattle.replicate_command.proofs.RefusedLemmas.{round_refused}
use Rattle.replicate_command.proofs.RoundLemmas.{round_done, round_unprinted}
use Rattle.replicate_command.proofs.rounds.one_round.Goals as goal

pub returns-in_err-done-clause-runs : goal.returns-in_err-done-clause-runs
returns-in_err-done-clause-runs g c =
    let seen = stage_of g.L.Live g.S.Disk g.O.Out (asked_by c.args.request.now c.args.now) c.args.live.now
    c.round.new.live c.args.store.now c.round.new.store c.args.out.now c.args.out.now in
    let ended = c.in_err-done.ensures in
    subst (λ (result : Result (Unit {0}) ReplicateStop). RunsOn c.args.number 1 (IsAt c.args.follower.now.place)
    (IsAt c.round.new.follower.place) seen (why_of result)) (sym (err_of _ _ c.from_residual.ensures.1))
    (round_refused seen (is_at_rest (g.L.Live.attached c.args.live.now)) c.args.follower.now c.round.new.follower
    c.in_err-done.field-0.0 c.args.number
    (IsAt c.round.new.follower.place) c.requires.legal ended.live ended.store ended.faith ended.causes refl
    (omega arith))

pub returns-in_err-put-clause-runs : goal.returns-in_err-put-clause-runs
returns-in_err-put-clause-runs g c =
    let seen = stage_of g.L.Live g.S.Disk g.O.Out (asked_by c.args.request.now c.args.now) c.args.live.now
    c.round.new.live c.args.store.now c.round.new.store c.args.out.now c.put.new.self in
    let ended = c.in_ok-done.ensures in
    let line = c.as_slice.ensures.value ∙ c.round_line.ensures in
    subst (λ (result : Result (Unit {0}) ReplicateStop). RunsOn c.args.number 1 (IsAt c.args.follower.now.place)
    (IsAt c.round.new.follower.place) seen (why_of result)) (sym (err_of _ _ c.from_residual-in_err-put.ensures.1))
    (round_unprinted seen (is_at_rest (g.L.Live.attached c.args.live.now)) c.args.follower.now c.round.new.follower
    c.in_ok-done.done c.args.number
    (IsAt c.round.new.follower.place) c.requires.legal ended.live ended.store ended.faith
    (record {
      live = ended.causes.live_later;
      store = ended.causes.store_later;
      sink = c.put.ensures.cause.later;
    })
    (subst (GainsFront seen.text seen.text_after) line c.in_err-put.ensures.err) (c.in_err-put.ensures.cause.rose refl))

pub returns-clause-runs : goal.returns-clause-runs
returns-clause-runs g c =
    let seen = stage_of g.L.Live g.S.Disk g.O.Out (asked_by c.args.request.now c.args.now) c.args.live.now
    c.round.new.live c.args.store.now c.round.new.store c.args.out.now c.put.new.self in
    let ended = c.in_ok-done.ensures in
    let line = c.as_slice.ensures.value ∙ c.round_line.ensures in
    round_done seen (is_at_rest (g.L.Live.attached c.args.live.now)) c.args.follower.now c.round.new.follower
    c.in_ok-done.done c.args.number c.requires.legal ended.live ended.store ended.faith
    (record {
      live = ended.causes.live_later;
      store = ended.causes.store_later;
      sink = c.put.ensures.cause.later;
    })
    (c.in_ok-put.ensures.ok ∙ ap (gains_text seen.text) line) (ap is_at_rest (sym ended.keeps.attached))
