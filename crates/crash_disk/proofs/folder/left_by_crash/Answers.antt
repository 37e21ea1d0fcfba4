use Rattle.std.proofs.Common.{ap, sym, subst, ◌∙◌, option_copied, reverse, take, ◌∷◌}
use Rattle.crash_disk.specs.Crashed.{TakesLeft, AreLeft}
use Rattle.crash_disk.proofs.CrashedLemmas.{left_at_first, left_with, left_without, next_so_far}
use Rattle.crash_disk.proofs.folder.left_by_crash.Goals as goal
use Rattle.crash_disk.proofs.folder.left_by_crash.Goals.{in-Some+in_ok-take_left, in_default}

pub loop-event-init : goal.loop-event-init
loop-event-init c = left_at_first c.args.choice (reverse c.args.events.now) c.new-left.result c.new-left.ensures

pub loop-event-preserved : goal.loop-event-preserved
loop-event-preserved c =
    let next = next_so_far c.args.events.now c.loop-event.event-index c.event-item.result c.loop-event-test.true
    c.event-item.is in
    subst (λ so_far. AreLeft c.args.choice (reverse c.args.events.now) so_far c.match-name_given.left) (sym next)
    (elim c.match-name_given.branch [
      | in-Some+in_ok-take_left w ↦
          let takes : TakesLeft c.args.choice (reverse c.args.events.now) w.in-Some.name.now c.loop-event.left
          w.take_left.new.self =
          subst (λ name. TakesLeft c.args.choice (reverse c.args.events.now) name c.loop-event.left
          w.take_left.new.self) w.as_str.ensures w.in_ok-take_left.ensures in
          subst (AreLeft c.args.choice (reverse c.args.events.now)
          (c.event-item.result ∷ reverse (take c.loop-event.event-index c.args.events.now))) (sym w.left-is)
          (left_with c.args.choice (reverse c.args.events.now)
          (reverse (take c.loop-event.event-index c.args.events.now)) c.loop-event.left w.take_left.new.self
          c.event-item.result w.in-Some.name.now
          (sym c.name_given.ensures ∙ ap option_copied w.in-Some.is) takes c.loop-event.invariant)
      | in_default w ↦
          subst (AreLeft c.args.choice (reverse c.args.events.now)
          (c.event-item.result ∷ reverse (take c.loop-event.event-index c.args.events.now))) (sym w.left-is)
          (left_without c.args.choice (reverse c.args.events.now)
          (reverse (take c.loop-event.event-index c.args.events.now)) c.loop-event.left c.event-item.result
          (sym c.name_given.ensures ∙ ap option_copied w.in_default.is) c.loop-event.invariant)
    ])
