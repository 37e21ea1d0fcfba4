use Rattle.std.proofs.Common.{◌≡◌}
use Rattle.live_gate.specs.LiveRecord.{IfTold}
use Rattle.live_gate.specs.LiveCalls.{Keeps}
use Rattle.live_gate.specs.Legal.{IsLegal}
use Rattle.wal_follow.specs.Following.{Fits}
use Rattle.ls_answers.specs.declared.outcome.Why.TheVariants.{Done}
use Rattle.replicate_command.specs.Asked.{asked_by}
use Rattle.replicate_command.specs.Stage.{RunsOn, stage_of, IsAt}
use Rattle.replicate_command.proofs.rounds.rounds.Given as goal

abbrev pub invariant-loop-before : goal.invariant-loop-before
invariant-loop-before g l = record {
  runs : RunsOn 1 l.before (IsAt l.initial.follower.place) (IsAt l.follower.place) (stage_of g.L.Live g.S.Disk g.O.Out
      (asked_by l.request l.now) l.initial.live l.live l.initial.store l.store l.initial.out l.out) Done;
  legal : IfTold (g.L.Live.told l.live) (λ r. IsLegal r.database);
  fits : IfTold (g.L.Live.told l.live) (λ r. Fits l.follower r.database);
  keeps : Keeps (g.L.Live.attached l.initial.live) (g.L.Live.attached l.live) (g.L.Live.is_there l.initial.live)
      (g.L.Live.is_there l.live);
  same_folder : g.S.Disk.folder l.store ≡ g.S.Disk.folder l.initial.store;
}
