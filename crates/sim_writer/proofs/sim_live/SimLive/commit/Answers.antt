use Rattle.std.proofs.Common.{rules, refl}
use Rattle.live_gate.proofs.MoveLemmas.{commit_step}
use Rattle.sim_writer.proofs.sim_live.SimLive.commit.Goals as goal

pub returns : goal.returns
returns c =
    let adds = c.in_ok-commit.ensures.ok.adds in
    rw (← c.self.view_is) (
      c.is_commit.ensures.0 (search rules),
      (c.in_ok-commit.ensures.ok, refl),
      commit_step _ _ adds,
      adds.twins,
    )
