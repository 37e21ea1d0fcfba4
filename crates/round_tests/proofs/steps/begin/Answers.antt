use Rattle.round_tests.proofs.ReadyLemmas.{entered}
use Rattle.round_tests.proofs.steps.begin.Goals as goal

pub returns : goal.returns
returns g c =
    entered (g.L.Live.told c.attach.new.self) (g.L.Live.told c.enter.new.self) c.in_ok-enter.field-0
    c.in_ok-attach.ensures.legal c.in_ok-enter.ensures.told
