use Rattle.std.proofs.Common.{rules, ◌≡◌, ℕ, ◌++◌, List, length, take, drop}
use Rattle.std.proofs.Common.{ap, ◌∙◌}
use Rattle.std.specs.Prelude.{min}
use Rattle.live_gate.proofs.StillLemmas.{goes_on}
use Rattle.sim_writer.specs.contracts.sim_live.SimLive.{the_view}
use Rattle.sim_writer.proofs.LiveLemmas as calls
use Rattle.sim_writer.proofs.live.SimLiveLive.db_head.Goals as goal

pub returns-then-begin_fails-clause-told : goal.returns-then-begin_fails-clause-told
returns-then-begin_fails-clause-told c =
    rw (c.begin_fails.ensures.fails c.if-begin_fails.true).is (goes_on _ _ _ (calls.gives_head_not c.args.self.now _ _))

pub returns-clause-told : goal.returns-clause-told
returns-clause-told c =
    let goes = c.begin_fails.ensures.goes c.if-begin_fails.false in
    let same = c.self.view_is ∙ goes.is in
    let runs = calls.runs_now same goes in
    let room : length c.args.into.now ≡ 100 = search rules in
    let behind = drop (length c.as_slice.result.now) c.args.into.now in
    let count = c.copy_front-count.ensures.count ∙ ap (λ (n : ℕ). min (length c.as_slice.result.now) n) room
    ∙ ap (λ (b : List ℕ). min (length b) 100) c.as_slice.ensures in
    let front = c.copy_front-count.ensures.front ∙ ap (λ (n : ℕ). take n c.as_slice.result.now ++ behind) room
    ∙ ap (λ (b : List ℕ). take 100 b ++ behind) c.as_slice.ensures in
    rw (← same)
    (goes_on _ _ _ (calls.gives_head (the_view c.self.inside) c.copy_front-count.result c.copy_front-count.new.into
    behind
    runs count front))
