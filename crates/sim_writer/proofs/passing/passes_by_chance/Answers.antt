use Rattle.std.proofs.Common.{◌≡◌, ℕ, ◌++◌, ◌≤◌, List, length, take, sym, ap, subst, ◌∙◌, append_assoc}
use Rattle.std.proofs.Common.{arith}
use Rattle.live_gate.specs.LiveRecord.{IsPrefix}
use Rattle.sim_writer.specs.Passing.{IsCommittedToMark}
use Rattle.sim_writer.proofs.PassingLemmas.{if_ok_map, read_prefix}
use Rattle.sim_writer.proofs.passing.passes_by_chance.Goals as goal

pub returns-then-begins_with_both-clause-none : goal.returns-then-begins_with_both-clause-none
returns-then-begins_with_both-clause-none c _ within =
    let both = c.args.answered.now ++ c.args.got.now in
    let front = c.begins_with_both.ensures c.if-begins_with_both.true in
    read_prefix c.args.committed.now c.args.aimed both (subst (λ (b : List ℕ). IsPrefix both b)
    c.split_at.ensures.back front)

pub returns-clause-some : goal.returns-clause-some
returns-clause-some c =
    let committed = c.args.committed.now in
    let front = take c.args.aimed committed in
    let both = c.args.answered.now ++ c.args.got.now in
    let first = c.in_ok-extend.ensures.ok ∙ ap (λ (b : List ℕ). b ++ c.split_at.result.0.now) c.new-read.ensures
    ∙ c.split_at.ensures.front in
    let second = c.in_ok-extend-2.ensures.ok ∙ ap (λ (b : List ℕ). b ++ c.args.answered.now) first in
    let third = c.in_ok-extend-3.ensures.ok ∙ ap (λ (b : List ℕ). b ++ c.args.got.now) second in
    let whole : c.as_slice.result.now ≡ front ++ both = c.as_slice.ensures ∙ third
    ∙ append_assoc front c.args.answered.now c.args.got.now in
    let within : c.args.aimed ≤ length committed = omega (arith, c.if-aimed-committed.false) in
    if_ok_map c.differs_to_mark.result _ _
    (λ d holds is read. holds is (subst (λ (b : List ℕ). IsCommittedToMark committed b) (sym whole) (read within)))
    c.differs_to_mark.ensures.some

pub returns-clause-none : goal.returns-clause-none
returns-clause-none c =
    let committed = c.args.committed.now in
    let front = take c.args.aimed committed in
    let both = c.args.answered.now ++ c.args.got.now in
    let first = c.in_ok-extend.ensures.ok ∙ ap (λ (b : List ℕ). b ++ c.split_at.result.0.now) c.new-read.ensures
    ∙ c.split_at.ensures.front in
    let second = c.in_ok-extend-2.ensures.ok ∙ ap (λ (b : List ℕ). b ++ c.args.answered.now) first in
    let third = c.in_ok-extend-3.ensures.ok ∙ ap (λ (b : List ℕ). b ++ c.args.got.now) second in
    let whole : c.as_slice.result.now ≡ front ++ both = c.as_slice.ensures ∙ third
    ∙ append_assoc front c.args.answered.now c.args.got.now in
    if_ok_map c.differs_to_mark.result _ _
    (λ d holds is within. subst (λ (b : List ℕ). IsCommittedToMark committed b) whole (holds is))
    c.differs_to_mark.ensures.none
