use Rattle.std.proofs.Common.{◌≡◌, ◌++◌, take, length, refl, sym, subst, List, ℕ, arith}
use Rattle.std.proofs.lemmas.List.{take_all}
use Rattle.wal_follow.specs.declared.gathering.Gathering.{Gathering}
use Rattle.wal_follow.specs.Gathering.{HasGathered}
use Rattle.wal_follow.proofs.GatherLemmas.{gathered_piece, gathered_frame}
use Rattle.wal_follow.proofs.gathering.Gathering.take_frame.Goals as goal

pub returns-in-All-clause-gathers : goal.returns-in-All-clause-gathers
returns-in-All-clause-gathers c = λ base initial log was.
    let piece = c.args.piece.now in
    let whole : take (length piece) piece ≡ piece = take_all (length piece) piece (omega arith) in
    let next : Gathering = record c.args.self.now { scan = c.feed.new.self } in
    let taken = c.in-All.ensures.value.1 log was.taken in
    subst (λ (bytes : List ℕ). HasGathered base initial next (log ++ bytes)) (sym whole)
    (gathered_piece base initial c.args.self.now log was next
    (log ++ piece) taken.0 c.in-All.ensures.head taken.1 refl refl refl refl)

pub returns-in_ok-add-in-Frame-clause-gathers : goal.returns-in_ok-add-in-Frame-clause-gathers
returns-in_ok-add-in-Frame-clause-gathers c = λ base initial log was.
    let frame = c.in-Frame.ensures.value.3 log was.taken in
    let mid : Gathering = record c.args.self.now { scan = c.feed.new.self } in
    gathered_frame base initial c.args.self.now mid c.add.new.self log
    (log ++ take c.in-Frame.taken c.args.piece.now) c.in-Frame.number c.in-Frame.commit c.in-Frame.end was refl
    c.in_ok-add-in-Frame.ensures.adds c.add.ensures.scan c.add.ensures.place frame.0 c.in-Frame.ensures.head frame.1
    c.in-Frame.ensures.end
    (omega (
      arith,
      frame.0.is_taken,
      frame.1.is_end,
      c.in-Frame.ensures.value.2,
      c.in-Frame.ensures.value.1,
      c.requires.short,
    ))
