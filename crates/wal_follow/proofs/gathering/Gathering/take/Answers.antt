use Rattle.std.proofs.Common.{rules, ◌≡◌, ◌∙◌, ◌-◌, ◌++◌, length-drop, take, drop, length, sym, ap, subst, List, ℕ}
use Rattle.std.proofs.Common.{append_assoc, arith}
use Rattle.std.proofs.Math.Seq.{take-add}
use Rattle.std.proofs.lemmas.List.{take_all}
use Rattle.wal_follow.specs.Gathering.{HasGathered}
use Rattle.wal_follow.proofs.gathering.Gathering.take.Goals as goal

pub loop-done-preserved : goal.loop-done-preserved
loop-done-preserved c =
    let i = c.loop-done.invariant in
    let n = c.in_ok-done.field-0 in
    let piece = c.args.piece.now in
    let done = c.loop-done.done in
    let e = c.in_ok-done.ensures in
    let whole : take (length piece - done) (drop done piece) ≡ drop done piece = take_all (length piece - done)
    (drop done piece) (omega (arith, length-drop done piece)) in (
      search rules,
      omega (arith, e.taken.2, i.1),
      record {
        head = c.take_frame.ensures.keeps.head ∙ i.2.head;
        place = c.take_frame.ensures.keeps.place
            ∙ i.2.place;
        within = λ was. c.take_frame.ensures.keeps.within (i.2.within was);
      },
      λ base initial log was.
          subst (λ (bytes : List ℕ). HasGathered base initial c.take_frame.new.self bytes)
          (ap (λ (l : List ℕ). (log ++ take done piece) ++ take n l) whole
          ∙ append_assoc log (take done piece) (take n (drop done piece))
          ∙ ap (λ (l : List ℕ). log ++ l) (sym (take-add done n piece)))
          (e.gathers base initial (log ++ take done piece) (i.3 base initial log was)),
    )
