-- Steps of the writer, one after another.
use Rattle.std.proofs.Common.{ℕ, List, [], ◌++◌, refl, sym, ap, ◌∙◌, inl, inr, arith}
use Rattle.std.specs.Prelude.{◌⊎◌}
use Rattle.std.proofs.lemmas.List.{append-nil, append_assoc}
use Rattle.live_gate.specs.LiveRecord.{Database, Told, IsPrefix}
use Rattle.live_gate.specs.Step.{KeepsHold, HasStopped, IsWriterStep, Moves}

-- ---- lists that begin with another

pub prefix_itself : {A : Type 0} (xs : List A) → IsPrefix xs xs
prefix_itself xs = record { rest = []; is = sym (append-nil xs) }

pub prefix_join : {A : Type 0} (xs ys zs : List A) → IsPrefix xs ys → IsPrefix ys zs → IsPrefix xs zs
prefix_join xs ys zs a b = record {
  rest = a.rest ++ b.rest;
  is = b.is ∙ ap (λ list. list ++ b.rest) a.is
      ∙ append_assoc xs a.rest b.rest;
}

-- ---- steps

pub step_itself : (d : Database) → IsWriterStep d d
step_itself d = record {
  legal = λ is. is;
  history = prefix_itself d.history;
  chances = omega arith;
  hold = λ end held. inl (record {
    held = held;
    committed = prefix_itself d.committed;
    entries = refl;
    file = λ none.
        refl;
  });
  free = λ is. is;
  stopped = λ is. is;
}

hold_join : (end : ℕ) (a b c : Database) → IsWriterStep b c → KeepsHold end a b → KeepsHold end b c ⊎ HasStopped c
    → KeepsHold end a c ⊎ HasStopped c
hold_join end a b c second first (inl next) = inl (record {
  held = next.held;
  committed = prefix_join a.committed b.committed c.committed first.committed next.committed;
  entries = omega (arith, first.entries, next.entries);
  file = λ none. next.file none ∙ first.file none;
})
hold_join end a b c second first (inr over) = inr over

hold_over : (end : ℕ) (a b c : Database) → IsWriterStep b c → KeepsHold end a b ⊎ HasStopped b
    → KeepsHold end a c ⊎ HasStopped c
hold_over end a b c second (inl first) = hold_join end a b c second first (second.hold end first.held)
hold_over end a b c second (inr over) = inr
    (record { stopped = second.stopped over.stopped; free = second.free over.free })

pub step_join : (a b c : Database) → IsWriterStep a b → IsWriterStep b c → IsWriterStep a c
step_join a b c first second = record {
  legal = λ is. second.legal (first.legal is);
  history = prefix_join a.history b.history c.history first.history second.history;
  chances = omega (arith, first.chances, second.chances);
  hold = λ end held. hold_over end a b c second (first.hold end held);
  free = λ is. second.free (first.free is);
  stopped = λ is. second.stopped (first.stopped is);
}

-- ---- what is told

pub moves_stay : (told : Told) → Moves told told
moves_stay told = record { told = λ r is. (r, is, step_itself r.database); silent = λ is. is }

pub moves_join : (a b c : Told) → Moves a b → Moves b c → Moves a c
moves_join a b c first second = record {
  told = λ r is.
      let mid = first.told r is in
      let after = second.told mid.0 mid.1 in
      (after.0, after.1, step_join r.database mid.0.database after.0.database mid.2 after.2);
  silent = λ is. second.silent (first.silent is);
}
