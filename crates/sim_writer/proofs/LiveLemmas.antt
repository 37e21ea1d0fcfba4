-- What each call of the scripted writer does to what it tells.
use Rattle.std.proofs.Common.{◌≡◌, ℕ, ◌-◌, ◌*◌, ◌≤◌, Bool, false, List, [], ◌++◌, length}
use Rattle.std.proofs.Common.{take, drop}
use Rattle.std.proofs.Common.{zero, suc, Option, Some, None, Ok, Err, Result, replicate, length-append, refl, sym, ap}
use Rattle.std.proofs.Common.{subst, ◌∙◌, inl, inr, arith}
use Rattle.std.specs.Prelude.{min, nat_eq}
use Rattle.std.specs.Cmp.Lexicographic.{pointwise}
use Rattle.std.proofs.lemmas.List.{length-take}
use Rattle.std.proofs.Math.Seq.{take-append_seam}
use Rattle.ls_base.specs.declared.place.Place.{Place}
use Rattle.live_gate.specs.LiveRecord.{Database, LiveRecord, Asked, GoesOn, is_at_rest}
use Rattle.live_gate.specs.Legal.{IsLegal, IsHeld, IsMarkEnd, MayBeHeld}
use Rattle.live_gate.specs.Step.{IsWriterStep, IsStepButHold}
use Rattle.live_gate.specs.Moves.{CopiesFrames}
use Rattle.live_gate.specs.Coincidence.{AddsNoTwins, CountsTwins}
use Rattle.live_gate.specs.declared.answer.Attached.{Attached}
use Rattle.live_gate.specs.declared.answer.Pass.{Pass}
use Rattle.live_gate.specs.declared.answer.Pass.TheVariants.{Passed, Kept}
use Rattle.live_gate.specs.declared.fault.LiveFault.{LiveFault}
use Rattle.live_gate.specs.declared.fault.PassFault.{PassFault}
use Rattle.live_gate.specs.LiveCalls.{Keeps, IsCall, Attaches, Enters, MayAdvance, Advances, Leaves, GivesHead}
use Rattle.live_gate.specs.LiveCalls.{GivesDbSize, GivesPage, GivesLogSize, Aims, IsKept, Passes}
use Rattle.live_gate.proofs.StepLemmas.{step_itself, prefix_itself}
use Rattle.std.proofs.lemmas.Option.{slice_get_within}
use Rattle.ls_base.specs.History.{History}
use Rattle.live_gate.proofs.StillLemmas.{goes_on}
use Rattle.sim_writer.specs.declared.machine.Machine.{Machine}
use Rattle.sim_writer.specs.Calls.{Goes, IsKeptNow, PassesNow}
use Rattle.sim_writer.specs.Commits.{counted}
use Rattle.sim_writer.specs.Loose.{PutsLoose}
use Rattle.sim_writer.specs.SimState.{SimState, record_of}
use Rattle.sim_writer.specs.Sound.{IsSound, database_of, tail_of, log_of}

-- what was told before, under another name
pub goes_from : (a b new : LiveRecord) (P : LiveRecord → LiveRecord → Type 0) → a ≡ b → P a new
    → GoesOn (Some b) (Some new) P
goes_from a b new P same holds = subst (λ (x : LiveRecord). GoesOn (Some x) (Some new) P) same (goes_on a new P holds)

pub no_twins : (h : History) → AddsNoTwins h h
no_twins h j k a b past at_j at_k same = absurd (omega (arith, past, slice_get_within h k b at_k))

-- ---- the hold changes alone

pub twins_kept : (d : Database) (held : Option ℕ) (stopped : Bool)
    → CountsTwins d (record d { held = held; stopped = stopped })
twins_kept d held stopped = record { rose = inr (no_twins d.history); calm = λ _. refl }

pub twins_same : (d : Database) → CountsTwins d d
twins_same d = twins_kept d d.held d.stopped

-- bytes behind the committed part change nothing of the database
pub loose_step : (bytes : List ℕ) (old new : Machine) → PutsLoose bytes old new
    → IsWriterStep (database_of old) (database_of new) × CountsTwins (database_of old) (database_of new)
loose_step bytes old new p =
    let same : database_of old ≡ database_of new = sym (ap database_of p.rest) in (
      subst (λ (d : Database). IsWriterStep (database_of old) d) same (step_itself (database_of old)),
      subst (λ (d : Database). CountsTwins (database_of old) d) same (twins_same (database_of old)),
    )

pub legal_held : (d : Database) (held : Option ℕ) (stopped : Bool) → IsHeld d.committed d.copied held → IsLegal d
    → IsLegal (record d { held = held; stopped = stopped })
legal_held d held stopped may is = record {
  recorded = is.recorded;
  is_copied = is.is_copied;
  is_held = may;
  without_twins = is.without_twins;
}

-- what may change in a machine without that the rest knows
pub sound_with : (m : Machine) (held : Option ℕ) (refuses stopped : Bool) (chances : ℕ) → IsSound m
    → IsHeld m.committed m.copied held → m.chances ≤ chances
    → IsSound (record m { held = held; refuses = refuses; stopped = stopped; chances = chances })
sound_with m held refuses stopped chances s may later = record {
  legal = record {
    recorded = s.legal.recorded;
    is_copied = s.legal.is_copied;
    is_held = may;
    without_twins = λ zeros. s.legal.without_twins (omega (arith, zeros, later));
  };
  sums = s.sums;
  current = s.current;
  counted = s.counted;
  numbered = s.numbered;
  rests = s.rests;
  files = s.files;
  last = s.last;
  stands = s.stands;
  begun = s.begun;
  over = s.over;
  headed = s.headed;
  has_head = s.has_head;
}

pub sound_held : (m : Machine) (held : Option ℕ) (stopped : Bool) → IsSound m → IsHeld m.committed m.copied held
    → IsSound (record m { held = held; stopped = stopped })
sound_held m held stopped s may = sound_with m held m.refuses stopped m.chances s may (omega arith)

pub sound_refusing : (m : Machine) (refuses : Bool) → IsSound m → IsSound (record m { refuses = refuses })
sound_refusing m refuses s = sound_with m m.held refuses m.stopped m.chances s s.legal.is_held (omega arith)

-- to refuse is a step
pub refusing_step : (d : Database) (refuses : Bool) → IsWriterStep d (record d { refuses = refuses })
refusing_step d refuses = record {
  legal = λ is. record {
    recorded = is.recorded;
    is_copied = is.is_copied;
    is_held = is.is_held;
    without_twins = is.without_twins;
  };
  history = prefix_itself d.history;
  chances = omega arith;
  hold = λ end held. inl (record {
    held = held;
    committed = prefix_itself d.committed;
    entries = refl;
    file = λ none. refl;
  });
  free = λ is. is;
  stopped = λ is. is;
}

pub refusing_twins : (d : Database) (refuses : Bool) → CountsTwins d (record d { refuses = refuses })
refusing_twins d refuses = record { rose = inr (no_twins d.history); calm = λ _. refl }

pub free_is_held : (committed : List ℕ) (copied : ℕ) → IsHeld committed copied None
free_is_held committed copied end is = absurd cc

pub copied_is_held : (d : Database) → IsLegal d → IsHeld d.committed d.copied (Some d.copied)
copied_is_held d is end e =
    let same : d.copied ≡ end = cc in
    record {
      at_no_mark = λ zeros. same ∙ zeros;
      at_mark = λ some.
          (subst (IsMarkEnd d.committed) same (is.is_copied (λ zeros. some (sym same ∙ zeros))), omega (arith, same));
    }

pub advanced_is_held : (d : Database) (to : ℕ) → IsLegal d → d.chances ≡ 0 → MayAdvance to d
    → IsHeld d.committed d.copied (Some to)
advanced_is_held d to is zeros may end e =
    let at = may zeros in
    let same : to ≡ end = cc in
    let held = is.is_held at.0 at.1 in
    record {
      at_no_mark = λ none. held.at_no_mark (omega (arith, at.2, same, none));
      at_mark = λ some.
          (subst (IsMarkEnd d.committed) same at.3, copied_below d at.0 end held (omega (arith, at.2, same)));
    }
  where
    copied_below : (d : Database) (held end : ℕ) → MayBeHeld d.committed d.copied held → held ≤ end → d.copied ≤ end
    copied_below d zero end may below = omega (arith, may.at_no_mark refl)
    copied_below d (suc n) end may below = omega (arith, (may.at_mark (λ e. absurd (omega (arith, e)))).1, below)

module _ (s : SimState) where
  abbrev d : Database
  d = database_of s.machine

  abbrev r : LiveRecord
  r = record_of s

  -- ---- the gate

  abbrev pub with_hold : Option ℕ → Bool → LiveRecord
  with_hold held stopped = record { database = record d { held = held; stopped = stopped }; asked = s.asked }

  but_hold : (held : Option ℕ) → IsHeld d.committed d.copied held → IsStepButHold d (record d { held = held })
  but_hold held may = record {
    held = d.held;
    step = step_itself d;
    legal = legal_held d held d.stopped may;
  }

  pub attaches : (answer : Attached) → Attaches (Ok answer) r (with_hold None false)
  attaches answer = record {
    step = record {
      held = d.held;
      stopped = d.stopped;
      step = step_itself d;
      legal = legal_held d None false (free_is_held d.committed d.copied);
    };
    twins = twins_kept d None false;
    ok = (refl, refl);
    err = tt;
    asked = refl;
  }

  pub attaches_not : (fault : PassFault) → Attaches (Err fault) r r
  attaches_not fault = record {
    step = record { held = d.held; stopped = d.stopped; step = step_itself d; legal = λ is. is };
    twins = twins_kept d d.held d.stopped;
    ok = tt;
    err = inl refl;
    asked = refl;
  }

  pub enters : IsSound s.machine → d.stopped ≡ false → Enters (Ok tt) r (with_hold (Some d.copied) d.stopped)
  enters sound runs = record {
    step = record {
      held = d.held;
      step = step_itself d;
      legal = λ is. legal_held d (Some d.copied) d.stopped (copied_is_held d is) is;
    };
    twins = twins_kept d (Some d.copied) d.stopped;
    awake = λ _. runs;
    ok = refl;
    err = tt;
    asked = refl;
  }

  same_but_hold : IsStepButHold d d
  same_but_hold = record { held = d.held; step = step_itself d; legal = λ is. is }

  pub enters_not : (fault : LiveFault) → Enters (Err fault) r r
  enters_not fault = record {
    step = same_but_hold;
    twins = twins_kept d d.held d.stopped;
    awake = λ ok. absurd cc;
    ok = tt;
    err = step_itself d;
    asked = refl;
  }

  pub advances : (to : ℕ) → IsSound s.machine → d.stopped ≡ false → d.chances ≡ 0 → MayAdvance to d
      → Advances to (Ok tt) r (with_hold (Some to) d.stopped)
  advances to sound runs zeros may = record {
    step = record {
      held = d.held;
      step = step_itself d;
      legal = λ is. legal_held d (Some to) d.stopped (advanced_is_held d to is zeros may) is;
    };
    twins = twins_kept d (Some to) d.stopped;
    awake = λ _. runs;
    ok = inl refl;
    err = tt;
    asked = refl;
  }

  pub advances_later : (to : ℕ) → d.stopped ≡ false → (d.chances ≡ 0 → ⊥) → Advances to (Ok tt) r r
  advances_later to runs some = record {
    step = same_but_hold;
    twins = twins_kept d d.held d.stopped;
    awake = λ _. runs;
    ok = inr (some, step_itself d);
    err = tt;
    asked = refl;
  }

  pub advances_not : (to : ℕ) (fault : LiveFault) → Advances to (Err fault) r r
  advances_not to fault = record {
    step = same_but_hold;
    twins = twins_kept d d.held d.stopped;
    awake = λ ok. absurd cc;
    ok = tt;
    err = step_itself d;
    asked = refl;
  }

  pub leaves : d.stopped ≡ false → Leaves (Ok tt) r (with_hold None d.stopped)
  leaves runs = record {
    step = but_hold None (free_is_held d.committed d.copied);
    twins = twins_kept d None d.stopped;
    awake = λ _. runs;
    ok = refl;
    err = tt;
    asked = refl;
  }

  pub leaves_not : (fault : LiveFault) → Leaves (Err fault) r r
  leaves_not fault = record {
    step = same_but_hold;
    twins = twins_kept d d.held d.stopped;
    awake = λ ok. absurd cc;
    ok = tt;
    err = inl refl;
    asked = refl;
  }

  -- ---- the files

  call_same : {T E : Type 0} (result : Result T E) → (d.stopped ≡ false) → IsCall result d d
  call_same result runs = record { step = step_itself d; twins = twins_kept d d.held d.stopped; awake = λ _. runs }

  call_not : {T : Type 0} (fault : LiveFault) → IsCall {T = T} {E = LiveFault} (Err fault) d d
  call_not fault = record {
    step = step_itself d;
    twins = twins_kept d d.held d.stopped;
    awake = λ ok. absurd cc;
  }

  abbrev pub with_asked : Asked → LiveRecord
  with_asked a = record { database = d; asked = a }

  pub gives_head : (n : ℕ) (into behind : List ℕ) → d.stopped ≡ false → n ≡ min (length d.file) 100
      → into ≡ take 100 d.file ++ behind
      → GivesHead (Ok n) into r (with_asked (record s.asked { head = Some (take n into) }))
  gives_head n into behind runs count is =
      let many : n ≡ length (take 100 d.file) = omega (arith, count, length-take 100 d.file) in
      let bytes : take n into ≡ take 100 d.file = ap (take n) is
      ∙ ap (λ k. take k (take 100 d.file ++ behind)) many ∙ take-append_seam (take 100 d.file) behind in
      record {
        call = call_same (Ok n) runs;
        value = (many, bytes);
        ok = ap (λ (b : List ℕ). record s.asked { head = Some b }) bytes;
        err = tt;
      }

  pub gives_head_not : (fault : LiveFault) (into : List ℕ) → GivesHead (Err fault) into r r
  gives_head_not fault into = record { call = call_not fault; value = tt; ok = tt; err = refl }

  pub gives_db_size : (n : ℕ) → d.stopped ≡ false → n ≡ length d.file
      → GivesDbSize (Ok n) r (with_asked (record s.asked { db_size = Some n }))
  gives_db_size n runs is = record { call = call_same (Ok n) runs; value = is; ok = refl; err = tt }

  pub gives_db_size_not : (fault : LiveFault) → GivesDbSize (Err fault) r r
  gives_db_size_not fault = record { call = call_not fault; value = tt; ok = tt; err = refl }

  pub gives_page : (size number n at : ℕ) (into : List ℕ) → d.stopped ≡ false → n ≡ size → at ≡ (number - 1) * size
      → into ≡ take n (drop at d.file ++ replicate n 0) → GivesPage size number (Ok tt) into r r
  gives_page size number n at into runs whole place is = record {
    call = call_same (Ok tt) runs;
    value = is ∙ ap (λ k. take k (drop at d.file ++ replicate k 0)) whole
        ∙ ap (λ k. take size (drop k d.file ++ replicate size 0)) place;
    asked = refl;
  }

  pub gives_page_not : (size number : ℕ) (fault : LiveFault) (into : List ℕ)
      → GivesPage size number (Err fault) into r r
  gives_page_not size number fault into = record { call = call_not fault; value = tt; asked = refl }

  pub gives_log_size : (n : ℕ) → d.stopped ≡ false → n ≡ length (log_of s.machine)
      → GivesLogSize (Ok n) r (with_asked (record s.asked { wal_size = Some n }))
  gives_log_size n runs is = record {
    call = call_same (Ok n) runs;
    value = omega (arith, is, length-append d.committed (tail_of s.machine));
    ok = refl;
    err = tt;
  }

  pub gives_log_size_not : (fault : LiveFault) → GivesLogSize (Err fault) r r
  gives_log_size_not fault = record { call = call_not fault; value = tt; ok = tt; err = refl }

  pub aims : (at : ℕ) → d.stopped ≡ false
      → Aims at (Ok tt) r (with_asked (record s.asked { aimed = at; answered = [] }))
  aims at runs = record { call = call_same (Ok tt) runs; ok = refl; err = tt }

  pub aims_not : (at : ℕ) (fault : LiveFault) → Aims at (Err fault) r r
  aims_not at fault = record { call = call_not fault; ok = tt; err = refl }

  -- ---- a pass

  abbrev pub asked_once : Asked
  asked_once = record s.asked { passes_asked = counted s.asked.passes_asked }

  module _ (place : Place) (at_rest : Bool) where
    kept_why : at_rest ≡ is_at_rest s.attached → IsKeptNow place s → IsKept place at_rest d
    kept_why rests (inl (inl refuses)) = inl refuses
    kept_why rests (inl (inr others)) = inr (inl (rests ∙ others))
    kept_why rests (inr none) = inr (inr (λ mark last at held. none (record {
      mark = mark;
      last = last;
      at_place = at;
      held = held;
    })))

    pub passes : (pass : Pass) (t : SimState) → at_rest ≡ is_at_rest s.attached → d.stopped ≡ false
        → PassesNow place (Ok pass) (record s { asked = asked_once }) t
        → Passes place at_rest (Ok pass) r (record_of t)
    passes Passed t rests runs (may, did, is) = (
      did.takes,
      did.twins,
      rests ∙ may.at_rest,
      did.stopped ∙ runs,
      ap (λ (x : SimState). x.asked) is,
    )
    passes Kept t rests runs (why, is) =
        subst (λ (x : SimState). Passes place at_rest (Ok Kept) r (record_of x)) (sym is)
        (call_same (Ok Kept) runs, kept_why rests why, refl)

    pub passes_not : (fault : PassFault) (t : SimState) → record_of t ≡ with_asked asked_once
        → Passes place at_rest (Err fault) r (record_of t)
    passes_not fault t is =
        subst (λ (x : LiveRecord). Passes place at_rest (Err fault) r x) (sym is)
        (inr (step_itself d), twins_kept d d.held d.stopped, refl)

-- what it is attached to, and the name of the database, stay
pub keeps_on : (a b : SimState) → b.attached ≡ a.attached → b.name ≡ a.name
    → Keeps a.attached b.attached (λ path. pointwise nat_eq path a.name) (λ path. pointwise nat_eq path b.name)
keeps_on a b attached name = record {
  attached = attached;
  there = λ i path. pointwise nat_eq path (name i);
}

-- a call that goes on finds the machine running
pub runs_now : {s t n : SimState} → t ≡ s → Goes false s n → t.machine.stopped ≡ false
runs_now same goes = ap (λ (x : SimState). x.machine.stopped) same ∙ goes.runs refl

-- copying adds no entry
pub twins_copied : (old new : Database) → CopiesFrames old new → CountsTwins old new
twins_copied old new copies = record {
  rose = inr (subst (AddsNoTwins old.history) (sym copies.history) (no_twins old.history));
  calm = λ _. copies.chances;
}
