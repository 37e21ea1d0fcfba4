-- What `read` does to what the scripted writer tells.
use Rattle.std.proofs.Common.{◌≡◌, ℕ, ◌+◌, ◌-◌, ◌<◌, ◌≤◌, ◌^◌, Bool, true, false, cond, List, [], ◌++◌, length}
use Rattle.std.proofs.Common.{take, drop}
use Rattle.std.proofs.Common.{Ok, Err, length-append, refl, sym, ap}
use Rattle.std.proofs.Common.{subst, ◌∙◌, inl, inr, arith}
use Rattle.std.specs.Prelude.{◌⊎◌, ◌==◌, min}
use Rattle.std.proofs.lemmas.Bool.{cases_lt}
use Rattle.std.proofs.lemmas.List.{take_all, drop_all}
use Rattle.ls_base.specs.Fault.{Rose}
use Rattle.live_gate.specs.LiveRecord.{Database, LiveRecord}
use Rattle.live_gate.specs.Step.{IsWriterStep}
use Rattle.live_gate.specs.Coincidence.{IsReadByChecksums}
use Rattle.live_gate.specs.declared.fault.LiveFault.{LiveFault}
use Rattle.live_gate.specs.LiveCalls.{capped}
use Rattle.live_gate.specs.LiveCalls.{Reads, AgreeInFront}
use Rattle.live_gate.proofs.StepLemmas.{step_itself, prefix_itself}
use Rattle.sim_writer.specs.declared.machine.Machine.{Machine}
use Rattle.sim_writer.specs.Calls.{Notes}
use Rattle.sim_writer.specs.Commits.{counted}
use Rattle.sim_writer.specs.Passing.{IsReadFrom}
use Rattle.sim_writer.specs.Reading.{ReadsLog}
use Rattle.sim_writer.specs.SimState.{SimState, record_of}
use Rattle.sim_writer.specs.Sound.{IsSound, database_of, tail_of}
use Rattle.sim_writer.proofs.LiveLemmas.{no_twins, twins_kept, sound_with}

module _ (s : SimState) where
  abbrev d : Database
  d = database_of s.machine

  abbrev r : LiveRecord
  r = record_of s

  chance_step : (n : ℕ) → d.chances ≤ n → IsWriterStep d (record d { chances = n })
  chance_step n later = record {
    legal = λ is. record {
      recorded = is.recorded;
      is_copied = is.is_copied;
      is_held = is.is_held;
      without_twins = λ zeros. is.without_twins (omega (arith, zeros, later));
    };
    history = prefix_itself d.history;
    chances = later;
    hold = λ end held. inl (record {
      held = held;
      committed = prefix_itself d.committed;
      entries = refl;
      file = λ none. refl;
    });
    free = λ is. is;
    stopped = λ is. is;
  }

  pub reads_not : (fault : LiveFault) (into : List ℕ) → Reads (Err fault) into r r
  reads_not fault into = record {
    step = step_itself d;
    awake = λ ok. absurd cc;
    ok = tt;
    err = (refl, twins_kept d d.held d.stopped);
  }

  module _ (n room at : ℕ) (into : List ℕ) (t : SimState) (runs : d.stopped ≡ false)
      (reads : ReadsLog s.machine at room n into)
      (some : 0 < room) (short : length d.committed < 2 ^ 63)
      (place : at ≡ min (s.asked.aimed + length s.asked.answered) (2 ^ 64 - 1))
      (notes : Notes (take n into) s t) where
    abbrev got : List ℕ
    got = take n into

    abbrev after : LiveRecord
    after = record {
      database = record d { chances = t.machine.chances };
      asked = record s.asked {
        answered = s.asked.answered ++ got;
        gave_none = length got == 0;
        taken = capped (s.asked.taken + length got);
      };
    }

    agrees_from : (offset : ℕ) → at ≡ min offset (2 ^ 64 - 1) → AgreeInFront got (drop offset d.committed)
    agrees_from offset e = elim (cases_lt offset (2 ^ 64 - 1)) [
      | inl exact ↦
          subst (λ (k : ℕ). AgreeInFront got (drop k d.committed)) (let same : at ≡ offset = omega (arith, e, exact)
          in same)
          reads.agrees
      | inr past ↦
          let none : drop offset d.committed ≡ [] = drop_all offset d.committed (omega (arith, past, short)) in
          ap (take (length got)) none ∙ take_all (length got) [] (omega arith)
          ∙ sym (ap (λ (xs : List ℕ). take (length xs) got) none)
    ]

    chance_of : IsReadFrom s.machine.committed s.asked.aimed (s.asked.answered ++ got)
        ⊎ (t.machine.chances ≡ counted s.machine.chances) → IsReadByChecksums after ⊎ Rose d.chances t.machine.chances
    chance_of (inl read) = inl read
    chance_of (inr rose) = inr (record { least = omega (arith, rose) })

    reads_then : Reads (Ok n) into r after
    reads_then = record {
      step = chance_step t.machine.chances notes.later;
      awake = λ _. runs;
      ok = record {
        asked = refl;
        some = λ inside.
            let least = reads.some some
            (omega (arith, inside, place, short, length-append d.committed (tail_of s.machine))) in
            omega (arith, least, reads.long);
        agrees = agrees_from (s.asked.aimed + length s.asked.answered) place;
        chance = chance_of notes.chance;
        twins = inr (no_twins d.history);
        calm = λ read none. notes.calm read;
      };
      err = tt;
    }

    pub reads_now : Reads (Ok n) into r (record_of t)
    reads_now = subst (λ (x : LiveRecord). Reads (Ok n) into r x) (sym (ap record_of notes.is)) reads_then

pub sound_noted : (m : Machine) (n : ℕ) → IsSound m → m.chances ≤ n → IsSound (record m { chances = n })
sound_noted m n s later = sound_with m m.held m.refuses m.stopped n s s.legal.is_held later

-- the count rises exactly where it is said to
pub chance_counts : (b : Bool) (committed seen : List ℕ) (aimed : ℕ) (answered said got : List ℕ) (old now : ℕ)
    → seen ≡ committed → said ≡ answered → (b ≡ true → IsReadFrom seen aimed (said ++ got) → ⊥)
    → (b ≡ false → IsReadFrom seen aimed (said ++ got)) → now ≡ cond b (counted old) old
    → (IsReadFrom committed aimed (answered ++ got) ⊎ (now ≡ counted old))
    × (IsReadFrom committed aimed (answered ++ got) → now ≡ old)
chance_counts true committed seen aimed answered said got old now e f some none is = (
  inr is,
  λ read. absurd (some refl (subst (λ (c : List ℕ). IsReadFrom c aimed (said ++ got)) (sym e)
      (subst (λ (a : List ℕ). IsReadFrom committed aimed (a ++ got)) (sym f) read))),
)
chance_counts false committed seen aimed answered said got old now e f some none is = (
  inl (subst (λ (a : List ℕ). IsReadFrom committed aimed (a ++ got)) f
      (subst (λ (c : List ℕ). IsReadFrom c aimed (said ++ got)) e (none refl))),
  λ _. is,
)

pub noted : (s : SimState) (n : ℕ) (got answered : List ℕ) (none : Bool) (taken : ℕ)
    → answered ≡ s.asked.answered ++ got → none ≡ (length got == 0) → taken ≡ capped (s.asked.taken + length got)
    → ◌≡◌ {A = SimState} (record s {
      machine = record s.machine { chances = n };
      asked = record s.asked { answered = answered; gave_none = none; taken = taken };
    }) (record s {
      machine = record s.machine { chances = n };
      asked = record s.asked {
        answered = s.asked.answered ++ got;
        gave_none = length got == 0;
        taken = capped (s.asked.taken + length got);
      };
    })
noted s n got answered none taken p q r = λ i. record s {
  machine = record s.machine { chances = n };
  asked = record s.asked { answered = p i; gave_none = q i; taken = r i };
}
