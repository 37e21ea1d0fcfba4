-- A stop of the machine is a step.
use Rattle.std.proofs.Common.{◌≡◌, ℕ, List, [], ◌∷◌, ◌++◌, length, Option, Some, None, sym, ap, subst, ◌∙◌, inl, inr}
use Rattle.std.proofs.Common.{append_assoc, arith}
use Rattle.ls_base.specs.declared.entry.Entry.{Entry}
use Rattle.ls_base.specs.State.{State}
use Rattle.ls_base.specs.History.{state_of}
use Rattle.wal_frames.specs.declared.header.WalHeader.{WalHeader}
use Rattle.live_gate.specs.LiveRecord.{Database, IsPrefix}
use Rattle.live_gate.specs.Legal.{Commit, all_frames, AreEntries, HasCommits, IsHeld, IsLegal, last_state}
use Rattle.live_gate.specs.Step.{HasStopped, IsWriterStep}
use Rattle.live_gate.specs.Stops.{FallsBack, StopsAtRest}
use Rattle.live_gate.proofs.MoveLemmas.{twins_kept, last_state-append}

module _ (h : WalHeader) (file : List ℕ) (copied : ℕ) where
  -- the first commits and their entries
  pub entries-front : (passed : List (List ℕ)) (before : Option State) (kept lost : List Commit)
      (again gone : List Entry) → length again ≡ length kept
      → AreEntries h file copied passed before (kept ++ lost) (again ++ gone)
      → AreEntries h file copied passed before kept again
  entries-front passed before [] lost [] gone many are = tt
  entries-front passed before [] lost (e ∷ again) gone many are = absurd (omega (arith, many))
  entries-front passed before (c ∷ kept) lost [] gone many are = absurd (omega (arith, many))
  entries-front passed before (c ∷ kept) lost (e ∷ again) gone many (first, rest) = (
    first,
    entries-front (passed ++ all_frames c) (Some (state_of e)) kept lost again gone
        (omega (arith, many)) rest,
  )

not_held : (held : Option ℕ) (end : ℕ) → held ≡ None → held ≡ Some end → ⊥
not_held held end none some = cc

stop_holds : (new : Database) → HasStopped new → IsHeld new.committed new.copied new.held
stop_holds new stops end held = absurd (not_held new.held end stops.free held)

module _ (old new : Database) (a : FallsBack old new) where
  back_history : IsPrefix old.history new.history
  back_history = record { rest = a.before ∷ a.again; is = a.history }

  same_before : last_state None a.has.earlier ≡ last_state None (old.history ++ a.before ∷ [])
  same_before =
      ap (last_state None) a.was ∙ last_state-append None a.earlier (a.before ∷ [])
      ∙ sym (last_state-append None old.history (a.before ∷ []))

  back_commits : HasCommits new.history new.committed new.file new.copied
  back_commits =
      let h = a.has.h in
      let before = last_state None a.has.earlier in
      let parted = subst (λ (cs : List Commit). AreEntries h old.file old.copied [] before cs a.has.latest) a.commits
      a.has.entries in
      let both = subst (λ (es : List Entry). AreEntries h old.file old.copied [] before
      (a.kept ++ a.lost) es) a.entries parted in
      let front = entries-front h old.file old.copied [] before a.kept a.lost a.again a.gone a.as_many both in
      let filed = subst (λ (file : List ℕ). AreEntries h file old.copied [] before a.kept a.again) (sym a.file) front in
      let copied = subst (λ (n : ℕ). AreEntries h new.file n [] before a.kept a.again) (sym a.copied) filed in
      record {
        h = h;
        accepted = a.accepted;
        whole = a.whole;
        commits = a.kept;
        some = a.some;
        frames = a.frames;
        earlier = old.history ++ a.before ∷ [];
        latest = a.again;
        split = a.history ∙ sym (append_assoc old.history (a.before ∷ []) a.again);
        entries = subst (λ (s : Option State). AreEntries h new.file new.copied [] s a.kept a.again) same_before copied;
      }

  back_legal : IsLegal old → IsLegal new
  back_legal is = record {
    recorded = inl back_commits;
    is_copied = a.is_copied;
    is_held = stop_holds new a.stops;
    without_twins = twins_kept old new back_history a.chances a.twins is.without_twins;
  }

  pub back_step : IsWriterStep old new
  back_step = record {
    legal = back_legal;
    history = back_history;
    chances = a.chances;
    hold = λ end held. inr a.stops;
    free = λ e. a.stops.free;
    stopped = λ e. a.stops.stopped;
  }

module _ (old new : Database) (a : StopsAtRest old new) where
  rest_history : IsPrefix old.history new.history
  rest_history = record { rest = a.again ∷ []; is = a.history }

  pub rest_stop_step : IsWriterStep old new
  rest_stop_step = record {
    legal = λ is. record {
      recorded = inr a.at_rest;
      is_copied = λ some. absurd (some a.at_rest.uncopied);
      is_held = stop_holds new a.stops;
      without_twins = twins_kept old new rest_history a.chances a.twins is.without_twins;
    };
    history = rest_history;
    chances = a.chances;
    hold = λ end held. inr a.stops;
    free = λ e. a.stops.free;
    stopped = λ e. a.stops.stopped;
  }
