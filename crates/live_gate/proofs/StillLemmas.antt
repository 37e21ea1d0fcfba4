-- What a live database that never moves answers.
use Rattle.std.proofs.Common.{◌≡◌, ℕ, ◌+◌, ◌-◌, ◌*◌, ◌<◌, ◌≤◌, Bool, true, false, List, ◌++◌, length, take, drop}
use Rattle.std.proofs.Common.{Option, Some, None, Ok, Err, Result, refl, sym, ap, subst, ◌∙◌, inl, inr, take-add}
use Rattle.std.proofs.Common.{replicate, arith}
use Rattle.std.specs.Prelude.{◌==◌, min, IsErr, OnErr}
use Rattle.std.proofs.lemmas.List.{length-take, length-drop, take-append-drop, take-take, take_min, drop-drop}
use Rattle.std.proofs.Math.Seq.{take-append_seam}
use Rattle.std.proofs.lemmas.Option.{slice_get_within}
use Rattle.ls_base.specs.declared.mark.Mark.{Mark}
use Rattle.ls_base.specs.declared.place.Place.{Place}
use Rattle.ls_base.specs.History.{History}
use Rattle.wal_frames.specs.Marks.{bytes_to, last_mark_of, committed_part}
use Rattle.wal_frames.proofs.LogLemmas.{last_is_mark, last_never_earlier, ends_within}
use Rattle.live_gate.specs.LiveRecord.{LiveRecord, GoesOn, IsPrefix}
use Rattle.live_gate.specs.Legal.{IsLegal, MayBeHeld, IsMarkEnd}
use Rattle.live_gate.specs.Step.{IsStepButHold, IsStepButAttached}
use Rattle.live_gate.specs.Coincidence.{AddsNoTwins, CountsTwins}
use Rattle.live_gate.specs.declared.answer.Attached.{Attached}
use Rattle.live_gate.specs.declared.answer.Attached.TheVariants.{Found}
use Rattle.live_gate.specs.declared.answer.Pass.TheVariants.{Kept}
use Rattle.live_gate.specs.declared.fault.PassFault.{PassFault}
use Rattle.live_gate.specs.LiveCalls.{IsCall, capped, Attaches, Enters, MayAdvance, Advances, Leaves, GivesHead}
use Rattle.live_gate.specs.LiveCalls.{GivesDbSize, GivesPage, GivesLogSize, Aims, Reads, Passes, AgreeInFront}
use Rattle.live_gate.specs.Still.{StillState, still_history, still_database, still_asked, still_record}
use Rattle.live_gate.proofs.StepLemmas.{step_itself}
use Rattle.live_gate.proofs.PieceLemmas.{take_prefix, fronts_agree, drop_front}

-- ---- what is told

same_record : (a b : LiveRecord) → ◌≡◌ {A = Option LiveRecord} (Some a) (Some b) → a ≡ b
same_record a b e = cc

pub goes_on : (old new : LiveRecord) (P : LiveRecord → LiveRecord → Type 0) → P old new → GoesOn (Some old) (Some new) P
goes_on old new P holds = record {
  told = λ r is. (new, refl, subst (λ (x : LiveRecord). P x new) (same_record old r is) holds);
  silent = λ is. absurd cc;
}

pub on_err : {T E : Type 0} (result : Result T E) (P : Type 0) → P → OnErr result P
on_err (Ok value) P holds = tt
on_err (Err fault) P holds = holds

-- ---- nothing moves

no_twins : (h : History) → AddsNoTwins h h
no_twins h j k a b past at_j at_k same = absurd (omega (arith, past, slice_get_within h k b at_k))

module _ (db wal : List ℕ) where
  pub twins_stay : (held now : Option ℕ) → CountsTwins (still_database db wal held) (still_database db wal now)
  twins_stay held now = record { rose = inr (no_twins (still_history db (committed_part wal))); calm = λ _. refl }

  pub call_stays : {T E : Type 0} (result : Result T E) (held : Option ℕ)
      → IsCall result (still_database db wal held) (still_database db wal held)
  call_stays result held = record {
    step = step_itself
        (still_database db wal held);
    twins = twins_stay held held;
    awake = λ _. refl;
  }

  -- the hold alone changes
  legal_held : (held now : Option ℕ) → ((end : ℕ) → now ≡ Some end → MayBeHeld (committed_part wal) 0 end)
      → IsLegal (still_database db wal held) → IsLegal (still_database db wal now)
  legal_held held now may is = record {
    recorded = is.recorded;
    is_copied = is.is_copied;
    is_held = may;
    without_twins = is.without_twins;
  }

  pub step_but_hold : (held now : Option ℕ) → ((end : ℕ) → now ≡ Some end → MayBeHeld (committed_part wal) 0 end)
      → IsStepButHold (still_database db wal held) (still_database db wal now)
  step_but_hold held now may = record {
    held = held;
    step = step_itself
        (still_database db wal held);
    legal = legal_held held now may;
  }

  pub step_but_attached : (held : Option ℕ) → IsStepButAttached (still_database db wal held)
      (still_database db wal None)
  step_but_attached held = record {
    held = held;
    stopped = false;
    step = step_itself
        (still_database db wal held);
    legal = legal_held held None (λ end is. absurd cc);
  }

  pub may_enter : (end : ℕ) → ◌≡◌ {A = Option ℕ} (Some 0) (Some end) → MayBeHeld (committed_part wal) 0 end
  may_enter end is = record {
    at_no_mark = λ _. refl;
    at_mark = λ other. absurd
        (other (sym (let e : 0 ≡ end = cc in e)));
  }

  pub may_advance : (to end : ℕ) → IsMarkEnd (committed_part wal) to → ◌≡◌ {A = Option ℕ} (Some to) (Some end)
      → MayBeHeld (committed_part wal) 0 end
  may_advance to end mark is = let same : to ≡ end = cc in record {
    at_no_mark = λ _. refl;
    at_mark = λ other.
        (subst (IsMarkEnd (committed_part wal)) same mark, omega arith);
  }

-- ---- bytes of the log

front_of : (o : Option Mark) (wal : List ℕ) → (end : ℕ) × (bytes_to o wal ≡ take end wal)
front_of None wal = (0, refl)
front_of (Some mark) wal = (mark.end, refl)

-- the committed part is a front of the log
pub committed_front : (wal : List ℕ) → (end : ℕ) × (committed_part wal ≡ take end wal)
committed_front wal = front_of (last_mark_of wal) wal

pub committed_short : (wal : List ℕ) → length (committed_part wal) ≤ length wal
committed_short wal = let front = committed_front wal in omega (arith, ap length front.1, length-take front.0 wal)

module _ (wal : List ℕ) (aimed count : ℕ) (within : aimed ≤ length (committed_part wal)) where
  read_front : take aimed (committed_part wal) ++ take count (drop aimed wal) ≡ take (aimed + count) wal
  read_front =
      let front = committed_front wal in
      let low : aimed ≤ front.0 = omega (arith, within, ap length front.1, length-take front.0 wal) in
      ap (λ (bytes : List ℕ). bytes ++ take count (drop aimed wal))
      (ap (take aimed) front.1 ∙ take-take aimed front.0 wal low) ∙ sym (take-add aimed count wal)

  front_committed : (mark : Mark) → last_mark_of (take (aimed + count) wal) ≡ Some mark
      → IsPrefix (take mark.end (take (aimed + count) wal)) (committed_part wal)
  front_committed mark last =
      let f = take (aimed + count) wal in
      let whole : f ++ drop (aimed + count) wal ≡ wal = take-append-drop (aimed + count) wal in
      let later = last_never_earlier f (drop (aimed + count) wal) mark last in
      let is_last : last_mark_of wal ≡ Some later.mark = subst
      (λ (bytes : List ℕ). last_mark_of bytes ≡ Some later.mark) whole later.is_last in
      let committed : committed_part wal ≡ take later.mark.end wal = ap (λ o. bytes_to o wal) is_last in
      let ends : mark.end ≤ aimed + count = omega
      (arith, ends_within f mark (last_is_mark f mark last), length-take (aimed + count) wal) in
      let front : take mark.end f ≡ take mark.end wal = take-take mark.end (aimed + count) wal ends in
      let prefix = take_prefix mark.end later.mark.end wal later.from in
      record {
        rest = prefix.rest;
        is = committed ∙ prefix.is
            ∙ ap (λ (bytes : List ℕ). bytes ++ prefix.rest) (sym front);
      }

  pub read_committed : (mark : Mark) → last_mark_of
      (take aimed (committed_part wal) ++ take count (drop aimed wal)) ≡ Some mark
      → IsPrefix (take mark.end (take aimed (committed_part wal) ++ take count (drop aimed wal))) (committed_part wal)
  read_committed mark last =
      subst (λ (bytes : List ℕ). IsPrefix (take mark.end bytes) (committed_part wal)) (sym read_front)
      (front_committed mark (sym (ap last_mark_of read_front) ∙ last))

-- ---- each call

module _ (s : StillState) where
  abbrev pub holds : Option ℕ → LiveRecord
  holds held = still_record (record s { held = held })

  pub attaches : Attaches (Ok Found) (still_record s) (holds None)
  attaches = record {
    step = step_but_attached s.db s.wal s.held;
    twins = twins_stay s.db s.wal s.held None;
    ok =
        (refl, refl);
    err = tt;
    asked = refl;
  }

  pub starves : (fault : PassFault) → Attaches (Err fault) (still_record s) (still_record s)
  starves fault = record {
    step = record {
      held = s.held;
      stopped = false;
      step = step_itself
          (still_database s.db s.wal s.held);
      legal = λ is. is;
    };
    twins = twins_stay s.db s.wal s.held s.held;
    ok = tt;
    err = inl refl;
    asked = refl;
  }

  pub starves_any : (result : Result Attached PassFault) → IsErr result
      → Attaches result (still_record s) (still_record s)
  starves_any (Ok answer) is = absurd cc
  starves_any (Err fault) is = starves fault

  pub enters : Enters (Ok tt) (still_record s) (holds (Some 0))
  enters = record {
    step = step_but_hold s.db s.wal s.held (Some 0) (may_enter s.db s.wal);
    twins = twins_stay s.db s.wal s.held (Some 0);
    awake = λ _. refl;
    ok = refl;
    err = tt;
    asked = refl;
  }

  pub advances : (end : ℕ) → MayAdvance end (still_database s.db s.wal s.held)
      → Advances end (Ok tt) (still_record s) (holds (Some end))
  advances end may = record {
    step = step_but_hold s.db s.wal s.held (Some end) (λ at. may_advance s.db s.wal end at (may refl).3);
    twins = twins_stay s.db s.wal s.held (Some end);
    awake = λ _. refl;
    ok = inl refl;
    err = tt;
    asked = refl;
  }

  pub leaves : Leaves (Ok tt) (still_record s) (holds None)
  leaves = record {
    step = step_but_hold s.db s.wal s.held None (λ end is. absurd cc);
    twins = twins_stay s.db s.wal s.held None;
    awake = λ _. refl;
    ok = refl;
    err = tt;
    asked = refl;
  }

  pub gives_head : (n : ℕ) (into behind : List ℕ) → n ≡ min (length s.db) 100 → into ≡ take 100 s.db ++ behind
      → GivesHead (Ok n) into (still_record s) (still_record (record s { head = true }))
  gives_head n into behind count is =
      let many : n ≡ length (take 100 s.db) = omega (arith, count, length-take 100 s.db) in
      record {
        call = call_stays s.db s.wal (Ok n) s.held;
        value = (
          many,
          ap (take n) is ∙ ap (λ k. take k (take 100 s.db ++ behind)) many
              ∙ take-append_seam (take 100 s.db) behind,
        );
        ok = refl;
        err = tt;
      }

  pub gives_db_size : (n : ℕ) → n ≡ length s.db → GivesDbSize (Ok n) (still_record s)
      (still_record (record s { db_size = true }))
  gives_db_size n is = record {
    call = call_stays s.db s.wal (Ok n) s.held;
    value = is;
    ok = ap
        (λ (k : ℕ). record (still_asked s) { db_size = Some k }) (sym is);
    err = tt;
  }

  pub gives_page : (size number n at : ℕ) (into : List ℕ) → n ≡ size → at ≡ (number - 1) * size
      → into ≡ take n (drop at s.db ++ replicate n 0)
      → GivesPage size number (Ok tt) into (still_record s) (still_record s)
  gives_page size number n at into whole place is = record {
    call = call_stays s.db s.wal (Ok tt) s.held;
    value = is ∙ ap (λ k. take k (drop at s.db ++ replicate k 0)) whole
        ∙ ap (λ k. take size (drop k s.db ++ replicate size 0)) place;
    asked = refl;
  }

  pub gives_log_size : (n : ℕ) → n ≡ length s.wal
      → GivesLogSize (Ok n) (still_record s) (still_record (record s { wal_size = true }))
  gives_log_size n is = record {
    call = call_stays s.db s.wal (Ok n) s.held;
    value = omega (arith, is, committed_short s.wal);
    ok = ap (λ (k : ℕ). record (still_asked s) { wal_size = Some k }) (sym is);
    err = tt;
  }

  pub aims : (at : ℕ) → Aims at (Ok tt) (still_record s) (still_record (record s { aimed = at; answered = 0 }))
  aims at = record { call = call_stays s.db s.wal (Ok tt) s.held; ok = refl; err = tt }

  pub keeps : (place : Place) (at_rest : Bool) (passes : ℕ) → passes ≡ capped (s.passes + 1)
      → Passes place at_rest (Ok Kept) (still_record s) (still_record (record s { passes = passes }))
  keeps place at_rest passes more = (
    call_stays s.db s.wal (Ok Kept) s.held,
    inl refl,
    ap
        (λ (n : ℕ). record (still_asked s) { passes_asked = n }) more,
  )

-- ---- a read

module _ (s : StillState) (n taken room : ℕ) (into behind : List ℕ) (kept : s.answered ≤ length s.wal - s.aimed)
    (some : 0 < room)
    (count : n ≡ min (length (drop (s.aimed + s.answered) s.wal)) room)
    (is : into ≡ take room (drop (s.aimed + s.answered) s.wal) ++ behind)
    (more : taken ≡ capped (s.taken + n)) where
  abbrev after : StillState
  after = record s { answered = s.answered + n; gave_none = n == 0; taken = taken }

  abbrev rest : List ℕ
  rest = drop (s.aimed + s.answered) s.wal

  got_length : n ≡ length (take room rest)
  got_length = omega (arith, count, length-take room rest)

  got_room : take n into ≡ take room rest
  got_room = ap (take n) is ∙ ap (λ k. take k (take room rest ++ behind)) got_length
      ∙ take-append_seam (take room rest) behind

  got_is : take n into ≡ take n rest
  got_is = got_room ∙ sym (take_min room rest) ∙ ap (λ k. take k rest) (sym (count ∙ omega arith))

  reads_asked : still_asked after ≡ record (still_asked s) {
    answered = take s.answered
        (drop s.aimed s.wal) ++ take n into;
    gave_none = length (take n into) == 0;
    taken = capped
        (s.taken + length (take n into));
  }
  reads_asked =
      let bytes : take (s.answered + n) (drop s.aimed s.wal) ≡ take s.answered (drop s.aimed s.wal) ++ take n into =
      take-add s.answered n (drop s.aimed s.wal) ∙ ap (λ (b : List ℕ). take s.answered (drop s.aimed s.wal) ++ take n b)
      (drop-drop s.answered s.aimed s.wal) ∙ ap (λ (b : List ℕ). take s.answered (drop s.aimed s.wal) ++ b)
      (sym got_is) in
      let size : n ≡ length (take n into) = got_length ∙ ap length (sym got_room) in
      ap (λ (t : ℕ). record (still_asked after) { taken = t }) more
      ∙ ap (λ (b : List ℕ). record (still_asked s) {
        answered = b;
        gave_none = n == 0;
        taken = capped
            (s.taken + n);
      }) bytes
      ∙ ap (λ (k : ℕ). record (still_asked s) {
        answered = take s.answered
            (drop s.aimed s.wal) ++ take n into;
        gave_none = k == 0;
        taken = capped (s.taken + k);
      }) size

  offset_is : s.aimed + length (take s.answered (drop s.aimed s.wal)) ≡ s.aimed + s.answered
  offset_is = omega (arith, kept, length-take s.answered (drop s.aimed s.wal), length-drop s.aimed s.wal)

  reads_some : s.aimed + length (take s.answered (drop s.aimed s.wal)) < length (committed_part s.wal)
      → 1 ≤ length (take n into)
  reads_some inside =
      let size : n ≡ length (take n into) = got_length ∙ ap length (sym got_room) in
      omega (
        arith,
        inside,
        offset_is,
        committed_short s.wal,
        count,
        length-drop
            (s.aimed + s.answered) s.wal,
        some,
        size,
      )

  reads_agrees : AgreeInFront (take n into) (drop (s.aimed + length (take s.answered (drop s.aimed s.wal)))
      (committed_part s.wal))
  reads_agrees =
      let front = committed_front s.wal in
      let behind_is : drop (s.aimed + length (take s.answered (drop s.aimed s.wal))) (committed_part s.wal) ≡ take
      (front.0 - (s.aimed + s.answered)) rest =
      ap (λ (b : List ℕ). drop (s.aimed + length (take s.answered (drop s.aimed s.wal))) b) front.1
      ∙ ap (λ (k : ℕ). drop k (take front.0 s.wal)) offset_is ∙ drop_front (s.aimed + s.answered) front.0 s.wal in
      subst (λ (b : List ℕ). AgreeInFront b (drop (s.aimed + length (take s.answered (drop s.aimed s.wal)))
      (committed_part s.wal))) (sym got_is)
      (subst (λ (b : List ℕ). AgreeInFront (take n rest) b) (sym behind_is)
      (fronts_agree n (front.0 - (s.aimed + s.answered)) rest))

  pub reads : Reads (Ok n) into (still_record s) (still_record after)
  reads = record {
    step = step_itself (still_database s.db s.wal s.held);
    awake = λ _. refl;
    ok = record {
      asked = reads_asked;
      some = reads_some;
      agrees = reads_agrees;
      chance = inl (λ within mark last. read_committed s.wal s.aimed (s.answered + n) within mark last);
      twins = (twins_stay s.db s.wal s.held s.held).rose;
      calm = λ _ _. refl;
    };
    err = tt;
  }
