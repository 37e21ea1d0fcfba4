-- One part of a replication after another.
use Rattle.std.proofs.Common.{◌≡◌, ℕ, ◌+◌, ◌≤◌, List, [], ◌∷◌, ◌++◌, length, Option, Result, Ok, Err, refl, sym, ap}
use Rattle.std.proofs.Common.{subst, ◌∙◌, append_assoc, length-append, arith}
use Rattle.crash_disk.specs.declared.event.Event.{Event}
use Rattle.crash_disk.specs.GoesOn.{IsGrown}
use Rattle.crash_disk.specs.Output.{gains_text, GainsFront}
use Rattle.ls_base.specs.History.{History}
use Rattle.ls_base.specs.SyncLog.{SyncLog}
use Rattle.live_gate.specs.LiveRecord.{LiveRecord, Attachment, IfTold}
use Rattle.live_gate.specs.Legal.{IsLegal}
use Rattle.round_line.specs.declared.round.Round.{Round}
use Rattle.round_line.specs.RoundText.{round_text}
use Rattle.replica_runs.specs.Rounds.{rounds_text}
use Rattle.ls_answers.specs.declared.outcome.Why.{Why}
use Rattle.ls_answers.specs.declared.outcome.Why.TheVariants.{Done}
use Rattle.replicate_command.specs.Answers.{IfStoreTells}
use Rattle.replicate_command.specs.Promise.{Ending, Prints, AreEnough, Whole, TellsRounds, ending_of}
use Rattle.replicate_command.specs.Promise.Ending.{Finished, Unprinted, Spent, Refused}
use Rattle.replicate_command.specs.Seen.{Seen}
use Rattle.replicate_command.specs.Asked.{Asked, cut_of}
use Rattle.replicate_command.specs.Names.{MaintainsNames, CountsPasses}
use Rattle.replicate_command.specs.Later.{ObjectsGoOn}
use Rattle.replica_round.specs.Later.{IsLater}
use Rattle.replicate_command.specs.Standing.{KeepsStanding}
use Rattle.replicate_command.specs.Stage.{Premise, Anything, RunsOn, GoesSo}
use Rattle.replicate_command.specs.Stop.{why_of, why_of_stop}
use Rattle.replicate_command.specs.declared.stop.ReplicateStop.{ReplicateStop}
use Rattle.replicate_command.specs.declared.stop.ReplicateStop.TheVariants.{NoDatabase, Header, SizesDiffer}
use Rattle.replicate_command.specs.declared.stop.ReplicateStop.TheVariants.{WalTooLong, TooLarge, GateBroken, Damaged}
use Rattle.replicate_command.specs.declared.stop.ReplicateStop.TheVariants.{PageMissing, TxidSpent, Live, Store, Sink}
use Rattle.replicate_command.specs.declared.stop.ReplicateStop.TheVariants.{Memory}
use Rattle.replicate_command.proofs.LaterLemmas.{same_told, told_before}
use Rattle.replicate_command.proofs.ExplainLemmas.{Meets, joined, explains_since, faults_then, objects_then}
use Rattle.replicate_command.proofs.NamesLemmas.{names_then, passes_then}
use Rattle.replicate_command.proofs.RunLemmas.{gains_more, texts_join, goes_then}
use Rattle.replicate_command.proofs.StandingLemmas.{stands_then}

-- ---- counts and texts

enough_then : (ending : Ending) (few count : ℕ) (one two : List Round) → length one ≡ few
    → AreEnough ending count two → AreEnough ending (few + count) (one ++ two)
enough_then Finished few count one two is more = omega (arith, length-append one two, is, more)
enough_then Unprinted few count one two is more = omega (arith, length-append one two, is, more)
enough_then Spent few count one two is more = omega (arith, length-append one two, is, more)
enough_then Refused few count one two is more = omega (arith, length-append one two, is, more)

module _ (number : ℕ) (text mid after : Option (List ℕ)) (one : List Round)
    (printed : mid ≡ gains_text text (rounds_text number one)) where
  lines_then : (two : List Round) → after ≡ gains_text mid (rounds_text (number + length one) two)
      → after ≡ gains_text text (rounds_text number (one ++ two))
  lines_then two more =
      more ∙ ap (λ (t : Option (List ℕ)). gains_text t (rounds_text (number + length one) two)) printed
      ∙ gains_more text (rounds_text number one) (rounds_text (number + length one) two)
      ∙ ap (gains_text text) (sym (texts_join number one two))

  prints_then : (ending : Ending) (two : List Round) → Prints ending (number + length one) mid after two
      → Prints ending number text after (one ++ two)
  prints_then Finished two more = lines_then two more
  prints_then Spent two more = lines_then two more
  prints_then Refused two more = lines_then two more
  prints_then Unprinted two more =
      let so_far : gains_text mid (rounds_text (number + length one) more.earlier)
      ≡ gains_text text (rounds_text number (one ++ more.earlier))
      = ap (λ (t : Option (List ℕ)). gains_text t (rounds_text (number + length one) more.earlier)) printed
      ∙ gains_more text (rounds_text number one) (rounds_text (number + length one) more.earlier)
      ∙ ap (gains_text text) (sym (texts_join number one more.earlier)) in
      let place : number + length one + length more.earlier ≡ number + length (one ++ more.earlier)
      = omega (arith, length-append one more.earlier) in
      record {
        earlier = one ++ more.earlier;
        last = more.last;
        split = ap (λ (rounds : List Round). one ++ rounds) more.split
            ∙ sym (append_assoc one more.earlier (more.last ∷ []));
        front = subst (λ (n : ℕ). GainsFront (gains_text text (rounds_text number (one ++ more.earlier))) after
            (round_text n more.last)) place
            (subst (λ (t : Option (List ℕ)). GainsFront t after
            (round_text (number + length one + length more.earlier) more.last)) so_far more.front);
      }

-- ---- what the rounds tell

tells_then : (first second : Seen) → Meets first second → ObjectsGoOn first → (one two : List Round)
    → TellsRounds first one → (ending : Ending) → Whole ending (TellsRounds second two)
    → Whole ending (TellsRounds (joined first second) (one ++ two))
tells_then first second meets on one two told Finished more = record {
  names = λ before now is_before is_now.
      let mid = on.store.told before is_before in
      names_then first.asked one two before mid.0 now (told.names before mid.0 is_before mid.1)
      (subst (λ (a : Asked). MaintainsNames a two mid.0 now) meets.asked
      (more.names mid.0 now (meets.store ∙ mid.1) is_now));
  passes = λ old new is_old is_new.
      let mid = on.live.told old is_old in
      passes_then second.attached_after one two old mid.0 new
      (subst (λ (at : Option Attachment). CountsPasses at one old mid.0) (sym meets.attached)
      (told.passes old mid.0 is_old mid.1)) (more.passes mid.0 new (meets.live ∙ mid.1) is_new);
}
tells_then first second meets on one two told Unprinted more = tt
tells_then first second meets on one two told Spent more = tt
tells_then first second meets on one two told Refused more = tt

-- ---- the files

keeps_then : (first second : Seen) → Meets first second → ObjectsGoOn first
    → IfStoreTells first (KeepsStanding (cut_of first.asked))
    → IfStoreTells second (KeepsStanding (cut_of second.asked))
    → IfStoreTells (joined first second) (KeepsStanding (cut_of first.asked))
keeps_then first second meets on one two before now is_before is_now =
    let mid = on.store.told before is_before in
    stands_then (cut_of first.asked) mid.0 now
    (subst (λ (a : Asked). KeepsStanding (cut_of a) mid.0 now) meets.asked
    (two mid.0 now (meets.store ∙ mid.1) is_now)) before (one before mid.0 is_before mid.1)

-- ---- both parts

-- Behind a part that ended comes another one.
pub runs_on_then : (number few count : ℕ) (from via to : Premise) (first second : Seen) (why : Why)
    → Meets first second → RunsOn number few from via first Done → RunsOn (number + few) count via to second why
    → RunsOn number (few + count) from to (joined first second) why
runs_on_then number few count from via to first second why meets one two = record {
  explained = explains_since first second meets one.goes_on one.faults why two.explained;
  goes_on = objects_then first second meets one.goes_on two.goes_on;
  faults = faults_then first second meets one.faults two.faults;
  rounds = one.rounds ++ two.rounds;
  enough = enough_then (ending_of why) few count one.rounds two.rounds one.enough two.enough;
  prints = prints_then number first.text first.text_after second.text_after one.rounds one.prints (ending_of why)
      two.rounds
      (subst (λ (t : Option (List ℕ)). Prints (ending_of why) (number + length one.rounds) t second.text_after
      two.rounds) meets.text
      (subst (λ (n : ℕ). Prints (ending_of why) (number + n) second.text second.text_after two.rounds) (sym one.enough)
      two.prints));
  tells = tells_then first second meets one.goes_on one.rounds two.rounds one.tells (ending_of why) two.tells;
  keeps = keeps_then first second meets one.goes_on one.keeps two.keeps;
  faith = λ old new settled now is_old is_new is_settled is_now log calm is_settled_to fits.
      let cut = cut_of first.asked in
      let mid = one.goes_on.live.told old is_old in
      let at = one.goes_on.store.told settled is_settled in
      let last = two.goes_on.live.told mid.0 (meets.live ∙ mid.1) in
      let end = two.goes_on.store.told at.0 (meets.store ∙ at.1) in
      let at_new : last.0 ≡ new = same_told last.0 new (sym last.1 ∙ is_new) in
      let at_now : end.0 ≡ now = same_told end.0 now (sym end.1 ∙ is_now) in
      let behind = subst (λ (r : LiveRecord). IsLater mid.0.database r.database) at_new last.2 in
      let on = subst (λ (es : List Event). IsGrown at.0 es) at_now end.3 in
      let zero : mid.0.database.chances ≡ 0 = omega (arith, calm, behind.chances) in
      let gone = one.faith old mid.0 settled at.0 is_old mid.1 is_settled at.1 log zero is_settled_to fits in
      let goes = subst (λ (a : Asked). GoesSo (ending_of why) to mid.0.database.history new.database.history (cut_of a)
      at.0 now two.rounds gone.ended) meets.asked
      (two.faith mid.0 new at.0 now (meets.live ∙ mid.1) is_new (meets.store ∙ at.1) is_now gone.ended calm
      gone.run.settles gone.fits) in
      goes_then to old.database.history mid.0.database.history new.database.history cut settled at.0 now one.rounds log
      gone.ended at.3 on mid.2.history behind.history gone.run gone.newest (ending_of why) two.rounds goes;
  sound = λ old new settled now is_old is_new is_settled is_now log calm is_settled_to fits.
      let mid = one.goes_on.live.told old is_old in
      let at = one.goes_on.store.told settled is_settled in
      let last = two.goes_on.live.told mid.0 (meets.live ∙ mid.1) in
      let at_new : last.0 ≡ new = same_told last.0 new (sym last.1 ∙ is_new) in
      let behind = subst (λ (r : LiveRecord). IsLater mid.0.database r.database) at_new last.2 in
      let zero : mid.0.database.chances ≡ 0 = omega (arith, calm, behind.chances) in
      let gone = one.faith old mid.0 settled at.0 is_old mid.1 is_settled at.1 log zero is_settled_to fits in
      two.sound mid.0 new at.0 now (meets.live ∙ mid.1) is_new (meets.store ∙ at.1) is_now gone.ended calm
      gone.run.settles gone.fits;
}

-- ---- a part that was refused

never_finished : (stop : ReplicateStop) → ending_of (why_of_stop stop) ≡ Finished → ⊥
never_finished NoDatabase e = cc
never_finished (Header fault) e = cc
never_finished (SizesDiffer db wal) e = cc
never_finished (WalTooLong size) e = cc
never_finished (TooLarge size) e = cc
never_finished (GateBroken how) e = cc
never_finished (Damaged name damage) e = cc
never_finished (PageMissing name number) e = cc
never_finished TxidSpent e = cc
never_finished Live e = cc
never_finished Store e = cc
never_finished Sink e = cc
never_finished Memory e = cc

enough_refused : (ending : Ending) → (ending ≡ Finished → ⊥) → (few count : ℕ) → few ≤ count → (rounds : List Round)
    → AreEnough ending few rounds → AreEnough ending count rounds
enough_refused Finished never few count below rounds is = absurd (never refl)
enough_refused Unprinted never few count below rounds is = omega (arith, below, is)
enough_refused Spent never few count below rounds is = omega (arith, below, is)
enough_refused Refused never few count below rounds is = omega (arith, below, is)

whole_refused : (ending : Ending) → (ending ≡ Finished → ⊥) → (P : Type 0) → Whole ending P
whole_refused Finished never P = absurd (never refl)
whole_refused Unprinted never P = tt
whole_refused Spent never P = tt
whole_refused Refused never P = tt

goes_refused : (ending : Ending) → (ending ≡ Finished → ⊥) → (to other : Premise) (old new : History) (cut : ℕ)
    (settled now : List Event) (rounds : List Round) (log : SyncLog)
    → GoesSo ending to old new cut settled now rounds log
    → GoesSo ending other old new cut settled now rounds log
goes_refused Finished never to other old new cut settled now rounds log is = absurd (never refl)
goes_refused Unprinted never to other old new cut settled now rounds log is = is
goes_refused Spent never to other old new cut settled now rounds log is = is
goes_refused Refused never to other old new cut settled now rounds log is = is

-- What a refusal leaves asks for no later place, and more rounds may have been asked for.
pub refused_alike : (number few count : ℕ) → few ≤ count → (from to other : Premise) (seen : Seen)
    (stop : ReplicateStop) → RunsOn number few from to seen (why_of_stop stop)
    → RunsOn number count from other seen (why_of_stop stop)
refused_alike number few count below from to other seen stop runs =
    let ending = ending_of (why_of_stop stop) in
    record {
      explained = runs.explained;
      goes_on = runs.goes_on;
      faults = runs.faults;
      rounds = runs.rounds;
      enough = enough_refused ending (never_finished stop) few count below runs.rounds runs.enough;
      prints = runs.prints;
      tells = whole_refused ending (never_finished stop) _;
      keeps = runs.keeps;
      faith = λ old new settled now is_old is_new is_settled is_now log calm is fits.
          goes_refused ending (never_finished stop) to other old.database.history new.database.history
          (cut_of seen.asked) settled now runs.rounds log
          (runs.faith old new settled now is_old is_new is_settled is_now log calm is fits);
      sound = runs.sound;
    }

-- a part that ended is behind every place where nothing is asked
pub anywhere : (number count : ℕ) (from to : Premise) (seen : Seen) → RunsOn number count from to seen Done
    → RunsOn number count from Anything seen Done
anywhere number count from to seen runs = record {
  explained = runs.explained;
  goes_on = runs.goes_on;
  faults = runs.faults;
  rounds = runs.rounds;
  enough = runs.enough;
  prints = runs.prints;
  tells = runs.tells;
  keeps = runs.keeps;
  faith = λ old new settled now is_old is_new is_settled is_now log calm is fits.
      let gone = runs.faith old new settled now is_old is_new is_settled is_now log calm is fits in
      record { ended = gone.ended; run = gone.run; fits = tt; newest = gone.newest };
  sound = runs.sound;
}

-- however it ended
pub anywhere_result : (number count : ℕ) (from to : Premise) (seen : Seen) (result : Result (Unit {0}) ReplicateStop)
    → RunsOn number count from to seen (why_of result) → RunsOn number count from Anything seen (why_of result)
anywhere_result number count from to seen (Ok done) runs = anywhere number count from to seen runs
anywhere_result number count from to seen (Err stop) runs =
    let same : count ≤ count = omega arith in refused_alike number count count same from to Anything seen stop runs

-- what a legal database is behind a part
pub legal_behind : (number count : ℕ) (from to : Premise) (seen : Seen) (why : Why)
    → RunsOn number count from to seen why → IfTold seen.live (λ r. IsLegal r.database)
    → IfTold seen.live_after (λ r. IsLegal r.database)
legal_behind number count from to seen why runs legal r told =
    let was = told_before seen.live seen.live_after _ runs.goes_on.live r told
    in was.2.legal (legal was.0 was.1)
