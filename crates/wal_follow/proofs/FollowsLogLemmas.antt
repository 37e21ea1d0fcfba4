-- What a follower of a live database comes to once its log is gathered.
use Rattle.std.proofs.Common.{◌≡◌, ℕ, ◌≤◌, false, List, length, take, Option, Some, None, Result, Ok, Err, refl, sym}
use Rattle.std.proofs.Common.{ap, subst, ◌∙◌, inl, inr, arith, length-append}
use Rattle.std.proofs.lemmas.Bool.{cases_eq}
use Rattle.ls_base.specs.declared.mark.Mark.{Mark}
use Rattle.ls_base.specs.Limits.{log_limit}
use Rattle.live_gate.specs.LiveRecord.{Asked, LiveRecord, IsPrefix}
use Rattle.live_gate.specs.Legal.{IsLegal}
use Rattle.live_gate.specs.Step.{IsWriterStep}
use Rattle.live_gate.proofs.StepLemmas.{step_join}
use Rattle.wal_follow.specs.declared.answer.Next.{Next}
use Rattle.wal_follow.specs.declared.fault.FollowFault.{FollowFault}
use Rattle.wal_follow.specs.declared.fault.FollowFault.TheVariants.{Header, SizesDiffer, WalTooLong, TooLarge}
use Rattle.wal_follow.specs.declared.fault.FollowFault.TheVariants.{GateBroken, Live, Memory}
use Rattle.wal_follow.specs.declared.following.Following.{Following}
use Rattle.wal_follow.specs.declared.gather.Gathered.{Gathered}
use Rattle.wal_follow.specs.Answers.{SaysSize, FindsRest, Answers, AnswersInOrder, IsReadBehind}
use Rattle.wal_follow.specs.Asks.{AsksHeader, AsksLength}
use Rattle.wal_follow.specs.AtMark.{FollowsMark}
use Rattle.wal_follow.specs.AtRest.{AnswersAtRest}
use Rattle.wal_follow.specs.Calls.{Follows}
use Rattle.wal_follow.specs.Following.{Fits}
use Rattle.wal_follow.specs.Gathers.{IsGatherAnswer}
use Rattle.wal_follow.specs.LogGathering.{GathersNone, MayGather, Gathers}
use Rattle.wal_follow.specs.Steps.{IsMarkAnswer, IsRestAnswer}
use Rattle.wal_follow.proofs.AtRestLemmas.{fits_same}
use Rattle.wal_follow.proofs.FollowsLemmas.{forgotten, known_forgotten, fits_forgotten, answers_same, some_number}
use Rattle.wal_follow.proofs.FollowsLemmas.{in_order, mark_header, mark_length, rest_header, rest_length}
use Rattle.wal_follow.proofs.ReadLemmas.{keeps_hold, still_gated}

module _ (f : Following) (size n : ℕ) (old first mid : LiveRecord) (fits : Fits f old.database)
    (head : AsksHeader (Ok size) old first) (len : AsksLength (Ok n) first mid) where
  step_mid : IsWriterStep old.database mid.database
  step_mid = step_join old.database first.database mid.database head.step len.step

  awake_mid : mid.database.stopped ≡ false
  awake_mid = len.awake refl

  grown_mid : IsPrefix old.database.committed mid.database.committed
  grown_mid = (keeps_hold old.database mid.database fits.gate step_mid awake_mid).committed

  may : MayGather n (forgotten f) old.database mid.database
  may =
      let fits_mid = fits_same f (forgotten f) old.database mid.database (known_forgotten f) refl step_mid fits
      awake_mid in
      record {
        was = record {
          gate = fits_mid.gate;
          grown = grown_mid;
          long = omega (
            arith,
            len.bound,
            ap length grown_mid.is,
            length-append old.database.committed
                grown_mid.rest,
          );
        };
        long = len.bound;
        fits = fits_mid;
      }

  taken_mid : mid.asked.taken ≡ old.asked.taken
  taken_mid = ap (λ (a : Asked). a.taken) len.said ∙ ap (λ (a : Asked). a.taken) head.head.1

  module _ (g : Following) (gathered : Result (Option Gathered) FollowFault) (last : LiveRecord)
      (gathers : Gathers n (forgotten f) g gathered mid last) where
    step_last : IsWriterStep old.database last.database
    step_last = step_join old.database mid.database last.database step_mid gathers.step

    head_last : last.asked.head ≡ Some (take 100 first.database.file)
    head_last = gathers.asked.head ∙ ap (λ (a : Asked). a.head) len.said ∙ ap (λ (a : Asked). a.head) head.head.1

    size_last : last.asked.wal_size ≡ Some n
    size_last = gathers.asked.wal_size ∙ ap (λ (a : Asked). a.wal_size) len.said

    passes_last : (last.asked.passes_asked ≡ old.asked.passes_asked) × (last.asked.passes_done ≡ old.asked.passes_done)
    passes_last = (
      gathers.asked.passes_asked ∙ ap (λ (a : Asked). a.passes_asked) len.said
          ∙ ap (λ (a : Asked). a.passes_asked) head.head.1,
      gathers.asked.passes_done ∙ ap (λ (a : Asked). a.passes_done) len.said
          ∙ ap (λ (a : Asked). a.passes_done) head.head.1,
    )

    behind_last : last.database.chances ≡ 0 → IsReadBehind f old last
    behind_last calm a b end s0 s1 k recorded passed at is =
        let same : n ≡ k = some_number (sym size_last ∙ is) in
        omega (arith, same, gathers.behind old.database may calm a b end s0 s1 recorded passed at, taken_mid)

    -- nothing could be gathered
    gather_answers : (fault : FollowFault) → IsGatherAnswer g (Err fault) → Answers f (Err fault) old.database
        last.database
    gather_answers (Live fault) is = tt
    gather_answers Memory is = tt
    gather_answers (Header fault) is = absurd is
    gather_answers (WalTooLong m) is = absurd is
    gather_answers (SizesDiffer db wal) is = absurd is
    gather_answers (TooLarge m) is = absurd is
    gather_answers (GateBroken broken) is = absurd is

    gather_order : (fault : FollowFault) → IsGatherAnswer g (Err fault) → AnswersInOrder (Err fault) last
    gather_order (Live fault) is = record { header = λ b given. tt; length = λ m given. tt }
    gather_order Memory is = record { header = λ b given. tt; length = λ m given. tt }
    gather_order (Header fault) is = absurd is
    gather_order (WalTooLong m) is = absurd is
    gather_order (SizesDiffer db wal) is = absurd is
    gather_order (TooLarge m) is = absurd is
    gather_order (GateBroken broken) is = absurd is

    pub follows_ungathered : (result : Result Next FollowFault) (fault : FollowFault) → result ≡ Err fault
        → IsGatherAnswer g (Err fault) → Follows f g result old last
    follows_ungathered result fault is answer =
        subst (λ (r : Result Next FollowFault). Follows f g r old last) (sym is) (record {
          step = step_last;
          awake = λ ok. absurd cc;
          answers = λ legal calm. gather_answers fault answer;
          order = gather_order fault answer;
          behind = behind_last;
          fits = λ legal awake. gathers.fits old.database may refl awake;
          passes = passes_last;
        })

  -- ---- the log has a mark

  module _ (g : Following) (d : Gathered) (last : LiveRecord)
      (gathers : Gathers n (forgotten f) g (Ok (Some d)) mid last) (after : Following)
      (result : Result Next FollowFault) (follows : FollowsMark g after d result) (answer : IsMarkAnswer size result)
      (limit : n ≤ log_limit) where
    step_mark : IsWriterStep old.database last.database
    step_mark = step_last g (Ok (Some d)) last gathers

    pub follows_mark : Follows f after result old last
    follows_mark = record {
      step = step_mark;
      awake = λ ok. gathers.awake refl;
      answers = λ legal calm.
          answers_same (forgotten f) f refl refl refl old.database last.database result
          ((follows (forgotten f) old.database last.database (gathers.found old.database may calm)).answers legal
          step_mark (fits_forgotten f old.database fits) calm);
      order = in_order result last (take 100 first.database.file) n (head_last g (Ok (Some d)) last gathers)
          (size_last g (Ok (Some d)) last gathers)
          (mark_header size first.database.file head.head.0 n limit result answer)
          (mark_length size first.database.file head.head.0 n limit result answer);
      behind = behind_last g (Ok (Some d)) last gathers;
      fits = λ legal awake. record {
        gate = still_gated old.database last.database fits.gate step_mark awake;
        calm = λ calm.
            ((follows (forgotten f) old.database last.database (gathers.found old.database may calm)).fits legal
            step_mark (fits_forgotten f old.database fits) awake).calm calm;
      };
      passes = passes_last g (Ok (Some d)) last gathers;
    }

  -- ---- it has none

  module _ (g : Following) (last new : LiveRecord) (gathers : Gathers n (forgotten f) g (Ok None) mid last)
      (only : g ≡ record (forgotten f) { scan = g.scan; newer = g.newer; fresh = g.fresh }) (after : Following)
      (result : Result Next FollowFault) (rests : AnswersAtRest size g after result last new)
      (answer : IsRestAnswer result) (limit : n ≤ log_limit) where
    awake_rest : last.database.stopped ≡ false
    awake_rest = gathers.awake refl

    step_rest : IsWriterStep old.database last.database
    step_rest = step_last g (Ok None) last gathers

    step_new : IsWriterStep old.database new.database
    step_new = step_join old.database last.database new.database step_rest rests.step

    module _ (legal : IsLegal old.database) (calm : last.database.chances ≡ 0) where
      nothing : GathersNone g old.database
      nothing = gathers.found old.database may calm

      no_end : fits.gate.0 ≡ 0
      no_end = elim (cases_eq fits.gate.0 0) [
        | inl none ↦ none
        | inr some ↦
            let at = ((legal.is_held fits.gate.0 fits.gate.1).at_mark some).0 in
            let among = at.1 in
            absurd (omega (arith, among.1, ap (λ (ms : List Mark). length ms) nothing.none))
      ]

      held_old : old.database.held ≡ Some 0
      held_old = fits.gate.1 ∙ ap (λ (k : ℕ). Some k) no_end

      held_first : first.database.held ≡ Some 0
      held_first = (keeps_hold old.database first.database (0, held_old) head.step (head.awake refl)).held

      finds : FindsRest old.database last.database size
      finds =
          let keeps = keeps_hold first.database last.database (0, held_first) (step_join first.database mid.database
          last.database len.step gathers.step) awake_rest in
          record {
            none = nothing.none;
            held = keeps.held;
            says = subst (λ (file : List ℕ). SaysSize file size) (sym (keeps.file refl)) head.head.0;
          }

    calm_last : new.database.chances ≡ 0 → last.database.chances ≡ 0
    calm_last calm = omega (arith, calm, rests.step.chances)

    pub follows_rest : Follows f after result old new
    follows_rest = record {
      step = step_new;
      awake = rests.awake;
      answers = λ legal calm.
          answers_same g f (ap (λ (k : Following). k.place) only) (ap (λ (k : Following). k.passed) only)
          (ap (λ (k : Following). k.pages) only) old.database new.database result
          (rests.answers old.database (finds legal (calm_last calm)));
      order = in_order result new (take 100 first.database.file) n
          (rests.asked.head ∙ head_last g (Ok None) last gathers)
          (rests.asked.wal_size ∙ size_last g (Ok None) last gathers)
          (rest_header size first.database.file head.head.0 n limit result answer)
          (rest_length size first.database.file head.head.0 n limit result answer);
      behind = λ calm a b end s0 s1 k recorded passed at is.
          omega (
            arith,
            rests.asked.taken,
            behind_last g (Ok None) last gathers (calm_last calm) a b end s0 s1 k recorded passed at
                (sym rests.asked.wal_size ∙ is),
          );
      fits = λ legal awake. record {
        gate = still_gated old.database new.database fits.gate step_new awake;
        calm = λ calm.
            let none = nothing legal (calm_last calm) in
            (rests.fits old.database (finds legal (calm_last calm)) (record {
              fresh = none.fresh;
              empty = none.empty;
              found = ap (λ (k : Following). k.found) only;
            }) (gathers.fits old.database may refl awake_rest) awake).calm calm;
      };
      passes = (
        rests.asked.passes_asked
            ∙ (passes_last g (Ok None) last gathers).0,
        rests.asked.passes_done
            ∙ (passes_last g (Ok None) last gathers).1,
      );
    }
