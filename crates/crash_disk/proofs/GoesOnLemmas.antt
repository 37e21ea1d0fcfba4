-- How parts of a run of a disk are joined.
use Rattle.std.proofs.Common.{◌≡◌, List, [], ◌∷◌, ◌++◌, append_assoc, Option, Some, None, refl, sym, ap, subst, ◌∙◌}
use Rattle.std.proofs.Common.{inl, inr}
use Rattle.std.specs.Prelude.{option_map}
use Rattle.crash_disk.specs.declared.event.Event.{Event}
use Rattle.crash_disk.specs.Told.{Told, gains, IfTold, GainsOrNot}
use Rattle.crash_disk.specs.GoesOn.{GoesOn, IsGrown}

-- a record grew by nothing
pub grown_same : (events : List Event) → IsGrown events events
grown_same events = record { more = []; is = refl }

-- by one change
pub grown_by : (event : Event) (events : List Event) → IsGrown events (event ∷ events)
grown_by event events = record { more = event ∷ []; is = refl }

-- and by some, and then by more
pub grown_then : (a b c : List Event) → IsGrown a b → IsGrown b c → IsGrown a c
grown_then a b c first second = record {
  more = second.more ++ first.more;
  is = second.is ∙ ap (λ events. second.more ++ events) first.is ∙ sym (append_assoc second.more first.more a);
}

-- one more change
pub goes_on-gains : (old new : Told) (event : Event) (P : List Event → List Event → Type 0) → new ≡ gains old event
    → ((events : List Event) → P events (event ∷ events)) → GoesOn old new P
goes_on-gains old new event P is holds = record {
  told = λ events told. (
    event ∷ events,
    is ∙ ap (option_map (λ es. event ∷ es)) told,
    holds events,
    grown_by event
        events,
  );
  silent = λ silent. is ∙ ap (option_map (λ es. event ∷ es)) silent;
}

-- no change
pub goes_on-same : (old new : Told) (P : List Event → List Event → Type 0) → new ≡ old
    → ((events : List Event) → P events events) → GoesOn old new P
goes_on-same old new P is holds = record
    { told = λ events told. (events, is ∙ told, holds events, grown_same events); silent = λ silent. is ∙ silent }

-- a change that took place or didn't
pub goes_on-either : (old new : Told) (event : Event) (P : List Event → List Event → Type 0)
    → GainsOrNot old new event → ((events : List Event) → P events events)
    → ((events : List Event) → P events (event ∷ events)) → GoesOn old new P
goes_on-either old new event P (inl same) kept holds = goes_on-same old new P same kept
goes_on-either old new event P (inr is) kept holds = goes_on-gains old new event P is holds

-- one part of a run, and then another
pub goes_on-then : (a b c : Told) (P Q R : List Event → List Event → Type 0) → GoesOn a b P → GoesOn b c Q
    → ((x y z : List Event) → P x y → Q y z → R x z) → GoesOn a c R
goes_on-then a b c P Q R first second joins = record {
  told = λ events told.
      let f = first.told events told in
      let s = second.told f.0 f.1 in
      (s.0, s.1, joins events f.0 s.0 f.2 s.2, grown_then events f.0 s.0 f.3 s.3);
  silent = λ silent. second.silent (first.silent silent);
}

-- the same where what is joined needs that the record grew
pub goes_on-then_grown : (a b c : Told) (P Q R : List Event → List Event → Type 0) → GoesOn a b P → GoesOn b c Q
    → ((x y z : List Event) → IsGrown x y → IsGrown y z → P x y → Q y z → R x z) → GoesOn a c R
goes_on-then_grown a b c P Q R first second joins = record {
  told = λ events told.
      let f = first.told events told in
      let s = second.told f.0 f.1 in
      (s.0, s.1, joins events f.0 s.0 f.3 s.3 f.2 s.2, grown_then events f.0 s.0 f.3 s.3);
  silent = λ silent. second.silent (first.silent silent);
}

pub goes_on-weaker : (old new : Told) (P Q : List Event → List Event → Type 0) → GoesOn old new P
    → ((x y : List Event) → P x y → Q x y) → GoesOn old new Q
goes_on-weaker old new P Q goes implies = record {
  told = λ events told. let g = goes.told events told in (g.0, g.1, implies events g.0 g.2, g.3);
  silent = goes.silent;
}

none_is_some : (events : List Event) → ◌≡◌ {A = Told} None (Some events) → ⊥
none_is_some events e = cc

some_same : (a b : List Event) → ◌≡◌ {A = Told} (Some a) (Some b) → a ≡ b
some_same a b e = cc

-- what holds of the record now, where the run so far says it
pub told_now : (old new : Told) (P : List Event → List Event → Type 0) (Q : List Event → Type 0) → GoesOn old new P
    → ((x y : List Event) → P x y → Q y) → IfTold new Q
told_now None new P Q goes implies events told = absurd (none_is_some events (sym (goes.silent refl) ∙ told))
told_now (Some before) new P Q goes implies events told =
    let went = goes.told before refl in
    subst Q (some_same went.0 events (sym went.1 ∙ told)) (implies before went.0 went.2)
