-- The files that a crash leaves, put together name by name.
use Rattle.std.proofs.Common.{◌≡◌, ◌≢◌, ℕ, ◌+◌, ◌<◌, List, [], ◌∷◌, ◌++◌, reverse, take, get_or, length, Bool, true}
use Rattle.std.proofs.Common.{false, cond, Option, Some, None, option_map, is_some, refl, ap, sym, subst, ◌∙◌}
use Rattle.std.specs.Prelude.{◌||◌, unwrap_or}
use Rattle.std.proofs.lemmas.List.{take_more, reverse-append}
use Rattle.std.specs.Option.{option_or}
use Rattle.crash_disk.specs.declared.event.Event.{Event}
use Rattle.crash_disk.specs.declared.event.Event.TheVariants.{Placed, Created, Appended, Wrote, Cut, Synced, Renamed}
use Rattle.crash_disk.specs.declared.event.Event.TheVariants.{Removed, NamesSynced}
use Rattle.crash_disk.specs.Files.{file_at, is_name}
use Rattle.crash_disk.proofs.FileLaws.{is_name-same, is_name-other, file_at-beginning, file_at-Placed-here}
use Rattle.crash_disk.proofs.FileLaws.{file_at-Placed-other}
use Rattle.crash_disk.specs.Numbers.{number_at}
use Rattle.crash_disk.proofs.NumberLaws.{by_names}
use Rattle.crash_disk.specs.Images.{ArePlaced}
use Rattle.crash_disk.specs.Remnant.{takes_names, remnant_at, bytes_left}
use Rattle.crash_disk.specs.Crash.{synced_number_at, file_left, name_given, is_given, is_ever_given}
use Rattle.crash_disk.specs.Crashed.{with_placed, TakesLeft, AreLeft}

or_left : (a b : Bool) → (a || b) ≡ false → a ≡ false
or_left true b e = e
or_left false b e = refl

or_right : (a b : Bool) → (a || b) ≡ false → b ≡ false
or_right true b e = absurd (subst (λ x. cond x (Unit {0}) ⊥) e tt)
or_right false b e = e

at_false : {A : Type 0} (b : Bool) (x y : A) → b ≡ false → cond b x y ≡ y
at_false b x y e = ap (λ c. cond c x y) e

-- at a name that no change gave there is no file
no_number : (events : List Event) (q : List ℕ) → is_ever_given events q ≡ false → number_at events q ≡ None
unfolding number_at
no_number [] q never = refl
no_number (Placed name bytes ∷ events) q never = at_false (is_name q name) (Some (length events)) (number_at events q)
    (or_left _ _ never) ∙ no_number events q (or_right (is_name q name) _ never)
no_number (Created name ∷ events) q never =
    at_false (is_name q name) (Some (unwrap_or (number_at events name) (length events))) (number_at events q)
    (or_left _ _ never) ∙ no_number events q (or_right (is_name q name) _ never)
no_number (Appended name bytes ∷ events) q never = no_number events q never
no_number (Wrote name at bytes ∷ events) q never = no_number events q never
no_number (Cut name size ∷ events) q never = no_number events q never
no_number (Synced name ∷ events) q never = no_number events q never
no_number (Renamed from to ∷ events) q never =
    at_false (is_name q to) (option_or (number_at events from) (number_at events q))
    (cond (is_name q from) None (number_at events q)) (or_left _ _ never)
    ∙ ap (cond (is_name q from) None) (no_number events q (or_right (is_name q to) _ never))
    ∙ same_none (is_name q from)
  where
    same_none : (b : Bool) → cond {A = Option ℕ} b None None ≡ None
    same_none true = refl
    same_none false = refl
no_number (Removed name ∷ events) q never = ap (cond (is_name q name) None) (no_number events q never)
    ∙ same_none (is_name q name)
  where
    same_none : (b : Bool) → cond {A = Option ℕ} b None None ≡ None
    same_none true = refl
    same_none false = refl
no_number (NamesSynced ∷ events) q never = no_number events q never

no_synced_number : (events : List Event) (q : List ℕ) → is_ever_given events q ≡ false
    → synced_number_at events q ≡ None
unfolding synced_number_at
no_synced_number [] q never = refl
no_synced_number (Placed name bytes ∷ events) q never = at_false (is_name q name) (Some (length events))
    (synced_number_at events q) (or_left _ _ never) ∙ no_synced_number events q (or_right (is_name q name) _ never)
no_synced_number (Created name ∷ events) q never = no_synced_number events q (or_right (is_name q name) _ never)
no_synced_number (Appended name bytes ∷ events) q never = no_synced_number events q never
no_synced_number (Wrote name at bytes ∷ events) q never = no_synced_number events q never
no_synced_number (Cut name size ∷ events) q never = no_synced_number events q never
no_synced_number (Synced name ∷ events) q never = no_synced_number events q never
no_synced_number (Renamed from to ∷ events) q never = no_synced_number events q (or_right (is_name q to) _ never)
no_synced_number (Removed name ∷ events) q never = no_synced_number events q never
no_synced_number (NamesSynced ∷ events) q never = no_number events q never

-- and so a crash leaves none there
no_file : (choice : ℕ) (events : List Event) (q : List ℕ) → is_ever_given events q ≡ false
    → file_left choice events q ≡ None
no_file choice events q never =
    by_choice _ (takes_names choice q) (number_at events q) (synced_number_at events q) (no_number events q never)
    (no_synced_number events q never)
  where
    by_choice : (f : ℕ → List ℕ) (b : Bool) (x y : Option ℕ) → x ≡ None → y ≡ None → option_map f (cond b x y) ≡ None
    by_choice f true x y ex ey = ap (option_map f) ex
    by_choice f false x y ex ey = ap (option_map f) ey

-- at the beginning
pub left_at_first : (choice : ℕ) (events left : List Event) → left ≡ [] → AreLeft choice events [] left
left_at_first choice events left none = record
    { placed = subst ArePlaced (sym none) tt; each = λ q. ap (λ l. file_at l q) none ∙ file_at-beginning q }

-- a change that gives no name
pub left_without : (choice : ℕ) (events so_far left : List Event) (event : Event) → name_given event ≡ None
    → AreLeft choice events so_far left → AreLeft choice events (event ∷ so_far) left
left_without choice events so_far left event none is = record {
  placed = is.placed;
  each = λ q. is.each q ∙ ap (λ (given : Option (List ℕ)). cond (is_given q given || is_ever_given so_far q)
      (file_left choice events q) None) (sym none);
}

with_placed-placed : (left : List Event) (name : List ℕ) (file : Option (List ℕ)) → ArePlaced left
    → ArePlaced (with_placed left name file)
with_placed-placed left name None placed = placed
with_placed-placed left name (Some bytes) placed = placed

taken_placed : (b : Bool) (left : List Event) (name : List ℕ) (file : Option (List ℕ)) → ArePlaced left
    → ArePlaced (cond b left (with_placed left name file))
taken_placed true left name file placed = placed
taken_placed false left name file placed = with_placed-placed left name file placed

-- at the name itself
taken_here : (old : Option (List ℕ)) (left : List Event) (name : List ℕ) (file : Option (List ℕ)) (was : Bool)
    → file_at left name ≡ old → old ≡ cond was file None
    → file_at (cond (is_some old) left (with_placed left name file)) name ≡ file
taken_here None left name None was there is = there
taken_here None left name (Some bytes) was there is = file_at-Placed-here left name bytes
taken_here (Some b) left name file true there is = there ∙ is
taken_here (Some b) left name file false there is = absurd (subst (λ o. cond (is_some o) (Unit {0}) ⊥) is tt)

taken_other : (b : Bool) (left : List Event) (name q : List ℕ) (file : Option (List ℕ)) → q ≢ name
    → file_at (cond b left (with_placed left name file)) q ≡ file_at left q
taken_other true left name q file apart = refl
taken_other false left name q None apart = refl
taken_other false left name q (Some bytes) apart = file_at-Placed-other left name bytes q apart

-- a change that gives a name
pub left_with : (choice : ℕ) (events so_far left new : List Event) (event : Event) (name : List ℕ)
    → name_given event ≡ Some name → TakesLeft choice events name left new → AreLeft choice events so_far left
    → AreLeft choice events (event ∷ so_far) new
left_with choice events so_far left new event name given takes is =
    let file = file_left choice events in
    record {
      placed = subst ArePlaced (sym takes.taken)
          (taken_placed (is_some (file_at left name)) left name (file name) is.placed);
      each = λ q. ap (λ l. file_at l q) takes.taken ∙ by_names q name
          (λ same. subst (λ x. file_at (cond (is_some (file_at left name)) left (with_placed left name (file name))) x
          ≡ cond (is_given x (name_given event) || is_ever_given so_far x) (file x) None) (sym same)
          (taken_here (file_at left name) left name (file name) (is_ever_given so_far name) refl (is.each name)
          ∙ sym (ap (λ (g : Option (List ℕ)). cond (is_given name g || is_ever_given so_far name) (file name) None)
          given ∙ ap (λ b. cond (b || is_ever_given so_far name) (file name) None) (is_name-same name))))
          (λ apart. taken_other (is_some (file_at left name)) left name q (file name) apart ∙ is.each q
          ∙ sym (ap (λ (g : Option (List ℕ)). cond (is_given q g || is_ever_given so_far q) (file q) None) given
          ∙ ap (λ b. cond (b || is_ever_given so_far q) (file q) None) (is_name-other q name apart)));
    }

-- after all changes
pub all_left : (choice : ℕ) (events left : List Event) → AreLeft choice events events left → (q : List ℕ)
    → file_at left q ≡ file_left choice events q
all_left choice events left is q = is.each q ∙ ever (is_ever_given events q) refl
  where
    ever : (b : Bool) → is_ever_given events q ≡ b → cond b (file_left choice events q) None ≡ file_left choice events q
    ever true e = refl
    ever false e = sym (no_file choice events q e)

-- one more of the changes
pub next_so_far : (events : List Event) (i : ℕ) (item : Event) → i < length events → item ≡ get_or events i item
    → reverse (take (i + 1) events) ≡ item ∷ reverse (take i events)
next_so_far events i item below is =
    ap reverse (take_more events i item below ∙ ap (λ x. take i events ++ x ∷ []) (sym is))
    ∙ reverse-append (take i events) (item ∷ [])
