-- What the newest change does to numbers and to a file that is made anew.
use Rattle.std.proofs.Common.{◌≡◌, ◌⊎◌, inl, inr, arith, ℕ, List, [], ◌∷◌, ◌++◌, reverse, length, eqb, Bool, cond}
use Rattle.std.proofs.Common.{Option, Some, None, refl, ap, sym, subst, ◌∙◌}
use Rattle.std.specs.Prelude.{unwrap_or}
use Rattle.std.specs.Option.{option_or}
use Rattle.std.proofs.lemmas.List.{reverse-append, length-reverse}
use Rattle.crash_disk.specs.declared.event.Event.{Event}
use Rattle.crash_disk.specs.declared.event.Event.TheVariants.{Placed, Created, Appended, Wrote, Cut, Synced, Renamed}
use Rattle.crash_disk.specs.declared.event.Event.TheVariants.{Removed, NamesSynced}
use Rattle.crash_disk.specs.Files.{is_name}
use Rattle.crash_disk.specs.FileState.{FileState, synced_file, appended, written, resized}
use Rattle.crash_disk.specs.Numbers.{number_at, file_of, is_number}
use Rattle.crash_disk.specs.Crash.{synced_number_at}

-- a record whose last change is this one
pub newest_last : {A : Type 0} (f : List Event → A) (events before : List Event) (newest event : Event) (x : A)
    → events ≡ before ++ newest ∷ [] → newest ≡ event → x ≡ f (event ∷ reverse before) → x ≡ f (reverse events)
newest_last f events before newest event x last is value =
    value ∙ ap (λ e. f (e ∷ reverse before)) (sym is)
    ∙ sym (ap f (ap reverse last ∙ reverse-append before (newest ∷ [])))

pub none_last : {A : Type 0} (f : List Event → A) (events : List Event) (x : A) → events ≡ [] → x ≡ f []
    → x ≡ f (reverse events)
none_last f events x none value = value ∙ ap (λ e. f (reverse e)) (sym none)

module _ (before : List Event) (q name : List ℕ) (test : Bool) (is : test ≡ is_name q name) where
  pub number-Placed : (bytes : List ℕ) → cond test (Some (length before)) (number_at (reverse before) q) ≡ number_at
      (Placed name bytes ∷ reverse before) q
  unfolding number_at
  number-Placed bytes = ap (λ b. cond b (Some (length before)) (number_at (reverse before) q)) is
      ∙ ap (λ n. cond (is_name q name) (Some n) (number_at (reverse before) q)) (sym (length-reverse before))

  pub synced-Placed : (bytes : List ℕ) → cond test (Some (length before)) (synced_number_at (reverse before) q)
      ≡ synced_number_at (Placed name bytes ∷ reverse before) q
  unfolding synced_number_at
  synced-Placed bytes = ap (λ b. cond b (Some (length before)) (synced_number_at (reverse before) q)) is
      ∙ ap (λ n. cond (is_name q name) (Some n) (synced_number_at (reverse before) q)) (sym (length-reverse before))

  pub number-Created : (there : Option ℕ) → there ≡ number_at (reverse before) name
      → cond test (Some (unwrap_or there (length before))) (number_at (reverse before) q) ≡ number_at
      (Created name ∷ reverse before) q
  unfolding number_at
  number-Created there found =
      ap (λ b. cond b (Some (unwrap_or there (length before))) (number_at (reverse before) q)) is
      ∙ ap (λ t. cond (is_name q name) (Some (unwrap_or t (length before))) (number_at (reverse before) q)) found
      ∙ ap (λ n. cond (is_name q name) (Some (unwrap_or (number_at (reverse before) name) n))
      (number_at (reverse before) q)) (sym (length-reverse before))

  pub number-Removed : cond test None (number_at (reverse before) q) ≡ number_at (Removed name ∷ reverse before) q
  unfolding number_at
  number-Removed = ap (λ b. cond b None (number_at (reverse before) q)) is

pub number-Renamed : (before : List Event) (q from to : List ℕ) (at-to at-from : Bool) → at-to ≡ is_name q to
    → at-from ≡ is_name q from
    → cond at-to (option_or (number_at (reverse before) from) (number_at (reverse before) q))
    (cond at-from None (number_at (reverse before) q)) ≡ number_at (Renamed from to ∷ reverse before) q
unfolding number_at
number-Renamed before q from to at-to at-from is-to is-from =
    let old = number_at (reverse before) in
    ap (λ b. cond b (option_or (old from) (old q)) (cond at-from None (old q))) is-to
    ∙ ap (λ b. cond (is_name q to) (option_or (old from) (old q)) (cond b None (old q))) is-from

pub no_events : (events : List Event) → length events ≡ 0 → events ≡ []
no_events [] none = refl
no_events (event ∷ events) none = absurd (omega arith)

-- a change of no name leaves the numbers
pub number-kept : (e : Event) (before : List Event) (q : List ℕ)
    → ((x : List ℕ) × (y : List ℕ) × (e ≡ Appended x y)) ⊎
    (((x : List ℕ) × (at : ℕ) × (y : List ℕ) × (e ≡ Wrote x at y))
    ⊎ (((x : List ℕ) × (n : ℕ) × (e ≡ Cut x n)) ⊎ (((x : List ℕ) × (e ≡ Synced x)) ⊎ (e ≡ NamesSynced))))
    → number_at (reverse before) q ≡ number_at (e ∷ reverse before) q
unfolding number_at
number-kept e before q (inl h) = ap (λ x. number_at (x ∷ reverse before) q) (sym h.2)
number-kept e before q (inr (inl h)) = ap (λ x. number_at (x ∷ reverse before) q) (sym h.3)
number-kept e before q (inr (inr (inl h))) = ap (λ x. number_at (x ∷ reverse before) q) (sym h.2)
number-kept e before q (inr (inr (inr (inl h)))) = ap (λ x. number_at (x ∷ reverse before) q) (sym h.1)
number-kept e before q (inr (inr (inr (inr h)))) = ap (λ x. number_at (x ∷ reverse before) q) (sym h)

-- a change that syncs no name leaves the numbers of that sync
pub synced-kept : (e : Event) (before : List Event) (q : List ℕ) → ((x y : List ℕ) → e ≡ Placed x y → ⊥)
    → (e ≡ NamesSynced → ⊥) → synced_number_at (reverse before) q ≡ synced_number_at (e ∷ reverse before) q
unfolding synced_number_at
synced-kept (Placed x y) before q placed names = absurd (placed x y refl)
synced-kept (Created x) before q placed names = refl
synced-kept (Appended x y) before q placed names = refl
synced-kept (Wrote x at y) before q placed names = refl
synced-kept (Cut x n) before q placed names = refl
synced-kept (Synced x) before q placed names = refl
synced-kept (Renamed x y) before q placed names = refl
synced-kept (Removed x) before q placed names = refl
synced-kept NamesSynced before q placed names = absurd (names refl)

-- a file after one more change: changed where its number stands at the name
module _ (before : List Event) (number : ℕ) (file new : FileState) (so_far : file ≡ file_of (reverse before) number)
  where
    made : (event : Event) (there : Option ℕ) (f : FileState → FileState) (test : Bool)
        → file_of (event ∷ reverse before) number ≡ cond (is_number number there) (f (file_of (reverse before) number))
        (file_of (reverse before) number)
        → test ≡ is_number number there → new ≡ cond test (f file) file → new ≡ file_of (event ∷ reverse before) number
    made event there f test change test-is is =
        is ∙ ap (λ x. cond test (f x) x) so_far
        ∙ ap (λ t. cond t (f (file_of (reverse before) number)) (file_of (reverse before) number)) test-is ∙ sym change

    pub made-Created : (name : List ℕ) (test : Bool) → test ≡ is_number number (number_at (reverse before) name)
        → new ≡ cond test (resized 0 file) file → new ≡ file_of (Created name ∷ reverse before) number
    unfolding file_of
    made-Created name test = made (Created name) (number_at (reverse before) name) (resized 0) test refl

    pub made-Appended : (name more : List ℕ) (test : Bool) → test ≡ is_number number (number_at (reverse before) name)
        → new ≡ cond test (appended more file) file → new ≡ file_of (Appended name more ∷ reverse before) number
    unfolding file_of
    made-Appended name more test = made (Appended name more) (number_at (reverse before) name) (appended more) test refl

    pub made-Wrote : (name : List ℕ) (at : ℕ) (more : List ℕ) (test : Bool)
        → test ≡ is_number number (number_at (reverse before) name)
        → new ≡ cond test (written at more file) file → new ≡ file_of (Wrote name at more ∷ reverse before) number
    unfolding file_of
    made-Wrote name at more test = made (Wrote name at more) (number_at (reverse before) name) (written at more) test refl

    pub made-Cut : (name : List ℕ) (size : ℕ) (test : Bool) → test ≡ is_number number (number_at (reverse before) name)
        → new ≡ cond test (resized size file) file → new ≡ file_of (Cut name size ∷ reverse before) number
    unfolding file_of
    made-Cut name size test = made (Cut name size) (number_at (reverse before) name) (resized size) test refl

    pub made-Synced : (name : List ℕ) (test : Bool) → test ≡ is_number number (number_at (reverse before) name)
        → new ≡ cond test (synced_file file.bytes) file → new ≡ file_of (Synced name ∷ reverse before) number
    unfolding file_of
    made-Synced name test = made (Synced name) (number_at (reverse before) name) (λ f. synced_file f.bytes) test refl

    pub made-Placed : (name bytes : List ℕ) (test : Bool) → test ≡ eqb number (length before)
        → new ≡ cond test (synced_file bytes) file → new ≡ file_of (Placed name bytes ∷ reverse before) number
    unfolding file_of
    made-Placed name bytes test test-is is =
        is ∙ ap (λ x. cond test (synced_file bytes) x) so_far
        ∙ ap (λ t. cond t (synced_file bytes) (file_of (reverse before) number))
        (test-is ∙ ap (eqb number) (sym (length-reverse before)))

    pub made-kept : (e : Event)
        → ((x : List ℕ) × (y : List ℕ) × (e ≡ Renamed x y)) ⊎ (((x : List ℕ) × (e ≡ Removed x)) ⊎ (e ≡ NamesSynced))
        → new ≡ file → new ≡ file_of (e ∷ reverse before) number
    unfolding file_of
    made-kept e (inl h) is = is ∙ so_far ∙ ap (λ x. file_of (x ∷ reverse before) number) (sym h.2)
    made-kept e (inr (inl h)) is = is ∙ so_far ∙ ap (λ x. file_of (x ∷ reverse before) number) (sym h.1)
    made-kept e (inr (inr h)) is = is ∙ so_far ∙ ap (λ x. file_of (x ∷ reverse before) number) (sym h)
