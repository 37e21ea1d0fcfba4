-- What a crash may leave after one more change.
use Rattle.std.proofs.Common.{◌≡◌, ◌≢◌, ℕ, suc, ◌<◌, inl, inr, ⊎_elim, List, [], ◌∷◌, length, Bool, true, false, cond}
use Rattle.std.proofs.Common.{Option, Some, None, IfSome, refl, ap, subst, ◌∙◌, arith}
use Rattle.std.proofs.lemmas.Option.{none-some}
use Rattle.std.specs.Prelude.{◌||◌}
use Rattle.crash_disk.specs.declared.event.Event.{Event}
use Rattle.crash_disk.specs.declared.event.Event.TheVariants.{Placed, Created, Appended, Wrote, Cut, Synced, Renamed}
use Rattle.crash_disk.specs.declared.event.Event.TheVariants.{Removed, NamesSynced}
use Rattle.crash_disk.specs.Files.{is_name}
use Rattle.crash_disk.proofs.FileLaws.{is_name-same, is_name-other, at_other}
use Rattle.crash_disk.specs.FileState.{SomeOf, IsFileImage}
use Rattle.crash_disk.specs.Numbers.{number_at, numbers_at, file_of}
use Rattle.crash_disk.proofs.NumberLaws.{number_at-below}
use Rattle.crash_disk.proofs.DistinctNumbers.{same_number}
use Rattle.crash_disk.specs.Images.{IsImageOf, MayStandAt}
use Rattle.crash_disk.proofs.ImageLaws.{numbers_at-now}

-- one of them has P, and each that has P has Q
pub SomeOf-weaken : {A : Type 0} (P Q : A → Type 0) (xs : List A) → ((x : A) → SomeOf (λ y. y ≡ x) xs → P x → Q x)
    → SomeOf P xs → SomeOf Q xs
SomeOf-weaken P Q [] f some = some
SomeOf-weaken P Q (x ∷ xs) f (inl p) = inl (f x (inl refl) p)
SomeOf-weaken P Q (x ∷ xs) f (inr some) = inr (SomeOf-weaken P Q xs (λ y there. f y (inr there)) some)

-- one of them has P, and then R follows
pub SomeOf-elim : {A : Type 0} (P : A → Type 0) (R : Type 0) (xs : List A)
    → ((x : A) → SomeOf (λ y. y ≡ x) xs → P x → R) → SomeOf P xs → R
SomeOf-elim P R [] f some = absurd some
SomeOf-elim P R (x ∷ xs) f (inl p) = f x (inl refl) p
SomeOf-elim P R (x ∷ xs) f (inr some) = SomeOf-elim P R xs (λ y there. f y (inr there)) some

either_list : {A : Type 0} (P : A → Type 0) (R : Type 0) (b : Bool) (xs ys : List A) → (SomeOf P xs → R)
    → (SomeOf P ys → R) → SomeOf P (cond b xs ys) → R
either_list P R true xs ys f g some = f some
either_list P R false xs ys f g some = g some

-- a number that stands at a name is below the length of the record
pub number_below : (events : List Event) (q : List ℕ) (n : ℕ) → number_at events q ≡ Some n → n < length events
number_below events q n there = subst (λ number. IfSome number (λ k. k < length events)) there
    (number_at-below events q)

module _ (n : ℕ) where
  abbrev IsN : Option ℕ → Type 0
  IsN number = number ≡ Some n

  new_or_old : (m : ℕ) (x : Option ℕ) (ys : List (Option ℕ)) → (x ≡ Some n → n < suc m) → (SomeOf IsN ys → n < m)
      → SomeOf IsN (x ∷ ys) → n < suc m
  new_or_old m x ys f g (inl is) = f is
  new_or_old m x ys f g (inr some) = let old : n < m = g some in omega arith

  -- and so is one that stood there since the names were synced
  pub numbers_below : (events : List Event) (q : List ℕ) → SomeOf (λ number. number ≡ Some n) (numbers_at events q)
      → n < length events
  unfolding numbers_at
  numbers_below [] q some = ⊎_elim (λ is. absurd (none-some n is)) (λ none. absurd none) some
  numbers_below (Placed name bytes ∷ events) q some =
      either_list IsN (n < suc (length events)) (is_name q name) (Some (length events) ∷ []) (numbers_at events q)
      (λ here. ⊎_elim (λ is. let same : length events ≡ n = same_number (length events) n is in omega arith)
      (λ none. absurd none) here)
      (λ old. let below : n < length events = numbers_below events q old in omega arith) some
  numbers_below (Created name ∷ events) q some =
      either_list IsN (n < suc (length events)) (is_name q name) _ (numbers_at events q)
      (new_or_old (length events) (number_at (Created name ∷ events) q) (numbers_at events q)
      (number_below (Created name ∷ events) q n) (numbers_below events q))
      (λ old. let below : n < length events = numbers_below events q old in omega arith) some
  numbers_below (Appended name bytes ∷ events) q some = let below : n < length events = numbers_below events q some in
      omega arith
  numbers_below (Wrote name at bytes ∷ events) q some = let below : n < length events = numbers_below events q some in
      omega arith
  numbers_below (Cut name size ∷ events) q some = let below : n < length events = numbers_below events q some in omega
      arith
  numbers_below (Synced name ∷ events) q some = let below : n < length events = numbers_below events q some in omega
      arith
  numbers_below (Renamed from to ∷ events) q some =
      either_list IsN (n < suc (length events)) (is_name q to || is_name q from) _ (numbers_at events q)
      (new_or_old (length events) (number_at (Renamed from to ∷ events) q) (numbers_at events q)
      (number_below (Renamed from to ∷ events) q n) (numbers_below events q))
      (λ old. let below : n < length events = numbers_below events q old in omega arith) some
  numbers_below (Removed name ∷ events) q some =
      either_list IsN (n < suc (length events)) (is_name q name) _ (numbers_at events q)
      (new_or_old (length events) None (numbers_at events q) (λ is. absurd (none-some n is)) (numbers_below events q))
      (λ old. let below : n < length events = numbers_below events q old in omega arith) some
  numbers_below (NamesSynced ∷ events) q some = ⊎_elim
      (λ is. let below : n < length events = number_below events q n is in omega arith) (λ none. absurd none) some

-- an image of a number is one of another record whose file of it is the same
pub same_image : (events base : List Event) (number : Option ℕ) (file : Option (List ℕ))
    → ((n : ℕ) → number ≡ Some n → file_of events n ≡ file_of base n) → IsImageOf events number file
    → IsImageOf base number file
same_image events base None None same is = is
same_image events base None (Some bytes) same is = is
same_image events base (Some n) None same is = is
same_image events base (Some n) (Some bytes) same is = subst (λ f. IsFileImage f bytes) (same n refl) is

module _ (events : List Event) where
  -- at a name that the change doesn't speak of
  pub numbers_at-Placed-other : (name bytes q : List ℕ) → q ≢ name
      → numbers_at (Placed name bytes ∷ events) q ≡ numbers_at events q
  unfolding numbers_at
  numbers_at-Placed-other name bytes q apart = at_other q name _ _ apart

  pub numbers_at-Created-other : (name q : List ℕ) → q ≢ name
      → numbers_at (Created name ∷ events) q ≡ numbers_at events q
  unfolding numbers_at
  numbers_at-Created-other name q apart = at_other q name _ _ apart

  pub numbers_at-Renamed-other : (from to q : List ℕ) → q ≢ from → q ≢ to
      → numbers_at (Renamed from to ∷ events) q ≡ numbers_at events q
  unfolding numbers_at
  numbers_at-Renamed-other from to q apart-from apart-to =
      let both : (is_name q to || is_name q from) ≡ false = ap (λ b. b || is_name q from)
      (is_name-other q to apart-to) ∙ is_name-other q from apart-from in
      ap (λ b. cond b (number_at (Renamed from to ∷ events) q ∷ numbers_at events q) (numbers_at events q)) both

  pub numbers_at-Renamed-to : (from to : List ℕ) → numbers_at (Renamed from to ∷ events) to ≡ number_at
      (Renamed from to ∷ events) to ∷ numbers_at events to
  unfolding numbers_at
  numbers_at-Renamed-to from to =
      ap (λ b. cond (b || is_name to from) (number_at (Renamed from to ∷ events) to ∷ numbers_at events to)
      (numbers_at events to)) (is_name-same to)

  pub numbers_at-Removed-other : (name q : List ℕ) → q ≢ name
      → numbers_at (Removed name ∷ events) q ≡ numbers_at events q
  unfolding numbers_at
  numbers_at-Removed-other name q apart = at_other q name _ _ apart

  -- the removal of a name leaves what a crash may leave at another
  pub MayStandAt-Removed-other : (name q : List ℕ) (file : Option (List ℕ)) → q ≢ name
      → MayStandAt (Removed name ∷ events) q file → MayStandAt events q file
  unfolding file_of
  MayStandAt-Removed-other name q file apart is = record {
    one = SomeOf-weaken _ _ (numbers_at events q)
        (λ number _ image. same_image (Removed name ∷ events) events number file (λ n _. refl) image)
        (subst (SomeOf (λ number. IsImageOf (Removed name ∷ events) number file))
        (numbers_at-Removed-other name q apart) is.one);
  }

  -- a sync of the names takes images away and adds none
  pub MayStandAt-NamesSynced : (q : List ℕ) (file : Option (List ℕ)) → MayStandAt (NamesSynced ∷ events) q file
      → MayStandAt events q file
  unfolding numbers_at file_of
  MayStandAt-NamesSynced q file is = record {
    one = numbers_at-now (λ number. IsImageOf events number file) events q
        (⊎_elim (λ image. same_image (NamesSynced ∷ events) events (number_at events q) file (λ n _. refl) image)
        (λ none. absurd none) is.one);
  }
