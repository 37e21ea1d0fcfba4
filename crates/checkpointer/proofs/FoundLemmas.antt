-- The parts of a checkpoint joined.
use Rattle.std.proofs.Common.{◌≡◌, ◌∙◌, ℕ, ◌*◌, Bool, List, ◌∷◌, Some, None, sym, subst, refl, inl, inr}
use Rattle.std.specs.BTreeMap.{BTreeMap}
use Rattle.crash_disk.specs.declared.event.Event.{Event}
use Rattle.crash_disk.specs.declared.event.Event.TheVariants.{Synced}
use Rattle.crash_disk.specs.Files.{IsThere}
use Rattle.crash_disk.specs.Told.{Told, IfTold, gains}
use Rattle.crash_disk.specs.GoesOn.{GoesOn}
use Rattle.crash_disk.proofs.GoesOnLemmas.{goes_on-gains, goes_on-same, goes_on-then}
use Rattle.checkpointer.specs.Copying.{CopiesPages, SetsLength, MaySetLength, CopiesFound, MayCopyFound}
use Rattle.checkpointer.proofs.ToldLemmas.{still_there_cut}
use Rattle.checkpointer.proofs.WritesLemmas.{still_there}

-- what held of the record before, after a run
pub carried : (old new : Told) (P : List Event → List Event → Type 0) (Q R : List Event → Type 0) → GoesOn old new P
    → IfTold old Q → ((x y : List Event) → P x y → Q x → R y) → IfTold new R
carried None new P Q R goes held carries events told = let none : ◌≡◌ {A = Told} None (Some events) =
    sym (goes.silent refl) ∙ told in absurd cc
carried (Some x) new P Q R goes held carries events told =
    let went = goes.told x refl in
    let both : ◌≡◌ {A = Told} (Some went.0) (Some events) = sym went.1 ∙ told in
    let same : went.0 ≡ events = cc in
    subst R same (carries x went.0 went.2 (held x refl))

module _ (db wal : List ℕ) (size commit : ℕ) (pages : BTreeMap ℕ ℕ) (is_last : Bool) where
  abbrev Copied_ : List Event → List Event → Type 0
  Copied_ = CopiesPages db wal size commit pages

  there_copied : (x y : List Event) → Copied_ x y → IsThere x db → IsThere y db
  there_copied x y c there = subst (λ (es : List Event). IsThere es db) (sym c.is)
      (still_there db size x c.writes there)

  there_set : (x y : List Event) → SetsLength db (commit * size) is_last x y → IsThere x db → IsThere y db
  there_set x y (inl cut) there = subst (λ (es : List Event). IsThere es db) (sym cut.0)
      (still_there_cut x db (commit * size) there)
  there_set x y (inr same) there = subst (λ (es : List Event). IsThere es db) (sym same.0) there

  module _ (a b : Told) (copied : GoesOn a b Copied_) where
    pub found_there : IfTold a (λ x. IsThere x db) → IfTold b (λ x. IsThere x db)
    found_there there = carried a b Copied_ (λ x. IsThere x db) (λ x. IsThere x db) copied there there_copied

    pub found_unsized : (c : Told) → GoesOn b c (MaySetLength db (commit * size) is_last)
        → GoesOn a c (MayCopyFound db wal size commit pages is_last)
    found_unsized c sized =
        goes_on-then a b c Copied_ (MaySetLength db (commit * size) is_last)
        (MayCopyFound db wal size commit pages is_last) copied sized
        (λ x y z p s. inr (record { copied = y; page_writes = p; set = s }))

    module _ (c : Told) (sized : GoesOn b c (SetsLength db (commit * size) is_last)) where
      pub sized_there : IfTold a (λ x. IsThere x db) → IfTold c (λ x. IsThere x db)
      sized_there there = carried b c (SetsLength db (commit * size) is_last) (λ x. IsThere x db)
          (λ x. IsThere x db) sized (found_there there) there_set

      maybe : (x y : List Event) → SetsLength db (commit * size) is_last x y
          → MaySetLength db (commit * size) is_last x y
      maybe x y (inl cut) = inr cut
      maybe x y (inr same) = inl same.0

      pub found_unsynced : (e : Told) → e ≡ c → GoesOn a e (MayCopyFound db wal size commit pages is_last)
      found_unsynced e same = found_unsized e
          (goes_on-then b c e (SetsLength db (commit * size) is_last)
          (λ x y. y ≡ x) (MaySetLength db (commit * size) is_last) sized
          (goes_on-same c e (λ x y. y ≡ x) same (λ x. refl))
          (λ x y z s is. subst (λ (es : List Event). MaySetLength db (commit * size) is_last x es) (sym is)
          (maybe x y s)))

      pub found_copied : (e : Told) → e ≡ gains c (Synced db)
          → GoesOn a e (CopiesFound db wal size commit pages is_last)
      found_copied e is =
          goes_on-then a c e (λ x z. (y : List Event) × Copied_ x y × SetsLength db (commit * size) is_last y z)
          (λ x y. y ≡ Synced db ∷ x) (CopiesFound db wal size commit pages is_last)
          (goes_on-then a b c Copied_ (SetsLength db (commit * size) is_last)
          (λ x z. (y : List Event) × Copied_ x y × SetsLength db (commit * size) is_last y z) copied sized
          (λ x y z p s. (y, p, s)))
          (goes_on-gains c e (Synced db) (λ x y. y ≡ Synced db ∷ x) is (λ x. refl))
          (λ x y z s synced. record { copied = s.0; sized = y; page_writes = s.1; set = s.2; is = synced })
