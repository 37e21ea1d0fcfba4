-- One page copied.
use Rattle.std.proofs.Common.{◌≡◌, ◌∙◌, ℕ, ◌+◌, ◌-◌, ◌*◌, ◌≤◌, ◌⊎◌, Bool, true, List, ◌∷◌, ◌++◌, Some, length, take}
use Rattle.std.proofs.Common.{drop, ap, refl, inl, inr, arith, append-nil}
use Rattle.std.proofs.lemmas.List.{drop_all}
use Rattle.crash_disk.specs.declared.event.Event.{Event}
use Rattle.crash_disk.specs.declared.event.Event.TheVariants.{Wrote, Cut}
use Rattle.crash_disk.specs.Told.{Told, IfTold, gains, GainsOrNot, GainsBytesOrNot}
use Rattle.crash_disk.specs.GoesOn.{GoesOn}
use Rattle.crash_disk.proofs.GoesOnLemmas.{grown_same, grown_by}
use Rattle.checkpointer.specs.PairState.{bytes_at}
use Rattle.checkpointer.specs.Copying.{WritesPage, MayWritePage, SetsLength, MaySetLength}

-- a page that was read whole
pub page_is : (file old new : List ℕ) (at n : ℕ) → new ≡ take n (drop at file) ++ drop n old → length old ≤ n
    → new ≡ take n (drop at file)
page_is file old new at n is all = is ∙ ap (λ (xs : List ℕ). take n (drop at file) ++ xs) (drop_all n old all)
    ∙ append-nil (take n (drop at file))

module _ (old mid new : Told) (db wal page : List ℕ) (size number at start : ℕ) (unchanged : mid ≡ old)
    (begins : start ≡ (number - 1) * size) (long : length page ≡ size) where
  wrote : (x : List Event) → Wrote db start page ∷ x ≡ Wrote db ((number - 1) * size) page ∷ x
  wrote x = ap (λ (n : ℕ). Wrote db n page ∷ x) begins

  pub page_copied : new ≡ gains mid (Wrote db start page)
      → IfTold old (λ x. at + size ≤ length (bytes_at x wal) → page ≡ take size (drop at (bytes_at x wal)))
      → GoesOn old new (WritesPage db wal size number at)
  page_copied is same = record {
    told = λ x told. (
      Wrote db start page ∷ x,
      is ∙ ap (λ (t : Told). gains t (Wrote db start page)) (unchanged ∙ told),
      record { bytes = page; is = wrote x; long = long; page = same x told },
      grown_by (Wrote db start page) x,
    );
    silent = λ silent. is ∙ ap (λ (t : Told). gains t (Wrote db start page)) (unchanged ∙ silent);
  }

  pub page_maybe : GainsBytesOrNot mid new db start (length page) → GoesOn old new (MayWritePage db size number)
  page_maybe (inl same) = record {
    told = λ x told. (x, same ∙ unchanged ∙ told, inl refl, grown_same x);
    silent = λ silent. same ∙ unchanged
        ∙ silent;
  }
  page_maybe (inr some) = record {
    told = λ x told. (
      Wrote db start some.0 ∷ x,
      some.2 ∙ ap (λ (t : Told). gains t (Wrote db start some.0)) (unchanged ∙ told),
      inr (some.0, omega (arith, some.1, long), ap (λ (n : ℕ). Wrote db n some.0 ∷ x) begins),
      grown_by (Wrote db start some.0) x,
    );
    silent = λ silent. some.2 ∙ ap (λ (t : Told). gains t (Wrote db start some.0)) (unchanged ∙ silent);
  }

-- the length set
module _ (old mid new : Told) (db : List ℕ) (bytes now : ℕ) (may : Bool) (unchanged : mid ≡ old)
    (is : IfTold old (λ x. now ≡ length (bytes_at x db))) (allowed : (may ≡ true) ⊎ (now ≤ bytes)) where
  longer : (x : List Event) → old ≡ Some x → (may ≡ true) ⊎ (length (bytes_at x db) ≤ bytes)
  longer x told = elim allowed [ inl may ↦ inl may | inr less ↦ inr (omega (arith, less, is x told)) ]

  pub length_set : new ≡ gains mid (Cut db bytes) → GoesOn old new (SetsLength db bytes may)
  length_set gained = record {
    told = λ x told. (
      Cut db bytes ∷ x,
      gained ∙ ap (λ (t : Told). gains t (Cut db bytes)) (unchanged ∙ told),
      inl
          (refl, longer x told),
      grown_by (Cut db bytes) x,
    );
    silent = λ silent. gained ∙ ap (λ (t : Told). gains t (Cut db bytes)) (unchanged ∙ silent);
  }

  pub length_maybe : GainsOrNot mid new (Cut db bytes) → GoesOn old new (MaySetLength db bytes may)
  length_maybe (inl same) = record {
    told = λ x told. (x, same ∙ unchanged ∙ told, inl refl, grown_same x);
    silent = λ silent. same ∙ unchanged
        ∙ silent;
  }
  length_maybe (inr gained) = record {
    told = λ x told. (
      Cut db bytes ∷ x,
      gained ∙ ap (λ (t : Told). gains t (Cut db bytes)) (unchanged ∙ told),
      inr
          (refl, longer x told),
      grown_by (Cut db bytes) x,
    );
    silent = λ silent. gained ∙ ap (λ (t : Told). gains t (Cut db bytes)) (unchanged ∙ silent);
  }
