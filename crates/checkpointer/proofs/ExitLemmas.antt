-- The exits of a checkpoint.
use Rattle.std.proofs.Common.{◌≡◌, ◌≢◌, ◌∙◌, ℕ, Bool, List, ◌∷◌, Some, None, Ok, Err, Result, IsErrOf, sym, ap, subst}
use Rattle.std.proofs.Common.{refl}
use Rattle.std.specs.BTreeMap.{BTreeMap}
use Rattle.ls_base.specs.declared.mark.Mark.{Mark}
use Rattle.crash_disk.specs.declared.event.Event.{Event}
use Rattle.crash_disk.specs.declared.event.Event.TheVariants.{Synced}
use Rattle.crash_disk.specs.declared.fault.DiskFault.{DiskFault}
use Rattle.crash_disk.specs.Files.{files_after, IsThere}
use Rattle.crash_disk.specs.Told.{Told, IfTold, gains}
use Rattle.crash_disk.specs.GoesOn.{GoesOn}
use Rattle.crash_disk.proofs.FileLaws.{IsThere-Synced}
use Rattle.crash_disk.proofs.GoesOnLemmas.{grown_same, grown_by, grown_then}
use Rattle.wal_frames.specs.declared.header.WalHeader.{WalHeader}
use Rattle.checkpointer.specs.declared.fault.BackfillFault.{BackfillFault}
use Rattle.checkpointer.specs.declared.fault.BackfillFault.TheVariants.{Disk, NotMark, Memory}
use Rattle.checkpointer.specs.Backfill.{Backfills}
use Rattle.checkpointer.specs.CopiedState.{CopiedState}
use Rattle.checkpointer.specs.Copying.{AreWithin, CopiesFound, MayCopyFound}
use Rattle.checkpointer.specs.Finding.{IsFound, NoneEnds}
use Rattle.checkpointer.specs.PairState.{bytes_at, AreNamed}
use Rattle.checkpointer.proofs.EndLemmas.{keeps_some, done}
use Rattle.checkpointer.proofs.FoundPages.{are_within}
use Rattle.checkpointer.proofs.KeepLemmas.{keeps_same, keeps_synced, same_synced}
use Rattle.checkpointer.proofs.ToldLemmas.{gained}

module _ (db wal : List ℕ) (apart : db ≢ wal) (upto : ℕ) (old : Told) (named : IfTold old (λ x. AreNamed x db wal))
  where
    abbrev Ends : Result CopiedState BackfillFault → List Event → List Event → Type 0
    Ends result = Backfills db wal upto result

    -- the log wasn't synced
    pub unsynced : (new : Told) (fault : DiskFault) → new ≡ old → GoesOn old new (Ends (Err (Disk fault)))
    unsynced new fault same = record {
      told = λ x told. (x, same ∙ told, keeps_same db wal apart x (named x told), grown_same x);
      silent = λ silent.
          same ∙ silent;
    }

    module _ (mid : Told) (synced : mid ≡ gains old (Synced wal)) where
      at : (x : List Event) → old ≡ Some x → mid ≡ Some (Synced wal ∷ x)
      at x told = synced ∙ ap (λ (t : Told). gains t (Synced wal)) told

      none : old ≡ None → mid ≡ None
      none silent = synced ∙ ap (λ (t : Told). gains t (Synced wal)) silent

      pub there_synced : IfTold mid (λ x. IsThere x db)
      there_synced = gained old mid (Synced wal) (λ x. AreNamed x db wal) (λ x. IsThere x db) synced
          (λ x is. IsThere-Synced x wal db is.database.there) named

      log_same : (x : List Event) → bytes_at (Synced wal ∷ x) wal ≡ bytes_at x wal
      unfolding files_after
      log_same x = refl

      -- nothing was found
      pub not_found : (new : Told) (fault : BackfillFault) → new ≡ mid
          → IfTold mid (λ x. fault ≡ NotMark → NoneEnds (bytes_at x wal) upto) → GoesOn old new (Ends (Err fault))
      not_found new fault same not_mark = record {
        told = λ x told. (
          Synced wal ∷ x,
          same ∙ at x told,
          holds fault x told (not_mark (Synced wal ∷ x) (at x told)),
          grown_by (Synced wal) x,
        );
        silent = λ silent. same ∙ none silent;
      }
        where
          holds : (f : BackfillFault) (x : List Event) → old ≡ Some x
              → (f ≡ NotMark → NoneEnds (bytes_at (Synced wal ∷ x) wal) upto) → Ends (Err f) x (Synced wal ∷ x)
          holds (Disk fault) x told is = keeps_synced db wal apart x (named x told)
          holds NotMark x told is = (
            keeps_synced db wal apart x (named x told),
            subst (λ (log : List ℕ). NoneEnds log upto) (log_same x) (is refl),
            same_synced db wal apart x
                (named x told),
          )
          holds Memory x told is = (
            keeps_synced db wal apart x (named x told),
            same_synced db wal apart x
                (named x told),
          )

      module _ (h : WalHeader) (pages : BTreeMap ℕ ℕ) (mark : Mark) (is_last : Bool)
          (found : IfTold mid (λ x. IsFound (bytes_at x wal) upto h pages mark is_last)) (size : ℕ)
          (size_is : size ≡ h.size) where
        found_at : (x : List Event) → old ≡ Some x → IsFound (bytes_at x wal) upto h pages mark is_last
        found_at x told = subst (λ (log : List ℕ). IsFound log upto h pages mark is_last) (log_same x)
            (found (Synced wal ∷ x) (at x told))

        -- not all was copied
        pub not_copied : (new : Told) (fault : BackfillFault)
            → GoesOn mid new (MayCopyFound db wal size mark.commit pages is_last)
            → IfTold mid (λ x. AreWithin size pages (bytes_at x wal) → IsErrOf {T = CopiedState} (Err fault) NotMark
            → ⊥) → (IsErrOf {T = CopiedState} (Err fault) Memory → ⊥) → GoesOn old new (Ends (Err fault))
        not_copied new fault goes whole memory = record {
          told = λ x told.
              let went = goes.told (Synced wal ∷ x) (at x told) in (
                went.0,
                went.1,
                holds fault x told went.0 went.2 (whole (Synced wal ∷ x) (at x told)) memory,
                grown_then x (Synced wal ∷ x) went.0 (grown_by (Synced wal) x) went.3,
              );
          silent = λ silent. goes.silent (none silent);
        }
          where
            holds : (f : BackfillFault) (x : List Event) → old ≡ Some x → (y : List Event)
                → MayCopyFound db wal size mark.commit pages is_last (Synced wal ∷ x) y
                → (AreWithin size pages (bytes_at (Synced wal ∷ x) wal) → IsErrOf {T = CopiedState} (Err f) NotMark → ⊥)
                → (IsErrOf {T = CopiedState} (Err f) Memory → ⊥) → Ends (Err f) x y
            holds (Disk fault) x told y some whole memory =
                keeps_some db wal apart x (named x told) upto h pages mark is_last (found_at x told) y
                (subst (λ (n : ℕ). MayCopyFound db wal n mark.commit pages is_last (Synced wal ∷ x) y) size_is some)
            holds NotMark x told y some whole memory =
                let within = are_within (bytes_at (Synced wal ∷ x) wal) upto h pages mark is_last
                (found (Synced wal ∷ x) (at x told)) in
                absurd (whole (subst (λ (n : ℕ). AreWithin n pages (bytes_at (Synced wal ∷ x) wal)) (sym size_is)
                within) refl)
            holds Memory x told y some whole memory = absurd (memory refl)

        -- all was
        pub all_copied : (new : Told) (copied : CopiedState) → copied.head ≡ h → copied.mark ≡ mark
            → GoesOn mid new (CopiesFound db wal size mark.commit pages is_last) → GoesOn old new (Ends (Ok copied))
        all_copied new copied head is goes = record {
          told = λ x told.
              let went = goes.told (Synced wal ∷ x) (at x told) in
              let ended = done db wal apart x (named x told) upto h pages mark is_last (found_at x told) went.0
              (subst (λ (n : ℕ). CopiesFound db wal n mark.commit pages is_last (Synced wal ∷ x) went.0) size_is
              went.2) in
              let same : (record { head = h; mark = mark }) ≡ copied =
              (λ i. record { head = sym head i; mark = sym is i }) in (
                went.0,
                went.1,
                subst (λ (c : CopiedState). Ends (Ok c) x went.0) same ended,
                grown_then x (Synced wal ∷ x) went.0 (grown_by (Synced wal) x) went.3,
              );
          silent = λ silent. goes.silent (none silent);
        }
