-- What a caller may do after a checkpoint.
use Rattle.std.proofs.Common.{◌≡◌, ◌≢◌, ◌∙◌, ℕ, List, [], Option, unwrap_or, Ok, Err, Result, sym, ap, subst}
use Rattle.crash_disk.specs.declared.event.Event.{Event}
use Rattle.crash_disk.specs.Told.{Told, IfTold}
use Rattle.crash_disk.specs.GoesOn.{GoesOn}
use Rattle.wal_frames.specs.WalFormat.{read_header}
use Rattle.wal_frames.specs.Marks.{IsMark, last_mark_of}
use Rattle.checkpointer.specs.declared.fault.BackfillFault.{BackfillFault}
use Rattle.checkpointer.specs.declared.fault.BackfillFault.TheVariants.{Disk, NotMark, Memory}
use Rattle.checkpointer.specs.Backfill.{KeepsStates, HasBackfilled, Backfills}
use Rattle.checkpointer.specs.CopiedState.{CopiedState}
use Rattle.checkpointer.specs.PairState.{bytes_at, AreNamed}
use Rattle.checkpointer.specs.Restart.{MayRestart}
use Rattle.checkpointer.proofs.FoundLemmas.{carried}

module _ (db wal : List ℕ) (apart : db ≢ wal) (upto : ℕ) where
  keeps : (result : Result CopiedState BackfillFault) (x y : List Event) → Backfills db wal upto result x y
      → KeepsStates db wal x y
  keeps (Ok copied) x y b = b.0
  keeps (Err (Disk fault)) x y b = b
  keeps (Err NotMark) x y b = b.0
  keeps (Err Memory) x y b = b.0

  -- what `restart` asks for
  pub leaves_copied : (copied : CopiedState) (x y : List Event) → AreNamed x db wal → KeepsStates db wal x y
      → HasBackfilled db wal upto copied x y → MayRestart db wal copied y
  leaves_copied copied x y named k b =
      let log : bytes_at y wal ≡ bytes_at x wal = ap (λ (left : Option (List ℕ)). unwrap_or left [])
      (k.others.others wal (λ same. apart (sym same))) in
      record {
        named = k.named named;
        head = ap read_header log ∙ b.is_copied.head;
        is_mark = subst (λ (bytes : List ℕ). IsMark bytes copied.mark) (sym log) b.is_copied.is_mark;
        alone = λ last. b.alone (ap last_mark_of (sym log) ∙ last);
      }

  module _ (old new : Told) (named : IfTold old (λ x. AreNamed x db wal)) where
    pub named_after : (result : Result CopiedState BackfillFault) → GoesOn old new (Backfills db wal upto result)
        → IfTold new (λ y. AreNamed y db wal)
    named_after result goes = carried old new (Backfills db wal upto result) (λ x. AreNamed x db wal)
        (λ y. AreNamed y db wal) goes named (λ x y b is. (keeps result x y b).named is)

    pub restart_may_follow : (copied : CopiedState) → GoesOn old new (Backfills db wal upto (Ok copied))
        → IfTold new (MayRestart db wal copied)
    restart_may_follow copied goes =
        carried old new (Backfills db wal upto (Ok copied)) (λ x. AreNamed x db wal) (MayRestart db wal copied) goes
        named (λ x y b is. leaves_copied copied x y is b.0 b.1)
