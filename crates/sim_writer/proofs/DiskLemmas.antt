-- A copy on a disk in memory.
use Rattle.std.proofs.Common.{◌≡◌, ◌≢◌, List, [], ◌∷◌, ℕ, Option, Some, Result, Ok, Err, refl, sym, ap, subst}
use Rattle.std.proofs.Common.{◌∙◌}
use Rattle.std.specs.Prelude.{IfOk, unwrap_or}
use Rattle.ls_base.specs.declared.memory.Memory.{Memory}
use Rattle.crash_disk.specs.declared.event.Event.{Event}
use Rattle.crash_disk.specs.declared.event.Event.TheVariants.{Placed}
use Rattle.crash_disk.specs.GoesOn.{GoesOn}
use Rattle.crash_disk.proofs.FileLaws.{file_at-Placed-here, file_at-Placed-other}
use Rattle.checkpointer.specs.Backfill.{Backfills, IsCopied}
use Rattle.checkpointer.specs.CopiedState.{CopiedState}
use Rattle.checkpointer.specs.PairState.{bytes_at}
use Rattle.sim_writer.specs.Copying.{CopiesTo}

pub when_ok : {P Q : List ℕ → Type 0} (result : Result (List ℕ) Memory) → IfOk result P → ((x : List ℕ) → P x → Q x)
    → IfOk result Q
when_ok (Ok x) is then = then x is
when_ok (Err e) is then = tt

module _ (db wal file log : List ℕ) (apart : db ≢ wal) (upto : ℕ) (before now : List Event)
    (is : before ≡ Placed wal log ∷ Placed db file ∷ []) (copied : CopiedState)
    (goes : GoesOn (Some before) (Some now) (Backfills db wal upto (Ok copied))) where
  file_was : bytes_at before db ≡ file
  file_was = ap (λ (es : List Event). bytes_at es db) is
      ∙ ap (λ (o : Option (List ℕ)). unwrap_or o []) (file_at-Placed-other (Placed db file ∷ []) wal log db apart
      ∙ file_at-Placed-here [] db file)

  log_was : bytes_at before wal ≡ log
  log_was = ap (λ (es : List Event). bytes_at es wal) is
      ∙ ap (λ (o : Option (List ℕ)). unwrap_or o []) (file_at-Placed-here (Placed db file ∷ []) wal log)

  pub copies_to : (bytes : List ℕ) → bytes ≡ bytes_at now db → CopiesTo upto file log bytes
  copies_to bytes read =
      let after = goes.told before refl in
      let same : after.0 ≡ now = let both : Some now ≡ Some after.0 = after.1 in cc in
      let has = after.2.1 in
      let left : bytes_at after.0 db ≡ bytes = ap (λ (es : List Event). bytes_at es db) same ∙ sym read in
      record {
        copied = copied;
        end = has.end;
        is =
            subst (λ (b : List ℕ). IsCopied copied.head copied.mark file log b) left
            (subst (λ (b : List ℕ). IsCopied copied.head copied.mark file b (bytes_at after.0 db)) log_was
            (subst (λ (b : List ℕ). IsCopied copied.head copied.mark b (bytes_at before wal) (bytes_at after.0 db))
            file_was has.is_copied));
      }
