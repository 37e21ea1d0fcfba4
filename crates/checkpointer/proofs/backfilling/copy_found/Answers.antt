use Rattle.std.proofs.Common.{◌≡◌, ◌∙◌, ◌*◌, ℕ, ap, subst}
use Rattle.crash_disk.specs.GoesOn.{GoesOn}
use Rattle.checkpointer.specs.Copying.{SetsLength, MaySetLength}
use Rattle.checkpointer.proofs.FoundLemmas.{found_there, found_unsized, sized_there, found_unsynced, found_copied}
use Rattle.checkpointer.proofs.backfilling.copy_found.Goals as goal

pub set_length-requires : goal.set_length-requires
set_length-requires g c = record {
  there =
      found_there c.args.db.now c.args.wal.now c.args.found.size c.args.found.mark.commit c.args.found.pages
      c.args.found.is_last (g.D.Disk.told c.args.disk.now) (g.D.Disk.told c.copy_pages.new.disk)
      c.in-Ok.ensures.ok c.requires.there;
}

pub returns-in-Err-set_length-clause-err : goal.returns-in-Err-set_length-clause-err
returns-in-Err-set_length-clause-err g c =
    let bytes : c.from.result * c.from-2.result ≡ c.args.found.mark.commit * c.args.found.size =
    ap (λ (n : ℕ). n * c.from-2.result) c.from.ensures ∙ ap (λ (n : ℕ). c.args.found.mark.commit * n)
    (c.from-2.ensures ∙ c.get-2.ensures.value) in
    found_unsized c.args.db.now c.args.wal.now c.args.found.size c.args.found.mark.commit c.args.found.pages
    c.args.found.is_last (g.D.Disk.told c.args.disk.now) (g.D.Disk.told c.copy_pages.new.disk) c.in-Ok.ensures.ok
    (g.D.Disk.told c.set_length.new.disk)
    (subst (λ (n : ℕ). GoesOn (g.D.Disk.told c.copy_pages.new.disk) (g.D.Disk.told c.set_length.new.disk)
    (MaySetLength c.args.db.now n c.args.found.is_last)) bytes c.in-Err-set_length.ensures.err)

pub sync-requires : goal.sync-requires
sync-requires g c =
    let bytes : c.from.result * c.from-2.result ≡ c.args.found.mark.commit * c.args.found.size =
    ap (λ (n : ℕ). n * c.from-2.result) c.from.ensures ∙ ap (λ (n : ℕ). c.args.found.mark.commit * n)
    (c.from-2.ensures ∙ c.get-2.ensures.value) in
    record {
      there =
          sized_there c.args.db.now c.args.wal.now c.args.found.size c.args.found.mark.commit c.args.found.pages
          c.args.found.is_last (g.D.Disk.told c.args.disk.now) (g.D.Disk.told c.copy_pages.new.disk)
          c.in-Ok.ensures.ok
          (g.D.Disk.told c.set_length.new.disk)
          (subst (λ (n : ℕ). GoesOn (g.D.Disk.told c.copy_pages.new.disk) (g.D.Disk.told c.set_length.new.disk)
          (SetsLength c.args.db.now n c.args.found.is_last)) bytes c.in-Ok-set_length.ensures.ok)
          c.requires.there;
    }

pub returns-in-Err-sync-clause-err : goal.returns-in-Err-sync-clause-err
returns-in-Err-sync-clause-err g c =
    let bytes : c.from.result * c.from-2.result ≡ c.args.found.mark.commit * c.args.found.size =
    ap (λ (n : ℕ). n * c.from-2.result) c.from.ensures ∙ ap (λ (n : ℕ). c.args.found.mark.commit * n)
    (c.from-2.ensures ∙ c.get-2.ensures.value) in
    found_unsynced c.args.db.now c.args.wal.now c.args.found.size c.args.found.mark.commit c.args.found.pages
    c.args.found.is_last (g.D.Disk.told c.args.disk.now) (g.D.Disk.told c.copy_pages.new.disk) c.in-Ok.ensures.ok
    (g.D.Disk.told c.set_length.new.disk)
    (subst (λ (n : ℕ). GoesOn (g.D.Disk.told c.copy_pages.new.disk) (g.D.Disk.told c.set_length.new.disk)
    (SetsLength c.args.db.now n c.args.found.is_last)) bytes c.in-Ok-set_length.ensures.ok)
    (g.D.Disk.told c.sync.new.self) c.in-Err-sync.ensures.err

pub returns-in-Ok-sync-clause-ok : goal.returns-in-Ok-sync-clause-ok
returns-in-Ok-sync-clause-ok g c =
    let bytes : c.from.result * c.from-2.result ≡ c.args.found.mark.commit * c.args.found.size =
    ap (λ (n : ℕ). n * c.from-2.result) c.from.ensures ∙ ap (λ (n : ℕ). c.args.found.mark.commit * n)
    (c.from-2.ensures ∙ c.get-2.ensures.value) in
    found_copied c.args.db.now c.args.wal.now c.args.found.size c.args.found.mark.commit c.args.found.pages
    c.args.found.is_last (g.D.Disk.told c.args.disk.now) (g.D.Disk.told c.copy_pages.new.disk) c.in-Ok.ensures.ok
    (g.D.Disk.told c.set_length.new.disk)
    (subst (λ (n : ℕ). GoesOn (g.D.Disk.told c.copy_pages.new.disk) (g.D.Disk.told c.set_length.new.disk)
    (SetsLength c.args.db.now n c.args.found.is_last)) bytes c.in-Ok-set_length.ensures.ok)
    (g.D.Disk.told c.sync.new.self) c.in-Ok-sync.ensures.ok
