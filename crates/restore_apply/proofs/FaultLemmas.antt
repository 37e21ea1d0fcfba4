-- What a restore that failed leaves, from what its parts did.
use Rattle.std.proofs.Common.{◌≡◌, ℕ, ◌≤◌, List, ◌∷◌, Some, None, refl, sym, ap, subst, ◌∙◌, inl, inr, arith}
use Rattle.std.specs.Prelude.{◌⊎◌, Result, Ok, Err, IsErrAnd, IsErrOf}
use Rattle.crash_disk.specs.declared.event.Event.{Event}
use Rattle.crash_disk.specs.declared.event.Event.TheVariants.{Removed}
use Rattle.crash_disk.specs.Files.{file_at, files_after}
use Rattle.crash_disk.specs.GoesOn.{GoesOn}
use Rattle.crash_disk.specs.Told.{Told, IfTold, gains, GainsOrNot}
use Rattle.crash_disk.proofs.GoesOnLemmas.{goes_on-gains, goes_on-same, goes_on-then, goes_on-weaker}
use Rattle.ls_base.specs.Fault.{Rose}
use Rattle.page_cursors.specs.declared.cursors.Cursors.{Cursors}
use Rattle.page_cursors.specs.declared.fault.CursorsFault.{CursorsFault}
use Rattle.page_cursors.specs.declared.fault.CursorsFault.TheVariants as found
use Rattle.page_cursors.specs.Cursors.{plan_of}
use Rattle.page_cursors.specs.Fault.{Blames}
use Rattle.crash_disk.specs.declared.fault.DiskFault.{DiskFault}
use Rattle.replica_store.specs.declared.file_name.FileName.{FileName}
use Rattle.restore_apply.specs.declared.restored.Restored.{Restored}
use Rattle.restore_apply.specs.declared.restored.RestoreFault.{RestoreFault}
use Rattle.restore_apply.specs.declared.restored.RestoreFault.TheVariants.{Damaged, PageMissing, Store, Target, Memory}
use Rattle.restore_apply.specs.Restoring.{RoseTwice, Abandons, Breaks, ExplainsRestore}
use Rattle.restore_apply.specs.Writing.{RestsOn, LeavesPages, MayNamePages, NamesPages, Clears, Cleared, fault_of}
use Rattle.restore_apply.specs.Staging.{MayBegin, MayName, Names, MaySettle, MayWriteFile, temporary_name}
use Rattle.restore_apply.specs.Staging.{LeavesUnwritten, LeavesNoTrace, Lacks}
use Rattle.restore_apply.proofs.OutputLemmas.{unwritten_begun, no_trace, lacks_removed, lacks_named}
use Rattle.restore_apply.proofs.OutputLemmas.{may_write-from_may_settle}
use Rattle.restore_apply.proofs.StagingLemmas.{cleared, not_settled}

-- ---- counts

pub rose_later : (before mid now : ℕ) → before ≤ mid → Rose mid now → Rose before now
rose_later before mid now low rose = record { least = omega (arith, low, rose.least) }

pub rose_sooner : (before mid now : ℕ) → mid ≤ now → Rose before mid → Rose before now
rose_sooner before mid now low rose = record { least = omega (arith, low, rose.least) }

rose_twice : (before mid now : ℕ) → Rose before mid → Rose mid now → RoseTwice before now
rose_twice before mid now first second = record { least = omega (arith, first.least, second.least) }

-- ---- records

-- what held of the record at first goes along
with_first : (old new : Told) (Q : List Event → Type 0) (P : List Event → List Event → Type 0) → IfTold old Q
    → GoesOn old new P → GoesOn old new (λ x y. Q x × P x y)
with_first old new Q P holds goes = record {
  told = λ events told. let went = goes.told events told in (went.0, went.1, (holds events told, went.2), went.3);
  silent = goes.silent;
}

removed_after : (old mid new : Told) (name : List ℕ) (P R : List Event → List Event → Type 0) → GoesOn old mid P
    → new ≡ gains mid (Removed name) → ((x y z : List Event) → P x y → z ≡ Removed name ∷ y → R x z) → GoesOn old new R
removed_after old mid new name P R goes is joins =
    goes_on-then old mid new P (λ x y. y ≡ Removed name ∷ x) R goes
    (goes_on-gains mid new (Removed name) (λ x y. y ≡ Removed name ∷ x) is (λ events. refl)) joins

kept_after : (old mid new : Told) (P R : List Event → List Event → Type 0) → GoesOn old mid P → new ≡ mid
    → ((x y : List Event) → P x y → R x y) → GoesOn old new R
kept_after old mid new P R goes same implies =
    goes_on-then old mid new P (λ x y. y ≡ x) R goes (goes_on-same mid new (λ x y. y ≡ x) same (λ events. refl))
    (λ x y z p is. subst (λ (es : List Event). R x es) (sym is) (implies x y p))

module _ (name : List ℕ) (old mid new : Told) (absent : IfTold old (λ events. file_at events name ≡ None)) where
  abbrev Begun : List Event → List Event → Type 0
  Begun x y = (file_at x name ≡ None) × MayBegin (temporary_name name) x y

  begun : GoesOn old mid (MayBegin (temporary_name name)) → GoesOn old mid Begun
  begun goes = with_first old mid (λ events. file_at events name ≡ None) (MayBegin (temporary_name name)) absent goes

  pub left_unwritten : GoesOn old mid (MayBegin (temporary_name name))
      → GainsOrNot mid new (Removed (temporary_name name)) → GoesOn old new (LeavesUnwritten name)
  left_unwritten goes (inl same) =
      kept_after old mid new Begun (LeavesUnwritten name) (begun goes) same
      (λ x y is. unwritten_begun name x y is.0 is.1)
  left_unwritten goes (inr is) =
      removed_after old mid new (temporary_name name) Begun (LeavesUnwritten name) (begun goes) is
      (λ x y z p e. (no_trace name x y z p.0 p.1 e).unwritten)

  pub left_no_trace : GoesOn old mid (MayBegin (temporary_name name)) → new ≡ gains mid (Removed (temporary_name name))
      → GoesOn old new (LeavesNoTrace name)
  left_no_trace goes is =
      removed_after old mid new (temporary_name name) Begun (LeavesNoTrace name) (begun goes) is
      (λ x y z p e. no_trace name x y z p.0 p.1 e)

  module _ (before middle now : ℕ) (low : before ≤ middle) (high : middle ≤ now)
      (tried : GainsOrNot mid new (Removed (temporary_name name)))
      (removed : (Rose middle now → ⊥) → new ≡ gains mid (Removed (temporary_name name))) where
    pub abandons : GoesOn old mid (MayBegin (temporary_name name)) → Abandons name old new before now
    abandons goes = record {
      left = left_unwritten goes tried;
      cleared = λ calm. left_no_trace goes (removed (λ rose. calm (rose_later before middle now low rose)));
    }

    lacks : (P : List Event → List Event → Type 0) → GoesOn old mid P → Rose before middle → (RoseTwice before now → ⊥)
        → GoesOn old new (Lacks (temporary_name name))
    lacks P goes rose calm =
        removed_after old mid new (temporary_name name) P (Lacks (temporary_name name)) goes
        (removed (λ again. calm (rose_twice before middle now rose again)))
        (λ x y z p e. lacks_removed (temporary_name name) x y z e)

    module _ (store : Told) (cursors : Cursors) where
      breaks_from : Rose before middle → (GoesOn old mid (MayBegin (temporary_name name)))
          ⊎ MayNamePages store cursors (temporary_name name) name old mid
          → Breaks store (plan_of cursors) name old new before now
      breaks_from rose (inl goes) = record {
        rose = rose_sooner before middle now high rose;
        left = inl (left_unwritten goes tried);
        cleared = λ calm. lacks (MayBegin (temporary_name name)) goes rose calm;
      }
      breaks_from rose (inr may) = record {
        rose = rose_sooner before middle now high rose;
        left = inr (record {
          bytes = may.bytes;
          output =
              goes_on-weaker old new (MaySettle name may.bytes) (MayWriteFile name may.bytes)
              (cleared old mid new name may.bytes may.names tried)
              (λ x y is. may_write-from_may_settle name may.bytes x y is);
          pages = cursors.commit;
          state = may.state;
        });
        cleared = λ calm. lacks (MayName (temporary_name name) name may.bytes) may.names rose calm;
      }

      -- the temporary file was removed after the fault
      pub explains_cleared : (store_before store_now : ℕ) (fault : RestoreFault)
          → RestsOn store (plan_of cursors) store_before store_now before middle fault
          → LeavesPages store cursors (temporary_name name) name old mid fault
          → ExplainsRestore store (plan_of cursors) name old new store_before store_now before now fault
      explains_cleared store_before store_now (Damaged file damage) rests leaves = (abandons leaves, rests)
      explains_cleared store_before store_now (PageMissing file number) rests leaves = (abandons leaves, rests)
      explains_cleared store_before store_now (Store fault) rests leaves = (abandons leaves, rests)
      explains_cleared store_before store_now (Target fault) rests leaves = breaks_from rests leaves
      explains_cleared store_before store_now Memory rests leaves = absurd rests

-- the names could not be brought to the disk
pub unsettled : (name : List ℕ) (old mid new store : Told) (cursors : Cursors) (before now : ℕ) → Rose before now
    → NamesPages store cursors (temporary_name name) name old mid → new ≡ mid
    → Breaks store (plan_of cursors) name old new before now
unsettled name old mid new store cursors before now rose named same = record {
  rose = rose;
  left = inr (record {
    bytes = named.bytes;
    output =
        goes_on-weaker old new (MaySettle name named.bytes) (MayWriteFile name named.bytes)
        (not_settled old mid new name named.bytes named.names same)
        (λ x y is. may_write-from_may_settle name named.bytes x y is);
    pages = cursors.commit;
    state = named.state;
  });
  cleared = λ calm.
      kept_after old mid new (Names (temporary_name name) name named.bytes) (Lacks (temporary_name name)) named.names
      same (λ x y is. lacks_named name named.bytes x y is);
}

-- ---- the whole call

-- the cursors could not be begun
module _ (name : List ℕ) (plan : List FileName) (store old new : Told)
    (absent : IfTold old (λ events. file_at events name ≡ None)) (store_before store_now before now : ℕ)
    (low : before ≤ now) where
  nothing_begun : Cleared (temporary_name name) old new before now → Abandons name old new before now
  nothing_begun cleared =
      abandons name old old new absent before before now (omega arith) low cleared.tried cleared.removed
      (goes_on-same old old (MayBegin (temporary_name name)) refl (λ events. inl refl))

  pub explains_begin : (fault : CursorsFault) → Clears (temporary_name name) old new before now fault
      → Blames store plan fault → ((disk : DiskFault) → fault ≡ found.Store disk → Rose store_before store_now)
      → ExplainsRestore store plan name old new store_before store_now before now (fault_of fault)
  explains_begin (found.Damaged file damage) clears blames rose = (nothing_begun clears, blames)
  explains_begin (found.PageMissing file number) clears blames rose = (nothing_begun clears, blames)
  explains_begin (found.Store disk) clears blames rose = (nothing_begun clears, rose disk refl)
  explains_begin found.Memory clears blames rose = clears

-- the store's count at an earlier moment
pub explains_sooner : (store : Told) (plan : List FileName) (name : List ℕ) (old new : Told)
    (store_before store_mid store_now before now : ℕ) (fault : RestoreFault) → store_before ≤ store_mid
    → ExplainsRestore store plan name old new store_mid store_now before now fault
    → ExplainsRestore store plan name old new store_before store_now before now fault
explains_sooner store plan name old new store_before store_mid store_now before now (Damaged file damage) low why = why
explains_sooner store plan name old new store_before store_mid store_now before now (PageMissing file number) low why
    = why
explains_sooner store plan name old new store_before store_mid store_now before now (Store fault) low why =
    (why.0, rose_later store_before store_mid store_now low why.1)
explains_sooner store plan name old new store_before store_mid store_now before now (Target fault) low why = why
explains_sooner store plan name old new store_before store_mid store_now before now Memory low why = why

-- ---- the parts

-- a fault rests on the same from an earlier moment on
pub rests_later : (store : Told) (plan : List FileName) (store_before store_mid store_now before mid now : ℕ)
    (fault : RestoreFault) → store_before ≤ store_mid → before ≤ mid
    → RestsOn store plan store_mid store_now mid now fault → RestsOn store plan store_before store_now before now fault
rests_later store plan store_before store_mid store_now before mid now (Damaged file damage) low too rests = rests
rests_later store plan store_before store_mid store_now before mid now (PageMissing file number) low too rests = rests
rests_later store plan store_before store_mid store_now before mid now (Store fault) low too rests =
    rose_later store_before store_mid store_now low rests
rests_later store plan store_before store_mid store_now before mid now (Target fault) low too rests =
    rose_later before mid now too rests
rests_later store plan store_before store_mid store_now before mid now Memory low too rests = rests

-- a fault that came while the file was filled
pub leaves_begun : (store : Told) (cursors : Cursors) (temporary name : List ℕ) (old new : Told)
    (store_before store_now before now : ℕ) (fault : RestoreFault)
    → RestsOn store (plan_of cursors) store_before store_now before now fault → GoesOn old new (MayBegin temporary)
    → LeavesPages store cursors temporary name old new fault
leaves_begun store cursors temporary name old new sb sn b n (Damaged file damage) rests goes = goes
leaves_begun store cursors temporary name old new sb sn b n (PageMissing file number) rests goes = goes
leaves_begun store cursors temporary name old new sb sn b n (Store fault) rests goes = goes
leaves_begun store cursors temporary name old new sb sn b n (Target fault) rests goes = inl goes
leaves_begun store cursors temporary name old new sb sn b n Memory rests goes = absurd rests

same_fault : (a b : RestoreFault) → ◌≡◌ {A = Result Restored RestoreFault} (Err a) (Err b) → a ≡ b
same_fault a b is = cc

-- once memory was taken none is wanted
pub never_memory : (store : Told) (plan : List FileName) (store_before store_now before now : ℕ) (fault : RestoreFault)
    → RestsOn store plan store_before store_now before now fault
    → ◌≡◌ {A = Result (Unit {0}) RestoreFault} (Err fault) (Err Memory) → ⊥
never_memory store plan store_before store_now before now (Damaged file damage) rests is = cc
never_memory store plan store_before store_now before now (PageMissing file number) rests is = cc
never_memory store plan store_before store_now before now (Store disk) rests is = cc
never_memory store plan store_before store_now before now (Target disk) rests is = cc
never_memory store plan store_before store_now before now Memory rests is = rests

-- only want of memory becomes want of memory
pub from_memory : (fault : CursorsFault) → ◌≡◌ {A = Result Restored RestoreFault} (Err (fault_of fault)) (Err Memory)
    → fault ≡ found.Memory
from_memory (found.Damaged file damage) is = absurd cc
from_memory (found.PageMissing file number) is = absurd cc
from_memory (found.Store disk) is = absurd cc
from_memory found.Memory is = refl

-- and a call that never wants it passes on nothing of the kind
pub passes_none : (e : RestoreFault) (r : Result Restored RestoreFault) → IsErrAnd r (λ x. x ≡ e)
    → (◌≡◌ {A = Result (Unit {0}) RestoreFault} (Err e) (Err Memory) → ⊥) → IsErrOf r Memory → ⊥
passes_none e (Ok x) is never memory = absurd is
passes_none e (Err x) is never memory =
    let same : x ≡ Memory = same_fault x Memory memory in
    never (ap (λ (f : RestoreFault). Err f) (sym is ∙ same))
