-- Bytes that are given to a file that is being put.
use Rattle.std.proofs.Common.{◌≡◌, ℕ, List, [], ◌++◌, append_assoc, append-nil, sym, ap, subst, ◌∙◌}
use Rattle.crash_disk.specs.Files.{IsThere, file_at}
use Rattle.crash_disk.specs.GoesOn.{GoesOn}
use Rattle.crash_disk.specs.Told.{Told, IfTold}
use Rattle.crash_disk.proofs.GoesOnLemmas.{told_now, goes_on-weaker}
use Rattle.replica_store.specs.Putting.{draft_path, KeepsOthers, IsPutting, PutsMore, PutsNothing}
use Rattle.replica_store.proofs.FaithLemmas.{is_there}
use Rattle.replica_sync.specs.Gathering.{HasGathered, IsGathering, GathersMore, KeepsAllOthers}

-- the temporary file is there
pub draft_there : (path gathered : List ℕ) (now : Told) → IsGathering path gathered now
    → IfTold now (λ events. IsThere events (draft_path path))
draft_there path gathered now is =
    told_now is.begun now (IsPutting path is.gathers.written) (λ events. IsThere events (draft_path path))
    is.gathers.putting
    (λ x y p. record { there = is_there (file_at y (draft_path path)) is.gathers.written p.draft })

pub flushed : (path gathered after : List ℕ) (old new : Told) → PutsMore path gathered old new → after ≡ []
    → GathersMore path gathered [] after old new
flushed path gathered after old new puts none begun all has = record {
  written = has.written ++ gathered;
  is = append-nil all ∙ has.is
      ∙ sym (ap (λ (xs : List ℕ). (has.written ++ gathered) ++ xs) none ∙ append-nil (has.written ++ gathered));
  putting = puts begun has.written has.putting;
}

pub lost : (path gathered : List ℕ) (old new : Told) → PutsNothing path old new
    → KeepsAllOthers path gathered old new
lost path gathered old new nothing begun all has = nothing begun has.written has.putting

-- nothing more was given
pub none_more : (path gathered : List ℕ) (told : Told) → GathersMore path gathered [] gathered told told
none_more path gathered told begun all has = record {
  written = has.written;
  is = append-nil all ∙ has.is;
  putting = has.putting;
}

pub added : (path before mid bytes after : List ℕ) (old new : Told) → GathersMore path before [] mid old new
    → after ≡ mid ++ bytes → GathersMore path before bytes after old new
added path before mid bytes after old new room is begun all has =
    let m = room begun all has in
    record {
      written = m.written;
      is = ap (λ (xs : List ℕ). xs ++ bytes) (sym (append-nil all) ∙ m.is) ∙ append_assoc m.written mid bytes
          ∙ ap (λ (xs : List ℕ). m.written ++ xs) (sym is);
      putting = m.putting;
    }

-- some bytes were given and then more
module _ (path before mid after a b : List ℕ) (old now new : Told) (first : GathersMore path before a mid old now) where
  pub then_more : GathersMore path mid b after now new → GathersMore path before (a ++ b) after old new
  then_more second begun all has =
      subst (HasGathered path after begun new) (append_assoc all a b) (second begun (all ++ a) (first begun all has))

  pub then_lost : KeepsAllOthers path mid now new → KeepsAllOthers path before old new
  then_lost second begun all has = second begun (all ++ a) (first begun all has)

  pub still_gathering : IsGathering path before old → IsGathering path mid now
  still_gathering is = record { begun = is.begun; all = is.all ++ a; gathers = first is.begun is.all is.gathers }

pub flushed_last : (path before a after : List ℕ) (old new : Told) → GathersMore path before (a ++ []) after old new
    → after ≡ [] → GathersMore path before a [] old new
flushed_last path before a after old new gathers none =
    subst (λ (xs : List ℕ). GathersMore path before a xs old new) none
    (subst (λ (xs : List ℕ). GathersMore path before xs after old new) (append-nil a) gathers)

-- what was given is in the file once nothing is gathered
pub all_put : (path : List ℕ) (begun now : Told) (all : List ℕ) → HasGathered path [] begun now all
    → GoesOn begun now (IsPutting path all)
all_put path begun now all has =
    subst (λ (xs : List ℕ). GoesOn begun now (IsPutting path xs)) (sym (has.is ∙ append-nil has.written)) has.putting

-- whatever was given, nothing but the temporary file has changed
pub keeps : (path gathered : List ℕ) (begun now : Told) (all : List ℕ) → HasGathered path gathered begun now all
    → GoesOn begun now (KeepsOthers path)
keeps path gathered begun now all has =
    goes_on-weaker begun now (IsPutting path has.written) (KeepsOthers path) has.putting (λ x y p. p.others)
