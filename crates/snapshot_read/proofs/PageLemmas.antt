-- One page by a map of offsets.
use Rattle.std.proofs.Common.{◌≡◌, ℕ, List, length, replicate, Bool, Result, Ok, Err, Option, Some, None, refl, sym, ap}
use Rattle.std.proofs.Common.{subst, ◌∙◌, cond, arith}
use Rattle.std.specs.Prelude.{◌≢◌, OnOk, unwrap_or}
use Rattle.std.specs.Option.{option_map}
use Rattle.std.specs.FinMap.{get}
use Rattle.std.proofs.lemmas.Bool.{eq-eqb, ne_eqb}
use Rattle.ls_base.specs.PageSize.{lock_page}
use Rattle.wal_frames.specs.View.{file_page}
use Rattle.live_gate.specs.declared.fault.LiveFault.{LiveFault}
use Rattle.live_gate.specs.LiveRecord.{LiveRecord}
use Rattle.live_gate.specs.LiveCalls.{GivesPage}
use Rattle.live_gate.proofs.StepLemmas.{step_itself}
use Rattle.snapshot_read.specs.declared.fault.PageFault.{PageFault}
use Rattle.snapshot_read.specs.declared.fault.PageFault.TheVariants.{Live}
use Rattle.snapshot_read.specs.PageOffsets.{Offsets}
use Rattle.snapshot_read.specs.Offsets.{log_page, mapped_page}
use Rattle.snapshot_read.specs.Reading.{IsCutShort, ReadsLog, ReadsPage}
use Rattle.snapshot_read.proofs.ReadLemmas.{asks_nothing}

on_ok_then : {T E : Type 0} (r : Result T E) (P Q : Type 0) → OnOk r P → (P → Q) → OnOk r Q
on_ok_then (Ok x) P Q holds implies = implies holds
on_ok_then (Err e) P Q holds implies = tt

some_same : (a b : ℕ) → ◌≡◌ {A = Option ℕ} (Some a) (Some b) → a ≡ b
some_same a b e = cc

module _ (offsets : Offsets) (size number : ℕ) where
  -- ---- the page of the map, by cases

  locked_page : (file log : List ℕ) → number ≡ lock_page size
      → mapped_page size file log offsets number ≡ replicate size 0
  locked_page file log locked = ap (λ (b : Bool). cond b (replicate size 0)
      (unwrap_or (option_map (log_page size log) (get offsets number)) (file_page size file number)))
      (eq-eqb number (lock_page size) locked)

  unlocked_page : (file log : List ℕ) (found : Option ℕ) → number ≢ lock_page size → get offsets number ≡ found
      → mapped_page size file log offsets number ≡ unwrap_or (option_map (log_page size log) found)
      (file_page size file number)
  unlocked_page file log found other is =
      ap (λ (b : Bool). cond b (replicate size 0)
      (unwrap_or (option_map (log_page size log) (get offsets number)) (file_page size file number)))
      (ne_eqb number (lock_page size) other)
      ∙ ap (λ (o : Option ℕ). unwrap_or (option_map (log_page size log) o) (file_page size file number)) is

  -- ---- the ways to read it

  pub reads_locked : (into : List ℕ) (x : LiveRecord) → number ≡ lock_page size → into ≡ replicate size 0
      → ReadsPage offsets size number (Ok tt) into x x
  reads_locked into x locked blank = record {
    step = step_itself x.database;
    awake = λ other. absurd (other locked);
    asked = asks_nothing x.asked x.asked refl;
    answered = λ at other. absurd (other locked);
    short = λ at missing found is. absurd cc;
    value = λ gate within. blank ∙ sym (locked_page x.database.file x.database.committed locked);
    whole = λ gate within missing is. absurd cc;
  }

  module _ (other : number ≢ lock_page size) where
    pub reads_log : (at : ℕ) (r : Result (Unit {0}) PageFault) (into : List ℕ) (x y : LiveRecord)
        → get offsets number ≡ Some at → length into ≡ size
        → ReadsLog at r into x y → ReadsPage offsets size number r into x y
    reads_log at r into x y found long reads = record {
      step = reads.step;
      awake = λ unlocked. reads.awake;
      asked = reads.asked;
      answered = λ from unlocked is.
          let same : at ≡ from = some_same at from (sym found ∙ is) in
          subst (λ (k : ℕ). OnOk r ((y.asked.aimed ≡ k) × (y.asked.answered ≡ into))) same reads.answered;
      short = λ from missing is cut.
          let same : at ≡ from = some_same at from (sym found ∙ is) in
          subst (λ (k : ℕ). IsCutShort size k missing y) same
          (subst (λ (n : ℕ). IsCutShort n at missing y) long (reads.short missing cut));
      value = λ gate within.
          on_ok_then r (into ≡ log_page (length into) x.database.committed at)
          (into ≡ mapped_page size y.database.file x.database.committed offsets number)
          (reads.value gate (omega (arith, within at found, long)))
          (λ is. is ∙ ap (λ (n : ℕ). log_page n x.database.committed at) long
          ∙ sym (unlocked_page y.database.file x.database.committed (Some at) other found));
      whole = λ gate within. reads.whole gate (omega (arith, within at found, long));
    }

    module _ (none : get offsets number ≡ None) where
      no_offset : (at : ℕ) → get offsets number ≡ Some at → ⊥
      no_offset at found = let both : None ≡ Some at = sym none ∙ found in absurd cc

      pub reads_file : (into : List ℕ) (x y : LiveRecord) → GivesPage size number (Ok tt) into x y
          → ReadsPage offsets size number (Ok tt) into x y
      reads_file into x y gives = record {
        step = gives.call.step;
        awake = λ unlocked ok. gives.call.awake refl;
        asked = asks_nothing x.asked y.asked gives.asked;
        answered = λ at unlocked found. absurd (no_offset at found);
        short = λ at missing found is. absurd cc;
        value = λ gate within. gives.value ∙ sym (unlocked_page y.database.file x.database.committed None other none);
        whole = λ gate within missing is. absurd cc;
      }

      pub file_failed : (r : Result (Unit {0}) PageFault) (fault : LiveFault) (into : List ℕ) (x y : LiveRecord)
          → r ≡ Err (Live fault) → GivesPage size number (Err fault) into x y → ReadsPage offsets size number r into x y
      file_failed r fault into x y is gives =
          subst (λ (answer : Result (Unit {0}) PageFault). ReadsPage offsets size number answer into x y) (sym is)
          (record {
            step = gives.call.step;
            awake = λ unlocked ok. absurd cc;
            asked = asks_nothing x.asked y.asked gives.asked;
            answered = λ at unlocked found. tt;
            short = λ at missing found cut. absurd cc;
            value = λ gate within. tt;
            whole = λ gate within missing cut. absurd cc;
          })
