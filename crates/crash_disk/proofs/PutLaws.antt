-- A crash-safe put: a file is written under a draft name, synced, renamed, and the names are synced. At each moment a
-- crash leaves at the final name the whole file or what it might have left before.
use Rattle.std.proofs.Common.{◌≡◌, ◌≢◌, ℕ, ◌<◌, List, [], ◌∷◌, ◌++◌, length, Some, None, IfSome, refl, ap, sym, subst}
use Rattle.std.proofs.Common.{◌∙◌, arith}
use Rattle.std.specs.Prelude.{unwrap_or}
use Rattle.std.specs.Option.{option_or}
use Rattle.crash_disk.specs.declared.event.Event.{Event}
use Rattle.crash_disk.specs.declared.event.Event.TheVariants.{Created, Appended, Synced, Renamed}
use Rattle.crash_disk.proofs.FileLaws.{file_at-Created-here}
use Rattle.crash_disk.specs.FileState.{FileState, SomeOf, synced_file, appended, resized}
use Rattle.crash_disk.specs.Numbers.{number_at, numbers_at, file_of}
use Rattle.crash_disk.proofs.NumberLaws.{number_at-Created-here, number_at-Created-other, number_at-Renamed-to}
use Rattle.crash_disk.proofs.NumberLaws.{number_at-Renamed-from}
use Rattle.crash_disk.proofs.DistinctNumbers.{same_number}
use Rattle.crash_disk.proofs.NumberedFiles.{changed_at-here, changed_at-other}
use Rattle.crash_disk.proofs.ReadFiles.{bytes_by, file_at-numbered}
use Rattle.crash_disk.proofs.ImageSteps.{numbers_below, numbers_at-Created-other, numbers_at-Renamed-other}
use Rattle.crash_disk.proofs.ImageSteps.{numbers_at-Renamed-to}

-- Since base a file was begun under the draft name and has these bytes; it is at none of the names that are kept,
-- and at those nothing changed.
pub record IsDraft (Kept : List ℕ → Type 0) (base events : List Event) (draft : List ℕ) (number : ℕ) (bytes : List ℕ)
    : Type 0 where
  pub apart : (q : List ℕ) → Kept q → q ≢ draft
  pub here : number_at events draft ≡ Some number
  pub reads : (file_of events number).bytes ≡ bytes
  pub alone : (q : List ℕ) → Kept q → SomeOf (λ other. other ≡ Some number) (numbers_at base q) → ⊥
  pub same_now : (q : List ℕ) → Kept q → number_at events q ≡ number_at base q
  pub same_numbers : (q : List ℕ) → Kept q → numbers_at events q ≡ numbers_at base q
  pub same_files : (n : ℕ) → (n ≡ number → ⊥) → file_of events n ≡ file_of base n

-- the draft is whole and synced
pub record IsWhole (Kept : List ℕ → Type 0) (base events : List Event) (draft : List ℕ) (number : ℕ) (bytes : List ℕ)
    : Type 0 where
  pub begun : IsDraft Kept base events draft number bytes
  pub synced : file_of events number ≡ synced_file bytes

-- the whole draft has the final name, and a crash may still leave what was there before
pub record IsNamed (Kept : List ℕ → Type 0) (base events : List Event) (draft name : List ℕ) (number : ℕ)
    (bytes : List ℕ) : Type 0 where
  pub there : number_at events name ≡ Some number
  pub gone : number_at events draft ≡ None
  pub synced : file_of events number ≡ synced_file bytes
  pub alone : (q : List ℕ) → Kept q → SomeOf (λ other. other ≡ Some number) (numbers_at base q) → ⊥
  pub numbers : numbers_at events name ≡ Some number ∷ numbers_at base name
  pub same_numbers : (q : List ℕ) → Kept q → q ≢ name → numbers_at events q ≡ numbers_at base q
  pub same_files : (n : ℕ) → (n ≡ number → ⊥) → file_of events n ≡ file_of base n

module _ (Kept : List ℕ → Type 0) (base : List Event) (draft : List ℕ) where
  -- the number that a file made under the draft name has
  abbrev pub draft_number : ℕ
  draft_number = unwrap_or (number_at base draft) (length base)

  created_number : (n : ℕ) → number_at base draft ≡ Some n → n ≡ draft_number
  created_number n there = ap (λ number. unwrap_or number (length base)) (sym there)

  created_reads : (file_of (Created draft ∷ base) draft_number).bytes ≡ []
  created_reads =
      let read : Some [] ≡ Some (file_of (Created draft ∷ base) draft_number).bytes =
      sym (file_at-Created-here base draft) ∙ file_at-numbered (Created draft ∷ base) draft
      ∙ ap (bytes_by (file_of (Created draft ∷ base))) (number_at-Created-here base draft) in
      subst (λ file. IfSome file (λ bytes. bytes ≡ [])) read refl

  -- a draft is begun where its file is at no name that is kept
  pub IsDraft-Created : ((q : List ℕ) → Kept q → q ≢ draft)
      → ((q : List ℕ) → Kept q → SomeOf (λ other. other ≡ Some draft_number) (numbers_at base q) → ⊥)
      → IsDraft Kept base (Created draft ∷ base) draft draft_number []
  unfolding file_of
  IsDraft-Created apart alone = record {
    apart = apart;
    here = number_at-Created-here base draft;
    reads = created_reads;
    alone = alone;
    same_now = λ q kept. number_at-Created-other base draft q (apart q kept);
    same_numbers = λ q kept. numbers_at-Created-other base draft q (apart q kept);
    same_files = λ n other. changed_at-other (number_at base draft) (resized 0) n (file_of base n)
        (λ there. other (created_number n there));
  }

  -- as where no file had the draft name
  pub IsDraft-fresh : ((q : List ℕ) → Kept q → q ≢ draft) → number_at base draft ≡ None
      → IsDraft Kept base (Created draft ∷ base) draft draft_number []
  IsDraft-fresh apart none =
      let next : draft_number ≡ length base = ap (λ number. unwrap_or number (length base)) none in
      IsDraft-Created apart (λ q kept there. let below : draft_number < length base = numbers_below draft_number base
      q there in omega (arith, next, below))

  module _ (events : List Event) (number : ℕ) (bytes : List ℕ) where
    pub IsDraft-Appended : (more : List ℕ) → IsDraft Kept base events draft number bytes
        → IsDraft Kept base (Appended draft more ∷ events) draft number (bytes ++ more)
    unfolding number_at numbers_at file_of
    IsDraft-Appended more is = record {
      apart = is.apart;
      here = is.here;
      reads = ap (λ file. file.bytes)
          (changed_at-here (number_at events draft) (appended more) number (file_of events number) is.here)
          ∙ ap (λ old. old ++ more) is.reads;
      alone = is.alone;
      same_now = is.same_now;
      same_numbers = is.same_numbers;
      same_files = λ n other. changed_at-other (number_at events draft) (appended more) n (file_of events n)
          (λ there. other (sym (same_number number n (sym is.here ∙ there)))) ∙ is.same_files n other;
    }

    pub IsWhole-Synced : IsDraft Kept base events draft number bytes
        → IsWhole Kept base (Synced draft ∷ events) draft number bytes
    unfolding number_at numbers_at file_of
    IsWhole-Synced is =
        let resynced = λ (file : FileState). synced_file file.bytes in
        let whole : file_of (Synced draft ∷ events) number ≡ synced_file bytes = changed_at-here
        (number_at events draft) resynced number (file_of events number) is.here ∙ ap synced_file is.reads in
        record {
          begun = record {
            apart = is.apart;
            here = is.here;
            reads = ap (λ file. file.bytes) whole;
            alone = is.alone;
            same_now = is.same_now;
            same_numbers = is.same_numbers;
            same_files = λ n other. changed_at-other (number_at events draft) resynced n (file_of events n)
                (λ there. other (sym (same_number number n (sym is.here ∙ there)))) ∙ is.same_files n other;
          };
          synced = whole;
        }

    pub IsNamed-Renamed : (name : List ℕ) → Kept name → IsWhole Kept base events draft number bytes
        → IsNamed Kept base (Renamed draft name ∷ events) draft name number bytes
    unfolding file_of
    IsNamed-Renamed name kept is =
        let apart : name ≢ draft = is.begun.apart name kept in
        let there : number_at (Renamed draft name ∷ events) name ≡ Some number = number_at-Renamed-to events draft
        name ∙ ap (λ from. option_or from (number_at events name)) is.begun.here in
        record {
          there = there;
          gone = number_at-Renamed-from events draft name (λ same. apart (sym same));
          synced = is.synced;
          alone = is.begun.alone;
          numbers = numbers_at-Renamed-to events draft name ∙ ap (λ now. now ∷ numbers_at events name) there
              ∙ ap (λ old. Some number ∷ old) (is.begun.same_numbers name kept);
          same_numbers = λ q kept-q other. numbers_at-Renamed-other events draft name q (is.begun.apart q kept-q)
              other ∙ is.begun.same_numbers q kept-q;
          same_files = is.begun.same_files;
        }
