-- When each answer to a listing comes: where its condition holds and no count of faults rose, it is the answer, unless
-- memory runs out.
use Rattle.std.specs.Prelude.{◌≡◌, ℕ, ◌⊎◌}
use Rattle.ls_base.specs.Fault.{Rose}
use Rattle.crash_disk.specs.Files.{Files, files_after}
use Rattle.crash_disk.specs.declared.event.Event.{Event}
use Rattle.std.specs.Prelude.{List, Some}
use Rattle.replica_store.specs.declared.error.Damage.{Damage}
use Rattle.replica_store.specs.declared.file_name.FileName.{FileName}
use Rattle.ls_answers.specs.declared.outcome.Why.{Why}
use Rattle.ls_answers.specs.declared.outcome.Why.TheVariants.{Done, Damaged, Memory}
use Rattle.ltx_command.specs.Files.{HeadersAreGood, IsFirstDamaged}
use Rattle.ltx_command.specs.Seen.{Seen}

-- the count of faults neither rose nor stands at its last value
abbrev pub IsCalm : ℕ → ℕ → Type 0
IsCalm before now = Rose before now → ⊥

-- this is the answer, unless memory ran out
abbrev pub Answers : Why → Why → Type 0
Answers why answer = (why ≡ answer) ⊎ (why ≡ Memory)

-- the answer tells of some damage, unless memory ran out
abbrev pub AnswersDamaged : Why → Type 0
AnswersDamaged why = ((name : FileName) × (damage : Damage) × (why ≡ Damaged name damage)) ⊎ (why ≡ Memory)

-- the store tells and didn't fail: then this holds of its files
abbrev pub WhereTold : Seen → (Files → Type 0) → Type 0
WhereTold seen P =
    (store : List Event) → seen.store ≡ Some store → IsCalm seen.store_faults seen.store_faults_after
    → P (files_after store)

pub record ComesExactly (seen : Seen) (why : Why) : Type 0 where
  pub damaged : WhereTold seen (λ files. (name : FileName) (damage : Damage) → IsFirstDamaged files name damage
      → AnswersDamaged why)
  pub done : WhereTold seen (λ files. HeadersAreGood files → IsCalm seen.sink_faults seen.sink_faults_after
      → Answers why Done)
