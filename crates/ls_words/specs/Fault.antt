-- Answers of the code that are want of memory, or else what a definition says.
use Rattle.std.specs.Prelude.{◌≡◌, ℕ, Option, Some, None, Result, Ok, Err}
use Rattle.ls_words.specs.declared.usage.Usage.{Usage}
use Rattle.ls_words.specs.declared.usage.UsageWhy.{UsageWhy}
use Rattle.ls_words.specs.declared.usage.WordsFault.{WordsFault}
use Rattle.ls_words.specs.declared.usage.WordsFault.TheVariants as fault

-- an answer is the one that a definition gives, or want of memory
abbrev pub Agrees : {A : Type 0} → Result A WordsFault → Result A Usage → Type 0
Agrees (Ok x) due = due ≡ Ok x
Agrees (Err (fault.Usage usage)) due = due ≡ Err usage
Agrees (Err fault.Memory) due = Unit {0}

-- the same of an answer that a view reads
abbrev pub AgreesBy : {A B : Type 0} → (A → B) → Result A WordsFault → Result B Usage → Type 0
AgreesBy view (Ok x) due = due ≡ Ok (view x)
AgreesBy view (Err (fault.Usage usage)) due = due ≡ Err usage
AgreesBy view (Err fault.Memory) due = Unit {0}

-- the fault of a word
abbrev pub refusal : {A : Type 0} → ℕ → UsageWhy → Result A Usage
refusal word why = Err (record { word = word; why = why })

-- what was read from a word, or the fault of that word
abbrev pub or_fault : {A : Type 0} → ℕ → UsageWhy → Option A → Result A Usage
or_fault word why (Some x) = Ok x
or_fault word why None = refusal word why

-- a first answer, and what follows from its value
abbrev pub result_then : {A B : Type 0} → Result A Usage → (A → Result B Usage) → Result B Usage
result_then (Ok x) next = next x
result_then (Err usage) next = Err usage

-- a fact of a fault of the words
abbrev pub IfUsage : {A : Type 0} → Result A WordsFault → (Usage → Type 0) → Type 0
IfUsage (Ok x) Holds = Unit {0}
IfUsage (Err (fault.Usage usage)) Holds = Holds usage
IfUsage (Err fault.Memory) Holds = Unit {0}
