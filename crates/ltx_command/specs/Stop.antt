-- Why a replica's files could not be listed.
use Rattle.std.specs.Prelude.{ℕ, ⊤}
use Rattle.crash_disk.specs.declared.fault.NamesFault.{NamesFault}
use Rattle.crash_disk.specs.declared.fault.NamesFault.TheVariants.{Disk, Memory as no_memory}
use Rattle.crash_disk.specs.Told.{Told}
use Rattle.ls_base.specs.Fault.{Rose}
use Rattle.replica_store.specs.declared.error.StoreError.{StoreError}
use Rattle.replica_store.specs.declared.error.StoreError.TheVariants as error
use Rattle.ls_answers.specs.declared.outcome.Why.{Why}
use Rattle.ls_answers.specs.declared.outcome.Why.TheVariants as why
use Rattle.ltx_command.specs.declared.stop.LtxStop.{LtxStop}
use Rattle.ltx_command.specs.declared.stop.LtxStop.TheVariants.{Damaged, Store, Memory}
use Rattle.ltx_command.specs.Files.{IfFilesTold, IsFirstDamaged}

-- the stop that a refused `attach` is
abbrev pub stop_of_names : NamesFault → LtxStop
stop_of_names (Disk fault) = Store
stop_of_names no_memory = Memory

-- the stop that an error of the replica is
abbrev pub stop_of : StoreError → LtxStop
stop_of (error.Store fault) = Store
stop_of (error.Damaged name damage) = Damaged name damage
stop_of error.Memory = Memory

-- the answer that a stop is
abbrev pub why_of_stop : LtxStop → Why
why_of_stop (Damaged name damage) = why.Damaged name damage
why_of_stop Store = why.StoreFault
why_of_stop Memory = why.Memory

-- what a stop means
abbrev pub ExplainsStop : Told → ℕ → ℕ → LtxStop → Type 0
ExplainsStop store before now (Damaged name damage) =
    IfFilesTold store (λ files. IsFirstDamaged files name damage)
ExplainsStop store before now Store = Rose before now
ExplainsStop store before now Memory = ⊤
