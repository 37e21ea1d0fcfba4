-- What the answers of a listing mean.
use Rattle.std.specs.Prelude.{◌≡◌, ℕ, List}
use Rattle.crash_disk.specs.Output.{gains_text, GainsFront}
use Rattle.ls_base.specs.Fault.{Rose}
use Rattle.replica_listing.specs.Listing.{listing}
use Rattle.replica_store.specs.declared.dated_names.Dated.{Dated}
use Rattle.ls_answers.specs.declared.outcome.Why.{Why}
use Rattle.ls_answers.specs.declared.outcome.Why.TheVariants.{Done, Damaged, StoreFault, SinkFault, Memory}
use Rattle.ltx_command.specs.Files.{IfFilesTold, AreFilesOf, IsFirstDamaged}
use Rattle.ltx_command.specs.Seen.{Seen}

-- a listing was printed, and where the replica tells, it is that of its files
pub record HasListed (seen : Seen) : Type 0 where
  pub dated : List Dated
  pub sizes : List ℕ
  pub text : seen.text_after ≡ gains_text seen.text (listing dated sizes)
  pub are : IfFilesTold seen.store (λ files. AreFilesOf files dated sizes)

-- or a front of it, while the output failed
pub record HasListedFront (seen : Seen) : Type 0 where
  pub dated : List Dated
  pub sizes : List ℕ
  pub text : GainsFront seen.text seen.text_after (listing dated sizes)
  pub are : IfFilesTold seen.store (λ files. AreFilesOf files dated sizes)
  pub rose : Rose seen.sink_faults seen.sink_faults_after

-- nothing was printed
pub record PrintsNothing (seen : Seen) : Type 0 where
  pub text : seen.text_after ≡ seen.text

-- what each answer to a listing means
abbrev pub Explains : Seen → Why → Type 0
Explains seen Done = HasListed seen
Explains seen (Damaged name damage) =
    PrintsNothing seen × IfFilesTold seen.store (λ files. IsFirstDamaged files name damage)
Explains seen StoreFault = PrintsNothing seen × Rose seen.store_faults seen.store_faults_after
Explains seen SinkFault = HasListedFront seen
Explains seen Memory = PrintsNothing seen
Explains seen other = ⊥
