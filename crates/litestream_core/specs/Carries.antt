-- How each command ends.
use Rattle.std.specs.Prelude.{◌≡◌, ℕ, List, Option, Result, Ok, Err, ◌⊎◌}
use Rattle.ls_words.specs.declared.command.Command.{Command}
use Rattle.ls_words.specs.declared.command.Command.TheVariants.{Replicate, Restore, Ltx, Demo}
use Rattle.ls_words.specs.declared.usage.Usage.{Usage as BadWord}
use Rattle.ls_answers.specs.declared.outcome.Why.{Why}
use Rattle.ls_answers.specs.declared.outcome.Why.TheVariants.{Done, NotBuilt, Usage, Memory}
use Rattle.ltx_command.specs.Lists.{Lists}
use Rattle.ltx_command.specs.Seen.{seen_of as listing_of}
use Rattle.replicate_command.specs.Asked.{Asked}
use Rattle.replicate_command.specs.Ends.{ReplicateEnds}
use Rattle.replicate_command.specs.Seen.{seen_of}
use Rattle.litestream_core.specs.Asked.{AreAttached}
use Rattle.litestream_core.specs.Command.{Explains, KeepsPromise, SurvivesAnyStop}
use Rattle.litestream_core.specs.Exact.{ComesExactly}
use Rattle.litestream_core.specs.Objects.{Kinds, Objects}
use Rattle.litestream_core.specs.Replication.{replication_for}
use Rattle.litestream_core.specs.Request.{Request, request_for}
use Rattle.litestream_core.specs.Scene.{Scene, scene_of, FaultsStay}

-- The words were refused before any object was looked at: this is the answer, unless memory ran out.
pub record Refuses {L S T O : Type 0} (refusal : Why) (before after : Objects L S T O) (why : Why) : Type 0 where
  pub answer : (why ≡ refusal) ⊎ (why ≡ Memory)
  pub untouched : after ≡ before

-- How a restore ends: what its answer means, when it comes, what is promised of it, and where the disks are attached.
pub record RestoreEnds (r : Request) (scene : Scene) (store target : Option (List ℕ)) (why : Why) : Type 0 where
  pub explained : Explains r scene why
  pub exact : ComesExactly r scene why
  pub promise : KeepsPromise r scene why
  pub at_any_stop : SurvivesAnyStop r scene
  pub attached : why ≡ Done → AreAttached r store target
  pub store_unchanged : scene.store_after ≡ scene.store
  pub faults : FaultsStay scene

module _ {L S T O : Type 0} (kinds : Kinds L S T O) (before after : Objects L S T O) (why : Why) where
  -- how a restore ends; the live database isn't looked at
  pub record Restoring (r : Request) : Type 0 where
    pub ends : RestoreEnds r
        (scene_of kinds.store kinds.target kinds.out r before.store after.store before.target after.target before.out
        after.out)
        (kinds.store.folder after.store) (kinds.target.folder after.target) why
    pub live : after.live ≡ before.live

  -- how a listing ends; the live database and the output's disk aren't looked at
  pub record Listing (replica : List ℕ) : Type 0 where
    pub lists : Lists (listing_of kinds.store kinds.out replica before.store after.store before.out after.out) why
    pub live : after.live ≡ before.live
    pub target : after.target ≡ before.target

  -- how a replication ends; the output's disk isn't looked at
  pub record Replicating (asked : Asked) : Type 0 where
    pub ends : ReplicateEnds
        (seen_of kinds.live kinds.store kinds.out asked before.live after.live before.store after.store before.out
        after.out) why
    pub target : after.target ≡ before.target

  -- How a command ends. What isn't built yet is refused as such.
  abbrev pub Ends : ℕ → Command → Type 0
  Ends now (Restore output replica target if_db_not_exists if_replica_exists) =
      Restoring (request_for output replica target if_db_not_exists if_replica_exists)
  Ends now (Ltx replica) = Listing replica
  Ends now (Replicate db replica rounds keep at_rest) =
      Replicating (replication_for db replica rounds keep at_rest now)
  Ends now (Demo seed rounds) = Refuses NotBuilt before after why

  -- How the words are carried out: by their command, and with their fault where they are none.
  abbrev pub Carries : ℕ → Result Command BadWord → Type 0
  Carries now (Ok command) = Ends now command
  Carries now (Err usage) = Refuses (Usage usage) before after why
