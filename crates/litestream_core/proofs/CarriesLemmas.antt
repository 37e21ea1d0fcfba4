-- From the ways of each command to how the words are carried out.
use Rattle.std.proofs.Common.{◌≡◌, ℕ, List, true, false, Option, Some, None, Ok, Err, refl, subst, inl, inr, arith}
use Rattle.std.specs.Prelude.{Result}
use Rattle.ls_words.specs.declared.command.Command.{Command}
use Rattle.ls_words.specs.declared.command.Command.TheVariants.{Replicate, Restore, Ltx, Demo}
use Rattle.ls_words.specs.declared.usage.Usage.{Usage as BadWord}
use Rattle.ls_answers.specs.declared.outcome.Why.{Why}
use Rattle.ls_answers.specs.declared.outcome.Why.TheVariants.{Done, NotBuilt, Memory}
use Rattle.litestream_core.specs.Asked.{AreAttached}
use Rattle.replicate_command.specs.Asked.{Asked}
use Rattle.replicate_command.specs.Laws.{RefusesAtOnce}
use Rattle.litestream_core.specs.Carries.{RestoreEnds, Restoring, Listing, Replicating, Ends, Carries}
use Rattle.litestream_core.specs.Command.{Explains}
use Rattle.litestream_core.specs.Laws.{Laws}
use Rattle.litestream_core.specs.Listing.{listed_in}
use Rattle.litestream_core.specs.Objects.{Kinds, Objects}
use Rattle.litestream_core.specs.Replication.{replication_in, replication_for}
use Rattle.litestream_core.specs.Request.{Request, request_in, request_for}
use Rattle.litestream_core.specs.Scene.{Scene, scene_of, FaultsStay}
use Rattle.litestream_core.proofs.ExactLemmas.{comes_exactly}
use Rattle.litestream_core.proofs.Theorems.{keeps_promise, survives_any_stop}

-- a restore whose answer is explained ends as it is to end
pub restore_ends : Laws → (r : Request) (scene : Scene) (store target : Option (List ℕ)) (why : Why)
    → Explains r scene why → (why ≡ Done → AreAttached r store target) → scene.store_after ≡ scene.store
    → FaultsStay scene → RestoreEnds r scene store target why
restore_ends laws r scene store target why explained attached unchanged faults = record {
  explained = explained;
  exact = comes_exactly laws r scene why explained;
  promise = keeps_promise laws r scene why explained;
  at_any_stop = survives_any_stop laws r scene why explained;
  attached = attached;
  store_unchanged = unchanged;
  faults = faults;
}

never_done : Memory ≡ Done → ⊥
never_done e = cc

module _ {L S T O : Type 0} (kinds : Kinds L S T O) (before after : Objects L S T O) (why : Why) (now : ℕ) where
  -- a restore
  pub ends_restore : (command : Command) (r : Request) → Some r ≡ request_in command
      → Restoring kinds before after why r → Ends kinds before after why now command
  ends_restore (Restore output replica target skip_output skip_replica) r is ends =
      let same : r ≡ request_for output replica target skip_output skip_replica = cc in
      subst (Restoring kinds before after why) same ends
  ends_restore (Replicate db replica rounds keep at_rest) r is ends = absurd cc
  ends_restore (Ltx replica) r is ends = absurd cc
  ends_restore (Demo seed rounds) r is ends = absurd cc

  -- a listing
  pub ends_listing : (command : Command) (replica : List ℕ) → Some replica ≡ listed_in command
      → Listing kinds before after why replica → Ends kinds before after why now command
  ends_listing (Ltx replica) listed is ends =
      let same : listed ≡ replica = cc in
      subst (Listing kinds before after why) same ends
  ends_listing (Replicate db replica rounds keep at_rest) listed is ends = absurd cc
  ends_listing (Restore output replica target skip_output skip_replica) listed is ends = absurd cc
  ends_listing (Demo seed rounds) listed is ends = absurd cc

  -- a replication
  pub ends_replication : (command : Command) (asked : Asked) → Some asked ≡ replication_in now command
      → Replicating kinds before after why asked → Ends kinds before after why now command
  ends_replication (Replicate db replica rounds keep at_rest) asked is ends =
      let same : asked ≡ replication_for db replica rounds keep at_rest now = cc in
      subst (Replicating kinds before after why) same ends
  ends_replication (Restore output replica target skip_output skip_replica) asked is ends = absurd cc
  ends_replication (Ltx replica) asked is ends = absurd cc
  ends_replication (Demo seed rounds) asked is ends = absurd cc

module _ {L S T O : Type 0} (kinds : Kinds L S T O) (at : Objects L S T O) (now : ℕ) where
  -- another command
  pub ends_unbuilt : (command : Command) → None ≡ request_in command → None ≡ listed_in command
      → None ≡ replication_in now command → Ends kinds at at NotBuilt now command
  ends_unbuilt (Replicate db replica rounds keep at_rest) no_restore no_listing no_replication = absurd cc
  ends_unbuilt (Demo seed rounds) no_restore no_listing no_replication = record { answer = inl refl; untouched = refl }
  ends_unbuilt (Ltx replica) no_restore no_listing no_replication = absurd cc
  ends_unbuilt (Restore output replica target skip_output skip_replica) no_restore no_listing no_replication = absurd cc

  -- want of memory for the command's texts
  ends_early : Laws → RefusesAtOnce kinds.live kinds.store kinds.out → (command : Command)
      → Ends kinds at at Memory now command
  ends_early laws at_once (Replicate db replica rounds keep at_rest) = record {
    ends = at_once (replication_for db replica rounds keep at_rest now) at.live at.store at.out;
    target = refl;
  }
  ends_early laws at_once (Demo seed rounds) = record { answer = inr refl; untouched = refl }
  ends_early laws at_once (Ltx replica) = record {
    lists = record {
      explained = record { text = refl };
      exact = record {
        damaged = λ store told calm name damage bad. inr refl;
        done = λ store told calm good sink_calm. inr refl;
      };
      attached = λ done. absurd (never_done done);
      unchanged = refl;
      faults = record { store = omega arith; sink = omega arith };
    };
    live = refl;
    target = refl;
  }
  ends_early laws at_once (Restore output replica target skip_output skip_replica) =
      let r = request_for output replica target skip_output skip_replica in
      record {
        ends = restore_ends laws r
            (scene_of kinds.store kinds.target kinds.out r at.store at.store at.target at.target at.out at.out)
            (kinds.store.folder at.store) (kinds.target.folder at.target) Memory
            (record { target = refl; text = refl }) (λ done. absurd (never_done done)) refl
            (record { store = omega arith; target = omega arith; sink = omega arith });
        live = refl;
      }

  pub carries_early : Laws → RefusesAtOnce kinds.live kinds.store kinds.out → (asked : Result Command BadWord)
      → Carries kinds at at Memory now asked
  carries_early laws at_once (Ok command) = ends_early laws at_once command
  carries_early laws at_once (Err usage) = record { answer = inr refl; untouched = refl }
