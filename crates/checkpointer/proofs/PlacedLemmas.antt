-- Files that were placed have their names synced.
use Rattle.std.proofs.Common.{◌≡◌, ◌≢◌, ◌∙◌, List, [], ◌∷◌, Option, IsSome, ℕ, sym, subst, refl}
use Rattle.crash_disk.specs.declared.event.Event.{Event}
use Rattle.crash_disk.specs.declared.event.Event.TheVariants.{Placed}
use Rattle.crash_disk.proofs.FileLaws.{file_at-Placed-here, file_at-Placed-other, IsThere-Placed}
use Rattle.crash_disk.proofs.SettledLaws.{ArePlaced-settled}
use Rattle.checkpointer.specs.PairState.{AreNamed}

pub placed_named : (events : List Event) (db wal a b : List ℕ) → db ≢ wal → events ≡ Placed wal b ∷ Placed db a ∷ []
    → AreNamed events db wal
placed_named events db wal a b apart is =
    let before = Placed db a ∷ [] in
    let now = Placed wal b ∷ before in
    subst (λ (es : List Event). AreNamed es db wal) (sym is) (record {
      database = record {
        there = record {
          there = subst (λ (file : Option (List ℕ)). IsSome file)
              (sym (file_at-Placed-other before wal b db apart ∙ file_at-Placed-here [] db a)) refl;
        };
        synced = (ArePlaced-settled now db tt).number;
      };
      log = record { there = IsThere-Placed before wal b; synced = (ArePlaced-settled now wal tt).number };
    })
