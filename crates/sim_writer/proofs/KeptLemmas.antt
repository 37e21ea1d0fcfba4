-- What a stop leaves of the log.
use Rattle.std.proofs.Common.{◌≡◌, ℕ, ◌-◌, ◌≤◌, Some, sym, ◌∙◌, arith}
use Rattle.std.specs.List.{slice_get}
use Rattle.ls_base.specs.declared.mark.Mark.{Mark}
use Rattle.ls_base.specs.declared.place.Place.{Place}
use Rattle.ls_base.specs.declared.place.Place.TheVariants.{Wal}
use Rattle.wal_frames.specs.Marks.{marks_of, place_of}
use Rattle.sim_writer.specs.declared.machine.Machine.{Machine}
use Rattle.sim_writer.specs.Stopping.{KeepsTo}
use Rattle.sim_writer.proofs.CopyLemmas.{end_is}

-- the sums of a mark at this place
sums_are : (mark : Mark) (place : Place) (salt1 salt2 end s0 s1 : ℕ) → place ≡ place_of mark
    → place ≡ Wal salt1 salt2 end s0 s1 → (mark.s0 ≡ s0) × (mark.s1 ≡ s1)
sums_are mark place salt1 salt2 end s0 s1 is at =
    let both : Wal mark.salt1 mark.salt2 mark.end mark.s0 mark.s1 ≡ Wal salt1 salt2 end s0 s1 = sym is ∙ at in (cc, cc)

pub keeps_to : (m : Machine) (number : ℕ) → 1 ≤ number → (mark : Mark)
    → slice_get (marks_of m.committed) (number - 1) ≡ Some mark
    → (place : Place) (salt1 salt2 end s0 s1 : ℕ) → place ≡ place_of mark → place ≡ Wal salt1 salt2 end s0 s1
    → m.copied ≤ end → KeepsTo number m end (record { s0 = s0; s1 = s1 })
keeps_to m number from mark found place salt1 salt2 end s0 s1 is at copied =
    let same = end_is mark place salt1 salt2 end s0 s1 is at in
    let sums = sums_are mark place salt1 salt2 end s0 s1 is at in
    record {
      can = record {
        at_none = λ none. absurd (omega (arith, none, from));
        at_mark = λ _. record { mark = mark; found = found; from = omega (arith, copied, same) };
      };
      none_end = λ none. absurd (omega (arith, none, from));
      none_sums = λ none. absurd (omega (arith, none, from));
      is_end = λ _. same;
      is_sums = λ _ i. record { s0 = sym sums.0 i; s1 = sym sums.1 i };
    }
