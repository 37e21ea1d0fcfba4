-- What the names of a replica's files become in the rounds of a replication, and which passes took place.
use Rattle.std.specs.Prelude.{◌≡◌, ℕ, ◌+◌, List, [], ◌∷◌, true, if◌then◌else◌, Option}
use Rattle.std.specs.List.{AllByRecursion}
use Rattle.crash_disk.specs.declared.event.Event.{Event}
use Rattle.crash_disk.specs.Files.{files_after}
use Rattle.live_gate.specs.LiveRecord.{Attachment, LiveRecord, is_at_rest}
use Rattle.live_gate.specs.LiveCalls.{capped}
use Rattle.replica_store.specs.declared.dated_names.Dated.{Dated}
use Rattle.round_line.specs.declared.round.Round.{Round}
use Rattle.replica_upkeep.specs.Kept.{AreFiles}
use Rattle.replica_round.specs.StoreSide.{IsRounded}
use Rattle.replicate_command.specs.Asked.{Asked}

-- one round after another, each by the rule from the names that the one before it left
abbrev pub MaintainedRounds : ℕ → ℕ → List Dated → List Round → List Dated → Type 0
MaintainedRounds keep now dated [] later = later ≡ dated
MaintainedRounds keep now dated (round ∷ rounds) later =
    (mid : List Dated) × IsRounded dated keep now round mid × MaintainedRounds keep now mid rounds later

-- from the names and moments of the files that were there come those of the files that are
abbrev pub MaintainsNames : Asked → List Round → List Event → List Event → Type 0
MaintainsNames asked rounds before now =
    (dated : List Dated) → AreFiles (files_after before) dated
    → (later : List Dated) × MaintainedRounds asked.keep asked.now dated rounds later × AreFiles (files_after now) later

-- the count behind the rounds, of which each that passed adds one, up to the last value of a u64
abbrev pub count_behind : List Round → ℕ → ℕ
count_behind [] before = before
count_behind (round ∷ rounds) before = count_behind rounds (if round.passed then capped (before + 1) else before)

-- The count of passes rose once for each round that tells one, and one took place only where nobody else has the
-- database open.
pub record CountsPasses (attached : Option Attachment) (rounds : List Round) (old new : LiveRecord) : Type 0 where
  pub count : new.asked.passes_done ≡ count_behind rounds old.asked.passes_done
  pub alone : AllByRecursion (λ round. round.passed ≡ true → is_at_rest attached ≡ true) rounds
