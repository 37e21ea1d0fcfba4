-- When a round asks for a pass, and what it comes to.
use Rattle.std.specs.Prelude.{◌≡◌, ℕ, ◌≤◌, Bool, true, false, Some, None, Result, Ok, Err, ◌⊎◌}
use Rattle.ls_base.specs.declared.place.Place.{Place}
use Rattle.live_gate.specs.declared.answer.Pass.{Pass}
use Rattle.live_gate.specs.declared.answer.Pass.TheVariants.{Passed, Kept}
use Rattle.live_gate.specs.declared.fault.PassFault.{PassFault}
use Rattle.live_gate.specs.LiveCalls.{Passes}
use Rattle.live_gate.specs.LiveRecord.{LiveRecord}
use Rattle.wal_follow.specs.declared.following.Following.{Following}
use Rattle.wal_follow.specs.Calls.{frames_of}

-- the log is long up to the follower's place: a pass is asked then. This project's rule.
abbrev pub IsLong : Following → Type 0
IsLong f = 1000 ≤ frames_of f f.passed

-- where the log is long, the follower knows how many pages the state at its place has
abbrev pub HasPages : Following → Type 0
HasPages f = IsLong f → (pages : ℕ) × (f.pages ≡ Some pages)

-- a pass was asked at the follower's place
pub record AsksPass (f : Following) (at_rest : Bool) (answer : Result Pass PassFault) (old new : LiveRecord) : Type 0
  where
    pub place : Place
    pub is_place : f.place ≡ Some place
    pub passes : Passes place at_rest answer old new

-- a pass was asked, and the follower knows of it exactly where it took place
abbrev pub WasAsked : Following → Following → Bool → Result Bool PassFault → LiveRecord → LiveRecord → Type 0
WasAsked f after at_rest (Ok true) old new =
    AsksPass f at_rest (Ok Passed) old new × (after ≡ record f { passed = true; found = None })
WasAsked f after at_rest (Ok false) old new = AsksPass f at_rest (Ok Kept) old new × (after ≡ f)
WasAsked f after at_rest (Err fault) old new = AsksPass f at_rest (Err fault) old new × (after ≡ f)

-- nothing was asked
abbrev pub WasUnasked : Following → Following → Result Bool PassFault → LiveRecord → LiveRecord → Type 0
WasUnasked f after (Ok true) old new = ⊥
WasUnasked f after (Ok false) old new = (after ≡ f) × (new ≡ old)
WasUnasked f after (Err fault) old new = ⊥

-- a pass is asked exactly where the log is long
abbrev pub PassesWhenLong : Following → Following → Bool → Result Bool PassFault → LiveRecord → LiveRecord → Type 0
PassesWhenLong f after at_rest result old new =
    (IsLong f × WasAsked f after at_rest result old new) ⊎ ((IsLong f → ⊥) × WasUnasked f after result old new)
