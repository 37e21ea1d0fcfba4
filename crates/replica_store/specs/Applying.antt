-- What changes make of a state, one after another.
use Rattle.std.specs.Prelude.{◌≡◌, ℕ, ◌<◌, ◌≤◌, List, [], ◌∷◌, map, None, IsSome}
use Rattle.ls_base.specs.State.{State, empty_state}
use Rattle.ls_base.specs.Change.{Change, IsApplicable, apply, page_after}
use Rattle.ltx_format.specs.declared.file.LtxFile.{LtxFile}
use Rattle.ltx_format.specs.LtxFormat.{change_of}

-- each change fits the state before it, and the last leaves this state
abbrev pub AppliesTo : State → List Change → State → Type 0
AppliesTo s [] after = s ≡ after
AppliesTo s (change ∷ changes) after = IsApplicable s change × AppliesTo (apply s change) changes after

-- the files, from nothing on
abbrev pub MakeState : List LtxFile → State → Type 0
MakeState files after = AppliesTo empty_state (map change_of files) after

-- the change doesn't fit the state: this is the first page that is in neither
pub record LacksPage (s : State) (c : Change) (number : ℕ) : Type 0 where
  pub positive : 1 ≤ number
  pub within : number ≤ c.commit
  pub missing : page_after s c number ≡ None
  pub least : (p : ℕ) → 1 ≤ p → p < number → IsSome (page_after s c p)
