-- What an object in memory counts of its calls, and which of them are to fail.
use Rattle.std.specs.Prelude.{◌≡◌, ℕ, ◌+◌, ◌-◌, ◌^◌, min, ◌⊎◌, List, [], ◌∷◌, ◌++◌, Contains, Option, Some, None}
use Rattle.std.specs.Prelude.{option_map, Result, IsErr, OnOk, OnErr, IsErrOf}
use Rattle.crash_disk.specs.declared.fault.NamesFault.{NamesFault}
use Rattle.crash_disk.specs.declared.fault.NamesFault.TheVariants.{Disk}

-- the calls made, the calls that failed, those of them that failed for want of memory, the numbers, from 1,
-- of the calls that are to fail, and how many more calls pass before a stop, if one was set
pub record Plan : Type 0 where
  pub calls : ℕ
  pub faults : ℕ
  pub starved : ℕ
  pub failing : List ℕ
  pub stop : Option ℕ

-- one more, up to the last value of a u64
abbrev pub counted : ℕ → ℕ
counted n = min (n + 1) (2 ^ 64 - 1)

-- nothing was counted, and no call is to fail
abbrev pub unused : Plan
unused = record { calls = 0; faults = 0; starved = 0; failing = []; stop = None }

-- the next call is one of those that are to fail, or a stop stands
abbrev pub IsNextToFail : Plan → Type 0
IsNextToFail plan = Contains plan.failing (counted plan.calls) ⊎ (plan.stop ≡ Some 0)

-- one call less before the stop
abbrev pub nearer : Option ℕ → Option ℕ
nearer stop = option_map (λ left. left - 1) stop

-- after a call that didn't fail
abbrev pub passed : Plan → Plan
passed plan = record plan { calls = counted plan.calls; stop = nearer plan.stop }

-- after a call that failed because it was to
abbrev pub failed : Plan → Plan
failed plan = record plan { calls = counted plan.calls; faults = counted plan.faults; stop = nearer plan.stop }

-- a call at hand failed for want of memory
abbrev pub starved_once : Plan → Plan
starved_once plan = record plan { faults = counted plan.faults; starved = counted plan.starved }

-- one more call is to fail
abbrev pub with_failing : ℕ → Plan → Plan
with_failing call plan = record plan { failing = plan.failing ++ call ∷ [] }

-- after a call that failed for want of memory
abbrev pub starving : Plan → Plan
starving plan = starved_once (passed plan)

-- the call at hand wasn't to fail, and was counted
abbrev pub Passes : Plan → Plan → Type 0
Passes old new = (IsNextToFail old → ⊥) × (new ≡ passed old)

-- the call at hand was to fail, and that was counted
abbrev pub Fails : Plan → Plan → Type 0
Fails old new = IsNextToFail old × (new ≡ failed old)

-- the call failed because it was to, or else for want of memory, and that was counted
abbrev pub FailedOrStarved : Plan → Plan → Type 0
FailedOrStarved old new = Fails old new ⊎ ((IsNextToFail old → ⊥) × (new ≡ starving old))

-- a call that takes no memory fails exactly where it was to
pub record FailsByPlan {T E : Type 0} (old new : Plan) (result : Result T E) : Type 0 where
  pub fails : IsNextToFail old → IsErr result
  pub ok : OnOk result (new ≡ passed old)
  pub err : OnErr result (Fails old new)

-- a call fails where it was to, and else only for want of memory
pub record FailsOrStarves {T E : Type 0} (old new : Plan) (result : Result T E) : Type 0 where
  pub fails : IsNextToFail old → IsErr result
  pub ok : OnOk result (new ≡ passed old)
  pub err : OnErr result (FailedOrStarved old new)

-- a call that answers want of memory is a fault exactly where it was to fail, and counts nothing else
pub record AnswersMemory {T : Type 0} (old new : Plan) (result : Result T NamesFault) : Type 0 where
  pub fails : IsNextToFail old → IsErrOf result (Disk (record {}))
  pub fault : IsErrOf result (Disk (record {})) → IsNextToFail old
  pub counts : Fails old new ⊎ Passes old new
