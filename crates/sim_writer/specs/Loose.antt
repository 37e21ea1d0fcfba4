-- What putting loose bytes does.
use Rattle.std.specs.Prelude.{◌≡◌, ℕ, ◌+◌, Bool, true, List, [], ◌++◌, length, take, drop}
use Rattle.sim_writer.specs.declared.machine.Machine.{Machine}
use Rattle.sim_writer.specs.Sound.{tail_of}

-- where loose bytes are put, from the last mark on: behind the header where no mark stands behind that
abbrev pub loose_from : Bool → List ℕ → ℕ
loose_from true [] = 32
loose_from headed committed = 0

-- the bytes stand there, over those that stood there, and nothing else changed
pub record PutsLoose (bytes : List ℕ) (old new : Machine) : Type 0 where
  pub tail : tail_of new
      ≡ take (loose_from old.headed old.committed) (tail_of old) ++ bytes
      ++ drop (loose_from old.headed old.committed + length bytes) (tail_of old)
  pub rest : new ≡ record old { tail = new.tail }
