-- Pages with their numbers, one after another, and many lists of them.
use Rattle.std.specs.Prelude.{ℕ, List, [], ◌∷◌, map, Option, None}
use Rattle.std.specs.Option.{option_or}
use Rattle.std.specs.Ordering.{nat_cmp}
use Rattle.std.specs.FinMap.{find}

-- numbers and pages
abbrev pub Blocks : Type 0
Blocks = List (ℕ × List ℕ)

abbrev pub numbers_of : Blocks → List ℕ
numbers_of blocks = map (λ block. block.0) blocks

-- the page of this number
abbrev pub page_in : Blocks → ℕ → Option (List ℕ)
page_in blocks p = find nat_cmp p blocks

-- the page of this number in the last list that has it
abbrev pub last_in : List Blocks → ℕ → Option (List ℕ)
last_in [] p = None
last_in (blocks ∷ rest) p = option_or (last_in rest p) (page_in blocks p)
