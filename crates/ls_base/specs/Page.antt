use Rattle.std.specs.Prelude.{ℕ, List, ◌++◌, length, take, drop}
use Rattle.std.specs.Borrow.{Lends, MutBor, Fml, Array, u8}
use Rattle.ls_base.specs.contracts.page.Page.{the_row}

-- The page ends as what was last written through r, which is as long as the page.
abbrev pub LendsBytes : MutBor (List ℕ) → MutBor (List ℕ) → Fml
LendsBytes page r = Lends the_row (Array u8 0) page r (λ w. take (length page.now) (w ++ drop (length w) page.now))
