-- How the count of bytes that a disk gave rises over readings.
use Rattle.std.proofs.Common.{Bool, true, false, if◌then◌else◌, ◌*◌, ◌≡◌, ℕ, ◌+◌, ◌-◌, ◌^◌, ◌≤◌, min, List, length}
use Rattle.std.proofs.Common.{Option, Some, None, refl, ap, subst, ◌∙◌, inl, inr, arith}
use Rattle.std.specs.Prelude.{◌⊎◌}
use Rattle.crash_disk.specs.Told.{gives}
use Rattle.crash_disk.specs.declared.event.Event.{Event}
use Rattle.ltx_reader.specs.Reader.{bytes_named}
use Rattle.ltx_reader.specs.ReaderGiven.{GivesAtMost, bytes_again}
use Rattle.ltx_format.specs.declared.header.LtxHeader.{LtxHeader}

pub gives_none : (most : ℕ) (x : Option ℕ) → GivesAtMost most x x
gives_none most x = record { more = 0; within = omega arith; is = inl refl }

pub gives_nothing : (most : ℕ) (before now : Option ℕ) → now ≡ before → GivesAtMost most before now
gives_nothing most before now same = record { more = 0; within = omega arith; is = inl same }

pub gives_some : (most n : ℕ) (before now : Option ℕ) → n ≤ most → now ≡ gives before n → GivesAtMost most before now
gives_some most n before now within is = record { more = n; within = within; is = inr is }

gives_twice : (before : Option ℕ) (a b : ℕ) → gives (gives before a) b ≡ gives before (a + b)
gives_twice None a b = refl
gives_twice (Some n) a b =
    let same : min (min (n + a) (2 ^ 64 - 1) + b) (2 ^ 64 - 1) ≡ min (n + (a + b)) (2 ^ 64 - 1) = omega arith in
    ap (λ k. Some k) same

module _ (most : ℕ) (x y z : Option ℕ) (m n : ℕ) (low : m + n ≤ most) where
  in_turn : (y ≡ x) ⊎ (y ≡ gives x m) → (z ≡ y) ⊎ (z ≡ gives y n) → GivesAtMost most x z
  in_turn (inl first) (inl second) = gives_nothing most x z (second ∙ first)
  in_turn (inl first) (inr second) = gives_some most n x z (omega arith) (second ∙ ap (λ g. gives g n) first)
  in_turn (inr first) (inl second) = gives_some most m x z (omega arith) (second ∙ first)
  in_turn (inr first) (inr second) = gives_some most (m + n) x z (omega arith) (second ∙ ap (λ g. gives g n) first
      ∙ gives_twice x m n)

-- some bytes, and then some more
pub gives_then : (a b most : ℕ) (x y z : Option ℕ) → GivesAtMost a x y → GivesAtMost b y z → a + b ≤ most
    → GivesAtMost most x z
gives_then a b most x y z first second fits =
    let low = first.within in
    let high = second.within in
    in_turn most x y z first.more second.more (omega (arith, low, high)) first.is second.is

pub gives_within : (a b : ℕ) (x y : Option ℕ) → GivesAtMost a x y → a ≤ b → GivesAtMost b x y
gives_within a b x y gave below = record { more = gave.more; within = omega (arith, gave.within); is = gave.is }

-- the bytes of a file under a name that is the same
pub gives_here : (events : List Event) (path name : List ℕ) (room at : ℕ) (x y : Option ℕ) → path ≡ name
    → GivesAtMost (min room (length (bytes_named events path) - at)) x y
    → GivesAtMost (min room (length (bytes_named events name) - at)) x y
gives_here events path name room at x y same = subst (λ (q : List ℕ). GivesAtMost (min room (length
    (bytes_named events q) - at)) x y) same

again_if : (index : Bool) (count : ℕ) → index ≡ true → (if index then 4 * count else 0) ≡ 4 * count
again_if true count is = refl
again_if false count is = absurd cc

pub again_indexed : (h : LtxHeader) (count : ℕ) → h.index ≡ true → bytes_again h count ≡ 4 * count
again_indexed h count is = again_if h.index count is

-- a reading from the start of a file gives no more than the file has
pub gives_file : (events : List Event) (path name : List ℕ) (room : ℕ) (x y : Option ℕ) → path ≡ name
    → GivesAtMost (min room (length (bytes_named events path) - 0)) x y
    → GivesAtMost (length (bytes_named events name)) x y
gives_file events path name room x y same gave = gives_within _ _ x y (gives_here events path name room 0 x y same gave)
    (omega arith)
