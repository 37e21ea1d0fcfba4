-- What an output has taken.
use Rattle.std.specs.Prelude.{◌≡◌, ℕ, List, ◌++◌, Option, option_map, take}

-- the text with more behind it; an output that doesn't tell stays silent
abbrev pub gains_text : Option (List ℕ) → List ℕ → Option (List ℕ)
gains_text text more = option_map (λ bytes. bytes ++ more) text

-- some front of the bytes was put
abbrev pub GainsFront : Option (List ℕ) → Option (List ℕ) → List ℕ → Type 0
GainsFront old new bytes = (k : ℕ) × (new ≡ gains_text old (take k bytes))
