-- One word as a flag: as Go's package flag reads it.
use Rattle.std.specs.Prelude.{ℕ, Bool, ◌&&◌, ◌||◌, ◌==◌, if◌then◌else◌, List, [], ◌∷◌, length, codes, slice_index}
use Rattle.std.specs.Prelude.{Option, Some, None, nat_lt, nat_le, bytes_eq}
use Rattle.std.specs.List.{position_or_len, before_first, after_first}

-- a flag's name as it is written, and the value behind its `=`, where it has one
pub record Named : Type 0 where
  pub name : List ℕ
  pub value : Option (List ℕ)

-- a word is read as a flag, or as `--`, if it has 2 bytes or more and begins with `-`
abbrev pub is_flag : List ℕ → Bool
is_flag word = nat_le 2 (length word) && (slice_index word 0 == 45)

-- the word that ends the flags and is dropped
abbrev pub is_end : List ℕ → Bool
is_end word = bytes_eq word (codes "--")

-- a text without a dash at its front
abbrev pub without_dash : List ℕ → List ℕ
without_dash [] = []
without_dash (c ∷ cs) = if c == 45 then cs else c ∷ cs

-- a word without the one or two dashes at its front
abbrev pub without_dashes : List ℕ → List ℕ
without_dashes word = without_dash (without_dash word)

-- a name ends before the first `=`
abbrev pub is_equals : ℕ → Bool
is_equals c = c == 61

-- a text cut at its first `=`, where it has one
abbrev pub cut_at_equals : List ℕ → Named
cut_at_equals text =
    if nat_lt (position_or_len is_equals text) (length text) then record
    { name = before_first is_equals text; value = Some (after_first is_equals text) }
    else record { name = text; value = None }

-- no flag: nothing, or what begins with `-` or `=`
abbrev pub is_bad_syntax : List ℕ → Bool
is_bad_syntax body = (length body == 0) || ((slice_index body 0 == 45) || (slice_index body 0 == 61))

-- the name and the value of a flag's word
unfoldable pub named_of : List ℕ → Option Named
named_of word = let body = without_dashes word in if is_bad_syntax body then None else Some (cut_at_equals body)
