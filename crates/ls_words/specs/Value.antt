-- The values of flags. The spellings of a truth are Go's (strconv.ParseBool); the rest is this project's rule.
use Rattle.std.specs.Prelude.{ℕ, ◌-◌, ◌*◌, Bool, true, false, ◌&&◌, ◌||◌, ◌==◌, if◌then◌else◌, List, length, take}
use Rattle.std.specs.Prelude.{codes, slice_index, Option, Some, None, option_map, nat_lt, nat_le, bytes_eq}
use Rattle.std.specs.Str.Parse.{digits_value}
use Rattle.ls_words.specs.Digit.{all_digits}

-- the six spellings of true
unfoldable pub is_true_word : List ℕ → Bool
is_true_word text =
    bytes_eq text (codes "1") || (bytes_eq text (codes "t") || (bytes_eq text (codes "T")
    || (bytes_eq text (codes "TRUE") || (bytes_eq text (codes "true") || bytes_eq text (codes "True")))))

-- the six spellings of false
unfoldable pub is_false_word : List ℕ → Bool
is_false_word text =
    bytes_eq text (codes "0") || (bytes_eq text (codes "f") || (bytes_eq text (codes "F")
    || (bytes_eq text (codes "FALSE") || (bytes_eq text (codes "false") || bytes_eq text (codes "False")))))

-- the truth that a text spells
abbrev pub truth_of : List ℕ → Option Bool
truth_of text = if is_true_word text then Some true else (if is_false_word text then Some false else None)

-- 1 to so many decimal digits
unfoldable pub is_number : ℕ → List ℕ → Bool
is_number most text = all_digits text && (nat_lt 0 (length text) && nat_le (length text) most)

-- a number from low to high
unfoldable pub is_within : ℕ → ℕ → ℕ → Bool
is_within low high n = nat_le low n && nat_le n high

-- the number that 1 to `most` decimal digits write, from low to high
unfoldable pub number_of : ℕ → ℕ → ℕ → List ℕ → Option ℕ
number_of most low high text =
    if is_number most text && is_within low high (digits_value 10 text) then Some (digits_value 10 text) else None

-- the last character of a text, and the text before it
abbrev pub last_of : List ℕ → ℕ
last_of text = slice_index text (length text - 1)

abbrev pub before_last : List ℕ → List ℕ
before_last text = take (length text - 1) text

-- the text before its last character, where that is c
unfoldable pub without_last : ℕ → List ℕ → Option (List ℕ)
without_last c text = if last_of text == c then Some (before_last text) else None

-- how many units 1 to 9 digits count, in ms
unfoldable pub timed : ℕ → List ℕ → Option ℕ
timed unit digits = option_map (λ count. count * unit) (number_of 9 0 999999999 digits)

-- a duration in ms: digits, and hours `h`, minutes `m`, ms `ms` or seconds `s`
unfoldable pub duration_of : List ℕ → Option ℕ
duration_of text =
    let front = before_last text in
    if last_of text == 104 then timed 3600000 front
    else (if last_of text == 109 then timed 60000 front
    else (if last_of text == 115 then (if last_of front == 109 then timed 1 (before_last front) else timed 1000 front)
    else None))
