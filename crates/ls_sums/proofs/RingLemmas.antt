-- A ring of 64 words, from the word at a place on and round.
use Rattle.std.proofs.Common.{◌≡◌, ℕ, zero, suc, ◌+◌, ◌-◌, ◌*◌, ◌/◌, ◌%◌, ◌^◌, ◌<◌, ◌≤◌, List, [], ◌∷◌, ◌++◌, length}
use Rattle.std.proofs.Common.{get_or, take, drop, set, refl, sym, ap, subst, ◌∙◌, ⊎_elim, arith}
use Rattle.std.specs.Int.Bits.{bit_xor}
use Rattle.std.proofs.lemmas.Bool.{cases_lt}
use Rattle.std.proofs.lemmas.List.{append_assoc, length-append, length-drop, length-take-le, get_or-drop, get_or-take}
use Rattle.std.proofs.lemmas.List.{get_or_append_left, drop-set-lt, drop_more, take_more_set}
use Rattle.std.proofs.Math.Seq.{get_or-append_right}
use Rattle.std.proofs.lemmas.Nat.{xor_mod, xor_lt, mod_below, shr-shr, shl-shr, pow-add, mul-add-lt}
use Rattle.ls_sums.specs.Word.{after_word}
use Rattle.ls_sums.specs.Window.{number_of_words, moved, HoldsNumber}
use Rattle.ls_sums.proofs.MovedLemmas.{four, holds_next}

-- each is a word
abbrev pub AreWords : List ℕ → Type 0
AreWords words = (i : ℕ) → get_or words i 0 < 2 ^ 64

-- ---- the number of words
pub number_low : (words : List ℕ) → AreWords words → number_of_words words % 2 ^ 64 ≡ get_or words 0 0
unfolding number_of_words
number_low [] fit = refl
number_low (word ∷ words) fit = omega (arith, fit 0)

pub number_rest : (words : List ℕ) → AreWords words → number_of_words words / 2 ^ 64 ≡ number_of_words (drop 1 words)
unfolding number_of_words
number_rest [] fit = refl
number_rest (word ∷ words) fit = omega (arith, fit 0)

none : (m : ℕ) → 0 * m ≡ 0
none m = omega arith

number_of_none : number_of_words [] ≡ 0
unfolding number_of_words
number_of_none = refl

pub number_from : (k : ℕ) (words : List ℕ) → AreWords words → number_of_words words / 2 ^ (64 * k) ≡ number_of_words
    (drop k words)
number_from zero words fit = omega arith
number_from (suc k) [] fit =
    ap (λ (x : ℕ). x / 2 ^ (64 * suc k)) (number_of_none ∙ sym (none (2 ^ (64 * suc k)))) ∙ shl-shr 0 (64 * suc k)
    ∙ sym number_of_none
number_from (suc k) (word ∷ words) fit =
    let e : 64 * suc k ≡ 64 + 64 * k = omega arith in
    ap (λ (m : ℕ). number_of_words (word ∷ words) / 2 ^ m) e
    ∙ sym (shr-shr (number_of_words (word ∷ words)) 64 (64 * k))
    ∙ ap (λ (x : ℕ). x / 2 ^ (64 * k)) (number_rest (word ∷ words) fit) ∙ number_from k words (λ i. fit (suc i))

pub number_last : (words : List ℕ) (word : ℕ) → number_of_words (words ++ word ∷ []) ≡ word * 2 ^ (64 * length words)
    + number_of_words words
unfolding number_of_words
number_last [] word = omega arith
number_last (first ∷ words) word =
    let e : 64 * length (first ∷ words) ≡ 64 + 64 * length words = omega arith in
    let product : word * 2 ^ (64 * length (first ∷ words)) ≡ 2 ^ 64 * (word * 2 ^ (64 * length words))
    = ap (λ (m : ℕ). word * 2 ^ m) e ∙ ap (λ (x : ℕ). word * x) (pow-add 2 64 (64 * length words)) ∙ omega arith in
    let rest = number_last words word in
    omega (arith, rest, product)

pub number_below : (words : List ℕ) → AreWords words → number_of_words words < 2 ^ (64 * length words)
unfolding number_of_words
number_below [] fit = omega arith
number_below (word ∷ words) fit =
    let e : 64 * length (word ∷ words) ≡ 64 + 64 * length words = omega arith in
    let bound : 2 ^ (64 * length (word ∷ words)) ≡ 2 ^ 64 * 2 ^ (64 * length words) = ap (λ (m : ℕ). 2 ^ m) e
    ∙ pow-add 2 64 (64 * length words) in
    let place = mul-add-lt (number_of_words words) (2 ^ 64) word (2 ^ (64 * length words))
    (number_below words (λ i. fit (suc i))) (fit 0) in
    omega (arith, bound, place)

-- the k-th word of what the words add to those behind them
word_of_number : (k : ℕ) (words : List ℕ) → AreWords words → number_of_words words / 2 ^ (64 * k) % 2 ^ 64 ≡ get_or
    words k 0
word_of_number k words fit =
    let e : k + 0 ≡ k = omega arith in
    ap (λ (x : ℕ). x % 2 ^ 64) (number_from k words fit)
    ∙ number_low (drop k words) (λ i. subst (λ (x : ℕ). x < 2 ^ 64) (sym (get_or-drop k words i 0)) (fit (k + i)))
    ∙ get_or-drop k words 0 0 ∙ ap (λ (j : ℕ). get_or words j 0) e

-- what is moved to the place of the first word
abbrev pub moved_first : List ℕ → ℕ
moved_first words = bit_xor (bit_xor (get_or words 4 0) (get_or words 3 0))
    (bit_xor (get_or words 1 0) (get_or words 0 0))

pub moved_low : (words : List ℕ) → AreWords words → moved (number_of_words words) % 2 ^ 64 ≡ moved_first words
unfolding moved
moved_low words fit =
    let n = number_of_words words in
    xor_mod (bit_xor (n / 2 ^ 256) (n / 2 ^ 192)) (bit_xor (n / 2 ^ 64) n) 64
    ∙ ap (λ (x : ℕ). bit_xor x (bit_xor (n / 2 ^ 64) n % 2 ^ 64)) (xor_mod (n / 2 ^ 256) (n / 2 ^ 192) 64)
    ∙ ap (λ (x : ℕ). bit_xor (bit_xor (n / 2 ^ 256 % 2 ^ 64) (n / 2 ^ 192 % 2 ^ 64)) x) (xor_mod (n / 2 ^ 64) n 64)
    ∙ four _ _ _ _ (get_or words 4 0) (get_or words 3 0) (get_or words 1 0) (get_or words 0 0)
    (word_of_number 4 words fit) (word_of_number 3 words fit) (word_of_number 1 words fit) (number_low words fit)

-- ---- the ring
abbrev pub round : List ℕ → ℕ → List ℕ
round ring at = drop at ring ++ take at ring

pub round-word : (ring : List ℕ) (at k : ℕ) → length ring ≡ 64 → at < 64 → at + k < 64
    → get_or (round ring at) k 0 ≡ get_or ring (at + k) 0
round-word ring at k long lt within =
    let inside : k < length (drop at ring) = omega (arith, length-drop at ring) in
    get_or_append_left (drop at ring) (take at ring) 0 k inside ∙ get_or-drop at ring k 0

round-wrapped : (ring : List ℕ) (at k j : ℕ) → length ring ≡ 64 → at < 64 → at + k ≡ 64 + j → j < at
    → get_or (round ring at) k 0 ≡ get_or ring j 0
round-wrapped ring at k j long lt e below =
    let past : length (drop at ring) ≤ k = omega (arith, length-drop at ring) in
    let place : k - length (drop at ring) ≡ j = omega (arith, length-drop at ring) in
    get_or-append_right (drop at ring) (take at ring) k 0 past ∙ ap (λ (i : ℕ). get_or (take at ring) i 0) place
    ∙ get_or-take at ring j 0 below

-- the word that stands k places on, round the ring
pub round-mod : (ring : List ℕ) (at k : ℕ) → length ring ≡ 64 → at < 64 → k < 64
    → get_or (round ring at) k 0 ≡ get_or ring ((at + k) % 64) 0
round-mod ring at k long lt small =
    ⊎_elim
    (λ (inside : at + k < 64).
    let e : at + k ≡ (at + k) % 64 = omega arith in
    round-word ring at k long lt inside ∙ ap (λ (i : ℕ). get_or ring i 0) e)
    (λ (past : 64 ≤ at + k).
    let e : at + k ≡ 64 + (at + k) % 64 = omega arith in
    round-wrapped ring at k ((at + k) % 64) long lt e (omega arith))
    (cases_lt (at + k) 64)

-- ---- all words of the ring fit
are_words-append : (xs ys : List ℕ) → AreWords xs → AreWords ys → AreWords (xs ++ ys)
are_words-append [] ys fx fy i = fy i
are_words-append (x ∷ xs) ys fx fy zero = fx 0
are_words-append (x ∷ xs) ys fx fy (suc i) = are_words-append xs ys (λ j. fx (suc j)) fy i

are_words-take : (n : ℕ) (xs : List ℕ) → AreWords xs → AreWords (take n xs)
are_words-take zero xs fit i = omega arith
are_words-take (suc n) [] fit i = omega arith
are_words-take (suc n) (x ∷ xs) fit zero = fit 0
are_words-take (suc n) (x ∷ xs) fit (suc i) = are_words-take n xs (λ j. fit (suc j)) i

pub are_words-drop : (n : ℕ) (xs : List ℕ) → AreWords xs → AreWords (drop n xs)
are_words-drop n xs fit i = subst (λ (x : ℕ). x < 2 ^ 64) (sym (get_or-drop n xs i 0)) (fit (n + i))

are_words-round : (ring : List ℕ) (at : ℕ) → AreWords ring → AreWords (round ring at)
are_words-round ring at fit = are_words-append (drop at ring) (take at ring) (are_words-drop at ring fit)
    (are_words-take at ring fit)

round-split : (ring : List ℕ) (at : ℕ) → at < length ring → round ring at ≡ get_or ring at 0
    ∷ (drop (at + 1) ring ++ take at ring)
round-split ring at lt = ap (λ (xs : List ℕ). xs ++ take at ring) (drop_more ring at 0 lt)

round-set : (ring : List ℕ) (at v : ℕ) → at < length ring → round (set ring at v) (at + 1)
    ≡ (drop (at + 1) ring ++ take at ring) ++ v ∷ []
round-set ring at v lt =
    ap (λ (xs : List ℕ). xs ++ take (at + 1) (set ring at v)) (drop-set-lt (at + 1) ring at v (omega arith))
    ∙ ap (λ (xs : List ℕ). drop (at + 1) ring ++ xs) (take_more_set ring at v lt)
    ∙ sym (append_assoc (drop (at + 1) ring) (take at ring) (v ∷ []))

-- The word at a place is replaced by a word of the message and what is moved to it, and the ring goes on.
pub ring_next : (ring : List ℕ) (at word v register : ℕ) → length ring ≡ 64 → at < 64 → AreWords ring → word < 2 ^ 64
    → v ≡ bit_xor word (moved_first (round ring at)) → HoldsNumber (number_of_words (round ring at)) register
    → HoldsNumber (number_of_words (round (set ring at v) (at + 1))) (after_word register word)
ring_next ring at word v register long lt fit word_fits is_v holds =
    let within : at < length ring = omega (arith, long) in
    let words = round ring at in
    let n = number_of_words words in
    let all = are_words-round ring at fit in
    let rest = drop (at + 1) ring ++ take at ring in
    let rest_long : length rest ≡ 63
    = length-append (drop (at + 1) ring) (take at ring) ∙ omega
    (arith, length-drop (at + 1) ring, length-take-le at ring (omega (arith, long))) in
    let words_long : length words ≡ 64 = ap length (round-split ring at within) ∙ omega (arith, rest_long) in
    let bits : 64 * length words ≡ 4096 = omega (arith, words_long) in
    let small : n < 2 ^ 4096 = subst (λ (m : ℕ). n < 2 ^ m) bits (number_below words all) in
    let is_low : v ≡ bit_xor word (moved n % 2 ^ 64) = is_v ∙ ap (λ (x : ℕ). bit_xor word x)
    (sym (moved_low words all)) in
    let v_fits : v < 2 ^ 64
    = subst (λ (x : ℕ). x < 2 ^ 64) (sym is_low)
    (xor_lt 64 word (moved n % 2 ^ 64) word_fits (mod_below (moved n) (2 ^ 64) (omega arith))) in
    let top : 64 * length rest ≡ 4032 = omega (arith, rest_long) in
    let others : number_of_words rest ≡ n / 2 ^ 64
    = sym (number_rest words all ∙ ap (λ (xs : List ℕ). number_of_words (drop 1 xs)) (round-split ring at within)) in
    let next : number_of_words (round (set ring at v) (at + 1)) ≡ v * 2 ^ 4032 + n / 2 ^ 64
    = ap number_of_words (round-set ring at v within) ∙ number_last rest v
    ∙ ap (λ (m : ℕ). v * 2 ^ m + number_of_words rest) top ∙ ap (λ (x : ℕ). v * 2 ^ 4032 + x) others in
    subst (λ (x : ℕ). HoldsNumber x (after_word register word)) (sym next)
    (holds_next n word v register small v_fits is_low holds)
