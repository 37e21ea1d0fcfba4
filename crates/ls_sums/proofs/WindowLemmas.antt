-- Blocks of words: into the ring, and the last one.
use Rattle.std.proofs.Common.{◌≡◌, ℕ, zero, suc, ◌+◌, ◌*◌, ◌/◌, ◌%◌, ◌^◌, ◌<◌, ◌≤◌, List, [], ◌∷◌, ◌++◌, length, get_or}
use Rattle.std.proofs.Common.{take, drop, set, replicate, flat_map, refl, sym, ap, subst, ◌∙◌, arith}
use Rattle.std.specs.List.{concat}
use Rattle.std.specs.Simd.{first_chunks}
use Rattle.std.specs.Int.Bits.{bit_xor, xor_assoc, xor_self, xor_zero_l, xor_zero_r}
use Rattle.std.proofs.lemmas.List.{append-nil, take_more, take-append-drop, drop_more, drop_all, take_all, length-drop}
use Rattle.std.proofs.lemmas.List.Concat.{flat_map-append}
use Rattle.std.proofs.lemmas.List.Folds.{concat-append}
use Rattle.std.proofs.Math.Seq.{take-add}
use Rattle.std.proofs.lemmas.Nat.{xor_lt, xor_comm, mod_below}
use Rattle.ls_sums.specs.Crc64.{after_bits, after_bytes}
use Rattle.ls_sums.specs.Word.{after_word}
use Rattle.ls_sums.specs.Window.{number_of_words, moved, HoldsNumber, Holds, IsWord}
use Rattle.ls_sums.proofs.XorLemmas.{xor_swap, xor_shifted}
use Rattle.ls_sums.proofs.BitLemmas.{after_bits-zero, after_bits-xor, after_bits-add, after_bits-shifted}
use Rattle.ls_sums.proofs.ByteLemmas.{after_bytes-append}
use Rattle.ls_sums.proofs.WordLemmas.{after_word-is}
use Rattle.ls_sums.proofs.MovedLemmas.{four, moved-shr}
use Rattle.ls_sums.proofs.RingLemmas.{AreWords, round, round-word, round-mod, moved_first, moved_low, number_rest}
use Rattle.ls_sums.proofs.RingLemmas.{are_words-drop, ring_next}

-- one more word of the message
pub bytes_next : (register word at : ℕ) (words : List (List ℕ)) → at < length words → IsWord (get_or words at []) word
    → after_bytes register (concat (take (at + 1) words)) ≡ after_word (after_bytes register (concat (take at words)))
    word
bytes_next register word at words lt is_word =
    let front = concat (take at words) in
    let piece = get_or words at [] in
    ap (λ (xs : List ℕ). after_bytes register xs)
    (ap concat (take_more words at [] lt) ∙ concat-append (take at words) (piece ∷ [])
    ∙ ap (λ (xs : List ℕ). front ++ xs) (append-nil piece))
    ∙ sym (after_bytes-append register front piece) ∙ is_word (after_bytes register front)

pub are_words-set : (xs : List ℕ) (i v : ℕ) → AreWords xs → v < 2 ^ 64 → AreWords (set xs i v)
are_words-set [] i v fit lt j = fit j
are_words-set (x ∷ xs) zero v fit lt zero = lt
are_words-set (x ∷ xs) zero v fit lt (suc j) = fit (suc j)
are_words-set (x ∷ xs) (suc i) v fit lt zero = fit 0
are_words-set (x ∷ xs) (suc i) v fit lt (suc j) = are_words-set xs i v (λ k. fit (suc k)) lt j

pub xor_fits : (a b c d e : ℕ) → a < 2 ^ 64 → b < 2 ^ 64 → c < 2 ^ 64 → d < 2 ^ 64 → e < 2 ^ 64
    → bit_xor a (bit_xor (bit_xor b c) (bit_xor d e)) < 2 ^ 64
xor_fits a b c d e p q r s t =
    xor_lt 64 a (bit_xor (bit_xor b c) (bit_xor d e)) p
    (xor_lt 64 (bit_xor b c) (bit_xor d e) (xor_lt 64 b c q r) (xor_lt 64 d e s t))

-- what the code takes from the ring: inside it, and round its end
pub moved_inside : (ring : List ℕ) (at : ℕ) → length ring ≡ 64 → at < 60
    → bit_xor (bit_xor (get_or ring (at + 4) 0) (get_or ring (at + 3) 0))
    (bit_xor (get_or ring (at + 1) 0) (get_or ring at 0)) ≡ moved_first (round ring at)
moved_inside ring at long lt =
    let here : at ≡ at + 0 = omega arith in
    four _ _ _ _ (get_or (round ring at) 4 0) (get_or (round ring at) 3 0) (get_or (round ring at) 1 0)
    (get_or (round ring at) 0 0)
    (sym (round-word ring at 4 long (omega arith) (omega arith)))
    (sym (round-word ring at 3 long (omega arith) (omega arith)))
    (sym (round-word ring at 1 long (omega arith) (omega arith)))
    (ap (λ (i : ℕ). get_or ring i 0) here ∙ sym (round-word ring at 0 long (omega arith) (omega arith)))

pub moved_round : (ring : List ℕ) (at : ℕ) → length ring ≡ 64 → at < 64
    → bit_xor (bit_xor (get_or ring ((at + 4) % 64) 0) (get_or ring ((at + 3) % 64) 0))
    (bit_xor (get_or ring ((at + 1) % 64) 0) (get_or ring at 0)) ≡ moved_first (round ring at)
moved_round ring at long lt =
    let here : at ≡ at + 0 = omega arith in
    four _ _ _ _ (get_or (round ring at) 4 0) (get_or (round ring at) 3 0) (get_or (round ring at) 1 0)
    (get_or (round ring at) 0 0)
    (sym (round-mod ring at 4 long lt (omega arith))) (sym (round-mod ring at 3 long lt (omega arith)))
    (sym (round-mod ring at 1 long lt (omega arith)))
    (ap (λ (i : ℕ). get_or ring i 0) here ∙ sym (round-word ring at 0 long lt (omega arith)))

-- one more word into the ring
pub taken_next : (ring : List ℕ) (at word m register : ℕ) (words : List (List ℕ)) → length ring ≡ 64 → at < 64
    → AreWords ring → word < 2 ^ 64
    → m ≡ moved_first (round ring at) → at < length words → IsWord (get_or words at []) word
    → HoldsNumber (number_of_words (round ring at)) (after_bytes register (concat (take at words)))
    → HoldsNumber (number_of_words (round (set ring at (bit_xor word m)) (at + 1)))
    (after_bytes register (concat (take (at + 1) words)))
taken_next ring at word m register words long lt fit word_fits is_m within is_word holds =
    subst (λ (x : ℕ). HoldsNumber (number_of_words (round (set ring at (bit_xor word m)) (at + 1))) x)
    (sym (bytes_next register word at words within is_word))
    (ring_next ring at word (bit_xor word m) (after_bytes register (concat (take at words))) long lt fit word_fits
    (ap (λ (x : ℕ). bit_xor word x) is_m) holds)

-- ---- a ring that begins
moved_small : (v : ℕ) → v < 2 ^ 64 → moved v ≡ v
unfolding moved
moved_small v lt =
    let a : v / 2 ^ 256 ≡ 0 = omega arith in
    let b : v / 2 ^ 192 ≡ 0 = omega arith in
    let c : v / 2 ^ 64 ≡ 0 = omega arith in
    four _ _ _ _ 0 0 0 v a b c refl ∙ xor_zero_l (bit_xor 0 v) ∙ xor_zero_l v

pub holds_start : (register : ℕ) → register < 2 ^ 64 → Holds (set (replicate 64 0) 0 register) register
unfolding number_of_words HoldsNumber
holds_start register lt =
    let e : number_of_words (set (replicate 64 0) 0 register) ≡ register = omega arith in
    ap (after_bits 4096) (sym (ap moved e ∙ moved_small register lt))

-- ---- the last block
pub last_start : (register m : ℕ) → m ≡ bit_xor register (after_bits 0 (bit_xor register m))
last_start register m =
    sym (ap (λ (x : ℕ). bit_xor register x) (after_bits-zero (bit_xor register m)) ∙ sym (xor_assoc register register m)
    ∙ ap (λ (x : ℕ). bit_xor x m) (xor_self register) ∙ xor_zero_l m)

abbrev pub Behind : List ℕ → List (List ℕ) → ℕ → ℕ → ℕ → Type 0
Behind ring words at after register =
    bit_xor after (moved (number_of_words (drop at ring)))
    ≡ bit_xor (after_bytes register (concat (take at words)))
    (after_bits (64 * at) (bit_xor register (moved (number_of_words ring))))

pub last_next : (ring : List ℕ) (words : List (List ℕ)) (at word m after register : ℕ) → AreWords ring
    → at < length ring → at < length words
    → IsWord (get_or words at []) word → m ≡ moved_first (drop at ring) → Behind ring words at after register
    → Behind ring words (at + 1) (after_word after (bit_xor word m)) register
last_next ring words at word m after register fit lt within is_word is_m behind =
    let all = moved (number_of_words (drop at ring)) in
    let others = all / 2 ^ 64 in
    let low = all % 2 ^ 64 in
    let message = after_bytes register (concat (take at words)) in
    let start = bit_xor register (moved (number_of_words ring)) in
    let difference = after_bits (64 * at) start in
    let is_low : m ≡ low = is_m ∙ sym (moved_low (drop at ring) (are_words-drop at ring fit)) in
    let below : low < 2 ^ 64 = mod_below all (2 ^ 64) (omega arith) in
    let split : bit_xor (others * 2 ^ 64) low ≡ all = xor_shifted others 64 low below ∙ omega arith in
    let rest : moved (number_of_words (drop (at + 1) ring)) ≡ others
    = ap moved (sym (number_rest (drop at ring) (are_words-drop at ring fit)
    ∙ ap (λ (xs : List ℕ). number_of_words (drop 1 xs)) (drop_more ring at 0 lt)))
    ∙ moved-shr (number_of_words (drop at ring)) in
    let joined : bit_xor (bit_xor after (bit_xor word m)) (others * 2 ^ 64) ≡ bit_xor (bit_xor message word) difference
    = ap (λ (x : ℕ). bit_xor (bit_xor after (bit_xor word x)) (others * 2 ^ 64)) is_low
    ∙ xor_assoc after (bit_xor word low) (others * 2 ^ 64)
    ∙ ap (λ (x : ℕ). bit_xor after x)
    (xor_assoc word low (others * 2 ^ 64) ∙ ap (λ (x : ℕ). bit_xor word x) (xor_comm low (others * 2 ^ 64) ∙ split)
    ∙ xor_comm word all)
    ∙ sym (xor_assoc after all word) ∙ ap (λ (x : ℕ). bit_xor x word) behind ∙ xor_swap message difference word in
    let bits : 64 * at + 64 ≡ 64 * (at + 1) = omega arith in
    ap (λ (x : ℕ). bit_xor (after_word after (bit_xor word m)) x) (rest ∙ sym (after_bits-shifted 64 others))
    ∙ ap (λ (x : ℕ). bit_xor x (after_bits 64 (others * 2 ^ 64))) (sym (after_word-is after (bit_xor word m)))
    ∙ sym (after_bits-xor 64 (bit_xor after (bit_xor word m)) (others * 2 ^ 64))
    ∙ ap (after_bits 64) joined ∙ after_bits-xor 64 (bit_xor message word) difference
    ∙ ap (λ (x : ℕ). bit_xor x (after_bits 64 difference))
    (after_word-is message word ∙ sym (bytes_next register word at words within is_word))
    ∙ ap (λ (x : ℕ). bit_xor (after_bytes register (concat (take (at + 1) words))) x)
    (after_bits-add (64 * at) 64 start ∙ ap (λ (n : ℕ). after_bits n start) bits)

moved_none : moved (number_of_words []) ≡ 0
unfolding moved number_of_words
moved_none = refl

pub last_end : (ring : List ℕ) (words : List (List ℕ)) (after register : ℕ) → length ring ≡ 64 → length words ≡ 64
    → Holds ring register → Behind ring words 64 after register → after ≡ after_bytes register (concat words)
unfolding HoldsNumber
last_end ring words after register long count holds behind =
    let m = moved (number_of_words ring) in
    let none : moved (number_of_words (drop 64 ring)) ≡ 0 = ap (λ (xs : List ℕ). moved (number_of_words xs))
    (drop_all 64 ring (omega (arith, long))) ∙ moved_none in
    let all : take 64 words ≡ words = take_all 64 words (omega (arith, count)) in
    let same : after_bits 4096 (bit_xor register m) ≡ 0
    = after_bits-xor 4096 register m ∙ ap (λ (x : ℕ). bit_xor x (after_bits 4096 m)) holds
    ∙ xor_self (after_bits 4096 m) in
    sym (ap (λ (x : ℕ). bit_xor after x) none ∙ xor_zero_r after) ∙ behind
    ∙ ap (λ (x : ℕ). bit_xor (after_bytes register (concat (take 64 words))) x) same
    ∙ xor_zero_r (after_bytes register (concat (take 64 words)))
    ∙ ap (λ (xs : List (List ℕ)). after_bytes register (concat xs)) all

-- ---- the blocks
pub flat_blocks : (n k : ℕ) (words : List (List ℕ)) → flat_map concat (first_chunks n k words) ≡ concat
    (take (k * n) words)
flat_blocks n zero words = let e : zero * n ≡ 0 = omega arith in ap (λ (m : ℕ). concat (take m words)) (sym e)
flat_blocks n (suc k) words =
    let e : n + k * n ≡ suc k * n = omega arith in
    ap (λ (xs : List ℕ). concat (take n words) ++ xs) (flat_blocks n k (drop n words))
    ∙ sym (concat-append (take n words) (take (k * n) (drop n words)))
    ∙ ap concat (sym (take-add n (k * n) words)) ∙ ap (λ (m : ℕ). concat (take m words)) e

pub blocks_next : (register i : ℕ) (blocks : List (List (List ℕ))) → i < length blocks
    → after_bytes register (flat_map concat (take (i + 1) blocks)) ≡ after_bytes
    (after_bytes register (flat_map concat (take i blocks))) (concat (get_or blocks i []))
blocks_next register i blocks lt =
    let front = flat_map concat (take i blocks) in
    let block = concat (get_or blocks i []) in
    ap (λ (xs : List ℕ). after_bytes register xs)
    (ap (flat_map concat) (take_more blocks i [] lt) ∙ flat_map-append concat (take i blocks)
    (get_or blocks i [] ∷ []) ∙ ap (λ (xs : List ℕ). front ++ xs) (append-nil block))
    ∙ sym (after_bytes-append register front block)

-- words that are no whole block, the blocks behind them, and the last block
pub many_words : (register after k : ℕ) (words front last others : List (List ℕ)) (blocks : List (List (List ℕ)))
    → front ≡ take k words → last ≡ drop k words → others ≡ take (length front % 64) front
    → blocks ≡ first_chunks 64 (length front / 64) (drop (length front % 64) front)
    → after ≡ after_bytes register (concat others)
    → after_bytes (after_bytes after (flat_map concat blocks)) (concat last) ≡ after_bytes register (concat words)
many_words register after k words front last others blocks is_front is_last is_others is_blocks is_after =
    let rest = drop (length front % 64) front in
    let enough : length rest ≤ length front / 64 * 64 = omega (arith, length-drop (length front % 64) front) in
    let flat : flat_map concat blocks ≡ concat rest
    = ap (flat_map concat) is_blocks ∙ flat_blocks 64 (length front / 64) rest
    ∙ ap concat (take_all (length front / 64 * 64) rest enough) in
    let whole : concat others ++ concat rest ≡ concat front
    = ap (λ (xs : List (List ℕ)). concat xs ++ concat rest) is_others
    ∙ sym (concat-append (take (length front % 64) front) rest)
    ∙ ap concat (take-append-drop (length front % 64) front) in
    let all : concat front ++ concat last ≡ concat words
    = ap (λ (xs : List (List ℕ)). concat xs ++ concat last) is_front
    ∙ ap (λ (xs : List (List ℕ)). concat (take k words) ++ concat xs) is_last
    ∙ sym (concat-append (take k words) (drop k words)) ∙ ap concat (take-append-drop k words) in
    let before : after_bytes after (flat_map concat blocks) ≡ after_bytes register (concat front)
    = ap (λ (x : ℕ). after_bytes x (flat_map concat blocks)) is_after
    ∙ ap (λ (xs : List ℕ). after_bytes (after_bytes register (concat others)) xs) flat
    ∙ after_bytes-append register (concat others) (concat rest) ∙ ap (λ (xs : List ℕ). after_bytes register xs) whole in
    ap (λ (x : ℕ). after_bytes x (concat last)) before
    ∙ after_bytes-append register (concat front) (concat last) ∙ ap (λ (xs : List ℕ). after_bytes register xs) all
