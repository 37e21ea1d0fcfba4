-- The sums of a log over pairs of words.
use Rattle.std.proofs.Common.{◌≡◌, ℕ, ◌+◌, ◌*◌, ◌/◌, ◌%◌, ◌<◌, List, [], ◌∷◌, ◌++◌, length, get_or, take, drop, refl}
use Rattle.std.proofs.Common.{sym, ap, ◌∙◌, arith}
use Rattle.std.specs.List.{concat}
use Rattle.std.specs.Simd.{first_chunks}
use Rattle.std.proofs.Math.Seq.{take-length}
use Rattle.ls_sums.specs.declared.order.Order.{Order}
use Rattle.ls_sums.specs.declared.wal_sum.WalSum.{WalSum}
use Rattle.ls_sums.specs.WalSum.{word, words, after_pair, after_words}
use Rattle.ls_sums.proofs.PieceLemmas.{concat-drop, concat_chunks}

-- the word at the front, and that at four bytes
abbrev pub first_word : Order → List ℕ → ℕ
first_word order pair = word order (get_or pair 0 0) (get_or pair 1 0) (get_or pair 2 0) (get_or pair 3 0)

abbrev pub second_word : Order → List ℕ → ℕ
second_word order pair = word order (get_or pair 4 0) (get_or pair 5 0) (get_or pair 6 0) (get_or pair 7 0)

words_of_pair : (order : Order) (pair bytes : List ℕ) → length pair ≡ 8
    → words order (pair ++ bytes) ≡ first_word order pair ∷ second_word order pair ∷ words order bytes
words_of_pair order (a ∷ b ∷ c ∷ d ∷ e ∷ f ∷ g ∷ h ∷ []) bytes eight = refl
words_of_pair order (a ∷ b ∷ c ∷ d ∷ e ∷ f ∷ g ∷ h ∷ i ∷ pair) bytes eight = absurd (omega arith)
words_of_pair order (a ∷ b ∷ c ∷ d ∷ e ∷ f ∷ g ∷ []) bytes eight = absurd (omega arith)
words_of_pair order (a ∷ b ∷ c ∷ d ∷ e ∷ f ∷ []) bytes eight = absurd (omega arith)
words_of_pair order (a ∷ b ∷ c ∷ d ∷ e ∷ []) bytes eight = absurd (omega arith)
words_of_pair order (a ∷ b ∷ c ∷ d ∷ []) bytes eight = absurd (omega arith)
words_of_pair order (a ∷ b ∷ c ∷ []) bytes eight = absurd (omega arith)
words_of_pair order (a ∷ b ∷ []) bytes eight = absurd (omega arith)
words_of_pair order (a ∷ []) bytes eight = absurd (omega arith)
words_of_pair order [] bytes eight = absurd (omega arith)

-- one more pair
pub sums_of_pair : (order : Order) (sum : WalSum) (pairs : List (List ℕ)) (i x y : ℕ) → i < length pairs
    → length (get_or pairs i []) ≡ 8
    → x ≡ first_word order (get_or pairs i []) → y ≡ second_word order (get_or pairs i [])
    → after_words (after_pair sum x y) (words order (concat (drop (i + 1) pairs))) ≡ after_words sum
    (words order (concat (drop i pairs)))
sums_of_pair order sum pairs i x y lt eight is_x is_y =
    let rest = concat (drop (i + 1) pairs) in
    let pair = get_or pairs i [] in
    sym (ap (λ (xs : List ℕ). after_words sum (words order xs)) (concat-drop pairs i lt)
    ∙ ap (λ (xs : List ℕ). after_words sum xs) (words_of_pair order pair rest eight)
    ∙ ap (λ (n : ℕ). after_words (after_pair sum n (second_word order pair)) (words order rest)) (sym is_x)
    ∙ ap (λ (n : ℕ). after_words (after_pair sum x n) (words order rest)) (sym is_y))

-- bytes of a length that is a multiple of 8 are the pieces that as many eights have
pub all_pairs : (bytes : List ℕ) → length bytes % 8 ≡ 0 → concat (first_chunks 8 (length bytes / 8) bytes) ≡ bytes
all_pairs bytes whole =
    let e : length bytes / 8 * 8 ≡ length bytes = omega arith in
    concat_chunks 8 (length bytes / 8) bytes ∙ ap (λ (n : ℕ). take n bytes) e ∙ take-length bytes

-- one list of pairs behind another
pub after_words-append : (order : Order) (sum : WalSum) (front back : List ℕ) → length front % 8 ≡ 0
    → after_words (after_words sum (words order front)) (words order back) ≡ after_words sum
    (words order (front ++ back))
after_words-append order sum [] back whole = refl
after_words-append order sum (a ∷ b ∷ c ∷ d ∷ e ∷ f ∷ g ∷ h ∷ front) back whole =
    let fewer : length front % 8 ≡ 0 = omega (arith, whole) in
    after_words-append order (after_pair sum (word order a b c d) (word order e f g h)) front back fewer
after_words-append order sum (a ∷ b ∷ c ∷ d ∷ e ∷ f ∷ g ∷ []) back whole = absurd (omega (arith, whole))
after_words-append order sum (a ∷ b ∷ c ∷ d ∷ e ∷ f ∷ []) back whole = absurd (omega (arith, whole))
after_words-append order sum (a ∷ b ∷ c ∷ d ∷ e ∷ []) back whole = absurd (omega (arith, whole))
after_words-append order sum (a ∷ b ∷ c ∷ d ∷ []) back whole = absurd (omega (arith, whole))
after_words-append order sum (a ∷ b ∷ c ∷ []) back whole = absurd (omega (arith, whole))
after_words-append order sum (a ∷ b ∷ []) back whole = absurd (omega (arith, whole))
after_words-append order sum (a ∷ []) back whole = absurd (omega (arith, whole))
