-- Words by their place, and flags read one after the other.
use Rattle.std.proofs.Common.{◌≡◌, ℕ, ◌+◌, ◌-◌, ◌<◌, ◌≤◌, Bool, true, false, cond, ltb, List, [], ◌∷◌, length, get_or}
use Rattle.std.proofs.Common.{drop, Option, Some, None, Ok, Err, refl, sym, ap, ◌∙◌, ◌⊎◌, inl, inr, add-one, arith, Bor}
use Rattle.std.specs.Prelude.{option_copied, unwrap_or}
use Rattle.std.specs.List.{slice_get}
use Rattle.std.proofs.Math.Seq.{drop-cons}
use Rattle.std.proofs.lemmas.Bool.{lt-ltb, cases_lt}
use Rattle.std.proofs.lemmas.Bool.Decides.{nat_tests}
use Rattle.std.proofs.lemmas.Option.{unwrap_or-slice_get}
use Rattle.ls_words.specs.declared.verb.Verb.{Verb}
use Rattle.ls_words.specs.declared.settings.Settings.{Settings}
use Rattle.ls_words.specs.FlagWord.{is_flag, is_end}
use Rattle.ls_words.specs.Given.{Given, given_at}
use Rattle.ls_words.specs.Reading.{with_given, flagged}
use Rattle.ls_words.specs.Plain.{counted}

copied_or : (r : Option (Bor (List ℕ))) (d : Bor (List ℕ)) → d.now ≡ []
    → (unwrap_or r d).now ≡ unwrap_or (option_copied r) []
copied_or None d e = e
copied_or (Some x) d e = refl

-- the word at a place, or an empty one
pub word-from_get : (words : List (List ℕ)) (at : ℕ) (r : Option (Bor (List ℕ))) (d : Bor (List ℕ))
    → option_copied r ≡ slice_get words at → d.now ≡ [] → (unwrap_or r d).now ≡ get_or words at []
word-from_get words at r d got empty = copied_or r d empty ∙ ap (λ o. unwrap_or o []) got
    ∙ unwrap_or-slice_get words at []

next_at : (words : List (List ℕ)) (at : ℕ) → at < length words
    → drop at words ≡ get_or words at [] ∷ drop (at + 1) words
next_at words at lt = rw add-one (drop-cons words at [] lt)

-- a word that gives a flag, and what is read behind it
one_flag : (verb : Verb) (at : ℕ) (settings next : Settings) (word : List ℕ) (rest : List (List ℕ)) (given : Given)
    → is_flag word ≡ true → is_end word ≡ false → given_at verb at word rest ≡ Ok given
    → with_given given settings ≡ Ok next → flagged verb at false settings (word ∷ rest) ≡ flagged verb (at + 1)
    (ltb at given.word) next rest
one_flag verb at settings next word rest given is no_end gives sets = rw (is, no_end, gives, sets) refl

value_behind : (verb : Verb) (at : ℕ) (next : Settings) (words : List (List ℕ)) (word : ℕ) → word ≡ at
    → flagged verb (at + 1) (ltb at word) next (drop (at + 1) words) ≡ flagged verb (word + 1) false next
    (drop (word + 1) words)
value_behind verb at next words word e =
    let same : ltb at word ≡ false = grind (arith, nat_tests) in
    rw same (ap (λ n. flagged verb (n + 1) false next (drop (n + 1) words)) (sym e))

value_next : (verb : Verb) (at : ℕ) (next : Settings) (words : List (List ℕ)) (word : ℕ) → word ≡ at + 1
    → word < length words → flagged verb (at + 1) (ltb at word) next (drop (at + 1) words) ≡ flagged verb (word + 1)
    false next (drop (word + 1) words)
value_next verb at next words word e lt =
    let more : ltb at word ≡ true = lt-ltb at word (omega arith) in
    rw more (ap (λ rest. flagged verb (at + 1) true next rest) (next_at words (at + 1) (omega arith))
    ∙ ap (λ n. flagged verb (n + 1) false next (drop (n + 1) words)) (sym e))

one_of : (at word : ℕ) → at ≤ word → word ≤ at + 1 → (word ≡ at) ⊎ (word ≡ at + 1)
one_of at word low high = elim (cases_lt at word) [ inl lt ↦ inr (omega arith) | inr le ↦ inl (omega arith) ]

-- what is read from a flag on is what is read behind it
pub flags_more : (verb : Verb) (at : ℕ) (settings next : Settings) (words : List (List ℕ)) (word : List ℕ)
    (given : Given) → at < length words → word ≡ get_or words at [] → is_flag word ≡ true → is_end word ≡ false
    → given_at verb at word (drop (at + 1) words) ≡ Ok given → with_given given settings ≡ Ok next → (at ≤ given.word)
    × (given.word ≤ at + 1) × (given.word < length words)
    → flagged verb (given.word + 1) false next (drop (given.word + 1) words) ≡ flagged verb at false settings
    (drop at words)
flags_more verb at settings next words word given lt here is no_end gives sets within =
    let step = one_flag verb at settings next word (drop (at + 1) words) given is no_end gives sets in
    let whole : flagged verb at false settings (drop at words) ≡ flagged verb at false settings
    (word ∷ drop (at + 1) words) =
    ap (flagged verb at false settings) (next_at words at lt ∙ ap (λ w. w ∷ drop (at + 1) words) (sym here)) in
    sym (whole ∙ step ∙ elim (one_of at given.word within.0 within.1) [
      | inl e ↦ value_behind verb at next words given.word e
      | inr e ↦ value_next verb at next words given.word e within.2
    ])

passes_both : {A E : Type 0} (b d : Bool) (e f : E) (u v : A) → cond b (Err e) (cond d (Err f) (Ok v)) ≡ Ok u
    → (b ≡ false) × (d ≡ false)
passes_both true d e f u v h = absurd cc
passes_both false true e f u v h = absurd cc
passes_both false false e f u v h = (refl, refl)

-- as many plain words as are taken
pub counted-exact : (count first takes : ℕ) (u : Unit {0}) → first ≤ count → counted count first takes ≡ Ok u
    → first + takes ≡ count
unfolding counted
counted-exact count first takes u le e =
    let p = passes_both (ltb (count - first) takes) (ltb takes (count - first)) _ _ u tt e in
    grind (arith, nat_tests)
