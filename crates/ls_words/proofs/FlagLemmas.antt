-- Words read as flags.
use Rattle.std.proofs.Common.{◌≡◌, ◌≢◌, ℕ, false, eqb, List, [], ◌∷◌, Option, Some, None, refl, sym, ap, ◌∙◌, Bor}
use Rattle.std.specs.Prelude.{MatchOption, unwrap_or}
use Rattle.std.proofs.lemmas.Bool.{ne_eqb}
use Rattle.ls_words.specs.FlagWord.{without_dash}

dash_first : (word rest : List ℕ) → word ≡ 45 ∷ rest → rest ≡ without_dash word
dash_first word rest e = sym (ap without_dash e)

no_dash : (word : List ℕ) → ((rest : List ℕ) → word ≢ 45 ∷ rest) → word ≡ without_dash word
no_dash [] none = refl
no_dash (c ∷ cs) none = let other : eqb c 45 ≡ false = ne_eqb c 45 (λ e. none cs (ap (λ d. d ∷ cs) e)) in rw other refl

-- what a search for a dash in front leaves
pub without-from_strip : (word : List ℕ) (r : Option (Bor (List ℕ))) (whole : Bor (List ℕ))
    → MatchOption r ((rest : List ℕ) → word ≢ 45 ∷ rest) (λ x. word ≡ 45 ∷ x.now) → whole.now ≡ word
    → (unwrap_or r whole).now ≡ without_dash word
without-from_strip word None whole strips is = is ∙ no_dash word strips
without-from_strip word (Some x) whole strips is = dash_first word x.now strips
