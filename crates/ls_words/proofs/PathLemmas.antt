-- Texts cut at their last `/`, and texts that hold `://`.
use Rattle.std.proofs.Common.{◌≡◌, ◌≢◌, ℕ, suc, ◌<◌, true, false, eqb, List, [], ◌∷◌, ◌++◌, length, get_or, take, drop}
use Rattle.std.proofs.Common.{Option, Some, None, refl, sym, ap, ◌∙◌, inl, inr, arith, Bor}
use Rattle.std.specs.Prelude.{MatchOption, nat_eq, codes}
use Rattle.std.specs.List.{starts_with}
use Rattle.std.specs.Str.{NoCharPasses}
use Rattle.std.specs.Str.Iter.{HasSubslice}
use Rattle.std.specs.Str.Pattern.{RFindsChar, SplitsAroundMatch}
use Rattle.std.proofs.lemmas.Bool.{ne_eqb, or_cases, or_right}
use Rattle.std.proofs.lemmas.List.{take-append-drop}
use Rattle.std.proofs.lemmas.Str.Pattern.{NoCharPasses-char, drop_at_char}
use Rattle.std.proofs.lemmas.Slice.Eq.{bytes_eq-Decides}
use Rattle.ls_words.specs.Path.{placed, last_cut, cut_at_last_slash, names_scheme}

LacksSlash : List ℕ → Type 0
LacksSlash bs = (i : ℕ) → i < length bs → get_or bs i 0 ≢ 47

lacks_slash : (bs : List ℕ) → NoCharPasses (λ d. eqb d 47) bs → LacksSlash bs
unfolding LacksSlash
lacks_slash bs none i lt = NoCharPasses-char 47 bs i none (omega arith) lt

cut_nowhere : (bs : List ℕ) → LacksSlash bs → cut_at_last_slash bs ≡ None
unfolding LacksSlash
cut_nowhere [] lacks = refl
cut_nowhere (c ∷ cs) lacks =
    let not_here : eqb c 47 ≡ false = ne_eqb c 47 (lacks 0 (omega arith)) in
    rw (cut_nowhere cs (λ i lt. lacks (suc i) (omega arith)), not_here) refl

cut_there : (a b : List ℕ) → LacksSlash b → cut_at_last_slash (a ++ 47 ∷ b) ≡ Some (record { folder = a; name = b })
cut_there [] b lacks = ap (last_cut 47 b) (cut_nowhere b lacks)
cut_there (c ∷ a) b lacks = ap (last_cut c (a ++ 47 ∷ b)) (cut_there a b lacks)

-- a text in which no `/` was found isn't cut
pub cut-from_none : (path : List ℕ) (r : Option (Bor (List ℕ) × Bor (List ℕ)))
    → MatchOption r (RFindsChar 47 path None) (λ x. SplitsAroundMatch (RFindsChar 47) path x.0.now x.1.now)
    → ((x : Bor (List ℕ) × Bor (List ℕ)) → r ≢ Some x) → cut_at_last_slash path ≡ None
cut-from_none path None found not_some = cut_nowhere path (lacks_slash path found)
cut-from_none path (Some x) found not_some = absurd (not_some x refl)

-- and one in which the last was found is cut there
pub cut-from_some : (path front back : List ℕ) → SplitsAroundMatch (RFindsChar 47) path front back
    → cut_at_last_slash path ≡ Some (record { folder = front; name = back })
cut-from_some path front back (i, j, found, front-is, back-is, _, _, _) =
    let whole : path ≡ take i path ++ 47 ∷ drop j path = sym (take-append-drop i path)
    ∙ ap (λ rest. take i path ++ rest) (drop_at_char 47 path i j found.1 (omega arith)) in
    ap cut_at_last_slash whole ∙ cut_there (take i path) (drop j path) (lacks_slash (drop j path) found.0)
    ∙ rw (front-is, back-is) refl

name_cut : (path folder name : List ℕ) → cut_at_last_slash path ≡ Some (record { folder = folder; name = name })
    → name ≡ (placed path (cut_at_last_slash path)).name
name_cut path folder name e = rw e refl

-- the name behind the last `/`
pub name_behind : (path front back : List ℕ) → SplitsAroundMatch (RFindsChar 47) path front back
    → back ≡ (placed path (cut_at_last_slash path)).name
name_behind path front back splits = name_cut path front back (cut-from_some path front back splits)

-- and of a path without `/`, where the code has no such name
pub name_alone : (path : List ℕ) → cut_at_last_slash path ≡ None → path ≡ (placed path (cut_at_last_slash path)).name
name_alone path e = rw e refl

named_there : (a b : List ℕ) → names_scheme (a ++ ((58 ∷ 47 ∷ 47 ∷ []) ++ b)) ≡ true
named_there [] b = refl
named_there (c ∷ a) b = or_right _ _ (named_there a b)

pub named-from_slice : (s : List ℕ) → HasSubslice s (58 ∷ 47 ∷ 47 ∷ []) → names_scheme s ≡ true
named-from_slice s (a, b, e) = ap names_scheme e ∙ named_there a b

pub slice-from_named : (s : List ℕ) → names_scheme s ≡ true → HasSubslice s (58 ∷ 47 ∷ 47 ∷ [])
slice-from_named [] e = absurd cc
slice-from_named (c ∷ cs) e =
    elim (or_cases (starts_with nat_eq (c ∷ cs) (codes "://")) (names_scheme cs) e) [
      | inl here ↦ (
        [],
        drop 3 (c ∷ cs),
        sym (take-append-drop 3 (c ∷ cs))
            ∙ ap (λ front. front ++ drop 3 (c ∷ cs))
            (sym ((bytes_eq-Decides (58 ∷ 47 ∷ 47 ∷ []) (take 3 (c ∷ cs))).0 here)),
      )
      | inr later ↦ let rest = slice-from_named cs later in (c ∷ rest.0, rest.1, ap (λ t. c ∷ t) rest.2)
    ]
