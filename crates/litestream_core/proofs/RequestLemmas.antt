-- Texts cut at their last `/`.
use Rattle.std.proofs.Common.{◌≡◌, ◌≢◌, ℕ, suc, ◌<◌, true, false, eqb, List, [], ◌∷◌, ◌++◌, length, get_or, take, drop}
use Rattle.std.proofs.Common.{Option, Some, None, refl, sym, ap, ◌∙◌, arith, Bor}
use Rattle.std.specs.Prelude.{MatchOption, codes}
use Rattle.std.specs.Str.{NoCharPasses}
use Rattle.std.specs.Str.Pattern.{RFindsChar, SplitsAroundMatch}
use Rattle.std.proofs.lemmas.Bool.{ne_eqb}
use Rattle.std.proofs.lemmas.List.{take-append-drop}
use Rattle.std.proofs.lemmas.Str.Pattern.{NoCharPasses-char, drop_at_char}
use Rattle.ls_words.specs.Path.{placed, last_cut, cut_at_last_slash}

LacksSlash : List ℕ → Type 0
LacksSlash bs = (i : ℕ) → i < length bs → get_or bs i 0 ≢ 47

lacks_slash : (bs : List ℕ) → NoCharPasses (λ d. eqb d 47) bs → LacksSlash bs
unfolding LacksSlash
lacks_slash bs none i lt = NoCharPasses-char 47 bs i none (omega arith) lt

cut_nowhere : (bs : List ℕ) → LacksSlash bs → cut_at_last_slash bs ≡ None
unfolding LacksSlash
cut_nowhere [] lacks = refl
cut_nowhere (c ∷ cs) lacks =
    let not_here : eqb c 47 ≡ false = ne_eqb c 47 (lacks 0 (omega arith)) in
    rw (cut_nowhere cs (λ i lt. lacks (suc i) (omega arith)), not_here) refl

cut_there : (a b : List ℕ) → LacksSlash b → cut_at_last_slash (a ++ 47 ∷ b) ≡ Some (record { folder = a; name = b })
cut_there [] b lacks = ap (last_cut 47 b) (cut_nowhere b lacks)
cut_there (c ∷ a) b lacks = ap (last_cut c (a ++ 47 ∷ b)) (cut_there a b lacks)

-- a text in which no `/` was found isn't cut
pub cut-from_none : (path : List ℕ) (r : Option (Bor (List ℕ) × Bor (List ℕ)))
    → MatchOption r (RFindsChar 47 path None) (λ x. SplitsAroundMatch (RFindsChar 47) path x.0.now x.1.now)
    → ((x : Bor (List ℕ) × Bor (List ℕ)) → r ≢ Some x) → cut_at_last_slash path ≡ None
cut-from_none path None found not_some = cut_nowhere path (lacks_slash path found)
cut-from_none path (Some x) found not_some = absurd (not_some x refl)

-- and one in which the last was found is cut there
pub cut-from_some : (path front back : List ℕ) → SplitsAroundMatch (RFindsChar 47) path front back
    → cut_at_last_slash path ≡ Some (record { folder = front; name = back })
cut-from_some path front back (i, j, found, front-is, back-is, _, _, _) =
    let whole : path ≡ take i path ++ 47 ∷ drop j path = sym (take-append-drop i path)
    ∙ ap (λ rest. take i path ++ rest) (drop_at_char 47 path i j found.1 (omega arith)) in
    ap cut_at_last_slash whole ∙ cut_there (take i path) (drop j path) (lacks_slash (drop j path) found.0)
    ∙ rw (front-is, back-is) refl

pub placed_at_root : (path folder name : List ℕ) → cut_at_last_slash path ≡ Some
    (record { folder = folder; name = name }) → eqb (length folder) 0 ≡ true
    → record { folder = codes "/"; name = name } ≡ placed path (cut_at_last_slash path)
placed_at_root path folder name e empty = rw (e, empty) refl

pub placed_in_folder : (path folder name : List ℕ) → cut_at_last_slash path ≡ Some
    (record { folder = folder; name = name }) → eqb (length folder) 0 ≡ false
    → record { folder = folder; name = name } ≡ placed path (cut_at_last_slash path)
placed_in_folder path folder name e some = rw (e, some) refl

pub placed_here : (path : List ℕ) → cut_at_last_slash path ≡ None
    → record { folder = codes "."; name = path } ≡ placed path (cut_at_last_slash path)
placed_here path e = rw e refl
