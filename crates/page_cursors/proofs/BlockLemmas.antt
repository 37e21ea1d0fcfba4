-- Pages of many lists, the last of each number.
use Rattle.std.proofs.Common.{◌≡◌, ◌≢◌, ℕ, zero, suc, ◌<◌, ◌≤◌, inl, inr, List, [], ◌∷◌, ◌++◌, Option}
use Rattle.std.proofs.Common.{Some, None, refl, sym, ap, subst, ◌∙◌, arith}
use Rattle.std.specs.Prelude.{IsSome, is_some, slice_get, slice_set}
use Rattle.std.specs.List.{Contains}
use Rattle.std.specs.Option.{option_or}
use Rattle.std.proofs.lemmas.Bool.{cases_eq}
use Rattle.ltx_format.proofs.FindLemmas.{find_here, find_there}
use Rattle.page_cursors.specs.Blocks.{Blocks, numbers_of, page_in, last_in}
use Rattle.page_cursors.specs.Wanted.{AreBelow}
use Rattle.page_cursors.proofs.WantedLemmas.{held_which}

-- ---- one list

pub page-push_other : (blocks : Blocks) (n p : ℕ) (page : List ℕ) → p ≢ n
    → page_in (blocks ++ (n, page) ∷ []) p ≡ page_in blocks p
page-push_other [] n p page other = find_there p (n, page) [] other
page-push_other (block ∷ blocks) n p page other = elim (cases_eq p block.0) [
  | inl here ↦ find_here p block (blocks ++ (n, page) ∷ []) here ∙ sym (find_here p block blocks here)
  | inr there ↦ find_there p block (blocks ++ (n, page) ∷ []) there ∙ page-push_other blocks n p page other
      ∙ sym (find_there p block blocks there)
]

below_rest : (block : ℕ × List ℕ) (blocks : Blocks) (bound : ℕ) → AreBelow (numbers_of (block ∷ blocks)) bound
    → AreBelow (numbers_of blocks) bound
below_rest block blocks bound below p (k, low, e) = below p (suc k, omega (arith, low), e)

below_first : (block : ℕ × List ℕ) (blocks : Blocks) (bound : ℕ) → AreBelow (numbers_of (block ∷ blocks)) bound
    → block.0 < bound
below_first block blocks bound below = below block.0 (zero, omega arith, refl)

-- no page stands at or above the bound
pub page-past : (blocks : Blocks) (bound p : ℕ) → AreBelow (numbers_of blocks) bound → bound ≤ p
    → page_in blocks p ≡ None
page-past [] bound p below past = refl
page-past (block ∷ blocks) bound p below past =
    let first = below_first block blocks bound below in
    find_there p block blocks (λ e. omega (arith, e, first, past))
    ∙ page-past blocks bound p (below_rest block blocks bound below) past

pub page-push_here : (blocks : Blocks) (n : ℕ) (page : List ℕ) → AreBelow (numbers_of blocks) n
    → page_in (blocks ++ (n, page) ∷ []) n ≡ Some page
page-push_here [] n page below = find_here n (n, page) [] refl
page-push_here (block ∷ blocks) n page below =
    let first = below_first block blocks n below in
    find_there n block (blocks ++ (n, page) ∷ []) (λ e. omega (arith, e, first))
    ∙ page-push_here blocks n page (below_rest block blocks n below)

pub page-push_new : (blocks : Blocks) (n : ℕ) (page : List ℕ) → page_in blocks n ≡ None
    → page_in (blocks ++ (n, page) ∷ []) n ≡ Some page
page-push_new [] n page none = find_here n (n, page) [] refl
page-push_new (block ∷ blocks) n page none = elim (cases_eq n block.0) [
  | inl here ↦ let found = find_here n block blocks here in cc
  | inr there ↦ find_there n block (blocks ++ (n, page) ∷ []) there
      ∙ page-push_new blocks n page (sym (find_there n block blocks there) ∙ none)
]

pub numbers-push : (blocks : Blocks) (n : ℕ) (page : List ℕ)
    → numbers_of (blocks ++ (n, page) ∷ []) ≡ numbers_of blocks ++ n ∷ []
numbers-push [] n page = refl
numbers-push (block ∷ blocks) n page = ap (λ (ns : List ℕ). block.0 ∷ ns) (numbers-push blocks n page)

pub below-push : (numbers : List ℕ) (n bound : ℕ) → AreBelow numbers bound → n < bound
    → AreBelow (numbers ++ n ∷ []) bound
below-push numbers n bound below low p has = elim (held_which numbers n p has) [
  | inl before ↦ below p before
  | inr same ↦ omega (arith, same, low)
]

pub below-more : (numbers : List ℕ) (low high : ℕ) → low ≤ high → AreBelow numbers low → AreBelow numbers high
below-more numbers low high le below p has = let under = below p has in omega (arith, under, le)

held_rest : (x : ℕ) (numbers : List ℕ) (p : ℕ) → p ≢ x → Contains (x ∷ numbers) p → Contains numbers p
held_rest x numbers p other (zero, low, e) = absurd (other (sym e))
held_rest x numbers p other (suc k, low, e) = (k, omega (arith, low), e)

some_is : (o : Option (List ℕ)) (x : List ℕ) → o ≡ Some x → IsSome o
some_is o x e = ap is_some e

-- a number that is there has a page
pub page-held : (blocks : Blocks) (p : ℕ) → Contains (numbers_of blocks) p → IsSome (page_in blocks p)
page-held [] p (k, low, e) = absurd (omega (arith, low))
page-held (block ∷ blocks) p has = elim (cases_eq p block.0) [
  | inl here ↦ some_is (page_in (block ∷ blocks) p) block.1 (find_here p block blocks here)
  | inr there ↦ subst (λ (o : Option (List ℕ)). IsSome o) (sym (find_there p block blocks there)) (page-held blocks p
      (held_rest block.0 (numbers_of blocks) p there has))
]

-- ---- many lists

pub last-none : (fronts : List Blocks) (p : ℕ) → ((place : ℕ) (front : Blocks) → slice_get fronts place ≡ Some front
    → page_in front p ≡ None) → last_in fronts p ≡ None
last-none [] p none = refl
last-none (front ∷ fronts) p none =
    ap (λ (o : Option (List ℕ)). option_or o (page_in front p)) (last-none fronts p (λ place f is. none
    (suc place) f is)) ∙ none zero front refl

-- one list has other pages, but none of this number
pub last-set : (fronts : List Blocks) (place : ℕ) (front after : Blocks) (p : ℕ)
    → slice_get fronts place ≡ Some front → page_in after p ≡ page_in front p
    → last_in (slice_set fronts place after) p ≡ last_in fronts p
last-set [] place front after p is same = absurd cc
last-set (f ∷ fronts) zero front after p is same =
    let e : f ≡ front = cc in ap (λ (o : Option (List ℕ)). option_or (last_in fronts p) o) (same
    ∙ ap (λ (b : Blocks). page_in b p) (sym e))
last-set (f ∷ fronts) (suc place) front after p is same =
    ap (λ (o : Option (List ℕ)). option_or o (page_in f p)) (last-set fronts place front after p is same)

-- the last list that has the number
pub last-at : (fronts : List Blocks) (place : ℕ) (front : Blocks) (p : ℕ) (page : List ℕ)
    → slice_get fronts place ≡ Some front → page_in front p ≡ Some page
    → ((k : ℕ) (f : Blocks) → place < k → slice_get fronts k ≡ Some f → page_in f p ≡ None)
    → last_in fronts p ≡ Some page
last-at [] place front p page is has later = absurd cc
last-at (f ∷ fronts) zero front p page is has later =
    let e : f ≡ front = cc in
    ap (λ (o : Option (List ℕ)). option_or o (page_in f p)) (last-none fronts p (λ k g at. later (suc k) g
    (omega arith) at))
    ∙ ap (λ (b : Blocks). page_in b p) e ∙ has
last-at (f ∷ fronts) (suc place) front p page is has later =
    ap (λ (o : Option (List ℕ)). option_or o (page_in f p)) (last-at fronts place front p page is has
    (λ k g low at. later (suc k) g (omega (arith, low)) at))
