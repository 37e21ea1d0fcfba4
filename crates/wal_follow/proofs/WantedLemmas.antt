-- The numbers of the pages of a piece.
use Rattle.std.proofs.Common.{◌≡◌, ℕ, zero, suc, ◌+◌, ◌<◌, ◌≤◌, min, Bool, true, false, cond, List, [], ◌∷◌, ◌++◌}
use Rattle.std.proofs.Common.{length, take, Option, Some, None, refl, sym, ap, subst, ◌∙◌, get_or, inl, inr, arith}
use Rattle.std.proofs.Common.{length-take}
use Rattle.std.specs.Prelude.{◌≢◌, ◌⊎◌, ◌==◌, ◌||◌, nat_lt, is_some}
use Rattle.std.specs.List.{All, Contains, filter, slice_get}
use Rattle.std.specs.FinMap.{get, keys, contains_key-keys}
use Rattle.std.proofs.lemmas.Bool.{cases_eq, cases_lt, ltb-true, ltb-false, lt-ltb, le-ltb, eqb-true, eqb-false, ne_eqb}
use Rattle.std.specs.List.Sorted.{IsStrictlyIncreasing}
use Rattle.std.proofs.lemmas.List.{get_or-take, length_push, get_or_append_left, get_or_push}
use Rattle.std.proofs.lemmas.List.Elements.{All-filter, All-contains, filter_passes, Contains-append_right}
use Rattle.std.proofs.lemmas.List.Elements.{Contains-append_cases, Contains-get_or, Contains-push, Contains-push_cases}
use Rattle.std.proofs.lemmas.List.Elements.{Contains-append_left}
use Rattle.std.proofs.lemmas.List.Kept.{AllPairs-from_increasing, IsStrictlyIncreasing-filter}
use Rattle.std.proofs.lemmas.Map.Views.{Contains-from_any}
use Rattle.ls_base.proofs.MapLemmas.{keys_increase}
use Rattle.std.specs.Cmp.{unsigned_tied}
use Rattle.std.proofs.lemmas.Option.{get_or_from_slice_get, slice_get-get_or}
use Rattle.ls_base.specs.PageSize.{lock_page}
use Rattle.snapshot_read.specs.PageOffsets.{Offsets}
use Rattle.wal_follow.specs.WantedPages.{IsWanted, AreListed, is_behind, has_written, written}

default_away : (xs : List ℕ) (i d e : ℕ) → i < length xs → get_or xs i d ≡ get_or xs i e
default_away [] i d e within = absurd (omega (arith, within))
default_away (x ∷ xs) zero d e within = refl
default_away (x ∷ xs) (suc i) d e within = default_away xs i d e (omega (arith, within))

some_within : (xs : List ℕ) (k x : ℕ) → slice_get xs k ≡ Some x → k < length xs
some_within [] k x is = let none : ◌≡◌ {A = Option ℕ} None (Some x) = is in absurd cc
some_within (y ∷ xs) zero x is = omega arith
some_within (y ∷ xs) (suc k) x is = let there = some_within xs k x is in omega (arith, there)

-- what comes before in a rising list is below
earlier_below : (ks : List ℕ) (i : ℕ) → IsStrictlyIncreasing ks → i < length ks
    → All (λ x. x < get_or ks i 0) (take i ks)
earlier_below ks i rising within k d inside =
    let few : k < i = omega (arith, inside, length-take i ks) in
    let at : get_or (take i ks) k d ≡ get_or ks k d = get_or-take i ks k d few in
    let pair : get_or ks k d < get_or ks i d = AllPairs-from_increasing ks rising k i d few within in
    let same : get_or ks i d ≡ get_or ks i 0 = default_away ks i d 0 within in
    omega (arith, at, pair, same)

-- each of those kept of them is below
pub kept_below : (p : ℕ → Bool) (ks : List ℕ) (i k last : ℕ) → IsStrictlyIncreasing ks → i < length ks
    → slice_get (filter p (take i ks)) k ≡ Some last → last < get_or ks i 0
kept_below p ks i k last rising within at =
    let all = All-filter p (λ x. x < get_or ks i 0) (take i ks) (earlier_below ks i rising within) in
    let kept = filter p (take i ks) in
    let inside : k < length kept = some_within kept k last at in
    let there : get_or kept k 0 ≡ last = get_or_from_slice_get kept k last 0 at in
    omega (arith, all k 0 inside, there)

-- ---- the list goes on

rising_push : (xs : List ℕ) (y : ℕ) → IsStrictlyIncreasing xs → ((k : ℕ) → k < length xs → get_or xs k 0 < y)
    → IsStrictlyIncreasing (xs ++ y ∷ [])
rising_push xs y rising below k inside =
    let long = length_push xs y in
    elim (cases_lt (k + 1) (length xs)) [
      | inl early ↦
          let here : get_or (xs ++ y ∷ []) k 0 ≡ get_or xs k 0 = get_or_append_left xs (y ∷ []) 0 k (omega
          (arith, early)) in
          let next : get_or (xs ++ y ∷ []) (k + 1) 0 ≡ get_or xs (k + 1) 0 = get_or_append_left xs (y ∷ []) 0
          (k + 1) early in
          let rises = rising k early in
          omega (arith, here, next, rises)
      | inr late ↦
          let at : k + 1 ≡ length xs = omega (arith, long, inside, late) in
          let here : get_or (xs ++ y ∷ []) k 0 ≡ get_or xs k 0 = get_or_append_left xs (y ∷ []) 0 k (omega
          (arith, at)) in
          let next : get_or (xs ++ y ∷ []) (k + 1) 0 ≡ y = get_or_push xs y 0 (k + 1) (sym at) in
          let low = below k (omega (arith, at)) in
          omega (arith, here, next, low)
    ]

contains_from : (xs : List ℕ) (k x : ℕ) → slice_get xs k ≡ Some x → Contains xs x
contains_from xs k x is =
    subst (Contains xs) (get_or_from_slice_get xs k x 0 is) (Contains-get_or xs k 0 (some_within xs k x is))

module _ (offsets : Offsets) (behind size least : ℕ) where
  pub listed_below : (upto k last : ℕ) (list : List ℕ) → AreListed offsets behind size least upto list
      → slice_get list k ≡ Some last → last < upto + 1
  listed_below upto k last list listed is =
      let there = (listed.each last).0 (contains_from list k last is) in
      omega (arith, there.within)

  -- the lock page is left out
  pub listed_skip : (upto : ℕ) (list : List ℕ) → AreListed offsets behind size least upto list
      → upto + 1 ≡ lock_page size → AreListed offsets behind size least (upto + 1) list
  listed_skip upto list listed lock = record {
    rising = listed.rising;
    each = λ p. (
      (λ among. let was = (listed.each p).0 among in
          record {
            from = was.from;
            within = omega (arith, was.within);
            unlocked = was.unlocked;
            changed = was.changed;
          }),
      (λ is. (listed.each p).1 (record {
        from = is.from;
        within = not_last p is.within (λ same. is.unlocked (same ∙ lock));
        unlocked = is.unlocked;
        changed = is.changed;
      })),
    );
  }
    where
      not_last : (p : ℕ) → p ≤ upto + 1 → (p ≡ upto + 1 → ⊥) → p ≤ upto
      not_last p low other = elim (cases_eq p (upto + 1)) [
        | inl same ↦ absurd (other same)
        | inr apart ↦ omega (arith, low, apart)
      ]

  -- each other page behind the least size follows
  pub listed_more : (upto : ℕ) (list : List ℕ) → AreListed offsets behind size least upto list → least ≤ upto
      → upto + 1 ≢ lock_page size → AreListed offsets behind size least (upto + 1) (list ++ (upto + 1) ∷ [])
  listed_more upto list listed low free = record {
    rising = rising_push list (upto + 1) listed.rising (λ k inside.
        listed_below upto k (get_or list k 0) list listed (slice_get-get_or list k 0 inside));
    each = λ p. (
      (λ among. elim (Contains-push_cases list (upto + 1) p among) [
        | inl before ↦ let was = (listed.each p).0 before in record {
          from = was.from;
          within = omega (arith, was.within);
          unlocked = was.unlocked;
          changed = was.changed;
        }
        | inr same ↦ record {
          from = omega (arith, same);
          within = omega (arith, same);
          unlocked = λ lock. free (same ∙ lock);
          changed = inr (omega (arith, same, low));
        }
      ]),
      (λ is. elim (cases_eq p (upto + 1)) [
        | inl same ↦ subst (Contains (list ++ (upto + 1) ∷ [])) (sym same) (Contains-push list (upto + 1))
        | inr apart ↦ Contains-append_left list ((upto + 1) ∷ []) p ((listed.each p).1 (record {
          from = is.from;
          within = omega (arith, is.within, apart);
          unlocked = is.unlocked;
          changed = is.changed;
        }))
      ]),
    );
  }

-- ---- the pages that were written

-- ---- lists that are sifted

kept_cons : (b : Bool) (x : ℕ) (rest : List ℕ) (q : ℕ) → Contains rest q → Contains (cond b (x ∷ rest) rest) q
kept_cons true x rest q among = Contains-append_right (x ∷ []) rest q among
kept_cons false x rest q among = among

kept_head : (b : Bool) (x : ℕ) (rest : List ℕ) → b ≡ true → Contains (cond b (x ∷ rest) rest) x
kept_head true x rest holds = Contains-append_left (x ∷ []) rest x (Contains-push [] x)
kept_head false x rest holds = absurd cc

only_one : (x q : ℕ) → Contains (x ∷ []) q → x ≡ q
only_one x q among = by (Contains-push_cases [] x q among)
  where
    by : Contains [] q ⊎ (x ≡ q) → x ≡ q
    by (inl none) = absurd (omega (arith, none.1))
    by (inr same) = same

contains_kept : (p : ℕ → Bool) (xs : List ℕ) (q : ℕ) → Contains xs q → p q ≡ true → Contains (filter p xs) q
contains_kept p [] q among holds = absurd (omega (arith, among.1))
contains_kept p (x ∷ xs) q among holds =
    by (contains_kept p xs q) (Contains-append_cases (x ∷ []) xs q among)
  where
    by : (Contains xs q → p q ≡ true → Contains (filter p xs) q) → Contains (x ∷ []) q ⊎ Contains xs q
        → Contains (filter p (x ∷ xs)) q
    by rest (inl here) =
        let same = only_one x q here in
        subst (Contains (filter p (x ∷ xs))) same (kept_head (p x) x (filter p xs) (ap p same ∙ holds))
    by rest (inr there) = kept_cons (p x) x (filter p xs) q (rest there holds)

has_key : (offsets : Offsets) (q at : ℕ) → get offsets q ≡ Some at → Contains (keys offsets) q
has_key offsets q at found =
    Contains-from_any (λ x y is. eqb-true x y (sym (unsigned_tied x y) ∙ is)) q (keys offsets)
    (sym (contains_key-keys offsets q) ∙ ap (λ (o : Option ℕ). is_some o) found)

-- ---- the test of a page

all_false : (a b c e : Bool) → cond (a || b || c) false e ≡ true
    → (a ≡ false) × (b ≡ false) × (c ≡ false) × (e ≡ true)
all_false true b c e is = absurd cc
all_false false true c e is = absurd cc
all_false false false true e is = absurd cc
all_false false false false e is = (refl, refl, refl, is)

from_false : (a b c e : Bool) → a ≡ false → b ≡ false → c ≡ false → e ≡ true → cond (a || b || c) false e ≡ true
from_false true b c e is other third last = absurd cc
from_false false true c e is other third last = absurd cc
from_false false false true e is other third last = absurd cc
from_false false false false e is other third last = last

behind_true : (behind : ℕ) (o : Option ℕ) → is_behind behind o ≡ true → (at : ℕ) × (o ≡ Some at) × (behind < at)
behind_true behind None is = absurd cc
behind_true behind (Some at) is = (at, refl, ltb-true behind at is)

true_behind : (behind at : ℕ) (o : Option ℕ) → o ≡ Some at → behind < at → is_behind behind o ≡ true
true_behind behind at o is low = ap (is_behind behind) is ∙ lt-ltb behind at low

module _ (offsets : Offsets) (behind size lock least commit : ℕ) (is : lock ≡ lock_page size) where
  abbrev m : ℕ
  m = min least commit

  abbrev test : ℕ → Bool
  test = has_written offsets behind lock m

  passes : (p : ℕ) → test p ≡ true → IsWanted offsets behind size least m p
  passes p holds =
      let t = all_false (nat_lt p 1) (nat_lt m p) (p == lock) (is_behind behind (get offsets p)) holds in
      let low = ltb-false p 1 t.0 in
      let high = ltb-false m p t.1 in
      record {
        from = omega (arith, low);
        within = omega (arith, high);
        unlocked = λ same. eqb-false p lock t.2 (same ∙ sym is);
        changed = inl (behind_true behind (get offsets p) t.3);
      }

  wanted_passes : (p : ℕ) → IsWanted offsets behind size least m p → (test p ≡ true) × Contains (keys offsets) p
  wanted_passes p wanted = by wanted.changed
    where
      by : ((at : ℕ) × (get offsets p ≡ Some at) × (behind < at)) ⊎ (least < p)
          → (test p ≡ true) × Contains (keys offsets) p
      by (inr high) = absurd (omega (arith, high, wanted.within))
      by (inl (at, found, low)) = (
        from_false (nat_lt p 1) (nat_lt m p) (p == lock) (is_behind behind (get offsets p))
            (le-ltb p 1 wanted.from) (le-ltb m p wanted.within) (ne_eqb p lock (λ same. wanted.unlocked (same ∙ is)))
            (true_behind behind at (get offsets p) found low),
        has_key offsets p at found,
      )

  pub listed_begins : AreListed offsets behind size least m (written offsets behind lock m)
  listed_begins = record {
    rising = IsStrictlyIncreasing-filter test (keys offsets) (keys_increase offsets);
    each = λ p. (
      (λ among. passes p (All-contains (λ x. test x ≡ true) (filter test (keys offsets)) p
          (filter_passes test (keys offsets)) among)),
      (λ wanted. let both = wanted_passes p wanted in contains_kept test (keys offsets) p both.1 both.0),
    );
  }
