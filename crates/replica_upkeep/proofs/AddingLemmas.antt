-- A name at its place among others.
use Rattle.std.proofs.Common.{◌≡◌, ℕ, ◌+◌, ◌-◌, ◌<◌, ◌≤◌, List, length, get_or, true, false, Ordering, Less, Equal}
use Rattle.std.proofs.Common.{Greater, refl, sym, ap, subst, ◌∙◌, inl, inr, arith}
use Rattle.std.specs.Prelude.{IfSome, slice_get}
use Rattle.std.specs.List.{insert}
use Rattle.std.specs.Cmp.{IsTotalOrder}
use Rattle.std.specs.Ordering.{ordering_reverse, is_lt}
use Rattle.std.proofs.lemmas.Bool.{cases_order}
use Rattle.std.proofs.lemmas.Cmp.{nat_cmp_total, on_total, then_total}
use Rattle.std.proofs.lemmas.List.{get_or-map, length-map}
use Rattle.std.proofs.lemmas.List.Edits.{get_or-insert_above, get_or-insert_at, get_or-insert_below, length-insert}
use Rattle.std.proofs.lemmas.List.Sorted.{IsPermutation-insert}
use Rattle.std.proofs.lemmas.Option.{slice_get-get_or}
use Rattle.replica_store.specs.declared.dated_names.Dated.{Dated}
use Rattle.replica_store.specs.declared.file_name.FileName.{FileName}
use Rattle.replica_store.specs.Chain.{IsListOrdered, list_order, names_of}
use Rattle.replica_upkeep.specs.Levels.{IsWith}

pub order_total : IsTotalOrder list_order
order_total =
    then_total (on_total (λ (n : FileName). n.level) nat_cmp_total)
    (then_total (on_total (λ (n : FileName). n.min) nat_cmp_total) (on_total (λ (n : FileName). n.max) nat_cmp_total))

one_way : (o : Ordering) → is_lt o ≡ true → is_lt (ordering_reverse o) ≡ false
one_way Less is = refl
one_way Equal is = refl
one_way Greater is = absurd cc

not_both : (a b : FileName) → is_lt (list_order a b) ≡ true → is_lt (list_order b a) ≡ false
not_both a b is = ap is_lt (order_total.antisymm b a) ∙ one_way (list_order a b) is

-- the second name doesn't stand before the first
abbrev pub InOrder : FileName → FileName → Type 0
InOrder a b = is_lt (list_order b a) ≡ false

abbrev named_at : List Dated → ℕ → Dated → FileName
named_at dated k d = (get_or dated k d).name

name_at : (dated : List Dated) (k : ℕ) (d : Dated) (e : FileName) → k < length dated
    → get_or (names_of dated) k e ≡ named_at dated k d
name_at dated k d e low = get_or-map (λ (one : Dated). one.name) dated k d e low

ordered_at : (dated : List Dated) (k : ℕ) (d : Dated) → IsListOrdered (names_of dated) → k + 1 < length dated
    → InOrder (named_at dated k d) (named_at dated (k + 1) d)
ordered_at dated k d ordered low =
    let within : k + 1 < length (names_of dated) = omega (arith, low, length-map dated (λ (one : Dated). one.name)) in
    let here = name_at dated k d d.name (omega (arith, low)) in
    let next = name_at dated (k + 1) d d.name low in
    subst (λ (n : FileName). InOrder n (named_at dated (k + 1) d)) here
    (subst (λ (n : FileName). InOrder (get_or (names_of dated) k d.name) n) next
    (ordered k d.name (omega arith) within))

ordered_by : (dated : List Dated) (d : Dated)
    → ((k : ℕ) → k + 1 < length dated → InOrder (named_at dated k d) (named_at dated (k + 1) d))
    → IsListOrdered (names_of dated)
ordered_by dated d all = λ k e from within.
    let low : k + 1 < length dated = omega (arith, within, length-map dated (λ (one : Dated). one.name)) in
    let here = name_at dated k d e (omega (arith, low)) in
    let next = name_at dated (k + 1) d e low in
    subst (λ (n : FileName). InOrder n (get_or (names_of dated) (k + 1) e)) (sym here)
    (subst (λ (n : FileName). InOrder (named_at dated k d) n) (sym next) (all k low))

module _ (dated : List Dated) (one : Dated) (p : ℕ) (ordered : IsListOrdered (names_of dated))
    (within : p ≤ length dated)
    (here : IfSome (slice_get dated p) (λ d. is_lt (list_order d.name one.name) ≡ false))
    (before : 0 < p → IfSome (slice_get dated (p - 1)) (λ d. is_lt (list_order d.name one.name) ≡ true)) where
  abbrev longer : List Dated
  longer = insert dated p one

  same_name : (k j : ℕ) → get_or longer k one ≡ get_or dated j one → named_at longer k one ≡ named_at dated j one
  same_name k j is = ap (λ (d : Dated). d.name) is

  below : (k : ℕ) → k < p → named_at longer k one ≡ named_at dated k one
  below k low = same_name k k (get_or-insert_below dated p one one k low within)

  above : (k : ℕ) → p ≤ k → named_at longer (k + 1) one ≡ named_at dated k one
  above k high = same_name (k + 1) k (get_or-insert_above dated p one one k high within)

  at_place : named_at longer p one ≡ one.name
  at_place = ap (λ (d : Dated). d.name) (get_or-insert_at dated p one one within)

  moved : (k j : ℕ) (a b : FileName) → named_at longer k one ≡ a → named_at longer j one ≡ b → InOrder a b
      → InOrder (named_at longer k one) (named_at longer j one)
  moved k j a b is-a is-b order =
      subst (λ (n : FileName). InOrder n (named_at longer j one)) (sym is-a)
      (subst (λ (n : FileName). InOrder a n) (sym is-b) order)

  -- the name before it, and the one behind it
  joined_before : 0 < p → InOrder (named_at dated (p - 1) one) one.name
  joined_before some =
      let there = slice_get-get_or dated (p - 1) one (omega (arith, some, within)) in
      not_both (named_at dated (p - 1) one) one.name
      (subst (λ o. IfSome o (λ (d : Dated). is_lt (list_order d.name one.name) ≡ true)) there (before some))

  joined_behind : p < length dated → InOrder one.name (named_at dated p one)
  joined_behind low =
      subst (λ o. IfSome o (λ (d : Dated). is_lt (list_order d.name one.name) ≡ false))
      (slice_get-get_or dated p one low) here

  step : (k : ℕ) → k + 1 < length longer → InOrder (named_at longer k one) (named_at longer (k + 1) one)
  step k low =
      let size = length-insert dated p one within in
      elim (cases_order (k + 1) p) [
        | inl end ↦
            let back : p - 1 ≡ k = omega (arith, end) in
            moved k (k + 1) (named_at dated k one) one.name (below k (omega (arith, end)))
            (ap (λ (j : ℕ). named_at longer j one) end ∙ at_place)
            (subst (λ (j : ℕ). InOrder (named_at dated j one) one.name) back (joined_before (omega (arith, end))))
        | inr (inl less) ↦
            moved k (k + 1) (named_at dated k one) (named_at dated (k + 1) one) (below k (omega (arith, less)))
            (below (k + 1) less)
            (ordered_at dated k one ordered (omega (arith, less, within)))
        | inr (inr more) ↦ elim (cases_order k p) [
          | inl is ↦
              moved k (k + 1) one.name (named_at dated p one) (ap (λ (j : ℕ). named_at longer j one) is ∙ at_place)
              (above k (omega (arith, is)) ∙ ap (λ (j : ℕ). named_at dated j one) is)
              (joined_behind (omega (arith, is, low, size)))
          | inr (inl less) ↦ absurd (omega (arith, more, less))
          | inr (inr past) ↦
              let back : k - 1 + 1 ≡ k = omega (arith, past) in
              moved k (k + 1) (named_at dated (k - 1) one) (named_at dated k one)
              (ap (λ (j : ℕ). named_at longer j one) (sym back) ∙ above (k - 1) (omega (arith, past)))
              (above k (omega (arith, past)))
              (subst (λ (j : ℕ). InOrder (named_at dated (k - 1) one) (named_at dated j one)) back
              (ordered_at dated (k - 1) one ordered (omega (arith, past, low, size))))
        ]
      ]

  pub is_with : IsWith dated one longer
  is_with = record { same = IsPermutation-insert dated p one; ordered = ordered_by longer one step }

-- the same of the list that was looked at
pub is_with_at : (dated seen after : List Dated) (one : Dated) (p : ℕ) → seen ≡ dated → IsListOrdered (names_of dated)
    → p ≤ length seen → IfSome (slice_get seen p) (λ d. is_lt (list_order d.name one.name) ≡ false)
    → (0 < p → IfSome (slice_get seen (p - 1)) (λ d. is_lt (list_order d.name one.name) ≡ true))
    → after ≡ insert dated p one → IsWith dated one after
is_with_at dated seen after one p same ordered within here before is =
    subst (λ (ds : List Dated). IsWith dated one ds) (sym is)
    (is_with dated one p ordered (subst (λ (ds : List Dated). p ≤ length ds) same within)
    (subst (λ (ds : List Dated). IfSome (slice_get ds p) (λ d. is_lt (list_order d.name one.name) ≡ false)) same here)
    (λ some.
    subst (λ (ds : List Dated). IfSome (slice_get ds (p - 1)) (λ d. is_lt (list_order d.name one.name) ≡ true)) same
    (before some)))
