-- Stretches between transactions, and the places of those that a file spans.
use Rattle.std.proofs.Common.{◌≡◌, ℕ, ◌+◌, ◌-◌, max, ◌<◌, ◌≤◌, inl, inr, suc, true, false, ltb, leb, List, [], ◌∷◌}
use Rattle.std.proofs.Common.{◌++◌, length, get_or, ap, ◌∙◌, arith}
use Rattle.std.proofs.lemmas.Bool.{cases_lt, ltb-true, ltb-false, leb-true, leb-false}
use Rattle.std.proofs.lemmas.List.{get_or_append_left, get_or_push, length_push}
use Rattle.std.specs.List.Sorted.{IsPartitionPoint}
use Rattle.replica_store.specs.declared.file_name.FileName.{FileName}
use Rattle.retention.specs.declared.stretch.Stretch.{Stretch}
use Rattle.retention.specs.Stretch.{stretch_at, before_of, AreBetween, AreSpanned}

-- the stretches to the first k transactions
pub record AreBetweenTo (ts goals : List ℕ) (k reached : ℕ) (stretches : List Stretch) : Type 0 where
  pub count : length stretches ≡ k
  pub each : (j : ℕ) → j < k → stretch_at stretches j ≡ record
      { before = before_of ts j; end = get_or ts j 0; goal = get_or goals j 0 }
  pub before : reached ≡ before_of ts k

pub between_more : (ts goals : List ℕ) (k before end goal : ℕ) (stretches : List Stretch)
    → AreBetweenTo ts goals k before stretches → end ≡ get_or ts k 0 → goal ≡ get_or goals k 0
    → AreBetweenTo ts goals (k + 1) end (stretches ++ (record { before = before; end = end; goal = goal }) ∷ [])
between_more ts goals k before end goal stretches are is_end is_goal =
    let one : Stretch = record { before = before; end = end; goal = goal } in
    let none : Stretch = record { before = 0; end = 0; goal = 0 } in
    record {
      count = length_push stretches one ∙ ap (λ n. n + 1) are.count;
      each = λ j low. elim (cases_lt j k) [
        | inl old ↦ get_or_append_left stretches (one ∷ []) none j (omega (arith, old, are.count)) ∙ are.each j old
        | inr new ↦
            let same : k ≡ j = omega (arith, low, new) in
            let here : get_or (stretches ++ one ∷ []) j none ≡ one = get_or_push stretches one none j
            (omega (arith, are.count, same)) in
            let e_before : before ≡ before_of ts j = are.before ∙ ap (before_of ts) same in
            let e_end : end ≡ get_or ts j 0 = is_end ∙ ap (λ n. get_or ts n 0) same in
            let e_goal : goal ≡ get_or goals j 0 = is_goal ∙ ap (λ n. get_or goals n 0) same in
            here ∙ cc
      ];
      before = let next : suc k ≡ k + 1 = omega arith in is_end ∙ ap (before_of ts) next;
    }

pub between_all : (ts goals : List ℕ) (k before : ℕ) (stretches : List Stretch) → k ≡ length ts
    → AreBetweenTo ts goals k before stretches → AreBetween ts goals stretches
between_all ts goals k before stretches end are = record
    { count = are.count ∙ end; each = λ j low. are.each j (omega (arith, low, end)) }

-- the places by three binary searches
pub spanned_by : (name : FileName) (stretches : List Stretch) (begins within to from : ℕ) → 0 < name.min
    → IsPartitionPoint (λ (s : Stretch). ltb s.before (name.min - 1) ≡ true)
    (λ (s : Stretch). ltb s.before (name.min - 1) ≡ false) stretches begins
    → IsPartitionPoint (λ (s : Stretch). ltb s.goal name.max ≡ true)
    (λ (s : Stretch). ltb s.goal name.max ≡ false) stretches within
    → IsPartitionPoint (λ (s : Stretch). leb s.end name.max ≡ true)
    (λ (s : Stretch). leb s.end name.max ≡ false) stretches to
    → begins ≤ length stretches → within ≤ length stretches → to ≤ length stretches → from ≡ max begins within
    → AreSpanned name stretches from to
spanned_by name stretches begins within to from positive by_before by_goal by_end in_begins in_within in_to is =
    let none : Stretch = record { before = 0; end = 0; goal = 0 } in
    record {
      within = in_to;
      each = λ k low start stop. record {
        begins = let h = ltb-false (stretch_at stretches k).before (name.min - 1)
            (by_before.1 k none (omega (arith, is, start)) low) in omega (arith, h, positive);
        reaches = leb-true (stretch_at stretches k).end name.max (by_end.0 k none (omega arith) stop);
        within = ltb-false (stretch_at stretches k).goal name.max (by_goal.1 k none (omega (arith, is, start)) low);
      };
      only = λ k low spans. (
        elim (cases_lt k begins) [
          | inl early ↦ absurd (omega (
            arith,
            spans.begins,
            ltb-true (stretch_at stretches k).before (name.min - 1)
                (by_before.0 k none (omega arith) early),
          ))
          | inr from_begins ↦ elim (cases_lt k within) [
            | inl early ↦ absurd (omega (
              arith,
              spans.within,
              ltb-true (stretch_at stretches k).goal name.max
                  (by_goal.0 k none (omega arith) early),
            ))
            | inr from_within ↦ omega (arith, is, from_begins, from_within)
          ]
        ],
        elim (cases_lt k to) [
          | inl before ↦ before
          | inr late ↦ absurd (omega (
            arith,
            spans.reaches,
            leb-false (stretch_at stretches k).end name.max
                (by_end.1 k none late low),
          ))
        ],
      );
    }
