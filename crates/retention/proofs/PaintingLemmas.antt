-- Places that are painted one after the other.
use Rattle.std.proofs.Common.{◌≡◌, ℕ, ◌+◌, ◌<◌, ◌≤◌, ◌⊎◌, inl, inr, List, [], ◌∷◌, ◌++◌, length, get_or, set, refl, sym}
use Rattle.std.proofs.Common.{ap, ◌∙◌, subst, arith}
use Rattle.std.proofs.lemmas.Bool.{cases_lt, cases_eq}
use Rattle.std.proofs.lemmas.List.{get_or-set_same, get_or-set_other, length-set, get_or_past, get_or_read}
use Rattle.std.proofs.lemmas.List.{get_or_append_left, get_or_push, length_push}
use Rattle.retention.specs.Painting.{skip_from, IsPainted, AreSkips, AreAsPainted, IsFirstUnpainted, ArePainted}
use Rattle.retention.specs.Painting.{IsTaken, AreTaken}

-- none painted
pub record AreUnpainted (count : ℕ) (skips : List ℕ) : Type 0 where
  pub length_is : length skips ≡ count
  pub each : (k d : ℕ) → k < count → get_or skips k d ≡ k

pub unpainted_more : (k : ℕ) (skips : List ℕ) → AreUnpainted k skips → AreUnpainted (k + 1) (skips ++ k ∷ [])
unpainted_more k skips are = record {
  length_is = length_push skips k ∙ ap (λ n. n + 1) are.length_is;
  each = λ j d low. elim (cases_lt j k) [
    | inl old ↦ get_or_append_left skips (k ∷ []) d j (omega (arith, old, are.length_is)) ∙ are.each j d old
    | inr new ↦ let same : k ≡ j = omega (arith, low, new) in get_or_push skips k d j (are.length_is ∙ same) ∙ same
  ];
}

unpainted_skip : (count : ℕ) (skips : List ℕ) → AreUnpainted count skips → (k : ℕ) → skip_from skips k ≡ k
unpainted_skip count skips are k = elim (cases_lt k count) [
  | inl inside ↦ are.each k k inside
  | inr beyond ↦ get_or_past skips k k (omega (arith, beyond, are.length_is))
]

pub unpainted_skips : (count : ℕ) (skips : List ℕ) → AreUnpainted count skips → AreSkips skips
unpainted_skips count skips are = record {
  up = λ k. omega (arith, unpainted_skip count skips are k);
  within = λ k low. omega (arith, low, unpainted_skip count skips are k);
  over = λ k j from below. absurd (omega (arith, from, below, unpainted_skip count skips are k));
}

pub none_painted : (count : ℕ) (skips : List ℕ) → AreUnpainted count skips → (k : ℕ) → IsPainted skips k → ⊥
none_painted count skips are k is = omega (arith, is, unpainted_skip count skips are k)

pub inside : (skips : List ℕ) (k : ℕ) → IsPainted skips k → k < length skips
inside skips k is = elim (cases_lt k (length skips))
    [ inl low ↦ low | inr beyond ↦ absurd (omega (arith, is, get_or_past skips k k beyond)) ]

-- a place whose skip grows over painted ones
pub record IsGrown (old later : List ℕ) (at : ℕ) : Type 0 where
  pub skips : AreSkips later
  pub count : length later ≡ length old
  pub still : (k : ℕ) → IsPainted old k → IsPainted later k
  pub here : IsPainted later at
  pub only : (k : ℕ) → IsPainted later k → IsPainted old k ⊎ (k ≡ at)

grow_still : (skips : List ℕ) (at n : ℕ) → at < length skips → at < n → (k : ℕ) → IsPainted skips k
    → IsPainted (set skips at n) k
grow_still skips at n low up k is = elim (cases_eq k at) [
  | inl same ↦ let e : skip_from (set skips at n) k ≡ n = ap (λ j. skip_from (set skips at n) j) same
      ∙ get_or-set_same skips at n at low in omega (arith, e, same, up)
  | inr other ↦ omega (arith, is, get_or-set_other skips at k n k other)
]

grow_here : (skips : List ℕ) (at n : ℕ) → at < length skips → at < n → IsPainted (set skips at n) at
grow_here skips at n low up = omega (arith, get_or-set_same skips at n at low, up)

pub grow : (skips : List ℕ) (at n : ℕ) → AreSkips skips → at < length skips → at < n → n ≤ length skips
    → ((j : ℕ) → at < j → j < n → IsPainted skips j) → IsGrown skips (set skips at n) at
grow skips at n are low up within over =
    let here = grow_here skips at n low up in
    let same_skip = λ (k : ℕ) (e : k ≡ at). ap (λ j. skip_from (set skips at n) j) e
    ∙ get_or-set_same skips at n at low in
    record {
      skips = record {
        up = λ k. elim (cases_eq k at) [
          | inl same ↦ omega (arith, same_skip k same, same, up)
          | inr other ↦ omega (arith, are.up k, get_or-set_other skips at k n k other)
        ];
        within = λ k inside. elim (cases_eq k at) [
          | inl same ↦ omega (arith, same_skip k same, within, length-set skips at n)
          | inr other ↦ omega (
            arith,
            are.within k (omega (arith, inside, length-set skips at n)),
            get_or-set_other
                skips at k n k other,
            length-set skips at n,
          )
        ];
        over = λ k j from below. elim (cases_eq j at) [
          | inl same ↦ subst (λ i. IsPainted (set skips at n) i) (sym same) here
          | inr apart ↦ grow_still skips at n low up j (elim (cases_eq k at) [
            | inl same ↦ over j (omega (arith, same, from, apart)) (omega (arith, below, same_skip k same))
            | inr other ↦ are.over k j from (omega (arith, below, get_or-set_other skips at k n k other))
          ])
        ];
      };
      count = length-set skips at n;
      still = grow_still skips at n low up;
      here = here;
      only = λ k is. elim (cases_eq k at) [
        | inl same ↦ inr same
        | inr other ↦ inl (omega (arith, is, get_or-set_other skips at k n k other))
      ];
    }

pub as_painted_refl : (skips : List ℕ) → AreAsPainted skips skips
as_painted_refl skips = record { count = refl; to = λ k is. is; back = λ k is. is }

-- on the way to the first place that isn't painted
pub record IsSeeking (skips later : List ℕ) (start at : ℕ) : Type 0 where
  pub are : AreSkips later
  pub same : AreAsPainted skips later
  pub from : start ≤ at
  pub passed : (j : ℕ) → start ≤ j → j < at → IsPainted skips j

pub seek : (skips : List ℕ) (start : ℕ) → AreSkips skips → IsSeeking skips skips start start
seek skips start are = record {
  are = are;
  same = as_painted_refl skips;
  from = omega arith;
  passed = λ j from below.
      absurd (omega (arith, from, below));
}

-- where a skip from a skip ends
skip_twice : (skips : List ℕ) (at : ℕ) → AreSkips skips → at < length skips
    → skip_from skips (skip_from skips at) ≤ length skips
skip_twice skips at are low = elim (cases_lt (skip_from skips at) (length skips)) [
  | inl within ↦ are.within (skip_from skips at) within
  | inr end ↦ omega (arith, get_or_past skips (skip_from skips at) (skip_from skips at) end, are.within at low)
]

pub seek_on : (skips later : List ℕ) (start at first next : ℕ) → IsSeeking skips later start at → at < length later
    → first ≡ get_or later at first → at < first → next ≡ skip_from later first
    → IsSeeking skips (set later at next) start next × (at < next)
seek_on skips later start at first next seeking low is up is_next =
    let e : first ≡ skip_from later at = get_or_read later at first low is at in
    let twice : next ≡ skip_from later (skip_from later at) = is_next ∙ ap (skip_from later) e in
    let within : next ≤ length later = omega (arith, twice, skip_twice later at seeking.are low) in
    let beyond : at < next = omega (arith, up, is_next, seeking.are.up first) in
    let covered : (j : ℕ) → at ≤ j → j < next → IsPainted later j = λ j from below. elim (cases_lt j first) [
      | inl early ↦ seeking.are.over at j from (omega (arith, early, e))
      | inr late ↦ seeking.are.over first j late (omega (arith, below, is_next))
    ] in
    let grown = grow later at next seeking.are low beyond within
    (λ j above below. covered j (omega (arith, above)) below) in (
      record {
        are = grown.skips;
        same = record {
          count = grown.count ∙ seeking.same.count;
          to = λ k painted. grown.still k (seeking.same.to k painted);
          back = λ k painted. seeking.same.back k
              (elim (grown.only k painted) [
                | inl old ↦ old
                | inr here ↦ subst (λ i. IsPainted later i) (sym here)
                    (covered at (omega arith) beyond)
              ]);
        };
        from = omega (arith, seeking.from, beyond);
        passed = λ j from below. elim (cases_lt j at) [
          | inl early ↦ seeking.passed j from early
          | inr late ↦ seeking.same.back j (covered j late below)
        ];
      },
      beyond,
    )

pub found : (skips later : List ℕ) (start at : ℕ) → IsSeeking skips later start at → (IsPainted later at → ⊥)
    → IsFirstUnpainted skips start at
found skips later start at seeking not = record
    { from = seeking.from; unpainted = λ is. not (seeking.same.to at is); passed = seeking.passed }

-- a place is painted
pub taken : (skips later : List ℕ) (start to at : ℕ) → AreSkips later → AreAsPainted skips later
    → IsFirstUnpainted skips start at → at < to → to ≤ length skips
    → IsTaken skips (set later at (at + 1)) start to at × AreSkips (set later at (at + 1))
taken skips later start to at are same first below within =
    let grown = grow later at (at + 1) are (omega (arith, below, within, same.count)) (omega arith)
    (omega (arith, below, within, same.count)) (λ j above under. absurd (omega (arith, above, under))) in (
      record {
        first = first;
        below = below;
        painted = record {
          count = grown.count ∙ same.count;
          still = λ k is. grown.still k (same.to k is);
          over = λ k from under. let e : at ≡ k = omega (arith, from, under) in
              subst (λ j. IsPainted (set later at (at + 1)) j) e grown.here;
          only = λ k is. elim (grown.only k is)
              [ inl old ↦ inl (same.back k old) | inr here ↦ inr (omega (arith, here), omega (arith, here)) ];
        };
      },
      grown.skips,
    )

pub all_taken : (skips later : List ℕ) (start to at : ℕ) → AreAsPainted skips later → IsFirstUnpainted skips start at
    → to ≤ at → AreTaken skips later start to
all_taken skips later start to at same first end = record
    { all = λ j from below. first.passed j from (omega (arith, below, end)); same = same }

-- the places from a start up to here are painted
pub record IsPaintedTo (skips now : List ℕ) (start to from : ℕ) : Type 0 where
  pub are : AreSkips now
  pub begun : start ≤ from
  pub below : (from ≡ start) ⊎ (from ≤ to)
  pub painted : ArePainted start from skips now

pub paint_none : (skips : List ℕ) (start to : ℕ) → AreSkips skips → IsPaintedTo skips skips start to start
paint_none skips start to are = record {
  are = are;
  begun = omega arith;
  below = inl refl;
  painted = record {
    count = refl;
    still = λ k is. is;
    over = λ k from below. absurd (omega (arith, from, below));
    only = λ k is. inl is;
  };
}

pub paint_more : (skips now later : List ℕ) (start to from k : ℕ) → IsPaintedTo skips now start to from
    → AreSkips later → IsTaken now later from to k → IsPaintedTo skips later start to (k + 1)
paint_more skips now later start to from k is are took =
    let was = is.painted in
    record {
      are = are;
      begun = omega (arith, is.begun, took.first.from);
      below = inr (omega (arith, took.below));
      painted = record {
        count = took.painted.count ∙ was.count;
        still = λ j painted. took.painted.still j (was.still j painted);
        over = λ j begun below. elim (cases_lt j from) [
          | inl early ↦ took.painted.still j (was.over j begun early)
          | inr late ↦ elim (cases_lt j k) [
            | inl passed ↦ took.painted.still j (took.first.passed j late passed)
            | inr here ↦ took.painted.over j here below
          ]
        ];
        only = λ j painted. elim (took.painted.only j painted) [
          | inl old ↦ elim (was.only j old)
              [ inl older ↦ inl older | inr mine ↦ inr (mine.0, omega (arith, mine.1, took.first.from)) ]
          | inr here ↦ inr (omega (arith, here.0, took.first.from, is.begun), here.1)
        ];
      };
    }

pub paint_all : (skips now later : List ℕ) (start to from : ℕ) → IsPaintedTo skips now start to from
    → AreTaken now later from to → ArePainted start to skips later
paint_all skips now later start to from is took =
    let was = is.painted in
    record {
      count = took.same.count ∙ was.count;
      still = λ j painted. took.same.to j (was.still j painted);
      over = λ j begun below. took.same.to j
          (elim (cases_lt j from) [ inl early ↦ was.over j begun early | inr late ↦ took.all j late below ]);
      only = λ j painted. elim (was.only j (took.same.back j painted)) [
        | inl old ↦ inl old
        | inr mine ↦ inr (
          mine.0,
          elim is.below
              [ inl none ↦ absurd (omega (arith, none, mine.0, mine.1)) | inr low ↦ omega (arith, low, mine.1) ],
        )
      ];
    }
