-- Each stretch falls to the last old name that spans it, where no young one does.
use Rattle.std.proofs.Common.{◌≡◌, ℕ, ◌+◌, ◌<◌, ◌≤◌, ◌⊎◌, inl, inr, List, [], ◌∷◌, ◌++◌, length, Option, Some, None}
use Rattle.std.proofs.Common.{MatchOption, slice_get, refl, sym, ap, ◌∙◌, subst, arith}
use Rattle.std.proofs.lemmas.Bool.{cases_lt, cases_eq}
use Rattle.std.proofs.lemmas.List.{length_push}
use Rattle.std.proofs.lemmas.Option.{slice_get_within}
use Rattle.replica_store.specs.declared.dated_names.Dated.{Dated}
use Rattle.retention.specs.declared.stretch.Stretch.{Stretch}
use Rattle.retention.specs.declared.claim.Claim.{Claim}
use Rattle.retention.specs.Stretch.{stretch_at, Spans, AreSpanned}
use Rattle.retention.specs.Painting.{skip_from, IsPainted, AreSkips, ArePainted, IsTaken, AreTaken}
use Rattle.retention.specs.Claims.{YoungSpans, OldSpans, AreClaimed, IsClaim, AreClaims}
use Rattle.retention.proofs.ListLemmas.{push_old, push_new, push_cases, same_at}
use Rattle.retention.proofs.PaintingLemmas.{IsPaintedTo}

-- the stretches from a start up to here
pub claim_none : (start name : ℕ) (skips : List ℕ) (claims : List Claim)
    → AreClaimed start start name skips claims claims
claim_none start name skips claims = record {
  count = omega arith;
  same = λ p low. refl;
  each = λ p claim from there. absurd (omega (arith, from, slice_get_within claims p claim there));
  all = λ k from below not. absurd (omega (arith, from, below));
}

pub claim_more : (skips now later : List ℕ) (start to from k name : ℕ) (claims old : List Claim)
    → IsPaintedTo skips now start to from → IsTaken now later from to k
    → AreClaimed start from name skips old claims → AreClaimed start (k + 1) name skips old
    (claims ++ (record { name = name; stretch = k }) ∷ [])
claim_more skips now later start to from k name claims old is took are =
    let one : Claim = record { name = name; stretch = k } in
    let not : IsPainted skips k → ⊥ = λ painted. took.first.unpainted (is.painted.still k painted) in
    record {
      count = omega (arith, are.count, length_push claims one);
      same = λ p low. push_old claims one p (omega (arith, low, are.count)) ∙ are.same p low;
      each = λ p claim beyond there. elim (push_cases claims one claim p there) [
        | inl before ↦ let e = are.each p claim beyond before in (e.0, e.1, omega (arith, e.2, took.first.from), e.3)
        | inr here ↦
            let e_name : claim.name ≡ name = ap (λ (c : Claim). c.name) (sym here.1) in
            let e_stretch : k ≡ claim.stretch = ap (λ (c : Claim). c.stretch) here.1 in (
              e_name,
              omega (arith, e_stretch, is.begun, took.first.from),
              omega (arith, e_stretch),
              subst (λ n. IsPainted skips n → ⊥) e_stretch not,
            )
      ];
      all = λ j begun below unpainted. elim (cases_eq j k) [
        | inl same ↦ (
          length claims,
          subst
              (λ n. slice_get (claims ++ one ∷ []) (length claims) ≡ Some (record { name = name; stretch = n }))
              (sym same) (push_new claims one),
        )
        | inr other ↦ elim (cases_lt j from) [
          | inl early ↦ let e = are.all j begun early unpainted in
              (e.0, push_old claims one e.0 (slice_get_within claims e.0 _ e.1) ∙ e.1)
          | inr late ↦ absurd (elim (is.painted.only j (took.first.passed j late (omega (arith, below, other))))
              [ inl old ↦ unpainted old | inr mine ↦ omega (arith, late, mine.1) ])
        ]
      ];
    }

pub claim_all : (skips now later : List ℕ) (start to from name : ℕ) (claims old : List Claim)
    → IsPaintedTo skips now start to from → AreTaken now later from to
    → AreClaimed start from name skips old claims → AreClaimed start to name skips old claims
claim_all skips now later start to from name claims old is took are = record {
  count = are.count;
  same = are.same;
  each = λ p claim beyond there.
      let e = are.each p claim beyond there in (
        e.0,
        e.1,
        elim is.below [
          | inl none ↦ absurd (omega (arith, none, e.1, e.2))
          | inr low ↦ omega (arith, low, e.2)
        ],
        e.3,
      );
  all = λ j begun below unpainted. elim (cases_lt j from) [
    | inl early ↦ are.all j begun early unpainted
    | inr late ↦ absurd (elim (is.painted.only j (took.all j late below))
        [ inl old ↦ unpainted old | inr mine ↦ omega (arith, late, mine.1) ])
  ];
}

-- the stretches that the young ones of the first names span are painted
pub record IsYoungPainted (dated : List Dated) (cut : ℕ) (stretches : List Stretch) (i : ℕ) (skips : List ℕ) : Type 0
  where
    pub are : AreSkips skips
    pub count : length skips ≡ length stretches
    pub each : (k : ℕ) → IsPainted skips k → (j : ℕ) × YoungSpans dated cut stretches j k
    pub all : (j k : ℕ) → j < i → k < length stretches → YoungSpans dated cut stretches j k → IsPainted skips k

pub young_painted : (dated : List Dated) (cut : ℕ) (stretches : List Stretch) (i from to : ℕ) (skips later : List ℕ)
    (one : Dated) → slice_get dated i ≡ Some one → cut ≤ one.moment
    → AreSpanned one.name stretches from to → AreSkips later → ArePainted from to skips later
    → IsYoungPainted dated cut stretches i skips → IsYoungPainted dated cut stretches (i + 1) later
young_painted dated cut stretches i from to skips later one there young spanned skip painted is = record {
  are = skip;
  count = painted.count ∙ is.count;
  each = λ k now. elim (painted.only k now) [
    | inl before ↦ is.each k before
    | inr here ↦ (
      i,
      record {
        one = one;
        there = there;
        young = young;
        spans = spanned.each k
            (omega (arith, here.1, spanned.within)) here.0 here.1;
      },
    )
  ];
  all = λ j k below low spans. elim (cases_eq j i) [
    | inl same ↦
        let e : spans.one ≡ one = same_at dated i spans.one one (ap (slice_get dated) (sym same) ∙ spans.there) there in
        let in_span = spanned.only k low (subst (λ (d : Dated). Spans d.name (stretch_at stretches k)) e spans.spans) in
        painted.over k in_span.0 in_span.1
    | inr other ↦ painted.still k (is.all j k (omega (arith, below, other)) low spans)
  ];
}

pub young_passed : (dated : List Dated) (cut : ℕ) (stretches : List Stretch) (i : ℕ) (skips : List ℕ) (one : Dated)
    → slice_get dated i ≡ Some one → one.moment < cut
    → IsYoungPainted dated cut stretches i skips → IsYoungPainted dated cut stretches (i + 1) skips
young_passed dated cut stretches i skips one there old is = record {
  are = is.are;
  count = is.count;
  each = is.each;
  all = λ j k below low spans. elim (cases_eq j i) [
    | inl same ↦
        let e : spans.one ≡ one = same_at dated i spans.one one (ap (slice_get dated) (sym same) ∙ spans.there) there in
        absurd (omega (arith, ap (λ (d : Dated). d.moment) e, spans.young, old))
    | inr other ↦ is.all j k (omega (arith, below, other)) low spans
  ];
}

-- the claims of the names from a place on
pub record AreClaimsFrom (dated : List Dated) (cut : ℕ) (stretches : List Stretch) (i : ℕ) (skips : List ℕ)
    (claims : List Claim) : Type 0 where
  pub are : AreSkips skips
  pub count : length skips ≡ length stretches
  pub painted : (k : ℕ) → IsPainted skips k → ((j : ℕ) × YoungSpans dated cut stretches j k)
      ⊎ ((p : ℕ) × (claim : Claim) × (slice_get claims p ≡ Some claim) × (claim.stretch ≡ k))
  pub young : (j k : ℕ) → k < length stretches → YoungSpans dated cut stretches j k → IsPainted skips k
  pub old : (j k : ℕ) → i ≤ j → k < length stretches → OldSpans dated cut stretches j k → IsPainted skips k
  pub each : (p : ℕ) (claim : Claim) → slice_get claims p ≡ Some claim → IsClaim dated cut stretches claim
      × (i ≤ claim.name)
  pub falls : (p q : ℕ) (one other : Claim) → p ≤ q → slice_get claims p ≡ Some one → slice_get claims q ≡ Some other
      → other.name ≤ one.name

pub claims_none : (dated : List Dated) (cut : ℕ) (stretches : List Stretch) (i : ℕ) (skips : List ℕ)
    → length dated ≤ i → AreSkips skips → length skips ≡ length stretches
    → ((k : ℕ) → IsPainted skips k → (j : ℕ) × YoungSpans dated cut stretches j k)
    → ((j k : ℕ) → k < length stretches → YoungSpans dated cut stretches j k → IsPainted skips k)
    → AreClaimsFrom dated cut stretches i skips []
claims_none dated cut stretches i skips end are count each all = record {
  are = are;
  count = count;
  painted = λ k is. inl (each k is);
  young = all;
  old = λ j k from low spans. absurd (omega (arith, end, from, slice_get_within dated j spans.one spans.there));
  each = λ p claim there. absurd cc;
  falls = λ p q one other below there. absurd cc;
}

-- an old name more
pub claims_old : (dated : List Dated) (cut : ℕ) (stretches : List Stretch) (i from to : ℕ) (skips later : List ℕ)
    (claims more : List Claim) (one : Dated) → slice_get dated i ≡ Some one → one.moment < cut
    → AreSpanned one.name stretches from to → AreSkips later → ArePainted from to skips later
    → AreClaimed from to i skips claims more → AreClaimsFrom dated cut stretches (i + 1) skips claims
    → AreClaimsFrom dated cut stretches i later more
claims_old dated cut stretches i from to skips later claims more one there old spanned skip painted claimed is =
    let spans_here = λ (k : ℕ) (begun : from ≤ k) (below : k < to). spanned.each k
    (omega (arith, below, spanned.within)) begun below in
    let kept = λ (p : ℕ) (claim : Claim) (was : slice_get claims p ≡ Some claim). claimed.same p
    (slice_get_within claims p claim was) ∙ was in
    let before = λ (k : ℕ) (now : IsPainted skips k). elim (is.painted k now) as
    (λ v. ((j : ℕ) × YoungSpans dated cut stretches j k)
    ⊎ ((p : ℕ) × (claim : Claim) × (slice_get more p ≡ Some claim) × (claim.stretch ≡ k))) [
      | inl young ↦ inl young
      | inr mine ↦ inr (mine.0, mine.1, kept mine.0 mine.1 mine.2, mine.3)
    ] in
    record {
      are = skip;
      count = painted.count ∙ is.count;
      painted = λ k now. elim (cases_lt k (skip_from skips k)) [
        | inl was ↦ before k was
        | inr not ↦ elim (painted.only k now) [
          | inl was ↦ before k was
          | inr here ↦ let e = claimed.all k here.0 here.1 (λ was. omega (arith, was, not)) in inr
              (e.0, record { name = i; stretch = k }, e.1, refl)
        ]
      ];
      young = λ j k low spans. painted.still k (is.young j k low spans);
      old = λ j k from_i low spans. elim (cases_eq j i) [
        | inl same ↦
            let e : spans.one ≡ one = same_at dated i spans.one one (ap (slice_get dated) (sym same) ∙ spans.there)
            there in
            let in_span = spanned.only k low
            (subst (λ (d : Dated). Spans d.name (stretch_at stretches k)) e spans.spans) in
            painted.over k in_span.0 in_span.1
        | inr other ↦ painted.still k (is.old j k (omega (arith, from_i, other)) low spans)
      ];
      each = λ p claim at. elim (cases_lt p (length claims)) [
        | inl early ↦ let e = is.each p claim (sym (claimed.same p early) ∙ at) in (e.0, omega (arith, e.1))
        | inr late ↦
            let e = claimed.each p claim late at in
            let low : claim.stretch < length stretches = omega (arith, e.2, spanned.within) in (
              record {
                low = low;
                spans = record {
                  one = one;
                  there = ap (slice_get dated) e.0
                      ∙ there;
                  old = old;
                  spans = spans_here claim.stretch e.1 e.2;
                };
                no_young = λ j spans. e.3 (is.young j claim.stretch low spans);
                last = λ j above spans. e.3 (is.old j claim.stretch (omega (arith, above, e.0)) low spans);
              },
              omega (arith, e.0),
            )
      ];
      falls = λ p q first other below at_p at_q. elim (cases_lt q (length claims)) [
        | inl early ↦ is.falls p q first other below (sym (claimed.same p (omega (arith, below, early))) ∙ at_p)
            (sym (claimed.same q early) ∙ at_q)
        | inr late ↦
            let e = claimed.each q other late at_q in
            elim (cases_lt p (length claims)) [
              | inl first_early ↦ let f = is.each p first (sym (claimed.same p first_early) ∙ at_p) in omega
                  (arith, e.0, f.1)
              | inr first_late ↦ let f = claimed.each p first first_late at_p in omega (arith, e.0, f.0)
            ]
      ];
    }

-- a young name more
pub claims_young : (dated : List Dated) (cut : ℕ) (stretches : List Stretch) (i : ℕ) (skips : List ℕ)
    (claims : List Claim) (one : Dated) → slice_get dated i ≡ Some one → cut ≤ one.moment
    → AreClaimsFrom dated cut stretches (i + 1) skips claims → AreClaimsFrom dated cut stretches i skips claims
claims_young dated cut stretches i skips claims one there young is = record {
  are = is.are;
  count = is.count;
  painted = is.painted;
  young = is.young;
  old = λ j k from_i low spans. elim (cases_eq j i) [
    | inl same ↦
        let e : spans.one ≡ one = same_at dated i spans.one one (ap (slice_get dated) (sym same) ∙ spans.there) there in
        absurd (omega (arith, ap (λ (d : Dated). d.moment) e, spans.old, young))
    | inr other ↦ is.old j k (omega (arith, from_i, other)) low spans
  ];
  each = λ p claim at. let e = is.each p claim at in (e.0, omega (arith, e.1));
  falls = is.falls;
}

pub claims_all : (dated : List Dated) (cut : ℕ) (stretches : List Stretch) (skips : List ℕ) (claims : List Claim)
    (i : ℕ) → i ≡ 0 → AreClaimsFrom dated cut stretches i skips claims → AreClaims dated cut stretches claims
claims_all dated cut stretches skips claims i end is = record {
  each = λ p claim at. (is.each p claim at).0;
  falls = is.falls;
  all = λ k j low spans. is.painted k (is.old j k (omega (arith, end)) low spans);
}

pub nothing_taken : (skips later : List ℕ) (from to : ℕ) (o : Option ℕ)
    → MatchOption o (AreTaken skips later from to) (IsTaken skips later from to) → ((k : ℕ) → o ≡ Some k → ⊥)
    → AreTaken skips later from to
nothing_taken skips later from to None is none = is
nothing_taken skips later from to (Some k) is none = absurd (none k refl)
