-- The names that are kept are those that the walk keeps.
use Rattle.std.proofs.Common.{◌≡◌, ℕ, ◌<◌, ◌≤◌, ◌⊎◌, inl, inr, Bool, false, List, [], ◌∷◌, ◌++◌, length, take, set}
use Rattle.std.proofs.Common.{Some, None, slice_get, sym, ap, ◌∙◌, subst, arith}
use Rattle.std.proofs.lemmas.Bool.{cases_lt}
use Rattle.std.proofs.lemmas.Option.{slice_get_within}
use Rattle.std.specs.List.{Contains}
use Rattle.replica_store.specs.declared.dated_names.Dated.{Dated}
use Rattle.replica_store.specs.declared.file_name.FileName.{FileName}
use Rattle.replica_store.specs.Chain.{names_of}
use Rattle.retention.specs.declared.stretch.Stretch.{Stretch}
use Rattle.retention.specs.declared.claim.Claim.{Claim}
use Rattle.retention.specs.Protected.{KeepsProtected}
use Rattle.retention.specs.Walk.{standing, standing_without, IsWalk}
use Rattle.retention.specs.Stretch.{stretch_at, Spans, AreStretches}
use Rattle.retention.specs.Claims.{YoungSpans, OldSpans, AreClaims}
use Rattle.retention.specs.Kept.{IsKept, AreKept}
use Rattle.retention.proofs.LeadLemmas.{reaches, retained, retained_larger}
use Rattle.retention.proofs.CoverLemmas.{IsSpanned, spans_each, keeps_each}
use Rattle.retention.proofs.ListLemmas.{same_at, test_at, set_here, set_other, cut_before, cut_at, cut_behind}
use Rattle.retention.proofs.StandingLemmas.{named_among, in_standing, from_standing}

-- what stands is among the names
standing_among : (kept : List Bool) (dated : List Dated) (name : FileName) → Contains (standing kept dated) name
    → Contains (names_of dated) name
standing_among kept dated name there = let s = from_standing kept dated name there in
    subst (λ n. Contains (names_of dated) n) s.named (named_among dated s.place s.one s.there)

by_age : (dated : List Dated) (cut : ℕ) (stretches : List Stretch) (i k : ℕ) (one : Dated)
    → slice_get dated i ≡ Some one → Spans one.name (stretch_at stretches k) → YoungSpans dated cut stretches i k
    ⊎ OldSpans dated cut stretches i k
by_age dated cut stretches i k one there spans = elim (cases_lt one.moment cut) [
  | inl old ↦ inr (record { one = one; there = there; old = old; spans = spans })
  | inr young ↦ inl (record { one = one; there = there; young = young; spans = spans })
]

-- a young name spans the stretch, or it falls to a name
falls : (dated : List Dated) (cut : ℕ) (stretches : List Stretch) (claims : List Claim)
    → AreStretches dated cut stretches → AreClaims dated cut stretches claims → (k : ℕ) → k < length stretches
    → ((j : ℕ) × YoungSpans dated cut stretches j k) ⊎
    ((p : ℕ) × (claim : Claim) × (slice_get claims p ≡ Some claim) × (claim.stretch ≡ k))
falls dated cut stretches claims are are_claims k low =
    let span = spans_each dated cut stretches are (Contains (names_of dated)) (λ name there. there)
    (λ t is. reaches (names_of dated) t is.retained) k low in
    let s = from_standing [] dated span.name span.there in
    let spans = subst (λ (n : FileName). Spans n (stretch_at stretches k)) (sym s.named) span.spans in
    elim (by_age dated cut stretches s.place k s.one s.there spans) [
      | inl young ↦ inl (s.place, young)
      | inr old ↦ are_claims.all k s.place low old
    ]

spanned_by_young : (dated : List Dated) (cut : ℕ) (stretches : List Stretch) (kept : List Bool) (j k : ℕ)
    → YoungSpans dated cut stretches j k → (slice_get kept j ≡ Some false → ⊥)
    → IsSpanned (Contains (standing kept dated)) (stretch_at stretches k)
spanned_by_young dated cut stretches kept j k is stands = record
    { name = is.one.name; there = in_standing kept dated j is.one is.there stands; spans = is.spans }

spanned_by_old : (dated : List Dated) (cut : ℕ) (stretches : List Stretch) (kept : List Bool) (j k : ℕ)
    → OldSpans dated cut stretches j k → (slice_get kept j ≡ Some false → ⊥)
    → IsSpanned (Contains (standing kept dated)) (stretch_at stretches k)
spanned_by_old dated cut stretches kept j k is stands = record
    { name = is.one.name; there = in_standing kept dated j is.one is.there stands; spans = is.spans }

not_both : (kept : List Bool) (i : ℕ) → IsKept kept i → slice_get kept i ≡ Some false → ⊥
not_both kept i one other = absurd cc

-- each protected transaction is retained in what is kept
pub kept_protects : (dated : List Dated) (cut : ℕ) (stretches : List Stretch) (claims : List Claim) (kept : List Bool)
    → AreStretches dated cut stretches → AreClaims dated cut stretches claims → AreKept dated cut stretches claims kept
    → KeepsProtected dated cut (standing kept dated)
kept_protects dated cut stretches claims kept are are_claims are_kept t is = retained (standing kept dated) t
    (keeps_each dated cut stretches are (Contains (standing kept dated))
    (λ k low. elim (falls dated cut stretches claims are are_claims k low) [
      | inl young ↦ spanned_by_young dated cut stretches kept young.0 k young.1
          (not_both kept young.0 (are_kept.young young.0 young.1.one young.1.there young.1.young))
      | inr fallen ↦
          let held = are_kept.held fallen.0 fallen.1 fallen.2 in
          spanned_by_old dated cut stretches kept held.place k
          (subst (λ n. OldSpans dated cut stretches held.place n) fallen.3 held.spans)
          (not_both kept held.place held.is_kept)
    ]) t is)

-- what isn't kept could go
dropped_could_go : (dated : List Dated) (cut : ℕ) (stretches : List Stretch) (claims : List Claim) (kept : List Bool)
    → AreStretches dated cut stretches → AreClaims dated cut stretches claims → AreKept dated cut stretches claims kept
    → (i : ℕ) (one : Dated) → slice_get dated i ≡ Some one → one.moment < cut → slice_get kept i ≡ Some false
    → KeepsProtected dated cut (standing_without kept i dated)
dropped_could_go dated cut stretches claims kept are are_claims are_kept i one there old gone t is =
    let inside : i ≤ length kept = (let h = slice_get_within dated i one there in omega (arith, h, are_kept.count)) in
    let cut_list = take i kept ++ false ∷ [] in
    let earlier = λ (j : ℕ) (below : j < i) (keeps : IsKept kept j) (h : slice_get cut_list j ≡ Some false). not_both
    kept j keeps (sym (cut_before kept i j false below inside) ∙ h) in
    let later = λ (j : ℕ) (above : i < j) (h : slice_get cut_list j ≡ Some false). none_not_some
    (sym (cut_behind kept i j false above) ∙ h) in
    retained (standing cut_list dated) t
    (keeps_each dated cut stretches are (Contains (standing cut_list dated))
    (λ k low. elim (falls dated cut stretches claims are are_claims k low) [
      | inl young ↦ spanned_by_young dated cut stretches cut_list young.0 k young.1 (λ h. elim (cases_lt young.0 i) [
        | inl below ↦ earlier young.0 below (are_kept.young young.0 young.1.one young.1.there young.1.young) h
        | inr from ↦ elim (cases_lt i young.0) [
          | inl above ↦ later young.0 above h
          | inr not_above ↦
              let same : young.0 ≡ i = omega (arith, from, not_above) in
              let e : young.1.one ≡ one = same_at dated i young.1.one one
              (ap (slice_get dated) (sym same) ∙ young.1.there) there in
              omega (arith, ap (λ (d : Dated). d.moment) e, young.1.young, old)
        ]
      ])
      | inr fallen ↦ elim (cases_lt i fallen.1.name) [
        | inl above ↦ spanned_by_old dated cut stretches cut_list fallen.1.name k
            (subst (λ n. OldSpans dated cut stretches fallen.1.name n) fallen.3
            (are_claims.each fallen.0 fallen.1 fallen.2).spans) (later fallen.1.name above)
        | inr not_above ↦
            let held = are_kept.held fallen.0 fallen.1 fallen.2 in
            let below : held.place < i = elim (cases_lt held.place i) [
              | inl below ↦ below
              | inr from ↦ let same : held.place ≡ i = omega (arith, from, not_above, held.early) in absurd
                  (not_both kept i (ap (slice_get kept) (sym same) ∙ held.is_kept) gone)
            ] in
            spanned_by_old dated cut stretches cut_list held.place k
            (subst (λ n. OldSpans dated cut stretches held.place n) fallen.3 held.spans)
            (earlier held.place below held.is_kept)
      ]
    ]) t is)
  where
    none_not_some : {b : Bool} → None ≡ Some b → ⊥
    none_not_some h = absurd cc

-- an old name that is kept couldn't
pub kept_could_not : (dated : List Dated) (cut : ℕ) (stretches : List Stretch) (claims : List Claim)
    (kept : List Bool) → AreStretches dated cut stretches → AreClaims dated cut stretches claims
    → AreKept dated cut stretches claims kept
    → (i : ℕ) (one : Dated) → slice_get dated i ≡ Some one → one.moment < cut → IsKept kept i
    → KeepsProtected dated cut (standing_without kept i dated) → ⊥
kept_could_not dated cut stretches claims kept are are_claims are_kept i one there old keeps protects =
    let inside : i ≤ length kept = (let h = slice_get_within dated i one there in omega (arith, h, are_kept.count)) in
    let cut_list = take i kept ++ false ∷ [] in
    let need = are_kept.needed i one there old keeps in
    let claim = need.claim in
    let is_claim = are_claims.each need.place claim need.there in
    let span = spans_each dated cut stretches are (Contains (standing cut_list dated)) (standing_among cut_list dated)
    (λ t is. reaches (standing cut_list dated) t (protects t is)) claim.stretch is_claim.low in
    let s = from_standing cut_list dated span.name span.there in
    let spans = subst (λ (n : FileName). Spans n (stretch_at stretches claim.stretch)) (sym s.named) span.spans in
    elim (by_age dated cut stretches s.place claim.stretch s.one s.there spans) [
      | inl young ↦ is_claim.no_young s.place young
      | inr is_old ↦ elim (cases_lt s.place i) [
        | inl below ↦ elim (test_at kept s.place (omega (arith, below, inside))) [
          | inl is_kept ↦ need.alone s.place below is_kept is_old
          | inr gone ↦ s.stands (cut_before kept i s.place false below inside ∙ gone)
        ]
        | inr from ↦ elim (cases_lt i s.place) [
          | inl above ↦ is_claim.last s.place (omega (arith, need.mine, above)) is_old
          | inr not_above ↦ let same : s.place ≡ i = omega (arith, from, not_above) in s.stands
              (ap (slice_get cut_list) same ∙ cut_at kept i false inside)
        ]
      ]
    ]

pub is_walk : (dated : List Dated) (cut : ℕ) (stretches : List Stretch) (claims : List Claim) (kept : List Bool)
    → AreStretches dated cut stretches → AreClaims dated cut stretches claims
    → AreKept dated cut stretches claims kept → IsWalk dated cut kept
is_walk dated cut stretches claims kept are are_claims are_kept = record {
  count = are_kept.count;
  young = are_kept.young;
  old = λ i one there old. (
    dropped_could_go dated cut stretches claims kept are are_claims are_kept i one there old,
    λ protects. elim (test_at kept i (let h = slice_get_within dated i one there in omega (arith, h, are_kept.count))) [
      | inl keeps ↦ absurd (kept_could_not dated cut stretches claims kept are are_claims are_kept i one there old
          keeps protects)
      | inr gone ↦ gone
    ],
  );
}

-- nor can it go now
pub kept_is_least : (dated : List Dated) (cut : ℕ) (stretches : List Stretch) (claims : List Claim) (kept : List Bool)
    → AreStretches dated cut stretches → AreClaims dated cut stretches claims → AreKept dated cut stretches claims kept
    → (i : ℕ) (one : Dated) → slice_get dated i ≡ Some one → one.moment < cut → IsKept kept i
    → KeepsProtected dated cut (standing (set kept i false) dated) → ⊥
kept_is_least dated cut stretches claims kept are are_claims are_kept i one there old keeps protects =
    let inside : i ≤ length kept = (let h = slice_get_within dated i one there in omega (arith, h, are_kept.count)) in
    let low : i < length kept = (let h = slice_get_within dated i one there in omega (arith, h, are_kept.count)) in
    let cut_list = take i kept ++ false ∷ [] in
    kept_could_not dated cut stretches claims kept are are_claims are_kept i one there old keeps
    (λ t is. retained_larger (standing (set kept i false) dated) (standing cut_list dated) (λ name at.
    let s = from_standing (set kept i false) dated name at in
    subst (λ n. Contains (standing cut_list dated) n) s.named
    (in_standing cut_list dated s.place s.one s.there (λ h. elim (cases_lt s.place i) [
      | inl below ↦ s.stands (set_other kept i s.place false (λ e. omega (arith, e, below))
          ∙ sym (cut_before kept i s.place false below inside) ∙ h)
      | inr from ↦ elim (cases_lt i s.place) [
        | inl above ↦ none_not_some (sym (cut_behind kept i s.place false above) ∙ h)
        | inr not_above ↦ let same : s.place ≡ i = omega (arith, from, not_above) in s.stands
            (ap (slice_get (set kept i false)) same ∙ set_here kept i false low)
      ]
    ]))) t (protects t is))
  where
    none_not_some : {b : Bool} → None ≡ Some b → ⊥
    none_not_some h = absurd cc
