-- The names to which stretches fall, from the first on, keep each stretch spanned.
use Rattle.std.proofs.Common.{◌≡◌, ℕ, ◌+◌, ◌<◌, ◌≤◌, inl, inr, Bool, true, leb, List, length, set, map, Option, Some}
use Rattle.std.proofs.Common.{slice_get, sym, ap, ◌∙◌, subst, arith}
use Rattle.std.proofs.lemmas.Bool.{cases_eq, leb-true, le-leb}
use Rattle.std.proofs.lemmas.List.{length-set, length-map}
use Rattle.std.proofs.lemmas.Option.{slice_get_within, slice_get-map}
use Rattle.replica_store.specs.declared.dated_names.Dated.{Dated}
use Rattle.retention.specs.declared.stretch.Stretch.{Stretch}
use Rattle.retention.specs.declared.claim.Claim.{Claim}
use Rattle.retention.specs.Stretch.{stretch_at, Spans, AreSpanned}
use Rattle.retention.specs.Painting.{IsPainted, AreSkips, ArePainted}
use Rattle.retention.specs.Claims.{OldSpans, AreClaims}
use Rattle.retention.specs.Kept.{IsKept, IsHeld, IsNeeded, AreKept}
use Rattle.std.specs.Option.{option_map}
use Rattle.retention.proofs.ListLemmas.{same_at, set_here, set_other}

-- by the claims from a place on
pub record AreKeptFrom (dated : List Dated) (cut : ℕ) (stretches : List Stretch) (claims : List Claim) (p : ℕ)
    (skips : List ℕ) (kept : List Bool) : Type 0 where
  pub are : AreSkips skips
  pub row : length skips ≡ length stretches
  pub count : length kept ≡ length dated
  pub young : (i : ℕ) (one : Dated) → slice_get dated i ≡ Some one → cut ≤ one.moment → IsKept kept i
  pub painted : (k : ℕ) → IsPainted skips k → (i : ℕ) × IsKept kept i × OldSpans dated cut stretches i k
  pub all : (i k : ℕ) → k < length stretches → IsKept kept i → OldSpans dated cut stretches i k → IsPainted skips k
  pub held : (q : ℕ) (claim : Claim) → p ≤ q → slice_get claims q ≡ Some claim → IsHeld dated cut stretches kept claim
  pub needed : (i : ℕ) (one : Dated) → slice_get dated i ≡ Some one → one.moment < cut → IsKept kept i
      → IsNeeded dated cut stretches claims kept p i

young_at : (dated : List Dated) (cut i : ℕ) (one : Dated) (kept : List Bool) → kept ≡ map
    (λ (one : Dated). leb cut one.moment) dated → slice_get dated i ≡ Some one
    → slice_get kept i ≡ Some (leb cut one.moment)
young_at dated cut i one kept is there =
    ap (λ (xs : List Bool). slice_get xs i) is ∙ slice_get-map (λ (one : Dated). leb cut one.moment) dated i
    ∙ ap (λ (o : Option Dated). option_map (λ (one : Dated). leb cut one.moment) o) there

pub kept_none : (dated : List Dated) (cut : ℕ) (stretches : List Stretch) (claims : List Claim) (p : ℕ)
    (skips : List ℕ) (kept : List Bool) → length claims ≤ p → AreSkips skips → length skips ≡ length stretches
    → ((k : ℕ) → IsPainted skips k → ⊥) → kept ≡ map (λ (one : Dated). leb cut one.moment) dated
    → AreKeptFrom dated cut stretches claims p skips kept
kept_none dated cut stretches claims p skips kept end are row none is =
    let old = λ (i : ℕ) (one : Dated) (there : slice_get dated i ≡ Some one) (before : one.moment < cut)
    (keeps : IsKept kept i).
    (let e : Some (leb cut one.moment) ≡ Some true = sym (young_at dated cut i one kept is there) ∙ keeps in
    let test : leb cut one.moment ≡ true = (cc) in let never : ⊥ = omega (arith, leb-true cut one.moment test, before)
    in never) in
    record {
      are = are;
      row = row;
      count = ap length is ∙ length-map dated (λ (one : Dated). leb cut one.moment);
      young = λ i one there after. young_at dated cut i one kept is there ∙ ap Some (le-leb cut one.moment after);
      painted = λ k now. absurd (none k now);
      all = λ i k low keeps spans. absurd (old i spans.one spans.there spans.old keeps);
      held = λ q claim from there. absurd (omega (arith, end, from, slice_get_within claims q claim there));
      needed = λ i one there before keeps. absurd (old i one there before keeps);
    }

-- a claim on a stretch that a kept name spans
pub kept_passes : (dated : List Dated) (cut : ℕ) (stretches : List Stretch) (claims : List Claim) (p : ℕ)
    (skips : List ℕ) (kept : List Bool) (claim : Claim) → AreClaims dated cut stretches claims
    → slice_get claims p ≡ Some claim
    → IsPainted skips claim.stretch → AreKeptFrom dated cut stretches claims (p + 1) skips kept
    → AreKeptFrom dated cut stretches claims p skips kept
kept_passes dated cut stretches claims p skips kept claim are_claims there painted is = record {
  are = is.are;
  row = is.row;
  count = is.count;
  young = is.young;
  painted = is.painted;
  all = is.all;
  held = λ q other from at. elim (cases_eq q p) [
    | inr apart ↦ is.held q other (omega (arith, from, apart)) at
    | inl same ↦
        let e : claim ≡ other = same_at claims p claim other there (ap (slice_get claims) (sym same) ∙ at) in
        let span = is.painted claim.stretch painted in
        let need = is.needed span.0 span.2.one span.2.there span.2.old span.1 in
        subst (λ (c : Claim). IsHeld dated cut stretches kept c) e (record {
          place = span.0;
          early = omega (
            arith,
            need.mine,
            are_claims.falls p need.place claim need.claim (omega (arith, need.late))
                there need.there,
          );
          is_kept = span.1;
          spans = span.2;
        })
  ];
  needed = λ i one at before keeps.
      let need = is.needed i one at before keeps in
      record {
        place = need.place;
        claim = need.claim;
        late = omega (arith, need.late);
        there = need.there;
        mine =
            need.mine;
        alone = need.alone;
      };
}

-- a claim on a stretch that none spans: its name is kept
pub kept_takes : (dated : List Dated) (cut : ℕ) (stretches : List Stretch) (claims : List Claim) (p from to : ℕ)
    (skips later : List ℕ) (kept : List Bool) (claim : Claim) (one : Dated) → AreClaims dated cut stretches claims
    → slice_get claims p ≡ Some claim → (IsPainted skips claim.stretch → ⊥) → slice_get dated claim.name ≡ Some one
    → AreSpanned one.name stretches from to → AreSkips later → ArePainted from to skips later
    → AreKeptFrom dated cut stretches claims (p + 1) skips kept
    → AreKeptFrom dated cut stretches claims p later (set kept claim.name true)
kept_takes dated cut stretches claims p from to skips later kept claim one are_claims there unpainted here spanned
    skip painted is =
    let o = claim.name in
    let mine = (are_claims.each p claim there).spans in
    let low : o < length kept = omega (arith, slice_get_within dated o one here, is.count) in
    let now_kept = set_here kept o true low in
    let still = λ (i : ℕ) (keeps : IsKept kept i). elim (cases_eq i o) as (λ v. IsKept (set kept o true) i) [
      | inl same ↦ ap (slice_get (set kept o true)) same ∙ now_kept
      | inr other ↦ set_other kept o i true other ∙ keeps
    ] in
    let was = λ (i : ℕ) (other : i ≡ o → ⊥) (keeps : IsKept (set kept o true) i). sym (set_other kept o i true other)
    ∙ keeps in
    let is_one : mine.one ≡ one = same_at dated o mine.one one mine.there here in
    let one_old : one.moment < cut = subst (λ (d : Dated). d.moment < cut) is_one mine.old in
    record {
      are = skip;
      row = painted.count ∙ is.row;
      count = length-set kept o true ∙ is.count;
      young = λ i young at after. still i (is.young i young at after);
      painted = λ k now. elim (painted.only k now) [
        | inl before ↦ let e = is.painted k before in (e.0, still e.0 e.1, e.2)
        | inr span ↦ (
          o,
          now_kept,
          record {
            one = one;
            there = here;
            old = one_old;
            spans = spanned.each k (omega (arith, span.1, spanned.within))
                span.0 span.1;
          },
        )
      ];
      all = λ i k inside keeps spans. elim (cases_eq i o) [
        | inl same ↦
            let e : spans.one ≡ one = same_at dated o spans.one one (ap (slice_get dated) (sym same) ∙ spans.there)
            here in
            let in_span = spanned.only k inside
            (subst (λ (d : Dated). Spans d.name (stretch_at stretches k)) e spans.spans) in
            painted.over k in_span.0 in_span.1
        | inr other ↦ painted.still k (is.all i k inside (was i other keeps) spans)
      ];
      held = λ q other from_p at. elim (cases_eq q p) [
        | inr apart ↦
            let h = is.held q other (omega (arith, from_p, apart)) at in
            record { place = h.place; early = h.early; is_kept = still h.place h.is_kept; spans = h.spans }
        | inl same ↦
            let e : claim ≡ other = same_at claims p claim other there (ap (slice_get claims) (sym same) ∙ at) in
            subst (λ (c : Claim). IsHeld dated cut stretches (set kept o true) c) e
            (record { place = o; early = omega arith; is_kept = now_kept; spans = mine })
      ];
      needed = λ i two at before keeps. elim (cases_eq i o) [
        | inl same ↦ record {
          place = p;
          claim = claim;
          late = omega arith;
          there = there;
          mine = sym same;
          alone = λ j below keeps_j spans. unpainted
              (is.all j claim.stretch (are_claims.each p claim there).low
              (was j (λ e. omega (arith, e, same, below)) keeps_j) spans);
        }
        | inr other ↦
            let need = is.needed i two at before (was i other keeps) in
            record {
              place = need.place;
              claim = need.claim;
              late = omega (arith, need.late);
              there = need.there;
              mine = need.mine;
              alone = λ j below keeps_j spans. elim (cases_eq j o) [
                | inl same ↦ omega (
                  arith,
                  same,
                  below,
                  need.mine,
                  are_claims.falls p need.place claim need.claim
                      (omega (arith, need.late)) there need.there,
                )
                | inr apart ↦ need.alone j below (was j apart keeps_j) spans
              ];
            }
      ];
    }

pub kept_all : (dated : List Dated) (cut : ℕ) (stretches : List Stretch) (claims : List Claim) (p : ℕ)
    (skips : List ℕ) (kept : List Bool) → p ≡ 0 → AreKeptFrom dated cut stretches claims p skips kept
    → AreKept dated cut stretches claims kept
kept_all dated cut stretches claims p skips kept end is = record {
  count = is.count;
  young = is.young;
  held = λ q claim there. is.held q claim (omega (arith, end)) there;
  needed = λ i one at before keeps.
      let need = is.needed i one at before keeps in
      record {
        place = need.place;
        claim = need.claim;
        late = omega arith;
        there = need.there;
        mine = need.mine;
        alone
            = need.alone;
      };
}
