-- A part of the files keeps each protected transaction retained exactly where it spans each stretch.
use Rattle.std.proofs.Common.{◌≡◌, ℕ, ◌+◌, ◌<◌, ◌≤◌, ◌⊎◌, inl, inr, zero, suc, List, [], ◌∷◌, ◌++◌, length, refl, sym}
use Rattle.std.proofs.Common.{subst, arith}
use Rattle.std.proofs.lemmas.Bool.{cases_lt}
use Rattle.std.specs.List.{Contains}
use Rattle.replica_store.specs.declared.dated_names.Dated.{Dated}
use Rattle.replica_store.specs.declared.file_name.FileName.{FileName}
use Rattle.replica_store.specs.Chain.{LeadsBy, IsRetained, names_of}
use Rattle.retention.specs.declared.stretch.Stretch.{Stretch}
use Rattle.retention.specs.Protected.{IsProtected}
use Rattle.retention.specs.Stretch.{Spans, AreStretches, stretch_at}
use Rattle.retention.proofs.LeadLemmas.{Reaches, leads_up, leads_more, retained}

-- the part has a file that spans the stretch
pub record IsSpanned (P : FileName → Type 0) (stretch : Stretch) : Type 0 where
  pub name : FileName
  pub there : P name
  pub spans : Spans name stretch

-- on a chain that leads over the stretch to its goal, the first file that ends beyond it spans it
spanning : (names : List FileName) (P : FileName → Type 0) → ((name : FileName) → P name → Contains names name)
    → (stretch : Stretch)
    → ((t : ℕ) → IsRetained names t → (t ≤ stretch.before) ⊎ (stretch.end ≤ t)) → stretch.before < stretch.end
    → stretch.end ≤ stretch.goal
    → (from : ℕ) (done chain : List FileName) → LeadsBy (Contains names) 0 done from → from ≤ stretch.before
    → LeadsBy P from chain stretch.goal → IsSpanned P stretch
spanning names P into stretch between rises ahead from done [] before low leads = absurd
    (omega (arith, leads, low, rises, ahead))
spanning names P into stretch between rises ahead from done (name ∷ chain) before low leads =
    let further = leads_more (Contains names) 0 done from name before (into name leads.0) leads.1 in
    elim (between name.max (retained names name.max
    (record { positive = omega (arith, leads.1.goes_on); chain = done ++ name ∷ []; leads = further }))) [
      | inl below ↦ spanning names P into stretch between rises ahead name.max (done ++ name ∷ []) chain further below
          leads.2
      | inr beyond ↦ record {
        name = name;
        there = leads.0;
        spans = record {
          begins = omega (arith, leads.1.begins, low);
          reaches = beyond;
          within = leads_up P name.max
              chain stretch.goal leads.2;
        };
      }
    ]

-- a part that keeps each protected transaction spans each stretch
pub spans_each : (dated : List Dated) (cut : ℕ) (stretches : List Stretch) → AreStretches dated cut stretches
    → (P : FileName → Type 0)
    → ((name : FileName) → P name → Contains (names_of dated) name)
    → ((t : ℕ) → IsProtected dated cut t → Reaches P t) → (k : ℕ) → k < length stretches
    → IsSpanned P (stretch_at stretches k)
spans_each dated cut stretches are P into keeps k low =
    let stretch = stretch_at stretches k in
    let reach = keeps stretch.goal (are.goals k low) in
    spanning (names_of dated) P into stretch (λ t is. are.between k t low is) (are.rises k low) (are.ahead k low) 0 []
    reach.chain refl (omega arith) reach.leads

-- a chain that has come over the stretch, and not past its goal
record HasCome (P : FileName → Type 0) (stretch : Stretch) : Type 0 where
  t : ℕ
  chain : List FileName
  leads : LeadsBy P 0 chain t
  over : stretch.end ≤ t
  within : t ≤ stretch.goal

-- from the end of the stretch before, or beyond, over this one
go_over : (P : FileName → Type 0) (stretch : Stretch) (t : ℕ) (chain : List FileName) → LeadsBy P 0 chain t
    → stretch.before ≤ t → (stretch.end ≤ t → t ≤ stretch.goal) → IsSpanned P stretch → HasCome P stretch
go_over P stretch t chain leads from within spanned =
    elim (cases_lt t stretch.end) [
      | inl below ↦ record {
        t = spanned.name.max;
        chain = chain ++ spanned.name ∷ [];
        leads = leads_more P 0 chain t spanned.name leads spanned.there
            (record {
              begins = omega (arith, spanned.spans.begins, from);
              goes_on = omega
                  (arith, below, spanned.spans.reaches);
            });
        over = spanned.spans.reaches;
        within = spanned.spans.within;
      }
      | inr beyond ↦ record { t = t; chain = chain; leads = leads; over = beyond; within = within beyond }
    ]

come_over : (dated : List Dated) (cut : ℕ) (stretches : List Stretch) → AreStretches dated cut stretches
    → (P : FileName → Type 0)
    → ((k : ℕ) → k < length stretches → IsSpanned P (stretch_at stretches k)) → (k : ℕ) → k < length stretches
    → HasCome P (stretch_at stretches k)
come_over dated cut stretches are P spanned zero low =
    let first = are.first low in
    go_over P (stretch_at stretches 0) 0 [] refl (omega (arith, first)) (λ beyond. omega arith) (spanned 0 low)
come_over dated cut stretches are P spanned (suc k) low =
    let one : k < length stretches = omega (arith, low) in
    let next : k + 1 < length stretches = omega (arith, low) in
    let come = come_over dated cut stretches are P spanned k one in
    let same : suc k ≡ k + 1 = omega arith in
    let over = go_over P (stretch_at stretches (k + 1)) come.t come.chain come.leads
    (omega (arith, are.joined k next, come.over)) (λ beyond. elim (are.same_goal k next) [
      | inl here ↦ absurd (omega (arith, here, come.within, beyond, are.joined k next, are.rises (k + 1) next))
      | inr there ↦ omega (arith, there, come.within)
    ]) (spanned (k + 1) next) in
    subst (λ n. HasCome P (stretch_at stretches n)) (sym same) over

-- a part that spans each stretch keeps each protected transaction
pub keeps_each : (dated : List Dated) (cut : ℕ) (stretches : List Stretch) → AreStretches dated cut stretches
    → (P : FileName → Type 0)
    → ((k : ℕ) → k < length stretches → IsSpanned P (stretch_at stretches k)) → (t : ℕ) → IsProtected dated cut t
    → Reaches P t
keeps_each dated cut stretches are P spanned t is =
    let place = are.each t is in
    let come = come_over dated cut stretches are P spanned place.0 place.1 in
    let same : come.t ≡ t = omega (arith, come.over, come.within, place.2, place.3) in
    record {
      positive = is.retained.positive;
      chain = come.chain;
      leads = subst (λ n. LeadsBy P 0 come.chain n) same
          come.leads;
    }
