-- Chains that grow by a file, and where they end.
use Rattle.std.proofs.Common.{◌≡◌, ℕ, ◌+◌, ◌<◌, ◌≤◌, ◌⊎◌, inl, inr, zero, suc, List, [], ◌∷◌, ◌++◌, length, Option}
use Rattle.std.proofs.Common.{Some, None, refl, sym, ap, ◌∙◌, subst, arith}
use Rattle.std.proofs.lemmas.Bool.{cases_lt}
use Rattle.std.specs.List.{Contains, AllByRecursion}
use Rattle.std.specs.Option.{IfNone}
use Rattle.replica_store.specs.declared.file_name.FileName.{FileName}
use Rattle.replica_store.specs.Chain.{MayComeNext, LeadsTo, BeginsOnce, IsRetained}
use Rattle.restore_plan.specs.ChosenChain.{MayLead, IsBestNext, IsChosenBetween}
use Rattle.restore_plan.specs.Retained.{IsGreatestRetainedBelow}
use Rattle.restore_plan.specs.Progress.{Progress, stepped}

-- a chain ends no earlier than it begins
pub leads_up : (names : List FileName) (from : ℕ) (chain : List FileName) (to : ℕ) → LeadsTo names from chain to
    → from ≤ to
leads_up names from [] to leads = omega (arith, leads)
leads_up names from (name ∷ chain) to leads = omega (arith, leads.1.goes_on, leads_up names name.max chain to leads.2)

pub leads_more : (names : List FileName) (from : ℕ) (chain : List FileName) (after : ℕ) (name : FileName)
    → LeadsTo names from chain after → Contains names name → MayComeNext after name
    → LeadsTo names from (chain ++ name ∷ []) name.max
leads_more names from [] after name leads there next = (there, subst (λ n. MayComeNext n name) (sym leads) next, refl)
leads_more names from (first ∷ chain) after name leads there next =
    (leads.0, leads.1, leads_more names first.max chain after name leads.2 there next)

pub chosen_more : (names : List FileName) (t from : ℕ) (chain : List FileName) (after : ℕ) (name : FileName)
    → IsChosenBetween names t from chain after → IsBestNext names t after name
    → IsChosenBetween names t from (chain ++ name ∷ []) name.max
chosen_more names t from [] after name chosen best = (subst (λ n. IsBestNext names t n name) (sym chosen) best, refl)
chosen_more names t from (first ∷ chain) after name chosen best =
    (chosen.0, chosen_more names t first.max chain after name chosen.1 best)

pub chosen_leads : (names : List FileName) (t from : ℕ) (chain : List FileName) (to : ℕ)
    → IsChosenBetween names t from chain to → LeadsTo names from chain to
chosen_leads names t from [] to chosen = chosen
chosen_leads names t from (first ∷ chain) to chosen =
    (chosen.0.leads.there, chosen.0.leads.next, chosen_leads names t first.max chain to chosen.1)

-- where no file may come next, no chain leads further
pub stuck : (names : List FileName) (t after : ℕ) → ((name : FileName) → MayLead names t after name → ⊥)
    → (from : ℕ) (chain : List FileName) (to : ℕ) → from ≤ after → LeadsTo names from chain to → to ≤ t → to ≤ after
stuck names t after end from [] to low leads within = omega (arith, leads)
stuck names t after end from (name ∷ chain) to low leads within =
    elim (cases_lt after name.max) [
      | inr below ↦ stuck names t after end name.max chain to below leads.2 within
      | inl beyond ↦ absurd (end name
          (record {
            there = leads.0;
            next = record { begins = omega (arith, leads.1.begins); goes_on = beyond };
            within = omega (arith, leads_up names name.max chain to leads.2);
          }))
    ]

-- a chain of these names that has come so far on the way to t
pub record IsOnTheWay (names : List FileName) (t : ℕ) (progress : Progress) : Type 0 where
  pub same_names : progress.names ≡ names
  pub same_t : progress.t ≡ t
  pub within : progress.after ≤ t
  pub chain : List FileName
  pub leads : LeadsTo names 0 chain progress.after

pub begin : (names : List FileName) (t : ℕ) (progress : Progress)
    → progress ≡ record { names = names; t = t; after = 0 } → IsOnTheWay names t progress
begin names t progress is = record {
  same_names = ap (λ p. p.names) is;
  same_t = ap (λ p. p.t) is;
  within = omega (arith, ap (λ p. p.after) is);
  chain = [];
  leads = sym (ap (λ p. p.after) is);
}

-- the same best file, of the names that stay the same
pub best_of : (names : List FileName) (t : ℕ) (progress : Progress) (name : FileName) → IsOnTheWay names t progress
    → IsBestNext progress.names progress.t progress.after name → IsBestNext names t progress.after name
best_of names t progress name way best = subst (λ n. IsBestNext n t progress.after name) way.same_names
    (subst (λ u. IsBestNext progress.names u progress.after name) way.same_t best)

pub go_on : (names : List FileName) (t : ℕ) (progress next : Progress) (name : FileName) → IsOnTheWay names t progress
    → IsBestNext progress.names progress.t progress.after name → next ≡ stepped progress (Some name)
    → IsOnTheWay names t next × (progress.after < next.after)
go_on names t progress next name way best is =
    let b = best_of names t progress name way best in
    let e : next.after ≡ name.max = ap (λ p. p.after) is in (
      record {
        same_names = ap (λ p. p.names) is ∙ way.same_names;
        same_t = ap (λ p. p.t) is ∙ way.same_t;
        within = omega (arith, e, b.leads.within);
        chain = way.chain ++ name ∷ [];
        leads = subst (λ n. LeadsTo names 0 (way.chain ++ name ∷ []) n) (sym e)
            (leads_more names 0 way.chain progress.after name way.leads b.leads.there b.leads.next);
      },
      omega (arith, e, b.leads.next.goes_on),
    )

reached_or_none : (names : List FileName) (chain : List FileName) (n : ℕ) → LeadsTo names 0 chain n → (n ≡ 0)
    ⊎ IsRetained names n
reached_or_none names chain zero leads = inl refl
reached_or_none names chain (suc n) leads = inr (record { positive = omega arith; chain = chain; leads = leads })

-- where it can't go on it has come to the greatest retained transaction up to t
pub come_to : (names : List FileName) (t : ℕ) (progress : Progress) → IsOnTheWay names t progress
    → ((name : FileName) → MayLead progress.names progress.t progress.after name → ⊥)
    → IsGreatestRetainedBelow names (t + 1) progress.after
come_to names t progress way end =
    let stop = subst (λ n. (name : FileName) → MayLead n t progress.after name → ⊥) way.same_names
    (subst (λ u. (name : FileName) → MayLead progress.names u progress.after name → ⊥) way.same_t end) in
    record {
      is = reached_or_none names way.chain progress.after way.leads;
      below = omega (arith, way.within);
      others = λ other is low. stuck names t progress.after stop 0 is.chain other (omega arith) is.leads
          (omega (arith, low));
    }

-- the last step, which found no file
pub come_to_end : (names : List FileName) (t : ℕ) (progress next : Progress) (o : Option FileName)
    → IsOnTheWay names t progress
    → IfNone o ((name : FileName) → MayLead progress.names progress.t progress.after name → ⊥)
    → next ≡ stepped progress o → ((name : FileName) → o ≡ Some name → ⊥)
    → (next.after ≡ progress.after) × IsGreatestRetainedBelow names (t + 1) next.after
come_to_end names t progress next None way end is none = (
  ap (λ p. p.after) is,
  subst (λ n. IsGreatestRetainedBelow names (t + 1) n) (sym (ap (λ p. p.after) is))
      (come_to names t progress way end),
)
come_to_end names t progress next (Some name) way end is none = absurd (none name refl)

-- below t, where t isn't retained
pub below_missing : (names : List FileName) (t greatest : ℕ) → IsGreatestRetainedBelow names (t + 1) greatest
    → (greatest ≡ t → ⊥) → IsGreatestRetainedBelow names t greatest
below_missing names t greatest is other = record
    { is = is.is; below = omega (arith, is.below, other); others = λ n kept low. is.others n kept (omega (arith, low)) }

pub not_missing : (names : List FileName) (t greatest : ℕ) → IsGreatestRetainedBelow names (t + 1) greatest
    → (greatest ≡ t → ⊥) → IsRetained names t → ⊥
not_missing names t greatest is other kept = other (omega (arith, is.below, is.others t kept (omega arith)))

pub is_retained : (names : List FileName) (t greatest : ℕ) → 0 < t → IsGreatestRetainedBelow names (t + 1) greatest
    → greatest ≡ t → IsRetained names t
is_retained names t greatest positive is e = elim is.is
    [ inl none ↦ absurd (omega (arith, none, e, positive)) | inr kept ↦ subst (λ n. IsRetained names n) e kept ]

-- the best file reaches no less far than one that may come next after an earlier transaction
no_less_far : (names : List FileName) (t low from : ℕ) (name one : FileName) → low ≤ from → IsBestNext names t from name
    → Contains names one → MayComeNext low one → one.max ≤ t → one.max ≤ name.max
no_less_far names t low from name one below best there next within = elim (cases_lt from one.max) [
  | inl beyond ↦ (best.best one (record {
    there = there;
    next = record { begins = omega (arith, next.begins, below); goes_on = beyond };
    within = within;
  })).farthest
  | inr behind ↦ omega (arith, behind, best.leads.next.goes_on)
]

-- no chain to t from an earlier transaction on has fewer files than the one that takes the best at each step
pub fewest : (names : List FileName) (t from : ℕ) (chain : List FileName) → IsChosenBetween names t from chain t
    → (low : ℕ) (other : List FileName) → low ≤ from → LeadsTo names low other t → length chain ≤ length other
fewest names t from [] chosen low other below leads = omega arith
fewest names t from (name ∷ chain) (best, chosen) low [] below leads =
    absurd (omega (arith, leads, below, best.leads.next.goes_on, best.leads.within))
fewest names t from (name ∷ chain) (best, chosen) low (one ∷ other) below (there, next, leads) =
    let within = leads_up names one.max other t leads in
    let reach = no_less_far names t low from name one below best there next within in
    omega (arith, fewest names t name.max chain chosen one.max other reach leads)

-- behind a transaction that no file reaches past which begins with the first, no file of the chain begins so
behind_first : (names : List FileName) (t bound from : ℕ) (chain : List FileName) → bound ≤ from
    → ((other : FileName) → Contains names other → other.min ≤ 1 → other.max ≤ t → other.max ≤ bound)
    → IsChosenBetween names t from chain t → AllByRecursion (λ name. 1 < name.min) chain
behind_first names t bound from [] low short chosen = tt
behind_first names t bound from (name ∷ chain) low short (best, chosen) = (
  elim (cases_lt 1 name.min) [
    | inl later ↦ later
    | inr early ↦ absurd (omega (arith, short name best.leads.there early best.leads.within, best.leads.next.goes_on))
  ],
  behind_first names t bound name.max chain (omega (arith, low, best.leads.next.goes_on)) short chosen,
)

pub begins_once : (names : List FileName) (t : ℕ) (chain : List FileName) → IsChosenBetween names t 0 chain t
    → BeginsOnce chain
begins_once names t [] chosen = tt
begins_once names t (first ∷ rest) (best, chosen) =
    behind_first names t first.max first.max rest (omega arith)
    (λ other there early within. elim (cases_lt 0 other.max) [
      | inl some ↦ (best.best other (record {
        there = there;
        next = record { begins = omega (arith, early); goes_on = some };
        within = within;
      })).farthest
      | inr none ↦ omega (arith, none)
    ]) chosen

-- the chosen chain has come so far, and this file is its first
pub record HasBegunWith (names : List FileName) (t : ℕ) (first : FileName) (after : ℕ) : Type 0 where
  pub rest : List FileName
  pub chosen : IsChosenBetween names t 0 (first ∷ rest) after

pub begun : (names : List FileName) (t : ℕ) (first : FileName) → IsBestNext names t 0 first
    → HasBegunWith names t first first.max
begun names t first best = record { rest = []; chosen = (best, refl) }

pub begun_more : (names : List FileName) (t : ℕ) (first : FileName) (after : ℕ) (name : FileName)
    → HasBegunWith names t first after → IsBestNext names t after name → HasBegunWith names t first name.max
begun_more names t first after name begun best = record {
  rest = begun.rest ++ name ∷ [];
  chosen = chosen_more names t 0 (first ∷ begun.rest) after name begun.chosen best;
}

-- where no file may come first, no chain leads to a transaction
pub none_leads : (names : List FileName) (t : ℕ) (progress : Progress) → IsOnTheWay names t progress
    → progress.after ≡ 0 → ((name : FileName) → MayLead progress.names progress.t progress.after name → ⊥)
    → IsRetained names t → ⊥
none_leads names t progress way none end kept =
    let most = (come_to names t progress way end).others t kept (omega arith) in
    omega (arith, most, none, kept.positive)
