-- Chains to the newest transaction.
use Rattle.std.proofs.Common.{arith, ◌≡◌, ℕ, ◌<◌, ◌≤◌, List, [], ◌∷◌, sym, subst}
use Rattle.std.specs.List.{Contains}
use Rattle.replica_store.specs.declared.file_name.FileName.{FileName}
use Rattle.replica_store.specs.Chain.{IsRetained}
use Rattle.restore_plan.specs.ChosenChain.{IsBestNext, IsChosenBetween, BeginsChosenChain}
use Rattle.restore_plan.proofs.ChainLemmas.{chosen_leads}
use Rattle.compact_levels.specs.Pile.{LeadsToNewest, IsSameName}
use Rattle.compact_levels.specs.declared.files.Files.{Files}

-- a chain ends no later than any of the names does
ends_within : (names : List FileName) (t from : ℕ) (first : FileName) (rest : List FileName) (to bound : ℕ)
    → ((name : FileName) → Contains names name → name.max ≤ bound)
    → IsChosenBetween names t from (first ∷ rest) to → to ≤ bound
ends_within names t from first [] to bound all (best, same) = omega (arith, all first best.leads.there, same)
ends_within names t from first (next ∷ rest) to bound all (best, chosen) =
    ends_within names t first.max next rest to bound all chosen

pub end_within : (names : List FileName) (after bound : ℕ) (files : Files)
    → ((name : FileName) → Contains names name → name.max ≤ bound)
    → LeadsToNewest names after files → files.end ≤ bound
end_within names after bound files all leads =
    ends_within names files.end 0 files.first leads.rest files.end bound all leads.chain.chain

pub leads_to_newest : (names : List FileName) (after newest end : ℕ) (first : FileName)
    → ((name : FileName) → Contains names name → name.max ≤ newest) → end ≡ newest → after < newest
    → BeginsChosenChain names end first → LeadsToNewest names after (record { first = first; end = end })
leads_to_newest names after newest end first all same beyond begins = record {
  rest = begins.rest;
  chain = record {
    newest = λ name there. omega (arith, all name there, same);
    beyond = omega (arith, beyond, same);
    chain = begins.chosen;
  };
}

-- no chain leads to the newest where that isn't beyond `after`
pub not_beyond : (names : List FileName) (after newest : ℕ)
    → ((name : FileName) → Contains names name → name.max ≤ newest) → newest ≤ after
    → (files : Files) → LeadsToNewest names after files → ⊥
not_beyond names after newest all low files leads =
    omega (arith, end_within names after newest files all leads, leads.chain.beyond, low)

-- nor where it isn't retained
pub not_retained : (names : List FileName) (after newest end : ℕ)
    → ((name : FileName) → Contains names name → name.max ≤ newest)
    → ((name : FileName) × Contains names name × (name.max ≡ newest)) → end ≡ newest
    → (IsRetained names end → ⊥) → (files : Files) → LeadsToNewest names after files → ⊥
not_retained names after newest end all (name, there, is) same not files leads =
    let low = end_within names after newest files all leads in
    let high = leads.chain.newest name there in
    let e : files.end ≡ end = omega (arith, low, high, is, same) in
    not (subst (IsRetained names) e (record {
      positive = omega (arith, leads.chain.beyond);
      chain = files.first ∷ leads.rest;
      leads = chosen_leads names files.end 0 (files.first ∷ leads.rest) files.end leads.chain.chain;
    }))

-- such chains begin with the same file
pub same_beginning : (names : List FileName) (after : ℕ) (a b : Files)
    → LeadsToNewest names after a → LeadsToNewest names after b → IsSameName a.first b.first
same_beginning names after a b ofa ofb =
    let low = end_within names after b.end a ofb.chain.newest ofa in
    let high = end_within names after a.end b ofa.chain.newest ofb in
    let e : b.end ≡ a.end = omega (arith, low, high) in
    let besta : IsBestNext names a.end 0 a.first = ofa.chain.chain.0 in
    let bestb : IsBestNext names a.end 0 b.first =
    subst (λ t. IsBestNext names t 0 b.first) e ofb.chain.chain.0 in
    let ab = besta.best b.first bestb.leads in
    let ba = bestb.best a.first besta.leads in
    let max : a.first.max ≡ b.first.max = omega (arith, ab.farthest, ba.farthest) in
    let level : a.first.level ≡ b.first.level = omega (arith, ab.highest (sym max), ba.highest max) in
    record {
      level = level;
      min = omega (arith, ab.latest (sym max) (sym level), ba.latest max level);
      max = max;
    }
