-- Names of a list that is walked from the front.
use Rattle.std.proofs.Common.{arith, ◌≡◌, ℕ, ◌+◌, ◌<◌, ◌≤◌, suc, List, [], ◌∷◌, ◌++◌, ◌∙◌, length, take, drop}
use Rattle.std.proofs.Common.{get_or, refl, sym, ap}
use Rattle.std.proofs.lemmas.List.{take-append-drop, take_all}
use Rattle.std.proofs.Math.Seq.{take-suc}
use Rattle.replica_store.specs.declared.dated_names.Dated.{Dated}
use Rattle.replica_store.specs.Chain.{names_of}

pub names_append : (first rest : List Dated) → names_of (first ++ rest) ≡ names_of first ++ names_of rest
names_append [] rest = refl
names_append (d ∷ first) rest = ap (λ names. d.name ∷ names) (names_append first rest)

-- one name more
pub names_next : (dated : List Dated) (i : ℕ) (one : Dated) → i < length dated
    → one ≡ get_or dated i one → names_of (take (i + 1) dated) ≡ names_of (take i dated) ++ one.name ∷ []
names_next dated i one low is =
    let next : i + 1 ≡ suc i = omega arith in
    ap (λ n. names_of (take n dated)) next ∙ ap names_of (take-suc dated i one low)
    ∙ names_append (take i dated) (get_or dated i one ∷ [])
    ∙ ap (λ (d : Dated). names_of (take i dated) ++ d.name ∷ []) (sym is)

-- all names
pub names_all : (dated : List Dated) (i : ℕ) → length dated ≤ i → names_of (take i dated) ≡ names_of dated
names_all dated i end = ap names_of (take_all i dated end)

-- the names so far, and those behind
pub names_parts : (dated : List Dated) (i : ℕ) → names_of dated ≡ names_of (take i dated) ++ names_of (drop i dated)
names_parts dated i = ap names_of (sym (take-append-drop i dated)) ∙ names_append (take i dated) (drop i dated)
