-- Files that pile up, of one name more.
use Rattle.std.proofs.Common.{arith, ◌≡◌, ℕ, ◌<◌, ◌≤◌, suc, length, take, drop, get_or, IfSome, slice_get, List, []}
use Rattle.std.proofs.Common.{◌∷◌, ◌++◌, Option, Some, None, refl, sym, ap, ◌∙◌, subst}
use Rattle.std.specs.List.{All, Contains}
use Rattle.std.proofs.lemmas.List.Elements.{All-head, All-tail, Contains-append_left, Contains-append_right}
use Rattle.std.proofs.lemmas.List.Elements.{Contains-push}
use Rattle.std.specs.Option.{IfNone}
use Rattle.std.proofs.Math.Seq.{drop-cons}
use Rattle.std.proofs.lemmas.List.{append_assoc}
use Rattle.replica_store.specs.declared.dated_names.Dated.{Dated}
use Rattle.replica_store.specs.Chain.{names_of}
use Rattle.replica_store.specs.declared.file_name.FileName.{FileName}
use Rattle.compact_levels.specs.Run.{BeginsBeyond, GoesOnFrom, IsGapless}
use Rattle.compact_levels.specs.Pile.{IsOpenPile, IsPileSoFar, IsEndedBy, PilesUp}
use Rattle.compact_levels.specs.declared.files.Files.{Files}
use Rattle.compact_levels.proofs.ListLemmas.{names_parts}

gapless_more : (level from : ℕ) (rest : List FileName) (to : ℕ) (name : FileName) → IsGapless level from rest to
    → GoesOnFrom level to name → IsGapless level from (rest ++ name ∷ []) name.max
gapless_more level from [] to name same next = (subst (λ n. GoesOnFrom level n name) (sym same) next, refl)
gapless_more level from (one ∷ rest) to name (first, gapless) next =
    (first, gapless_more level one.max rest to name gapless next)

-- files that were begun, with a name that goes on
pub pile_longer : (names : List FileName) (level after : ℕ) (files longer : Files) (name : FileName)
    → IsOpenPile names level after files → GoesOnFrom level files.end name
    → longer.first ≡ files.first → longer.end ≡ name.max → IsOpenPile (names ++ name ∷ []) level after longer
pile_longer names level after files longer name begun next first end = record {
  before = begun.before;
  rest = begun.rest ++ name ∷ [];
  parts = ap (λ list. list ++ name ∷ []) begun.parts ∙ append_assoc begun.before (files.first ∷ begun.rest) (name ∷ [])
      ∙ ap (λ (one : FileName). begun.before ++ (one ∷ (begun.rest ++ name ∷ []))) (sym first);
  earlier = begun.earlier;
  begins = subst (BeginsBeyond level after) (sym first) begun.begins;
  gapless = subst (λ n. IsGapless level longer.first.max (begun.rest ++ name ∷ []) n) (sym end)
      (subst (λ (one : FileName). IsGapless level one.max (begun.rest ++ name ∷ []) name.max) (sym first)
      (gapless_more level files.first.max begun.rest files.end name begun.gapless next));
}

-- the first file
pub pile_begins : (names : List FileName) (level after : ℕ) (files : Files) (name : FileName)
    → All (λ name. BeginsBeyond level after name → ⊥) names → BeginsBeyond level after name
    → files.first ≡ name → files.end ≡ name.max → IsOpenPile (names ++ name ∷ []) level after files
pile_begins names level after files name earlier begins first end = record {
  before = names;
  rest = [];
  parts = ap (λ (one : FileName). names ++ one ∷ []) (sym first);
  earlier = earlier;
  begins = subst (BeginsBeyond level after) (sym first) begins;
  gapless = ap (λ (one : FileName). one.max) first ∙ sym end;
}

-- files that the next name, if there is one, doesn't go on from
pub pile_ends : (names passed behind : List FileName) (level after : ℕ) (files : Files)
    → names ≡ passed ++ behind → IsOpenPile passed level after files
    → IfSome (slice_get behind 0) (λ name. GoesOnFrom level files.end name → ⊥) → PilesUp names level after files
pile_ends names passed behind level after files parts begun ends = record {
  rest = begun.rest;
  pile = record {
    before = begun.before;
    behind = behind;
    parts = parts ∙ ap (λ list. list ++ behind) begun.parts;
    passed = begun.earlier;
    begins = begun.begins;
    gapless = begun.gapless;
    ends = ends;
  };
}

append_nothing : (names : List FileName) → names ++ [] ≡ names
append_nothing [] = refl
append_nothing (name ∷ names) = ap (λ rest. name ∷ rest) (append_nothing names)

-- the files that a list ends with
pub whole_pile : (names : List FileName) (level after : ℕ) (files : Option Files)
    → IsPileSoFar names level after files → IfSome files (PilesUp names level after)
whole_pile names level after None so_far = tt
whole_pile names level after (Some files) begun =
    pile_ends names names [] level after files (sym (append_nothing names)) begun tt

pub no_pile : (names : List FileName) (level after : ℕ) (files : Option Files)
    → IsPileSoFar names level after files → IfNone files (All (λ name. BeginsBeyond level after name → ⊥) names)
no_pile names level after None so_far = so_far
no_pile names level after (Some files) begun = tt

-- the files that the next name doesn't go on from
pub ended_by : (dated : List Dated) (i : ℕ) (one : Dated) (level after : ℕ) (files : Option Files)
    → i < length dated → one ≡ get_or dated i one → IsPileSoFar (names_of (take i dated)) level after files
    → IsEndedBy level files one.name → IfSome files (PilesUp (names_of dated) level after)
ended_by dated i one level after None low is so_far ended = tt
ended_by dated i one level after (Some files) low is begun ended =
    pile_ends (names_of dated) (names_of (take i dated)) (names_of (drop i dated)) level after files
    (names_parts dated i) begun
    (subst (λ list. IfSome (slice_get (names_of list) 0) (λ name. GoesOnFrom level files.end name → ⊥))
    (sym (drop-cons dated i one low ∙ ap (λ (d : Dated). d ∷ drop (suc i) dated) (sym is))) ended)

-- ---- two piles of the same names begin with the same file

same_first : (P : FileName → Type 0) (before other tail rest : List FileName) (a b : FileName)
    → before ++ (a ∷ tail) ≡ other ++ (b ∷ rest) → All (λ name. P name → ⊥) before → P a
    → All (λ name. P name → ⊥) other → P b → a ≡ b
same_first P [] [] tail rest a b same before pa other pb = ap (λ (list : List FileName). get_or list 0 a) same
same_first P [] (y ∷ other) tail rest a b same before pa none pb =
    absurd (All-head (λ name. P name → ⊥) y other none
    (subst P (ap (λ (list : List FileName). get_or list 0 a) same) pa))
same_first P (x ∷ before) [] tail rest a b same none pa other pb =
    absurd (All-head (λ name. P name → ⊥) x before none
    (subst P (sym (ap (λ (list : List FileName). get_or list 0 b) same)) pb))
same_first P (x ∷ before) (y ∷ other) tail rest a b same none pa nor pb =
    same_first P before other tail rest a b (ap (drop 1) same)
    (All-tail (λ name. P name → ⊥) x before none) pa (All-tail (λ name. P name → ⊥) y other nor) pb

not_among : (P : FileName → Type 0) (before tail : List FileName) (a : FileName)
    → All (λ name. P name → ⊥) (before ++ (a ∷ tail)) → P a → ⊥
not_among P [] tail a none pa = All-head (λ name. P name → ⊥) a tail none pa
not_among P (x ∷ before) tail a none pa =
    not_among P before tail a (All-tail (λ name. P name → ⊥) x (before ++ (a ∷ tail)) none) pa

pub same_pile : (names : List FileName) (level after : ℕ) (a b : Files)
    → PilesUp names level after a → PilesUp names level after b → a.first ≡ b.first
same_pile names level after a b ofa ofb =
    let p = ofa.pile in
    let q = ofb.pile in
    same_first (BeginsBeyond level after) p.before q.before (ofa.rest ++ p.behind) (ofb.rest ++ q.behind)
    a.first b.first
    (sym (append_assoc p.before (a.first ∷ ofa.rest) p.behind) ∙ sym p.parts ∙ q.parts
    ∙ append_assoc q.before (b.first ∷ ofb.rest) q.behind)
    p.passed p.begins q.passed q.begins

pub nothing_piled : (names : List FileName) (level after : ℕ) (files : Files)
    → All (λ name. BeginsBeyond level after name → ⊥) names → PilesUp names level after files → ⊥
nothing_piled names level after files none piled =
    let p = piled.pile in
    not_among (BeginsBeyond level after) p.before (piled.rest ++ p.behind) files.first
    (subst (All (λ name. BeginsBeyond level after name → ⊥))
    (p.parts ∙ append_assoc p.before (files.first ∷ piled.rest) p.behind) none) p.begins

-- the first of a pile is among the names
pub first_there : (names : List FileName) (level after : ℕ) (files : Files)
    → PilesUp names level after files → Contains names files.first
first_there names level after files piled =
    let p = piled.pile in
    subst (λ list. Contains list files.first)
    (sym (p.parts ∙ append_assoc p.before (files.first ∷ piled.rest) p.behind))
    (Contains-append_right p.before (files.first ∷ (piled.rest ++ p.behind)) files.first
    (Contains-append_left (files.first ∷ []) (piled.rest ++ p.behind) files.first (Contains-push [] files.first)))

-- a pile ends no earlier than it begins
pub gapless_up : (level from : ℕ) (rest : List FileName) (to : ℕ) → IsGapless level from rest to → from ≤ to
gapless_up level from [] to same = omega (arith, same)
gapless_up level from (name ∷ rest) to (next, gapless) =
    omega (arith, next.begins, name.in_order, gapless_up level name.max rest to gapless)
