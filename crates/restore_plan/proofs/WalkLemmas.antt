-- Names that are walked by their ends.
use Rattle.std.proofs.Common.{◌≡◌, ◌≢◌, ℕ, ◌+◌, ◌-◌, ◌<◌, ◌≤◌, inl, inr, zero, suc, Bool, true, false, cond, eqb, List}
use Rattle.std.proofs.Common.{[], ◌∷◌, length, get_or, set, Option, Some, None, IfSome, refl, sym, ap, ◌∙◌, subst}
use Rattle.std.proofs.Common.{eq-eqb, arith}
use Rattle.std.proofs.lemmas.Bool.{cases_lt, cases_eq, eqb-true}
use Rattle.std.proofs.lemmas.List.{get_or-set_same, get_or-set_other, length-set, get_or-map, get_or_default}
use Rattle.std.proofs.lemmas.List.{length-map}
use Rattle.std.proofs.lemmas.List.Elements.{All-set, All-cons, All-nil}
use Rattle.std.proofs.lemmas.Option.{get_or_from_slice_get, slice_get_within}
use Rattle.std.specs.List.{Contains, slice_get}
use Rattle.replica_store.specs.declared.dated_names.Dated.{Dated}
use Rattle.replica_store.specs.declared.file_name.FileName.{FileName}
use Rattle.replica_store.specs.Chain.{IsListOrdered, MayComeNext, LeadsTo, names_of, moment_of}
use Rattle.restore_plan.specs.Run.{levels}
use Rattle.restore_plan.specs.Walk.{AreRising, IsWalk, StandsAt, StandsAtFirst, IsNoLater, AreWalks}
use Rattle.restore_plan.specs.declared.walk.Walk.{Walk}
use Rattle.restore_plan.proofs.ChainLemmas.{leads_up}
use Rattle.restore_plan.proofs.OrderLemmas.{in_level}
use Rattle.restore_plan.proofs.RunLemmas.{HasPlace, place_of}

-- ---- one level

-- a name of the level that was passed
passed_is : (names : List FileName) (after : ℕ) (walk : Walk) (name : FileName) → IsWalk names after walk
    → (there : Contains names name)
    → there.0 < walk.at → name.level ≡ walk.level → name.max ≤ after
passed_is names after walk name is there below level =
    subst (λ (n : FileName). n.max ≤ after) there.2
    (is.passed there.0 name below there.1 (ap (λ (n : FileName). n.level) there.2 ∙ level))

-- one more name passed
pub walk_more : (names : List FileName) (after : ℕ) (walk : Walk) (name : FileName) → IsWalk names after walk
    → slice_get names walk.at ≡ Some name
    → (name.level ≡ walk.level → name.max ≤ after) → IsWalk names after
    (record { level = walk.level; at = walk.at + 1 })
walk_more names after walk name is here low = record {
  passed = λ k d below inside same. elim (cases_lt k walk.at) [
    | inl before ↦ is.passed k d before inside same
    | inr from ↦
        let e : k ≡ walk.at = omega (arith, below, from) in
        let is_name : get_or names k d ≡ name = ap (λ i. get_or names i d) e
        ∙ get_or_from_slice_get names walk.at name d here in
        subst (λ (n : FileName). n.max ≤ after) (sym is_name)
        (low (sym (ap (λ (n : FileName). n.level) is_name) ∙ same))
  ];
}

-- at a name of a higher level all names of the level were passed
pub none_ahead : (names : List FileName) (after : ℕ) (walk : Walk) (name : FileName) → IsListOrdered names
    → IsWalk names after walk
    → slice_get names walk.at ≡ Some name → walk.level < name.level → (other : FileName) → Contains names other
    → other.level ≡ walk.level
    → other.max ≤ after
none_ahead names after walk name up is here higher other there level = elim (cases_lt there.0 walk.at) [
  | inl below ↦ passed_is names after walk other is there below level
  | inr from ↦
      let far = in_level names up walk.at there.0 other from there.1 in
      let is_name : get_or names walk.at other ≡ name = get_or_from_slice_get names walk.at name other here in
      let low : name.level ≤ (get_or names there.0 other).level =
      subst (λ (n : FileName). n.level ≤ (get_or names there.0 other).level) is_name far.0 in
      absurd (omega (arith, low, ap (λ (n : FileName). n.level) there.2, level, higher))
]

pub none_at_end : (names : List FileName) (after : ℕ) (walk : Walk) → IsWalk names after walk → length names ≤ walk.at
    → (other : FileName) → Contains names other → other.level ≡ walk.level → other.max ≤ after
none_at_end names after walk is end other there level = passed_is names after walk other is there
    (omega (arith, end, there.1)) level

-- no other name of the level that ends beyond the transaction begins earlier or ends earlier
pub first_is_least : (names : List FileName) (after : ℕ) (walk : Walk) (name other : FileName) → IsListOrdered names
    → AreRising names
    → IsWalk names after walk → StandsAt names after walk name → Contains names other → other.level ≡ walk.level
    → after < other.max
    → (name.min ≤ other.min) × (name.max ≤ other.max)
first_is_least names after walk name other up rising is stands there level beyond = elim (cases_lt there.0 walk.at) [
  | inl below ↦ absurd (omega (arith, passed_is names after walk other is there below level, beyond))
  | inr from ↦
      let is_name : get_or names walk.at other ≡ name = get_or_from_slice_get names walk.at name other stands.here in
      let same : (get_or names there.0 other).level ≡ (get_or names walk.at other).level =
      ap (λ (n : FileName). n.level) there.2 ∙ level ∙ sym stands.level
      ∙ sym (ap (λ (n : FileName). n.level) is_name) in (
        omega (
          arith,
          (in_level names up walk.at there.0 other from there.1).1 same,
          ap (λ (n : FileName). n.min)
              is_name,
          ap (λ (n : FileName). n.min) there.2,
        ),
        omega (
          arith,
          rising walk.at there.0 other from there.1 (sym same),
          ap (λ (n : FileName). n.max) is_name,
          ap (λ (n : FileName). n.max) there.2,
        ),
      )
]

-- a name that ends with the transaction itself is the first of its level that does
pub stands_first : (names : List FileName) (t : ℕ) (walk : Walk) (name : FileName) → 0 < t → IsWalk names (t - 1) walk
    → StandsAt names (t - 1) walk name → name.max ≡ t → StandsAtFirst names t walk
stands_first names t walk name positive is stands ends =
    let within = slice_get_within names walk.at name stands.here in
    record {
      within = within;
      level = λ d. ap (λ (n : FileName). n.level) (get_or_from_slice_get names walk.at name d stands.here)
          ∙ stands.level;
      ends = λ d. ap (λ (n : FileName). n.max) (get_or_from_slice_get names walk.at name d stands.here) ∙ ends;
      others = λ k d below level same. absurd
          (omega (arith, is.passed k d below (omega (arith, below, within)) level, same, positive));
    }

-- a later end is no end of the level
pub ends_later : (names : List FileName) (t : ℕ) (walk : Walk) (name : FileName) → 0 < t → IsListOrdered names
    → AreRising names
    → IsWalk names (t - 1) walk → StandsAt names (t - 1) walk name → name.max ≢ t → (other : FileName)
    → Contains names other → other.level ≡ walk.level
    → other.max ≢ t
ends_later names t walk name positive up rising is stands other_end other there level ends =
    let least = first_is_least names (t - 1) walk name other up rising is stands there level
    (omega (arith, ends, positive)) in
    other_end (omega (arith, least.1, ends, stands.beyond, positive))

-- ---- each level

at_index : (walks : List Walk) (i k : ℕ) (walk d : Walk) → i < length walks → (k ≡ i)
    → get_or (set walks i walk) k d ≡ walk
at_index walks i k walk d low e = ap (λ j. get_or (set walks i walk) j d) e ∙ get_or-set_same walks i walk d low

-- one walk went on
pub walks_set : (names : List FileName) (after : ℕ) (walks : List Walk) (i : ℕ) (walk : Walk) (d : Walk)
    → AreWalks names after walks → i < 5
    → walk.level ≡ (get_or walks i d).level → IsWalk names after walk → AreWalks names after (set walks i walk)
walks_set names after walks i walk d are low level is = record {
  all = All-set (IsWalk names after) walks i walk is are.all;
  count = length-set walks i walk ∙ are.count;
  each = λ k e inside. elim (cases_eq k i) [
    | inl same ↦ ap (λ (w : Walk). w.level) (at_index walks i k walk e (omega (arith, low, are.count)) same) ∙ level
        ∙ are.each i d low
        ∙ ap (λ j. get_or levels j 0) (sym same)
    | inr other ↦ ap (λ (w : Walk). w.level) (get_or-set_other walks i k walk e other) ∙ are.each k e inside
  ];
}

walk_later : (names : List FileName) (after later : ℕ) (walk : Walk) → after ≤ later → IsWalk names after walk
    → IsWalk names later walk
walk_later names after later walk up is = record
    { passed = λ k d below inside level. omega (arith, is.passed k d below inside level, up) }

pub walks_later : (names : List FileName) (after later : ℕ) (walks : List Walk) → after ≤ later
    → AreWalks names after walks → AreWalks names later walks
walks_later names after later walks up are = record {
  all = λ k d low. walk_later names after later (get_or walks k d) up (are.all k d low);
  count = are.count;
  each = are.each;
}

each_level : (w0 w1 w2 w3 w4 : Walk) → w0.level ≡ 0 → w1.level ≡ 1 → w2.level ≡ 2 → w3.level ≡ 3 → w4.level ≡ 9
    → (k : ℕ) (d : Walk) → k < 5
    → (get_or (w0 ∷ w1 ∷ w2 ∷ w3 ∷ w4 ∷ []) k d).level ≡ get_or levels k 0
each_level w0 w1 w2 w3 w4 e0 e1 e2 e3 e4 zero d low = e0
each_level w0 w1 w2 w3 w4 e0 e1 e2 e3 e4 (suc zero) d low = e1
each_level w0 w1 w2 w3 w4 e0 e1 e2 e3 e4 (suc (suc zero)) d low = e2
each_level w0 w1 w2 w3 w4 e0 e1 e2 e3 e4 (suc (suc (suc zero))) d low = e3
each_level w0 w1 w2 w3 w4 e0 e1 e2 e3 e4 (suc (suc (suc (suc zero)))) d low = e4
each_level w0 w1 w2 w3 w4 e0 e1 e2 e3 e4 (suc (suc (suc (suc (suc k))))) d low = absurd (omega (arith, low))

pub five_walks : (names : List FileName) (after : ℕ) (w0 w1 w2 w3 w4 : Walk) → w0.level ≡ 0 → w1.level ≡ 1
    → w2.level ≡ 2 → w3.level ≡ 3 → w4.level ≡ 9
    → IsWalk names after w0 → IsWalk names after w1 → IsWalk names after w2 → IsWalk names after w3
    → IsWalk names after w4
    → AreWalks names after (w0 ∷ w1 ∷ w2 ∷ w3 ∷ w4 ∷ [])
five_walks names after w0 w1 w2 w3 w4 e0 e1 e2 e3 e4 i0 i1 i2 i3 i4 =
    let P : Walk → Type 0 = IsWalk names after in
    record {
      all = All-cons P w0 (w1 ∷ w2 ∷ w3 ∷ w4 ∷ []) i0
          (All-cons P w1 (w2 ∷ w3 ∷ w4 ∷ []) i1 (All-cons P w2 (w3 ∷ w4 ∷ []) i2
          (All-cons P w3 (w4 ∷ []) i3 (All-cons P w4 [] i4 (All-nil P)))));
      count = refl;
      each = each_level w0 w1 w2 w3 w4 e0 e1 e2 e3 e4;
    }

-- ---- ends

pub no_later_further : (old new : Option ℕ) (end : ℕ) → IfSome old (IsNoLater new) → IsNoLater old end
    → IsNoLater new end
no_later_further None new end more is = absurd is
no_later_further (Some a) None end more is = absurd more
no_later_further (Some a) (Some b) end more is = omega (arith, more, is)

-- a chain that leads past a transaction has a file that may come next after it
pub record LeadsPast (names : List FileName) (after to : ℕ) : Type 0 where
  pub name : FileName
  pub there : Contains names name
  pub next : MayComeNext after name
  pub within : name.max ≤ to

pub leads_past : (names : List FileName) (after from : ℕ) (chain : List FileName) (to : ℕ) → from ≤ after
    → LeadsTo names from chain to → after < to
    → LeadsPast names after to
leads_past names after from [] to low leads beyond = absurd (omega (arith, low, leads, beyond))
leads_past names after from (name ∷ chain) to low (there, next, leads) beyond = elim (cases_lt after name.max) [
  | inl here ↦ record {
    name = name;
    there = there;
    next = record { begins = omega (arith, next.begins, low); goes_on = here };
    within = leads_up names name.max chain to leads;
  }
  | inr behind ↦ leads_past names after name.max chain to behind leads beyond
]

-- ---- moments

moment_by : (x : Dated) (rest : List Dated) (t : ℕ) (b : Bool) → eqb x.name.max t ≡ b → x.name.max ≡ t
    → cond b (Some x.moment) (moment_of rest t) ≡ Some x.moment
moment_by x rest t true e ends = refl
moment_by x rest t false e ends = absurd (let f : eqb x.name.max t ≡ true = eq-eqb x.name.max t ends in cc)

moment_past : (x : Dated) (rest : List Dated) (t : ℕ) (b : Bool) → eqb x.name.max t ≡ b → x.name.max ≢ t
    → cond b (Some x.moment) (moment_of rest t) ≡ moment_of rest t
moment_past x rest t true e other = absurd (other (eqb-true x.name.max t e))
moment_past x rest t false e other = refl

-- the moment of a transaction is that of the first name which ends with it
pub moment_first : (dated : List Dated) (t k : ℕ) (d : Dated) → k < length dated → (get_or dated k d).name.max ≡ t
    → ((j : ℕ) → j < k → (get_or dated j d).name.max ≢ t) → moment_of dated t ≡ Some (get_or dated k d).moment
moment_first [] t k d low ends others = absurd (omega (arith, low))
moment_first (x ∷ dated) t zero d low ends others = moment_by x dated t (eqb x.name.max t) refl ends
moment_first (x ∷ dated) t (suc k) d low ends others =
    moment_past x dated t (eqb x.name.max t) refl (others zero (omega arith))
    ∙ moment_first dated t k d (omega (arith, low)) ends (λ j below. others (suc j) (omega (arith, below)))

pub moment_none : (dated : List Dated) (t : ℕ) (d : Dated)
    → ((j : ℕ) → j < length dated → (get_or dated j d).name.max ≢ t) → moment_of dated t ≡ None
moment_none [] t d others = refl
moment_none (x ∷ dated) t d others =
    moment_past x dated t (eqb x.name.max t) refl (others zero (omega arith)) ∙ moment_none dated t d
    (λ j below. others (suc j) (omega (arith, below)))

-- the names beside their moments
pub name_at : (dated : List Dated) (k : ℕ) (d : Dated) → k < length dated
    → get_or (names_of dated) k d.name ≡ (get_or dated k d).name
name_at dated k d low = get_or-map (λ (one : Dated). one.name) dated k d d.name low

-- ---- rising ends

-- the ends rise as far as a place, and to it from the name before
pub rising_more : (names : List FileName) (at : ℕ) (before name : FileName) → IsListOrdered names → 0 < at
    → slice_get names (at - 1) ≡ Some before
    → slice_get names at ≡ Some name
    → ((i k : ℕ) (d : FileName) → i ≤ k → k < at → (get_or names k d).level ≡ (get_or names i d).level
    → (get_or names i d).max ≤ (get_or names k d).max)
    → (before.level ≡ name.level → before.max ≤ name.max)
    → (i k : ℕ) (d : FileName) → i ≤ k → k < at + 1 → (get_or names k d).level ≡ (get_or names i d).level
    → (get_or names i d).max ≤ (get_or names k d).max
rising_more names at before name up positive was here rising step i k d behind below same = elim (cases_lt k at) [
  | inl earlier ↦ rising i k d behind earlier same
  | inr last ↦
      let k_is : k ≡ at = omega (arith, below, last) in
      let is_before : get_or names (at - 1) d ≡ before = get_or_from_slice_get names (at - 1) before d was in
      let is_name : get_or names k d ≡ name = ap (λ j. get_or names j d) k_is
      ∙ get_or_from_slice_get names at name d here in
      let inside = slice_get_within names at name here in
      elim (cases_lt i at) [
        | inl early ↦
            let first = in_level names up i (at - 1) d (omega (arith, early)) (omega (arith, inside)) in
            let then_name = in_level names up (at - 1) k d (omega (arith, k_is)) (omega (arith, inside, k_is)) in
            let own : before.level ≡ name.level =
            omega (
              arith,
              first.0,
              then_name.0,
              same,
              ap (λ (n : FileName). n.level) is_before,
              ap (λ (n : FileName). n.level) is_name,
            ) in
            let up_to : (get_or names i d).max ≤ (get_or names (at - 1) d).max =
            rising i (at - 1) d (omega (arith, early)) (omega (arith, positive))
            (omega (
              arith,
              first.0,
              then_name.0,
              same,
              ap (λ (n : FileName). n.level) is_before,
              ap (λ (n : FileName). n.level) is_name,
            )) in
            omega (arith, up_to, step own, ap (λ (n : FileName). n.max) is_before, ap (λ (n : FileName). n.max) is_name)
        | inr late ↦
            let i_is : i ≡ k = omega (arith, late, behind, below) in
            omega (arith, ap (λ j. (get_or names j d).max) i_is)
      ]
]

-- ---- the first name of all that ends with a transaction

named_at : (names : List FileName) (dated : List Dated) (k : ℕ) (d : Dated) → names ≡ names_of dated → k < length dated
    → get_or names k d.name ≡ (get_or dated k d).name
named_at names dated k d same low = ap (λ (ns : List FileName). get_or ns k d.name) same ∙ name_at dated k d low

pub same_length : (names : List FileName) (dated : List Dated) → names ≡ names_of dated → length names ≡ length dated
same_length names dated same = ap length same ∙ length-map dated (λ (one : Dated). one.name)

level_at : (k : ℕ) → k < 5 → (k < 4 → get_or levels k 0 ≡ k) × (k ≡ 4 → get_or levels k 0 ≡ 9)
level_at zero low = (λ _. refl, λ e. absurd (omega (arith, e)))
level_at (suc zero) low = (λ _. refl, λ e. absurd (omega (arith, e)))
level_at (suc (suc zero)) low = (λ _. refl, λ e. absurd (omega (arith, e)))
level_at (suc (suc (suc zero))) low = (λ _. refl, λ e. absurd (omega (arith, e)))
level_at (suc (suc (suc (suc zero)))) low = (λ h. absurd (omega (arith, h)), λ _. refl)
level_at (suc (suc (suc (suc (suc k))))) low = absurd (omega (arith, low))

-- the levels rise
levels_rise : (i k : ℕ) → i ≤ k → k < 5 → get_or levels i 0 ≤ get_or levels k 0
levels_rise i k behind low =
    let first = level_at i (omega (arith, behind, low)) in
    let other = level_at k low in
    elim (cases_lt i 4) [
      | inl early ↦ elim (cases_lt k 4) [
        | inl before ↦ omega (arith, first.0 early, other.0 before, behind)
        | inr last ↦ omega (arith, first.0 early, other.1 (omega (arith, last, low)), early)
      ]
      | inr last ↦ omega (arith, first.1 (omega (arith, last, behind, low)), other.1 (omega (arith, last, behind, low)))
    ]

-- a level below that of a place stands at an earlier place
lower_place : (level at : ℕ) → (place : HasPlace level) → at < 5 → level < get_or levels at 0 → place.place < at
lower_place level at place low lower = elim (cases_lt place.place at) [
  | inl before ↦ before
  | inr behind ↦ absurd (omega (arith, lower, place.is, levels_rise at place.place behind place.below))
]

-- at the first name of its level that ends so, where no lower level has one, the walk stands at the first of all
pub first_of_all : (names : List FileName) (dated : List Dated) (t i : ℕ) (walk : Walk) (d : Dated)
    → names ≡ names_of dated → IsListOrdered names
    → i < 5 → walk.level ≡ get_or levels i 0 → StandsAtFirst names t walk
    → ((k : ℕ) (name : FileName) → k < i → Contains names name → name.level ≡ get_or levels k 0 → name.max ≢ t)
    → ((get_or dated walk.at d).name.max ≡ t) × ((j : ℕ) → j < walk.at → (get_or dated j d).name.max ≢ t)
first_of_all names dated t i walk d same up low level stands none =
    let count = same_length names dated same in (
      sym (ap (λ (n : FileName). n.max) (named_at names dated walk.at d same (omega (arith, stands.within, count))))
          ∙ stands.ends d.name,
      λ j below ends.
          let inside : j < length dated = omega (arith, below, stands.within, count) in
          let one = get_or names j d.name in
          let is = named_at names dated j d same inside in
          let its_end : one.max ≡ t = ap (λ (n : FileName). n.max) is ∙ ends in
          let far = in_level names up j walk.at d.name (omega (arith, below)) stands.within in
          elim (cases_lt one.level walk.level) [
            | inl lower ↦
                let place = place_of one.level one.on_level in
                let there : Contains names one = (
                  j,
                  omega (arith, inside, count),
                  get_or_default names j one d.name
                      (omega (arith, inside, count)),
                ) in
                none place.place one (lower_place one.level i place low (omega (arith, lower, level))) there
                (sym place.is) its_end
            | inr no_lower ↦ stands.others j d.name below (omega (arith, far.0, stands.level d.name, no_lower)) its_end
          ],
    )

pub none_of_all : (names : List FileName) (dated : List Dated) (t : ℕ) → names ≡ names_of dated
    → ((k : ℕ) (name : FileName) → k < 5 → Contains names name → name.level ≡ get_or levels k 0 → name.max ≢ t)
    → moment_of dated t ≡ None
none_of_all names [] t same none = refl
none_of_all names (x ∷ dated) t same none = moment_none (x ∷ dated) t x (λ j low ends.
    let one = get_or names j x.name in
    let is = named_at names (x ∷ dated) j x same low in
    let count = same_length names (x ∷ dated) same in
    let place = place_of one.level one.on_level in
    let there : Contains names one =
    (j, omega (arith, low, count), get_or_default names j one x.name (omega (arith, low, count))) in
    none place.place one place.below there (sym place.is) (ap (λ (n : FileName). n.max) is ∙ ends))
