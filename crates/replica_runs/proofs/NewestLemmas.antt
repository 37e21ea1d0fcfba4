-- The newest transaction of a list of files, and the line of it.
use Rattle.std.proofs.Common.{◌≡◌, ℕ, zero, suc, ◌<◌, ◌≤◌, List, [], ◌∷◌, length, get_or, Bool, true, false, Option}
use Rattle.std.proofs.Common.{Some, None, refl, sym, ap, subst, ◌∙◌, inl, inr, arith}
use Rattle.std.specs.Prelude.{◌==◌, if◌then◌else◌, unwrap_or}
use Rattle.std.specs.FinMap.{get}
use Rattle.std.specs.List.{Contains}
use Rattle.std.proofs.Math.Nat.{max-eq_left, max-eq_right, max-le}
use Rattle.std.proofs.lemmas.Bool.{cases_lt, eqb-true}
use Rattle.std.proofs.lemmas.Bool.Decides.{nat_tests}
use Rattle.std.proofs.lemmas.List.{get_or-map, length-map}
use Rattle.std.proofs.lemmas.List.Recursion.{max_bounds}
use Rattle.crash_disk.specs.Files.{Files}
use Rattle.ls_base.specs.declared.line.Line.{Line}
use Rattle.ls_base.specs.History.{History}
use Rattle.ls_base.specs.SyncLog.{SyncLog, line_of}
use Rattle.ltx_format.specs.declared.header.LtxHeader.{LtxHeader}
use Rattle.ltx_format.specs.LtxFormat.{HasHeader}
use Rattle.ltx_format.proofs.FrontLemmas.{same_header}
use Rattle.replica_store.specs.declared.file_name.FileName.{FileName}
use Rattle.replica_store.specs.Chain.{IsRetained}
use Rattle.replica_store.specs.Dating.{IsHeaderUnder}
use Rattle.replica_store.specs.Faithful.{IsFaithful, IsFaithfulFile}
use Rattle.replica_store.specs.FaithLaws.{line_in}
use Rattle.replica_store.specs.Listing.{AreListed, IsIn, IsValid, bytes_under, path_of, paths_of}
use Rattle.replica_store.specs.Retained.{IsRetainedIn}
use Rattle.replica_store.proofs.ExtendedLemmas.{begins_with_header}
use Rattle.replica_store.proofs.FaithLemmas.{is_path, leads_more, there_with}
use Rattle.replica_store.proofs.PathLemmas.{one_file_name}
use Rattle.replica_runs.specs.Newest.{newest_of, first_ending}
use Rattle.replica_runs.specs.NewestLaws.{NewestIsRecorded}

-- ---- lists of names

here : (x : FileName) (xs : List FileName) → Contains (x ∷ xs) x
here x xs = (0, omega arith, refl)

behind : (x name : FileName) (xs : List FileName) → Contains xs name → Contains (x ∷ xs) name
behind x name xs has = (suc has.0, omega (arith, has.1), has.2)

pub newest_bounds : (names : List FileName) (name : FileName) → Contains names name → name.max ≤ newest_of names
newest_bounds names name has =
    subst (λ (n : FileName). n.max ≤ newest_of names) has.2
    (max_bounds newest_of (λ (n : FileName). n.max) refl (λ x xs. refl) names has.0 name has.1)

newest_least : (names : List FileName) (m : ℕ) → ((name : FileName) → Contains names name → name.max ≤ m)
    → newest_of names ≤ m
newest_least [] m all = omega arith
newest_least (x ∷ xs) m all =
    max-le (all x (here x xs)) (newest_least xs m (λ name has. all name (behind x name xs has)))

attained : (names : List FileName) → 1 ≤ newest_of names
    → (name : FileName) × Contains names name × (name.max ≡ newest_of names)
attained [] some = absurd (omega (arith, some))
attained (x ∷ xs) some = elim (cases_lt x.max (newest_of xs)) [
  | inl less ↦
      let low : 1 ≤ newest_of xs = omega (arith, less) in
      let found = attained xs low in
      let order : x.max ≤ newest_of xs = omega (arith, less) in
      (found.0, behind x found.0 xs found.1, found.2 ∙ sym (max-eq_right order))
  | inr most ↦ (x, here x xs, sym (max-eq_left most))
]

same_name : (a b : FileName) → ◌≡◌ {A = Option FileName} (Some a) (Some b) → a ≡ b
same_name a b e = cc

eqb-same : (n : ℕ) → (n == n) ≡ true
eqb-same n = grind (arith, nat_tests)

by_test : {P : Type 0} (b : Bool) → (b ≡ true → P) → (b ≡ false → P) → P
by_test true f g = f refl
by_test false f g = g refl

-- what is found is there and ends with the transaction
pub first_is : (names : List FileName) (t : ℕ) (name : FileName) → first_ending names t ≡ Some name
    → Contains names name × (name.max ≡ t)
first_is [] t name e = absurd cc
first_is (x ∷ xs) t name e =
    by_test (x.max == t)
    (λ yes.
    let same = same_name x name (sym (ap (λ (b : Bool). if b then Some x else first_ending xs t) yes) ∙ e) in (
      subst (λ (n : FileName). Contains (x ∷ xs) n) same (here x xs),
      subst (λ (n : FileName). n.max ≡ t) same (eqb-true x.max t yes),
    ))
    (λ no.
    let rest = first_is xs t name (sym (ap (λ (b : Bool). if b then Some x else first_ending xs t) no) ∙ e) in
    (behind x name xs rest.0, rest.1))

-- the rest of the list is searched where the first name doesn't end with it
rest_none : (x : FileName) (xs : List FileName) (t : ℕ) → first_ending (x ∷ xs) t ≡ None
    → ((x.max == t) ≡ false) × (first_ending xs t ≡ None)
rest_none x xs t none =
    by_test (x.max == t)
    (λ yes.
    let e : ◌≡◌ {A = Option FileName} (Some x) None
    = sym (ap (λ (b : Bool). if b then Some x else first_ending xs t) yes) ∙ none in absurd cc)
    (λ no. (no, sym (ap (λ (b : Bool). if b then Some x else first_ending xs t) no) ∙ none))

-- where none is found, none ends with it
none_ends : (names : List FileName) (t k : ℕ) (d : FileName) → first_ending names t ≡ None → k < length names
    → (get_or names k d).max ≡ t → ⊥
none_ends [] t k d none within is = absurd (omega (arith, within))
none_ends (x ∷ xs) t zero d none within is =
    let e : true ≡ false = sym (ap (λ (m : ℕ). m == t) is ∙ eqb-same t) ∙ (rest_none x xs t none).0 in absurd cc
none_ends (x ∷ xs) t (suc k) d none within is =
    none_ends xs t k d (rest_none x xs t none).1 (omega (arith, within)) is

pub newest_is_found : (names : List FileName) → 1 ≤ newest_of names → first_ending names (newest_of names) ≡ None → ⊥
newest_is_found names some none =
    let found = attained names some in
    none_ends names (newest_of names) found.1.0 found.0 none found.1.1
    (ap (λ (n : FileName). n.max) found.1.2 ∙ found.2)

-- ---- files that tell the truth

path_in : (names : List FileName) (name : FileName) → Contains names name → Contains (paths_of names) (path_of name)
path_in names name has = (
  has.0,
  omega (arith, has.1, length-map names path_of),
  get_or-map path_of names has.0 name (path_of name) has.1 ∙ ap path_of has.2,
)

-- a name of the list is that of a file
pub listed_in : (files : Files) (names : List FileName) → AreListed files names → (name : FileName)
    → Contains names name → IsIn files name
listed_in files names are name has = record {
  valid = subst IsValid has.2 (are.valid has.0 name has.1);
  there = ((are.each (path_of name)).0 (path_in names name has)).1;
}

-- and a file's name is in the list
pub in_listed : (files : Files) (names : List FileName) → AreListed files names → (name : FileName)
    → IsIn files name → Contains names name
in_listed files names are name is =
    let found = (are.each (path_of name)).1 (is_path name is.valid, is.there) in
    let within : found.0 < length names = omega (arith, found.1, length-map names path_of) in
    let other = get_or names found.0 name in
    let same : path_of other ≡ path_of name
    = sym (get_or-map path_of names found.0 name (path_of name) within) ∙ found.2 in
    (found.0, within, one_file_name other name (are.valid found.0 name within) is.valid same)

module _ (files : Files) (history : History) (log : SyncLog) (faithful : IsFaithful files history log)
    (names : List FileName) (are : AreListed files names) where
  newest_is_last : newest_of names ≡ length log
  newest_is_last =
      let up = newest_least names (length log) (λ name has. faithful.within name (listed_in files names are name has))
      in
      elim (cases_lt 0 (length log)) [
        | inl some ↦
            let last = faithful.reached some in
            let low = newest_bounds names last.0 (in_listed files names are last.0 last.1) in
            omega (arith, up, low, last.2)
        | inr none ↦ omega (arith, up, none)
      ]

  retained_here : (t : ℕ) → IsRetained names t → IsRetainedIn files t
  retained_here t is = record {
    positive = is.positive;
    chain = is.chain;
    leads = leads_more (Contains names) (IsIn files) (listed_in files names are) 0 is.chain t is.leads;
  }

  retained_listed : (t : ℕ) → IsRetainedIn files t → IsRetained names t
  retained_listed t is = record {
    positive = is.positive;
    chain = is.chain;
    leads = leads_more (IsIn files) (Contains names) (in_listed files names are) 0 is.chain t is.leads;
  }

  -- the header under a name tells the line of its last transaction
  line_told : (name : FileName) (header : LtxHeader) → IsIn files name → IsHeaderUnder files name header
      → line_of log name.max ≡ Some (record { place = header.place; moment = header.moment })
  line_told name header is under =
      there_with (get files (path_of name)) is.there
      (λ bytes found.
      let own : IsFaithfulFile history log name.min name.max bytes = faithful.each name bytes is.valid found in
      let begins = begins_with_header bytes own.header own.change own.file.file in
      let its : bytes_under files (path_of name) ≡ bytes = ap (λ (file : Option (List ℕ)). unwrap_or file []) found in
      let one : own.header ≡ header
      = same_header bytes own.header header begins (subst (λ (b : List ℕ). HasHeader b header) its under.has) in
      own.line ∙ ap (λ (h : LtxHeader). Some (line_in h)) one)

pub newest_is_recorded : NewestIsRecorded
newest_is_recorded files history log None faithful lacks = λ retained.
    lacks.lacks
    (retained_listed files history log faithful lacks.names lacks.listed (newest_of lacks.names)
    (subst (IsRetainedIn files) (sym (newest_is_last files history log faithful lacks.names lacks.listed)) retained))
newest_is_recorded files history log (Some line) faithful tells =
    let file = tells.is in
    let names = file.names in
    let last = newest_is_last files history log faithful names file.listed in
    let found = first_is names (newest_of names) tells.name file.is.first in
    let there = listed_in files names file.listed tells.name found.0 in (
      subst (IsRetainedIn files) last
          (retained_here files history log faithful names file.listed (newest_of names) file.is.retained),
      ap (line_of log) (sym last ∙ sym found.1)
          ∙ line_told files history log faithful names file.listed tells.name tells.header there tells.under
          ∙ ap (λ (l : Line). Some l) (sym tells.told),
    )
