-- The list of a replica's files, with one file more.
use Rattle.std.proofs.Common.{◌≡◌, ◌≢◌, ℕ, zero, suc, ◌<◌, List, [], ◌∷◌, length, get_or, slice_get, true, false}
use Rattle.std.proofs.Common.{Option, Some, None, refl, sym, ap, subst, ◌∙◌, inl, inr, arith}
use Rattle.std.specs.Prelude.{◌⊎◌, IsSome, is_some, unwrap_or}
use Rattle.std.specs.FinMap.{get}
use Rattle.std.specs.List.{AllByRecursion, Contains}
use Rattle.std.specs.List.Sorted.{IsPermutation}
use Rattle.std.proofs.lemmas.List.Elements.{All-cons}
use Rattle.std.proofs.lemmas.List.Sorted.{All-permutation, Contains-permutation, IsPermutation-map, IsPermutation-sym}
use Rattle.std.proofs.lemmas.Map.Keys.{IsDistinct-cons, IsDistinct-IsPermutation}
use Rattle.std.proofs.lemmas.List.{get_or-map, length-map}
use Rattle.std.specs.Cmp.{eq_by_cmp_equiv}
use Rattle.std.specs.Cmp.Lexicographic.{nat_list_cmp_total}
use Rattle.crash_disk.specs.Files.{Files, files_after, is_name}
use Rattle.crash_disk.specs.Told.{Told, IfTold}
use Rattle.crash_disk.proofs.FileLaws.{is_name-other}
use Rattle.crash_disk.proofs.NumberLaws.{by_names}
use Rattle.ls_base.proofs.StateLemmas.{all_at, all_from_elements}
use Rattle.ltx_format.specs.declared.header.LtxHeader.{LtxHeader}
use Rattle.ltx_format.specs.LtxFormat.{HasHeader}
use Rattle.replica_store.specs.declared.dated_names.Dated.{Dated}
use Rattle.replica_store.specs.declared.file_name.FileName.{FileName}
use Rattle.replica_store.specs.Chain.{IsListOrdered, IsRetained, names_of}
use Rattle.replica_store.specs.Dating.{HaveMoments, IsHeaderUnder, TellsDated}
use Rattle.replica_store.specs.Listing.{AreListed, IsFilePath, IsIn, IsValid, path_of, paths_of}
use Rattle.replica_store.specs.Retained.{IsRetainedIn}
use Rattle.replica_store.proofs.FaithLemmas.{is_path, is_there, leads_more}
use Rattle.replica_store.proofs.PathLemmas.{one_file_name}
use Rattle.replica_upkeep.proofs.StandingLemmas.{contained_at, contains_at}
use Rattle.replica_upkeep.specs.Kept.{AreFiles}
use Rattle.replica_upkeep.specs.Levels.{IsWith}

-- under the name that wasn't there stand these bytes, and under the others what stood
pub record IsMore (before now : Files) (name : FileName) (bytes : List ℕ) : Type 0 where
  pub valid : IsValid name
  pub absent : get before (path_of name) ≡ None
  pub there : get now (path_of name) ≡ Some bytes
  pub others : (q : List ℕ) → IsFilePath q → q ≢ path_of name → get now q ≡ get before q

flips : (q r : List ℕ) → is_name q r ≡ is_name r q
flips q r = (eq_by_cmp_equiv nat_list_cmp_total).symm q r

apart_from_all : (p : List ℕ) (paths : List (List ℕ)) → ((q : List ℕ) → Contains paths q → q ≢ p)
    → AllByRecursion (λ y. is_name p y ≡ false) paths
apart_from_all p [] other = tt
apart_from_all p (q ∷ paths) other = (
  is_name-other p q (λ same. other q (zero, omega arith, refl) (sym same)),
  apart_from_all p paths (λ r has. other r (suc has.0, omega (arith, has.1), has.2)),
)

pub head_or_tail : {X : Type 0} (x y : X) (xs : List X) → Contains (x ∷ xs) y → (x ≡ y) ⊎ Contains xs y
head_or_tail x y xs (zero, low, is) = inl is
head_or_tail x y xs (suc k, low, is) = inr (k, omega (arith, low), is)

in_tail : {X : Type 0} (x y : X) (xs : List X) → Contains xs y → Contains (x ∷ xs) y
in_tail x y xs has = (suc has.0, omega (arith, has.1), has.2)

-- ---- the list

pub path_in : (names : List FileName) (name : FileName) → Contains names name → Contains (paths_of names) (path_of name)
path_in names name has = (
  has.0,
  omega (arith, has.1, length-map names path_of),
  get_or-map path_of names has.0 name (path_of name) has.1 ∙ ap path_of has.2,
)

-- a name of the list is that of a file, and a file's name is in the list
pub listed_in : (files : Files) (names : List FileName) → AreListed files names → (name : FileName)
    → Contains names name
    → IsIn files name
listed_in files names are name has = record {
  valid = subst IsValid has.2 (are.valid has.0 name has.1);
  there = ((are.each (path_of name)).0 (path_in names name has)).1;
}

pub in_listed : (files : Files) (names : List FileName) → AreListed files names → (name : FileName) → IsIn files name
    → Contains names name
in_listed files names are name is =
    let found = (are.each (path_of name)).1 (is_path name is.valid, is.there) in
    let within : found.0 < length names = omega (arith, found.1, length-map names path_of) in
    let other = get_or names found.0 name in
    let same : path_of other ≡ path_of name
    = sym (get_or-map path_of names found.0 name (path_of name) within) ∙ found.2 in
    (found.0, within, one_file_name other name (are.valid found.0 name within) is.valid same)

pub retained_listed : (files : Files) (names : List FileName) → AreListed files names → (t : ℕ) → IsRetainedIn files t
    → IsRetained names t
retained_listed files names are t is = record {
  positive = is.positive;
  chain = is.chain;
  leads = leads_more (IsIn files) (Contains names) (in_listed files names are) 0 is.chain t is.leads;
}

-- ---- one more

module _ (before now : Files) (name : FileName) (bytes : List ℕ) (names longer : List FileName)
    (more : IsMore before now name bytes)
    (are : AreListed before names) (moved : IsPermutation (name ∷ names) longer) where
  abbrev path : List ℕ
  path = path_of name

  differs : (q : List ℕ) → Contains (paths_of names) q → q ≢ path
  differs q has same =
      let some = ((are.each q).0 has).1 in
      let none : get before q ≡ None = ap (get before) same ∙ more.absent in
      let e : false ≡ true = subst (λ (o : Option (List ℕ)). is_some o ≡ true) none some in absurd cc

  paths : IsPermutation (path ∷ paths_of names) (paths_of longer)
  paths = IsPermutation-map path_of (name ∷ names) longer moved

  to_listed : (q : List ℕ) → Contains (paths_of longer) q → IsFilePath q × IsSome (get now q)
  to_listed q has =
      let found = Contains-permutation (paths_of longer) (path ∷ paths_of names) q (IsPermutation-sym _ _ paths) has in
      elim (head_or_tail path q (paths_of names) found) [
        | inl is ↦ (
          subst IsFilePath is (is_path name more.valid),
          subst (λ (r : List ℕ). IsSome (get now r)) is (is_there (get now path) bytes more.there),
        )
        | inr old ↦
            let was = (are.each q).0 old in
            (was.0, ap is_some (more.others q was.0 (differs q old)) ∙ was.1)
      ]

  from_listed : (q : List ℕ) → IsFilePath q → IsSome (get now q) → Contains (paths_of longer) q
  from_listed q is some =
      Contains-permutation (path ∷ paths_of names) (paths_of longer) q paths
      (by_names q path (λ same. (zero, omega arith, sym same))
      (λ other. in_tail path q (paths_of names) ((are.each q).1
      (is, ap is_some (sym (more.others q is other)) ∙ some))))

  pub listed_more : IsListOrdered longer → AreListed now longer
  listed_more ordered = record {
    ordered = ordered;
    valid = All-permutation IsValid (name ∷ names) longer moved (All-cons IsValid name names more.valid are.valid);
    once = IsDistinct-IsPermutation is_name flips (path ∷ paths_of names) (paths_of longer) paths
        (IsDistinct-cons is_name path (paths_of names) (apart_from_all path (paths_of names) differs) are.once);
    each = λ q. (to_listed q, λ is. from_listed q is.0 is.1);
  }

-- ---- moments

-- a file's header is told again where its bytes stay
pub header_kept : (before now : Files) (name : FileName) (header : LtxHeader)
    → get now (path_of name) ≡ get before (path_of name)
    → IsHeaderUnder before name header → IsHeaderUnder now name header
header_kept before now name header same is = record {
  has = subst (λ (b : List ℕ). HasHeader b header) (sym (ap (λ (o : Option (List ℕ)). unwrap_or o []) same)) is.has;
  from_min = is.from_min;
  to_max = is.to_max;
}

abbrev pub TellsMoment : Files → Dated → Type 0
TellsMoment files d = (header : LtxHeader) × IsHeaderUnder files d.name header × (header.moment ≡ d.moment)

pub moments_kept : (before now : Files) (dated : List Dated)
    → ((name : FileName) → Contains (names_of dated) name → get now (path_of name) ≡ get before (path_of name))
    → HaveMoments before dated → HaveMoments now dated
moments_kept before now [] same has = tt
moments_kept before now (d ∷ dated) same (own, has) = (
  (own.0, header_kept before now d.name own.0 (same d.name (zero, omega arith, refl)) own.1, own.2),
  moments_kept before now dated (λ name there. same name (in_tail d.name name (names_of dated) there)) has,
)

-- the moment of a name in the list
pub header_of_one : (files : Files) (dated : List Dated) (k : ℕ) (d : Dated) → HaveMoments files dated
    → slice_get dated k ≡ Some d
    → TellsMoment files d
header_of_one files dated k d has at = all_at (TellsMoment files) dated k d has at

moments_moved : (files : Files) (dated longer : List Dated) → IsPermutation dated longer → HaveMoments files dated
    → HaveMoments files longer
moments_moved files dated longer moved has =
    all_from_elements (TellsMoment files) longer
    (λ k d at.
    let found = Contains-permutation longer dated d (IsPermutation-sym dated longer moved) (contains_at longer k d at)
    in
    let place = contained_at dated d found in
    all_at (TellsMoment files) dated place.0 d has place.1)

module _ (before now : Files) (one : Dated) (bytes : List ℕ) (dated longer : List Dated)
    (more : IsMore before now one.name bytes)
    (files : AreFiles before dated) (with : IsWith dated one longer) where
  same_bytes : (name : FileName) → Contains (names_of dated) name → get now (path_of name) ≡ get before (path_of name)
  same_bytes name has =
      let there = listed_in before (names_of dated) files.listed name has in
      more.others (path_of name) (is_path name there.valid)
      (λ same.
      let none : get before (path_of name) ≡ None = ap (get before) same ∙ more.absent in
      let e : false ≡ true = subst (λ (o : Option (List ℕ)). is_some o ≡ true) none there.there in absurd cc)

  pub files_more : (header : LtxHeader) → IsHeaderUnder now one.name header → header.moment ≡ one.moment
      → AreFiles now longer
  files_more header under moment = record {
    listed = listed_more before now one.name bytes (names_of dated) (names_of longer) more files.listed
        (IsPermutation-map (λ (d : Dated). d.name) (one ∷ dated) longer with.same) with.ordered;
    moments = moments_moved now (one ∷ dated) longer with.same
        ((header, under, moment), moments_kept before now dated same_bytes files.moments);
  }

-- ---- for callers

-- names that were listed, with their moments, are the files
pub listed_files : (old mid new : Told) (names seen : List FileName) (dated : List Dated)
    → IfTold old (λ events. AreListed (files_after events) names) → mid ≡ old → seen ≡ names → TellsDated mid seen dated
    → new ≡ mid → IfTold new (λ events. AreFiles (files_after events) dated)
listed_files old mid new names seen dated listed first same tells second events told =
    let at_mid : mid ≡ Some events = sym second ∙ told in
    let is = tells events at_mid in
    record {
      listed = subst (λ (ns : List FileName). AreListed (files_after events) ns) (sym (is.names_are ∙ same))
          (listed events (sym first ∙ at_mid));
      moments = is.moments;
    }
