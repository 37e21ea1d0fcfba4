-- Headers that are read one after another.
use Rattle.std.proofs.Common.{◌≡◌, ◌≢◌, ℕ, suc, ◌+◌, ◌-◌, ◌<◌, ◌≤◌, min, take, drop, get_or, List, [], ◌∷◌, ◌++◌}
use Rattle.std.proofs.Common.{length, Bool, true, false, not, eqb, refl, sym, ap, subst, ◌∙◌, arith}
use Rattle.std.proofs.Math.Seq.{take-suc, take-length, take-append_seam, drop-cons}
use Rattle.std.proofs.lemmas.Bool.{eqb-true}
use Rattle.std.proofs.lemmas.Bool.Decides.{nat_tests}
use Rattle.std.proofs.lemmas.List.{length-take, take_min, take_all, take-append-drop}
use Rattle.crash_disk.specs.declared.event.Event.{Event}
use Rattle.crash_disk.specs.Files.{Files, IsReadOf, files_after}
use Rattle.crash_disk.specs.Told.{Told, IfTold}
use Rattle.std.specs.Prelude.{Result, Ok, Err, IfErr, IsErrAnd}
use Rattle.ltx_format.specs.declared.header.LtxHeader.{LtxHeader}
use Rattle.ltx_format.specs.FirstFault.{header_fault}
use Rattle.ltx_format.specs.LtxFormat.{HasHeader}
use Rattle.replica_store.specs.declared.dated_names.Dated.{Dated}
use Rattle.replica_store.specs.declared.error.Damage.{Damage}
use Rattle.replica_store.specs.declared.error.StoreError.{StoreError}
use Rattle.replica_store.specs.declared.error.StoreError.TheVariants.{Store, Damaged, Memory}
use Rattle.replica_store.specs.declared.file_name.FileName.{FileName}
use Rattle.replica_store.specs.Chain.{names_of}
use Rattle.replica_store.specs.Dating.{HaveMoments, AreDated, AreDatedTo, IsHeaderUnder, IsHeaderDamage}
use Rattle.replica_store.specs.Dating.{IsFirstBadHeader, ExplainsHeader, ExplainsDated}
use Rattle.replica_store.specs.Listing.{bytes_under}

-- what was read into the front of a buffer of 100 bytes
pub front_read : (events : List Event) (path old new : List ℕ) (n : ℕ) → length old ≡ 100
    → IsReadOf events path 0 old new n → take n new ≡ take 100 (bytes_under (files_after events) path)
front_read events path old new n room read =
    let file = bytes_under (files_after events) path in
    let none_off : length file - 0 ≡ length file = omega arith in
    let count : n ≡ min 100 (length file) = read.count ∙ ap (λ k. min k (length file - 0)) room
    ∙ ap (min 100) none_off in
    let short : length (take n file) ≡ n = length-take n file ∙ omega (arith, count) in
    ap (take n) read.bytes ∙ ap (λ k. take k (take n file ++ drop n old)) (sym short)
    ∙ take-append_seam (take n file) (drop n old) ∙ ap (λ k. take k file) count ∙ take_min 100 file

twice : (k : ℕ) (xs : List ℕ) → take k (take k xs) ≡ take k xs
twice k xs = sym (take_min k (take k xs)) ∙ ap (λ n. take n (take k xs))
    (ap (min k) (length-take k xs) ∙ omega arith ∙ sym (length-take k xs)) ∙ take-length (take k xs)

-- a front of 100 bytes is the header that the whole has
pub header_of_front : (front whole : List ℕ) (h : LtxHeader) → front ≡ take 100 whole → HasHeader front h
    → HasHeader whole h
header_of_front front whole h is has = record
    { header = has.header; spelled = sym (twice 100 whole) ∙ sym (ap (take 100) is) ∙ has.spelled }

-- and it has the fault that the whole has
pub fault_of_front : (front whole : List ℕ) → front ≡ take 100 whole
    → header_fault (take 100 front) ≡ header_fault (take 100 whole)
fault_of_front front whole is = ap header_fault (ap (take 100) is ∙ twice 100 whole)

-- ---- one header more

moments_more : (files : Files) (dated : List Dated) (d : Dated) (h : LtxHeader) → HaveMoments files dated
    → IsHeaderUnder files d.name h → h.moment ≡ d.moment → HaveMoments files (dated ++ d ∷ [])
moments_more files [] d h moments is moment = ((h, is, moment), tt)
moments_more files (first ∷ dated) d h moments is moment = (moments.0, moments_more files dated d h moments.1 is moment)

names_more : (dated : List Dated) (d : Dated) → names_of (dated ++ d ∷ []) ≡ names_of dated ++ d.name ∷ []
names_more [] d = refl
names_more (first ∷ dated) d = ap (λ ns. first.name ∷ ns) (names_more dated d)

pub names_to : (names : List FileName) (at : ℕ) (dated after : List Dated) (name : FileName) (moment : ℕ)
    → at < length names → name ≡ get_or names at name → names_of dated ≡ take at names
    → after ≡ dated ++ record { name = name; moment = moment } ∷ [] → names_of after ≡ take (at + 1) names
names_to names at dated after name moment below is so_far after-is =
    let d : Dated = record { name = name; moment = moment } in
    let next : at + 1 ≡ suc at = omega arith in
    ap names_of after-is ∙ names_more dated d ∙ ap (λ ns. ns ++ name ∷ []) so_far
    ∙ ap (λ n. take at names ++ n ∷ []) is ∙ sym (take-suc names at name below) ∙ ap (λ k. take k names) (sym next)

pub dated_more : (files : Files) (names : List FileName) (at : ℕ) (dated after : List Dated) (name : FileName)
    (h : LtxHeader) → at < length names → name ≡ get_or names at name
    → AreDatedTo files names at dated → IsHeaderUnder files name h
    → after ≡ dated ++ record { name = name; moment = h.moment } ∷ [] → AreDatedTo files names (at + 1) after
dated_more files names at dated after name h below is so_far header after-is =
    let d : Dated = record { name = name; moment = h.moment } in
    let next : at + 1 ≡ suc at = omega arith in
    record {
      names_are = ap names_of after-is ∙ names_more dated d ∙ ap (λ ns. ns ++ name ∷ []) so_far.names_are
          ∙ ap (λ n. take at names ++ n ∷ []) is ∙ sym (take-suc names at name below)
          ∙ ap (λ k. take k names) (sym next);
      moments = subst (HaveMoments files) (sym after-is) (moments_more files dated d h so_far.moments header refl);
    }

pub dated_all : (files : Files) (names : List FileName) (dated : List Dated) (at : ℕ) → length names ≤ at
    → AreDatedTo files names at dated → AreDated files names dated
dated_all files names dated at all so_far = record
    { names_are = so_far.names_are ∙ take_all at names all; moments = so_far.moments }

pub bad_header : (files : Files) (names : List FileName) (at : ℕ) (dated : List Dated) (name : FileName)
    (damage : Damage) → at < length names → name ≡ get_or names at name
    → AreDatedTo files names at dated → IsHeaderDamage files name damage → IsFirstBadHeader files names name damage
bad_header files names at dated name damage below is so_far damaged = record {
  before = dated;
  after = drop (suc at) names;
  split = sym (take-append-drop at names) ∙ ap (λ rest. take at names ++ rest)
      (drop-cons names at name below ∙ ap (λ n. n ∷ drop (suc at) names) (sym is))
      ∙ ap (λ ns. ns ++ name ∷ drop (suc at) names) (sym so_far.names_are);
  moments = so_far.moments;
  damaged = damaged;
}

by_test : {P : Type 0} (x : Bool) → (x ≡ true → P) → (x ≡ false → P) → P
by_test true f g = f refl
by_test false f g = g refl

eqb-same : (n : ℕ) → eqb n n ≡ true
eqb-same n = grind (arith, nat_tests)

pub numbers_equal : (a b : ℕ) → false ≡ not (eqb a b) → a ≡ b
numbers_equal a b e = by_test (eqb a b) (λ yes. eqb-true a b yes)
    (λ no. let bad : false ≡ true = e ∙ ap not no in absurd cc)

pub numbers_differ : (a b : ℕ) → true ≡ not (eqb a b) → a ≢ b
numbers_differ a b e same = let bad : true ≡ false = e ∙ ap not (ap (eqb a) (sym same) ∙ eqb-same a) in absurd cc

-- why the headers of the names were not read, where the next one wasn't
pub dated_error : (store now : Told) (names : List FileName) (at : ℕ) (dated : List Dated) (name : FileName)
    (error : StoreError) → at < length names → name ≡ get_or names at name → now ≡ store
    → IfTold store (λ events. AreDatedTo (files_after events) names at dated) → ExplainsHeader now name error
    → ExplainsDated store names error
dated_error store now names at dated name (Damaged other damage) below is same so_far explained = λ events told.
    subst (λ n. IsFirstBadHeader (files_after events) names n damage) (sym explained.0)
    (bad_header (files_after events) names at dated name damage below is (so_far events told)
    (explained.1 events (same ∙ told)))
dated_error store now names at dated name (Store fault) below is same so_far explained = tt
dated_error store now names at dated name Memory below is same so_far explained = absurd explained

-- an error that goes on as it is
pub error_goes_on : {T : Type 0} (r : Result T StoreError) (e : StoreError) (P : StoreError → Type 0) → IsErrAnd r
    (λ other. other ≡ e) → P e → IfErr r P
error_goes_on (Ok x) e P is holds = absurd is
error_goes_on (Err other) e P is holds = subst P (sym is) holds
