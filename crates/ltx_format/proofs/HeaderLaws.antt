-- The laws of the reader of headers.
use Rattle.std.proofs.Common.{◌≡◌, ℕ, zero, suc, ◌*◌, ◌^◌, ◌<◌, ◌≤◌, Bool, true, false, cond, eqb, leb, ltb, not, ◌&&◌}
use Rattle.std.proofs.Common.{List, ◌++◌, length, Result, Ok, Err, refl, sym, ap, subst, ◌∙◌, arith}
use Rattle.std.specs.Prelude.{replicate}
use Rattle.std.specs.Int.{w32, w64, to_be_bytes}
use Rattle.std.proofs.Math.Nat.{pow-le-pow_right, mul-le-mul_left}
use Rattle.std.proofs.lemmas.Bool.{and_parts, not-true, eqb-false, ne_eqb, leb-true, le-leb, le-ltb}
use Rattle.std.proofs.lemmas.List.{length-append}
use Rattle.ls_base.specs.PageSize.{IsPageSize, is_page_size}
use Rattle.ls_base.specs.Limits.{database_limit}
use Rattle.ls_base.proofs.PageSizeLemmas.{size_from_test, test_passes}
use Rattle.ls_base.specs.declared.place.Place.{Place}
use Rattle.ls_base.specs.declared.place.Place.TheVariants.{Wal, Rest}
use Rattle.ltx_format.specs.declared.fault.LtxFault.{LtxFault}
use Rattle.ltx_format.specs.declared.fault.LtxFault.TheVariants.{Short, BadMagic, BadPageSize, BadCommit, BadRange}
use Rattle.ltx_format.specs.declared.fault.LtxFault.TheVariants.{BadReserved}
use Rattle.ltx_format.specs.declared.header.LtxHeader.{LtxHeader}
use Rattle.ltx_format.specs.LtxFormat.{log_fields, sum_fields, header_flags, header_bytes, IsHeader}
use Rattle.ltx_format.specs.Reading.{number_at, behind, flags_from, size_from, commit_at, range_from, place_at}
use Rattle.ltx_format.specs.Reading.{fields_at, header_at}
use Rattle.ltx_format.proofs.StepLemmas.{bind_then, where_true-ok, same_ok}
use Rattle.ltx_format.proofs.FieldLaws.{AreBytes, BeginsWith, numbers32, numbers64, number-read, number-again}
use Rattle.ltx_format.proofs.FieldLaws.{behind-read, behind-again, flags-read, flags-again, flags_fit, flags_even}
use Rattle.ltx_format.proofs.FieldLaws.{flags_tell}
use Rattle.ltx_format.proofs.PlaceLaws.{place_fields, place-read, place-again}

-- ---- its own fields

positive : (n : ℕ) → (n ≡ 0 → ⊥) → 1 ≤ n
positive zero ne = absurd (ne refl)
positive (suc n) ne = omega arith

size-read : (number size : ℕ) → size_from number ≡ Ok size → IsPageSize size × (number ≡ size)
unfolding size_from
size-read number size e =
    let a = where_true-ok (is_page_size number) BadPageSize number size e in
    (subst IsPageSize a.1 (size_from_test number a.0), a.1)

size-again : (size : ℕ) → IsPageSize size → size_from size ≡ Ok size
unfolding size_from
size-again size is = rw (test_passes size is) refl

pub size_bounds : (size : ℕ) → IsPageSize size → (0 < size) × (size < 2 ^ 32)
size_bounds size is =
    let low : 2 ^ 9 ≤ 2 ^ is.0 = pow-le-pow_right {n = 2} (omega arith) is.1 in
    let high : 2 ^ is.0 ≤ 2 ^ 16 = pow-le-pow_right {n = 2} (omega arith) is.2 in
    let power = is.3 in
    (omega (arith, low, power), omega (arith, high, power))

-- so many pages fit a field of 32 bits
pub commit_fits : (size commit : ℕ) → IsPageSize size → commit * size ≤ database_limit → commit < 2 ^ 32
commit_fits size commit is small =
    let low : 2 ^ 9 ≤ 2 ^ is.0 = pow-le-pow_right {n = 2} (omega arith) is.1 in
    let power = is.3 in
    let least : commit * 512 ≤ commit * size = mul-le-mul_left commit (omega (arith, low, power)) in
    omega (arith, least, small)

commit-read : (size : ℕ) (bytes : List ℕ) (x : ℕ × List ℕ) → AreBytes bytes → commit_at size bytes ≡ Ok x
    → BeginsWith bytes (to_be_bytes w32 x.0) x.1 × (1 ≤ x.0) × (x.0 * size ≤ database_limit)
unfolding commit_at
commit-read size bytes x small e =
    bind_then (number_at w32 bytes) _ x e (λ n n_is e.
    let tests = where_true-ok (not (eqb n.0 0) && leb (n.0 * size) (database_limit)) BadCommit n x e in
    let parts = and_parts (not (eqb n.0 0)) (leb (n.0 * size) (database_limit)) tests.0 in
    let some = eqb-false n.0 0 (not-true _ parts.0) in
    let read = number-read numbers32 bytes n small n_is in
    subst (λ (y : ℕ × List ℕ). BeginsWith bytes (to_be_bytes w32 y.0) y.1 × (1 ≤ y.0) × (y.0 * size ≤ database_limit))
    tests.1 (read.0, positive n.0 some, leb-true _ _ parts.1))

commit-again : (size commit : ℕ) (rest : List ℕ) → IsPageSize size → 1 ≤ commit → commit * size ≤ database_limit
    → commit_at size (to_be_bytes w32 commit ++ rest) ≡ Ok (commit, rest)
unfolding commit_at
commit-again size commit rest is some small =
    rw (
      number-again numbers32 commit rest (commit_fits size commit is small),
      ne_eqb commit 0 (λ e. omega arith),
      le-leb _ _ small,
    ) refl

range-read : (min max : ℕ) (range : ℕ × ℕ) → range_from min max ≡ Ok range → (1 ≤ range.0) × (range.0 ≤ range.1)
    × (min ≡ range.0) × (max ≡ range.1)
unfolding range_from
range-read min max range e =
    let tests = where_true-ok (not (eqb min 0) && leb min max) BadRange (min, max) range e in
    let parts = and_parts (not (eqb min 0)) (leb min max) tests.0 in
    subst (λ (y : ℕ × ℕ). (1 ≤ y.0) × (y.0 ≤ y.1) × (min ≡ y.0) × (max ≡ y.1)) tests.1
    (positive min (eqb-false min 0 (not-true _ parts.0)), leb-true _ _ parts.1, refl, refl)

range-again : (min max : ℕ) → 1 ≤ min → min ≤ max → range_from min max ≡ Ok (min, max)
unfolding range_from
range-again min max some in_order = rw (ne_eqb min 0 (λ e. omega arith), le-leb _ _ in_order) refl

-- ---- the whole

tail_spelled : (place : Place) (rest : List ℕ) → (log_fields place ++ replicate 8 0 ++ sum_fields place
    ++ replicate 12 0) ++ rest ≡ place_fields place ++ (to_be_bytes w64 0 ++ (to_be_bytes w32 0 ++ rest))
tail_spelled (Wal salt1 salt2 end s0 s1) rest = refl
tail_spelled (Rest sum) rest = refl

fields_long : (place : Place) → length (log_fields place ++ replicate 8 0 ++ sum_fields place ++ replicate 12 0) ≡ 52
fields_long (Wal salt1 salt2 end s0 s1) = refl
fields_long (Rest sum) = refl

abbrev front_fields : ℕ → ℕ → ℕ → ℕ → ℕ → ℕ → List ℕ → List ℕ
front_fields flags size commit min max moment rest =
    to_be_bytes w32 0x4c54_5831 ++ to_be_bytes w32 flags ++ to_be_bytes w32 size ++ to_be_bytes w32 commit
    ++ to_be_bytes w64 min ++ to_be_bytes w64 max ++ to_be_bytes w64 moment ++ to_be_bytes w64 0 ++ rest

header_spelled : (h : LtxHeader) (rest : List ℕ) → header_bytes h
    ++ rest ≡ front_fields (header_flags h.index) h.size h.commit h.min h.max h.moment
    (place_fields h.place ++ (to_be_bytes w64 0 ++ (to_be_bytes w32 0 ++ rest)))
unfolding header_bytes
header_spelled h rest = ap (front_fields (header_flags h.index) h.size h.commit h.min h.max h.moment)
    (tail_spelled h.place rest)

pub joined : (x : List ℕ) {a b c : List ℕ} → a ≡ x ++ b → b ≡ c → a ≡ x ++ c
joined x first second = first ∙ ap (λ (y : List ℕ). x ++ y) second

fields-read : (bytes : List ℕ) (x : LtxHeader × List ℕ) → AreBytes bytes → fields_at bytes ≡ Ok x
    → BeginsWith bytes (header_bytes x.0) x.1 × IsHeader x.0
unfolding fields_at
fields-read bytes x small e =
    bind_then (behind w32 0x4c54_5831 BadMagic bytes) _ x e (λ magic magic_is e.
    bind_then (number_at w32 magic) _ x e (λ flags flags_is e.
    bind_then (flags_from (header_flags (eqb flags.0 6)) flags.0) _ x e (λ plain plain_is e.
    bind_then (number_at w32 flags.1) _ x e (λ field field_is e.
    bind_then (size_from field.0) _ x e (λ size size_is e.
    bind_then (commit_at size field.1) _ x e (λ commit commit_is e.
    bind_then (number_at w64 commit.1) _ x e (λ min min_is e.
    bind_then (number_at w64 min.1) _ x e (λ max max_is e.
    bind_then (range_from min.0 max.0) _ x e (λ range range_is e.
    bind_then (number_at w64 max.1) _ x e (λ moment moment_is e.
    bind_then (behind w64 0 BadReserved moment.1) _ x e (λ log log_is e.
    bind_then (place_at size log) _ x e (λ place place_is e.
    bind_then (behind w64 0 BadReserved place.1) _ x e (λ free free_is e.
    bind_then (behind w32 0 BadReserved free) _ x e (λ rest rest_is e.
    let a = behind-read numbers32 0x4c54_5831 BadMagic bytes magic small magic_is in
    let b = number-read numbers32 magic flags a.small flags_is in
    let c = number-read numbers32 flags.1 field b.0.small field_is in
    let d = size-read field.0 size size_is in
    let f = commit-read size field.1 commit c.0.small commit_is in
    let g = number-read numbers64 commit.1 min f.0.small min_is in
    let i = number-read numbers64 min.1 max g.0.small max_is in
    let j = range-read min.0 max.0 range range_is in
    let k = number-read numbers64 max.1 moment i.0.small moment_is in
    let l = behind-read numbers64 0 BadReserved moment.1 log k.0.small log_is in
    let m = place-read size log place l.small place_is in
    let n = behind-read numbers64 0 BadReserved place.1 free m.0.small free_is in
    let o = behind-read numbers32 0 BadReserved free rest n.small rest_is in
    let h : LtxHeader = record {
      size = size;
      commit = commit.0;
      min = range.0;
      max = range.1;
      moment =
          moment.0;
      place = place.0;
      index = eqb flags.0 6;
    } in
    let size_whole : flags.1 ≡ to_be_bytes w32 size ++ field.1 =
    subst (λ (y : ℕ). flags.1 ≡ to_be_bytes w32 y ++ field.1) d.1 c.0.whole in
    let said = header_flags (eqb flags.0 6) in
    let flags_whole : magic ≡ to_be_bytes w32 said ++ flags.1 =
    subst (λ (y : ℕ). magic ≡ to_be_bytes w32 y ++ flags.1) (flags-read said flags.0 plain plain_is) b.0.whole in
    let min_whole : commit.1 ≡ to_be_bytes w64 range.0 ++ min.1 =
    subst (λ (y : ℕ). commit.1 ≡ to_be_bytes w64 y ++ min.1) j.2 g.0.whole in
    let max_whole : min.1 ≡ to_be_bytes w64 range.1 ++ max.1 =
    subst (λ (y : ℕ). min.1 ≡ to_be_bytes w64 y ++ max.1) j.3 i.0.whole in
    let spelled : bytes ≡ front_fields said size commit.0 range.0 range.1 moment.0
    (place_fields place.0 ++ (to_be_bytes w64 0 ++ (to_be_bytes w32 0 ++ rest))) =
    joined (to_be_bytes w32 0x4c54_5831) a.whole (joined (to_be_bytes w32 said) flags_whole
    (joined (to_be_bytes w32 size) size_whole (joined (to_be_bytes w32 commit.0) f.0.whole (
    joined (to_be_bytes w64 range.0) min_whole (joined (to_be_bytes w64 range.1) max_whole
    (joined (to_be_bytes w64 moment.0) k.0.whole (joined (to_be_bytes w64 0) l.whole (
    joined (place_fields place.0) m.0.whole (joined (to_be_bytes w64 0) n.whole o.whole))))))))) in
    let is : IsHeader h = record {
      size = d.0;
      some_page = f.1;
      small = f.2;
      from_first = j.0;
      in_order = j.1;
      max_fits = subst (λ y. y < 2 ^ 64) j.3 i.1;
      moment_fits = k.1;
      place = m.1;
    } in
    let made : LtxHeader × List ℕ = (h, rest) in
    subst (λ (y : LtxHeader × List ℕ). BeginsWith bytes (header_bytes y.0) y.1 × IsHeader y.0) (same_ok made x e)
    (record { whole = spelled ∙ sym (header_spelled h rest); small = o.small }, is)))))))))))))))

fields-again : (h : LtxHeader) (rest : List ℕ) → IsHeader h → fields_at (header_bytes h ++ rest) ≡ Ok (h, rest)
unfolding fields_at
fields-again h rest is =
    let bounds = size_bounds h.size is.size in
    let at_rest = to_be_bytes w32 0 ++ rest in
    let at_free = to_be_bytes w64 0 ++ at_rest in
    let at_place = place_fields h.place ++ at_free in
    let at_log = to_be_bytes w64 0 ++ at_place in
    let at_moment = to_be_bytes w64 h.moment ++ at_log in
    let at_max = to_be_bytes w64 h.max ++ at_moment in
    let at_min = to_be_bytes w64 h.min ++ at_max in
    let at_commit = to_be_bytes w32 h.commit ++ at_min in
    let at_size = to_be_bytes w32 h.size ++ at_commit in
    let at_flags = to_be_bytes w32 (header_flags h.index) ++ at_size in
    let in_order = is.in_order in
    let max_fits = is.max_fits in
    let spelled : header_bytes h ++ rest ≡ to_be_bytes w32 0x4c54_5831 ++ at_flags = header_spelled h rest in
    ap fields_at spelled ∙ rw (
      behind-again numbers32 0x4c54_5831 BadMagic at_flags (omega arith),
      number-again numbers32 (header_flags h.index) at_size (flags_fit h.index),
      flags_tell h.index,
      flags-again (header_flags h.index) (flags_even h.index),
      number-again numbers32 h.size at_commit bounds.1,
      size-again h.size is.size,
      commit-again h.size h.commit at_min is.size is.some_page is.small,
      number-again numbers64 h.min at_max (omega arith),
      number-again numbers64 h.max at_moment max_fits,
      range-again h.min h.max is.from_first in_order,
      number-again numbers64 h.moment at_log is.moment_fits,
      behind-again numbers64 0 BadReserved at_place (omega arith),
      place-again h.size h.place at_free is.place,
      behind-again numbers64 0 BadReserved at_rest (omega arith),
      behind-again numbers32 0 BadReserved rest (omega arith),
    ) refl

-- ---- its length

short_or : {A : Type 0} (test : Bool) (read : Result A LtxFault) (x : A) → cond test (Err Short) read ≡ Ok x
    → read ≡ Ok x
short_or true read x e = absurd cc
short_or false read x e = e

pub header-length : (h : LtxHeader) → length (header_bytes h) ≡ 100
unfolding header_bytes
header-length h = let tail = fields_long h.place in omega (arith, tail)

pub header-read : (bytes : List ℕ) (x : LtxHeader × List ℕ) → AreBytes bytes → header_at bytes ≡ Ok x
    → BeginsWith bytes (header_bytes x.0) x.1 × IsHeader x.0
unfolding header_at
header-read bytes x small e = fields-read bytes x small (short_or (ltb (length bytes) 100) (fields_at bytes) x e)

pub header-again : (h : LtxHeader) (rest : List ℕ) → IsHeader h → header_at (header_bytes h ++ rest) ≡ Ok (h, rest)
unfolding header_at
header-again h rest is =
    let long : ltb (length (header_bytes h ++ rest)) 100 ≡ false =
    le-ltb _ _ (omega (arith, length-append (header_bytes h) rest, header-length h)) in
    rw long (fields-again h rest is)
