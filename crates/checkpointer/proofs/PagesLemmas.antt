-- Pages of a file that are written at their places.
use Rattle.std.proofs.Common.{◌≡◌, ◌≢◌, ◌∙◌, ℕ, ◌+◌, ◌-◌, ◌*◌, ◌<◌, ◌≤◌, ◌⊎◌, max, List, [], ◌∷◌, length, sym, ap}
use Rattle.std.proofs.Common.{refl, inl, inr, arith}
use Rattle.std.proofs.Math.Nat.{add-mul, mul-le-mul_right}
use Rattle.std.proofs.lemmas.Bool.{cases_lt, cases_eq}
use Rattle.std.proofs.lemmas.List.{ext_get_or}
use Rattle.crash_disk.specs.Files.{with_bytes_at, with_length}
use Rattle.crash_disk.specs.FileState.{FileState, SomeOf, written}
use Rattle.wal_frames.specs.View.{file_page}
use Rattle.wal_frames.proofs.ViewLemmas.{length-file_page}
use Rattle.checkpointer.specs.Copying.{Written, EachIs}
use Rattle.checkpointer.proofs.FileLemmas.{get-written, get-written_here, length-written, get-resized, get-grown}
use Rattle.checkpointer.proofs.ViewOfPair.{get-file_page, same_file_page}

-- ---- places

-- a page ends where the next one begins
pub page_ends : (size p : ℕ) → 1 ≤ p → p * size ≡ (p - 1) * size + size
page_ends size p from =
    let one : (p - 1 + 1) * size ≡ (p - 1) * size + 1 * size = add-mul (p - 1) 1 size in
    let whole : p * size ≡ (p - 1 + 1) * size = ap (λ (n : ℕ). n * size) (omega (arith, from)) in
    omega (arith, one, whole)

-- a page that comes before another one ends before that
pub page_before : (size p n : ℕ) → 1 ≤ p → p < n → (p - 1) * size + size ≤ (n - 1) * size
page_before size p n from less =
    let fits : p * size ≤ (n - 1) * size = mul-le-mul_right size (omega (arith, less)) in
    omega (arith, fits, page_ends size p from)

-- a place of a page isn't in another one
pub outside : (size n p k many : ℕ) → 1 ≤ n → 1 ≤ p → p ≢ n → k < size → many ≤ size
    → ((p - 1) * size + k < (n - 1) * size) ⊎ ((n - 1) * size + many ≤ (p - 1) * size + k)
outside size n p k many first from apart below within =
    elim (cases_lt p n) [
      | inl less ↦ inl (let ends = page_before size p n from less in omega (arith, ends, below))
      | inr most ↦
          let more : n < p = omega (arith, most, apart) in
          inr (let ends = page_before size n p first more in omega (arith, ends, within))
    ]

-- ---- one page

pub page_here : (size n : ℕ) (bytes old : List ℕ) → length bytes ≡ size
    → file_page size (with_bytes_at ((n - 1) * size) bytes old) n ≡ bytes
page_here size n bytes old long =
    let file = with_bytes_at ((n - 1) * size) bytes old in
    let many = length-file_page size file n in
    ext_get_or 0 (file_page size file n) bytes (many ∙ sym long)
    (λ k below. let within : k < size = omega (arith, below, many) in get-file_page size file n k within
    ∙ get-written_here ((n - 1) * size) bytes old k (omega (arith, within, long)))

pub page_elsewhere : (size n p : ℕ) (bytes old : List ℕ) → 1 ≤ n → 1 ≤ p → p ≢ n → length bytes ≤ size
    → file_page size (with_bytes_at ((n - 1) * size) bytes old) p ≡ file_page size old p
page_elsewhere size n p bytes old first from apart within =
    same_file_page size (with_bytes_at ((n - 1) * size) bytes old) old p
    (λ k below. get-written ((n - 1) * size) bytes old ((p - 1) * size + k)
    (outside size n p k (length bytes) first from apart below within))

-- a page stays in a file that is cut behind it, or that grows
pub page_resized : (size bytes p : ℕ) (old : List ℕ) → 1 ≤ p → p * size ≤ bytes
    → file_page size (with_length bytes old) p ≡ file_page size old p
page_resized size bytes p old from within =
    same_file_page size (with_length bytes old) old p
    (λ k below. get-resized bytes old ((p - 1) * size + k) (omega (arith, below, within, page_ends size p from)))

-- each page stays in a file that grows
pub page_grown : (size bytes p : ℕ) (old : List ℕ) → length old ≤ bytes
    → file_page size (with_length bytes old) p ≡ file_page size old p
page_grown size bytes p old short =
    same_file_page size (with_length bytes old) old p (λ k below. get-grown bytes old ((p - 1) * size + k) short)

-- ---- many pages

-- the file after these writes, the newest first
abbrev pub pages_in : ℕ → List Written → FileState → FileState
pages_in size [] d = d
pages_in size (w ∷ writes) d = written ((w.number - 1) * size) w.bytes (pages_in size writes d)

-- a write of one page up to the last one
pub record IsOne (size commit : ℕ) (w : Written) : Type 0 where
  pub from : 1 ≤ w.number
  pub upto : w.number ≤ commit
  pub within : length w.bytes ≤ size

module _ (size commit : ℕ) (d : FileState) where
  pub page_unwritten : (p : ℕ) (writes : List Written) → 1 ≤ p → EachIs (IsOne size commit) writes
      → (SomeOf (λ w. w.number ≡ p) writes → ⊥)
      → file_page size (pages_in size writes d).bytes p ≡ file_page size d.bytes p
  page_unwritten p [] from each none = refl
  page_unwritten p (w ∷ writes) from each none =
      page_elsewhere size w.number p w.bytes (pages_in size writes d).bytes each.0.from from
      (λ same. none (inl (sym same))) each.0.within
      ∙ page_unwritten p writes from each.1 (λ some. none (inr some))

  pub page_written : (p : ℕ) (page : List ℕ) (writes : List Written) → 1 ≤ p → EachIs (IsOne size commit) writes
      → EachIs (λ w. w.number ≡ p → w.bytes ≡ page) writes → length page ≡ size
      → SomeOf (λ w. w.number ≡ p) writes → file_page size (pages_in size writes d).bytes p ≡ page
  page_written p page [] from each is long some = absurd some
  page_written p page (w ∷ writes) from each is long some =
      elim (cases_eq w.number p) [
        | inl same ↦
            let bytes : w.bytes ≡ page = is.0 same in
            ap (λ (n : ℕ). file_page size (pages_in size (w ∷ writes) d).bytes n) (sym same)
            ∙ page_here size w.number w.bytes (pages_in size writes d).bytes
            (ap (λ (xs : List ℕ). length xs) bytes ∙ long) ∙ bytes
        | inr apart ↦
            page_elsewhere size w.number p w.bytes (pages_in size writes d).bytes each.0.from from
            (λ same. apart (sym same)) each.0.within
            ∙ page_written p page writes from each.1 is.1 long (older w writes p apart some)
      ]
    where
      older : (w : Written) (writes : List Written) (p : ℕ) → w.number ≢ p → SomeOf (λ v. v.number ≡ p) (w ∷ writes)
          → SomeOf (λ v. v.number ≡ p) writes
      older w writes p apart (inl same) = absurd (apart same)
      older w writes p apart (inr some) = some

  -- the file never gets shorter, nor longer than the pages need
  pub length-pages : (writes : List Written) → EachIs (IsOne size commit) writes
      → (length d.bytes ≤ length (pages_in size writes d).bytes)
      × (length (pages_in size writes d).bytes ≤ max (length d.bytes) (commit * size))
  length-pages [] each = (omega arith, omega arith)
  length-pages (w ∷ writes) each =
      let so_far = length-pages writes each.1 in
      let fits : w.number * size ≤ commit * size = mul-le-mul_right size each.0.upto in
      let ends = page_ends size w.number each.0.from in
      let is = length-written ((w.number - 1) * size) w.bytes (pages_in size writes d).bytes in
      (omega (arith, so_far.0, is), omega (arith, so_far.1, is, fits, ends, each.0.within))
