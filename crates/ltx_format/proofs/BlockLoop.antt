-- Reading blocks one after another, as a loop does.
use Rattle.std.proofs.Common.{◌≡◌, ℕ, suc, ◌-◌, ◌+◌, ◌≤◌, ◌<◌, ◌≢◌, true, false, eqb, ltb, leb, not, ◌&&◌, List, []}
use Rattle.std.proofs.Common.{◌∷◌, ◌++◌, Result, Ok, Err, refl, sym, ap, ◌∙◌, append_assoc, arith}
use Rattle.std.specs.Ordering.{nat_cmp}
use Rattle.std.specs.Cmp.{nat_cmp_total}
use Rattle.std.specs.FinMap.{FinMap, entries, empty, insert, len, put, entries-insert, len-entries, len-empty}
use Rattle.std.proofs.lemmas.Bool.{and_parts, not-true, le-ltb, lt-ltb, le-leb, ne_eqb, eqb-false, ltb-true, leb-true}
use Rattle.std.proofs.lemmas.List.{append-nil, nil_from_length}
use Rattle.ltx_format.specs.declared.fault.LtxFault.{LtxFault}
use Rattle.ltx_format.specs.declared.fault.LtxFault.TheVariants.{BadOrder}
use Rattle.ls_base.specs.PageSize.{lock_page}
use Rattle.ltx_format.specs.FirstFault.{is_next}
use Rattle.ltx_format.specs.Reading.{◌>>=◌, block_at, last_at, page_at, blocks_at, where_true}
use Rattle.ltx_format.proofs.StepLemmas.{bind_ok, where_true-ok}

abbrev pub Blocks : Type 0
Blocks = List (ℕ × List ℕ)

-- the blocks that were read before, and those that are still read
abbrev pub with_front : Blocks → Result (Blocks × List ℕ) LtxFault → Result (Blocks × List ℕ) LtxFault
with_front front read = read >>= λ x. Ok (front ++ x.0, x.1)

regroup : (front : Blocks) (block : ℕ × List ℕ) (read : Result (Blocks × List ℕ) LtxFault)
    → with_front front (read >>= λ x. Ok (block ∷ x.0, x.1)) ≡ with_front (front ++ block ∷ []) read
regroup front block (Ok x) = ap (λ (blocks : Blocks). Ok (blocks, x.1)) (simp append_assoc)
regroup front block (Err f) = refl

-- ---- before the first turn

with_front-none : (read : Result (Blocks × List ℕ) LtxFault) → with_front [] read ≡ read
with_front-none (Ok x) = refl
with_front-none (Err f) = refl

pub begins : (size commit : ℕ) (bytes : List ℕ) → with_front []
    (blocks_at (commit - 0) size commit 0 bytes) ≡ blocks_at commit size commit 0 bytes
begins size commit bytes =
    let all : commit - 0 ≡ commit = omega arith in
    rw all (with_front-none (blocks_at commit size commit 0 bytes))

pub entries-empty : (m : FinMap nat_cmp (List ℕ)) → m ≡ empty → entries m ≡ []
entries-empty m e = nil_from_length (entries m) (sym (len-entries m) ∙ ap len e ∙ len-empty nat_cmp (List ℕ))

-- ---- one turn

module _ (front : Blocks) (size commit last i : ℕ) (bytes : List ℕ) (total : Result (Blocks × List ℕ) LtxFault)
    (more : i < commit)
    (so_far : with_front front (blocks_at (commit - i) size commit last bytes) ≡ total) where
  left : commit - i ≡ suc (commit - (i + 1))
  left = omega arith

  pub goes_on : (number : ℕ) (after page rest : List ℕ) → block_at bytes ≡ Ok (number, after) → eqb number 0 ≡ false
      → page_at size commit last number after ≡ Ok (page, rest)
      → with_front (front ++ (number, page) ∷ []) (blocks_at (commit - (i + 1)) size commit number rest) ≡ total
  unfolding blocks_at
  goes_on number after page rest read some read_page =
      let one : with_front front (blocks_at (commit - i) size commit last bytes) ≡ with_front
      (front ++ (number, page) ∷ []) (blocks_at (commit - (i + 1)) size commit number rest) =
      rw (left, read, some, read_page) (regroup front (number, page)
      (blocks_at (commit - (i + 1)) size commit number rest)) in
      sym one ∙ so_far

  pub ends : (after : List ℕ) → block_at bytes ≡ Ok (0, after) → total ≡ Ok (front, after)
  unfolding blocks_at
  ends after read =
      let one : with_front front (blocks_at (commit - i) size commit last bytes) ≡ Ok (front, after) =
      rw (left, read) (ap (λ (blocks : Blocks). Ok (blocks, after)) (append-nil front)) in
      sym so_far ∙ one

  pub no_number : (fault : LtxFault) → block_at bytes ≡ Err fault → total ≡ Err fault
  unfolding blocks_at
  no_number fault read =
      let one : with_front front (blocks_at (commit - i) size commit last bytes) ≡ Err fault = rw (left, read) refl in
      sym so_far ∙ one

  pub no_page : (number : ℕ) (after : List ℕ) (fault : LtxFault) → block_at bytes ≡ Ok (number, after)
      → eqb number 0 ≡ false → page_at size commit last number after ≡ Err fault → total ≡ Err fault
  unfolding blocks_at
  no_page number after fault read some read_page =
      let one : with_front front (blocks_at (commit - i) size commit last bytes) ≡ Err fault =
      rw (left, read, some, read_page) refl in
      sym so_far ∙ one

-- ---- behind the last turn

module _ (front : Blocks) (size commit last i : ℕ) (bytes : List ℕ) (total : Result (Blocks × List ℕ) LtxFault)
    (done : commit ≤ i)
    (so_far : with_front front (blocks_at (commit - i) size commit last bytes) ≡ total) where
  none_left : commit - i ≡ 0
  none_left = omega arith

  pub is_done : (rest : List ℕ) → last_at bytes ≡ Ok rest → total ≡ Ok (front, rest)
  unfolding blocks_at
  is_done rest read =
      let one : with_front front (blocks_at (commit - i) size commit last bytes) ≡ Ok (front, rest) =
      rw (none_left, read) (ap (λ (blocks : Blocks). Ok (blocks, rest)) (append-nil front)) in
      sym so_far ∙ one

  pub no_end : (fault : LtxFault) → last_at bytes ≡ Err fault → total ≡ Err fault
  unfolding blocks_at
  no_end fault read =
      let one : with_front front (blocks_at (commit - i) size commit last bytes) ≡ Err fault =
      rw (none_left, read) refl in
      sym so_far ∙ one

-- ---- the pages so far

-- each number is at most this
abbrev pub AreUpTo : ℕ → Blocks → Type 0
AreUpTo last [] = Unit {0}
AreUpTo last (block ∷ blocks) = (block.0 ≤ last) × AreUpTo last blocks

-- a number above all others is put last
put_last : (k : ℕ) (v : List ℕ) (last : ℕ) (blocks : Blocks) → AreUpTo last blocks → last < k
    → put nat_cmp k v blocks ≡ blocks ++ (k, v) ∷ []
put_last k v last [] up_to above = refl
put_last k v last (block ∷ blocks) up_to above =
    let low = up_to.0 in
    rw (le-ltb k block.0 (omega arith), ne_eqb k block.0 (λ e. omega arith))
    (ap (λ (rest : Blocks). block ∷ rest) (put_last k v last blocks up_to.1 above))

pub entries-insert_last : (m : FinMap nat_cmp (List ℕ)) (k : ℕ) (v : List ℕ) (last : ℕ) → AreUpTo last (entries m)
    → last < k → entries (insert m k v) ≡ entries m ++ (k, v) ∷ []
entries-insert_last m k v last up_to above = entries-insert nat_cmp_total m k v
    ∙ put_last k v last (entries m) up_to above

pub up_to_more : (k : ℕ) (v : List ℕ) (last : ℕ) (blocks : Blocks) → AreUpTo last blocks → last < k
    → AreUpTo k (blocks ++ (k, v) ∷ [])
up_to_more k v last [] up_to above = (omega arith, tt)
up_to_more k v last (block ∷ blocks) up_to above = let low = up_to.0 in
    (omega arith, up_to_more k v last blocks up_to.1 above)

-- what the test of a number says
pub next_parts : (size commit last number : ℕ) → is_next size commit last number ≡ true → (last < number)
    × (number ≤ commit) × (number ≢ lock_page size)
next_parts size commit last number e =
    let both = and_parts (ltb last number && leb number commit) (not (eqb number (lock_page size))) e in
    let order = and_parts (ltb last number) (leb number commit) both.0 in (
      ltb-true last number order.0,
      leb-true number commit order.1,
      eqb-false number (lock_page size) (not-true _ both.1),
    )

pub next_true : (size commit last number : ℕ) → last < number → number ≤ commit → number ≢ lock_page size
    → is_next size commit last number ≡ true
next_true size commit last number above at_most unlocked = rw (
  lt-ltb last number above,
  le-leb number commit at_most,
  ne_eqb number (lock_page size) unlocked,
) refl

-- a page that is read has a number above the last
pub page_rises : (size commit last number : ℕ) (bytes : List ℕ) (x : List ℕ × List ℕ)
    → page_at size commit last number bytes ≡ Ok x → last < number
unfolding page_at
page_rises size commit last number bytes x e =
    let b = bind_ok (where_true (is_next size commit last number) (BadOrder number) bytes) _ x e in
    (next_parts size commit last number (where_true-ok (is_next size commit last number)
    (BadOrder number) bytes b.0 b.1).0).0
