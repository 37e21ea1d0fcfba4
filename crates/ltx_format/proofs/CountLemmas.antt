-- How many blocks hold every page. Of a database that has a lock page they hold every other one.
use Rattle.std.proofs.Common.{◌≡◌, ℕ, ◌+◌, ◌-◌, ◌<◌, ◌≤◌, ◌≢◌, T, List, [], ◌∷◌, length, Option, Some, None, refl, sym}
use Rattle.std.proofs.Common.{subst, arith, inl, inr}
use Rattle.std.specs.Prelude.{IsSome}
use Rattle.std.specs.Ordering.{nat_cmp}
use Rattle.std.specs.FinMap.{find, is_sorted}
use Rattle.std.specs.FinMap.Entries.{below_all}
use Rattle.std.proofs.lemmas.Bool.{false≢true, cases_eq, cases_lt, le-leb, lt-leb}
use Rattle.ls_base.specs.PageSize.{lock_page}
use Rattle.ltx_format.specs.FirstFault.{stored_pages}
use Rattle.ltx_format.proofs.BlockLoop.{Blocks}
use Rattle.ltx_format.proofs.BlockLaws.{AreBlocks}
use Rattle.ltx_format.proofs.FindLemmas.{find_here, find_there, both_of, above_all}

next_above : (number first last : ℕ) → (number ≡ first → ⊥) → last < number → first ≤ last + 1 → first < number
next_above number first last ne low next = omega arith

pub few : (size commit last : ℕ) (blocks : Blocks) → AreBlocks size commit last blocks → length blocks ≤ commit - last
few size commit last [] are = omega arith
few size commit last (block ∷ blocks) are =
    let above = are.0.above in
    let at_most = are.0.at_most in
    let later = few size commit block.0 blocks are.1 in
    omega arith

pub whole-found : (size commit last : ℕ) (blocks : Blocks) → AreBlocks size commit last blocks
    → commit ≤ length blocks + last → (number : ℕ) → last < number → number ≤ commit
    → IsSome (find nat_cmp number blocks)
whole-found size commit last [] are enough number low high = absurd (omega arith)
whole-found size commit last (block ∷ blocks) are enough number low high =
    let above = are.0.above in
    let at_most = are.0.at_most in
    let later = few size commit block.0 blocks are.1 in
    elim (cases_eq number block.0) [
      | inl same ↦ subst IsSome (sym (find_here number block blocks same)) refl
      | inr ne ↦ subst IsSome (sym (find_there number block blocks ne))
          (whole-found size commit block.0 blocks are.1 (omega arith) number
          (next_above number block.0 last ne low (omega arith)) high)
    ]

pub some_page : (o : Option (List ℕ)) → IsSome o → (page : List ℕ) × (o ≡ Some page)
some_page None is = absurd (false≢true is)
some_page (Some page) is = (page, refl)

pub whole-count : (size commit last : ℕ) (blocks : Blocks) → T (is_sorted nat_cmp blocks)
    → AreBlocks size commit last blocks → ((number : ℕ) → last < number → number ≤ commit
    → IsSome (find nat_cmp number blocks)) → commit ≤ length blocks + last
whole-count size commit last [] sorted are each =
    elim (cases_lt last commit) [
      | inl more ↦ absurd (false≢true (each commit more (omega arith)))
      | inr done ↦
          omega arith
    ]
whole-count size commit last (block ∷ blocks) sorted are each =
    let above = are.0.above in
    let at_most = are.0.at_most in
    let parts = both_of (below_all nat_cmp block.0 blocks) (is_sorted nat_cmp blocks) sorted in
    let later = whole-count size commit block.0 blocks parts.1 are.1
    (λ number low high. subst IsSome (find_there number block blocks (λ same. omega arith))
    (each number (omega arith) high)) in
    elim (cases_eq (last + 1) block.0) [
      | inl next ↦ omega arith
      | inr ne ↦
          let missing = some_page _ (subst IsSome (find_there (last + 1) block blocks ne)
          (each (last + 1) (omega arith) (omega arith))) in
          let beyond = above_all block.0 blocks (last + 1) missing.0 parts.0 missing.1 in
          absurd (omega arith)
    ]

-- ---- where the lock page is above the last number and at most the commit

-- a number that is searched for, and may be in a file
abbrev IsSought : ℕ → ℕ → ℕ → ℕ → Type 0
IsSought size commit last number = (last < number) × (number ≤ commit) × (number ≢ lock_page size)

few_unlocked : (size commit last : ℕ) (blocks : Blocks) → last < lock_page size → lock_page size ≤ commit
    → AreBlocks size commit last blocks → length blocks + 1 ≤ commit - last
few_unlocked size commit last [] low high are = omega arith
few_unlocked size commit last (block ∷ blocks) low high are =
    let lock = lock_page size in
    let above = are.0.above in
    let ne = are.0.unlocked in
    elim (cases_lt block.0 lock) [
      | inl less ↦ let later = few_unlocked size commit block.0 blocks less high are.1 in omega arith
      | inr past ↦ let later = few size commit block.0 blocks are.1 in omega arith
    ]

found_unlocked : (size commit last : ℕ) (blocks : Blocks) → last < lock_page size → lock_page size ≤ commit
    → AreBlocks size commit last blocks → commit ≤ length blocks + last + 1 → (number : ℕ)
    → IsSought size commit last number → IsSome (find nat_cmp number blocks)
found_unlocked size commit last [] low high are enough number sought =
    absurd (sought.2 (omega (arith, low, high, enough, sought.0, sought.1)))
found_unlocked size commit last (block ∷ blocks) low high are enough number sought =
    let lock = lock_page size in
    let above = are.0.above in
    let at_most = are.0.at_most in
    let ne = are.0.unlocked in
    let later = few size commit block.0 blocks are.1 in
    elim (cases_eq number block.0) [
      | inl same ↦ subst IsSome (sym (find_here number block blocks same)) refl
      | inr other ↦
          subst IsSome (sym (find_there number block blocks other)) (
          elim (cases_lt block.0 lock) [
            | inl less ↦
                let fewer = few_unlocked size commit block.0 blocks less high are.1 in
                found_unlocked size commit block.0 blocks less high are.1 (omega arith) number
                (next_above number block.0 last other sought.0 (omega arith), sought.1, sought.2)
            | inr past ↦ whole-found size commit block.0 blocks are.1 (omega arith) number
                (omega (arith, sought.0, sought.2, other)) sought.1
          ])
    ]

-- a number below the next block is missing
missing : (number : ℕ) (block : ℕ × List ℕ) (blocks : Blocks) → T (is_sorted nat_cmp (block ∷ blocks))
    → number < block.0 → IsSome (find nat_cmp number (block ∷ blocks)) → ⊥
missing number block blocks sorted below some =
    let parts = both_of (below_all nat_cmp block.0 blocks) (is_sorted nat_cmp blocks) sorted in
    let page = some_page _ (subst IsSome (find_there number block blocks (λ same. omega (arith, below, same))) some) in
    let above : block.0 < number = above_all block.0 blocks number page.0 parts.0 page.1 in
    omega (arith, below, above)

count_unlocked : (size commit last : ℕ) (blocks : Blocks) → last < lock_page size → lock_page size ≤ commit
    → T (is_sorted nat_cmp blocks) → AreBlocks size commit last blocks
    → ((number : ℕ) → IsSought size commit last number → IsSome (find nat_cmp number blocks))
    → commit ≤ length blocks + last + 1
count_unlocked size commit last [] low high sorted are each =
    let lock = lock_page size in
    elim (cases_eq (last + 1) lock) [
      | inl next ↦ elim (cases_lt lock commit) [
        | inl more ↦ absurd
            (false≢true (each commit (omega arith, omega arith, λ e. omega arith)))
        | inr done ↦ omega arith
      ]
      | inr ne ↦ absurd (false≢true (each (last + 1) (omega arith, omega arith, ne)))
    ]
count_unlocked size commit last (block ∷ blocks) low high sorted are each =
    let lock = lock_page size in
    let above = are.0.above in
    let at_most = are.0.at_most in
    let parts = both_of (below_all nat_cmp block.0 blocks) (is_sorted nat_cmp blocks) sorted in
    elim (cases_lt (last + 1) block.0) [
      | inl gap ↦
          elim (cases_eq (last + 1) lock) [
            | inl next ↦
                let later = whole-count size commit block.0 blocks parts.1 are.1
                (λ number from to. subst IsSome (find_there number block blocks (λ same. omega arith))
                (each number (omega arith, to, λ e. omega arith))) in
                elim (cases_lt (last + 2) block.0) [
                  | inl more ↦ absurd (missing (last + 2) block blocks sorted more
                      (each (last + 2) (omega arith, omega arith, λ e. omega arith)))
                  | inr done ↦ omega arith
                ]
            | inr ne ↦ absurd (missing (last + 1) block blocks sorted gap
                (each (last + 1) (omega arith, omega arith, ne)))
          ]
      | inr close ↦
          let unlocked = are.0.unlocked in
          let below : block.0 < lock = omega (arith, close, low, above, unlocked) in
          let later = count_unlocked size commit block.0 blocks below high parts.1 are.1 (λ number sought.
          let from = sought.0 in
          subst IsSome (find_there number block blocks (λ same. omega arith))
          (each number (omega arith, sought.1, sought.2))) in
          omega arith
    ]

-- ---- all pages

lock_above : (size : ℕ) → 0 < lock_page size
lock_above size = omega arith

pub all_found : (size commit : ℕ) (blocks : Blocks) → AreBlocks size commit 0 blocks
    → length blocks ≡ stored_pages size commit → (number : ℕ) → IsSought size commit 0 number
    → IsSome (find nat_cmp number blocks)
all_found size commit blocks are count number sought =
    elim (cases_lt commit (lock_page size)) [
      | inl none ↦
          let every : length blocks ≡ commit = rw (lt-leb (lock_page size) commit none) at count in
          whole-found size commit 0 blocks are (omega arith) number sought.0 sought.1
      | inr locked ↦
          let every : length blocks ≡ commit - 1 = rw (le-leb (lock_page size) commit locked) at count in
          found_unlocked size commit 0 blocks (lock_above size) locked are (omega arith) number sought
    ]

pub all_counted : (size commit : ℕ) (blocks : Blocks) → T (is_sorted nat_cmp blocks) → AreBlocks size commit 0 blocks
    → ((number : ℕ) → IsSought size commit 0 number → IsSome (find nat_cmp number blocks))
    → length blocks ≡ stored_pages size commit
all_counted size commit blocks sorted are each =
    let most = few size commit 0 blocks are in
    elim (cases_lt commit (lock_page size)) [
      | inl none ↦
          let least = whole-count size commit 0 blocks sorted are
          (λ number low high. each number (low, high, λ e. omega (arith, none, high, e))) in
          rw (lt-leb (lock_page size) commit none) (omega arith)
      | inr locked ↦
          let least = count_unlocked size commit 0 blocks (lock_above size) locked sorted are each in
          let fewer = few_unlocked size commit 0 blocks (lock_above size) locked are in
          rw (le-leb (lock_page size) commit locked) (omega arith)
    ]
