-- The sum of a database at rest, page after page.
use Rattle.std.proofs.Common.{◌≡◌, ℕ, ◌+◌, ◌^◌, ◌≤◌, ◌<◌, List, length, map, false, Result, Ok, Err, Some, refl, sym}
use Rattle.std.proofs.Common.{ap, subst, ◌∙◌, inl, inr, arith}
use Rattle.std.specs.Prelude.{◌⊎◌, bit_or, bit_xor}
use Rattle.std.specs.List.{range_with_len}
use Rattle.std.proofs.lemmas.List.FromFn.{length-map-range_with_len, map-range_with_len_more}
use Rattle.std.proofs.Math.Nat.{pow-le-pow_right}
use Rattle.ls_base.specs.PageSize.{IsPageSize, lock_page}
use Rattle.ls_base.specs.declared.place.Place.{Place}
use Rattle.ls_base.specs.declared.place.Place.TheVariants.{Rest}
use Rattle.ls_base.proofs.StateLemmas.{below_lock_page}
use Rattle.ls_sums.specs.PageSum.{counted_sum, sums_from}
use Rattle.ls_sums.proofs.PageSumLemmas.{sums_from-push}
use Rattle.wal_frames.specs.View.{page_at_rest}
use Rattle.live_gate.specs.declared.fault.LiveFault.{LiveFault}
use Rattle.live_gate.specs.LiveRecord.{LiveRecord}
use Rattle.live_gate.specs.Step.{IsWriterStep}
use Rattle.live_gate.proofs.StepLemmas.{step_itself, step_join}
use Rattle.snapshot_read.specs.Resting.{AddsPage, ReadsRest}

-- ---- all pages

-- so many pages were summed
pub record HasSummed (size count sum : ℕ) (start now : LiveRecord) : Type 0 where
  pub step : IsWriterStep start.database now.database
  pub asked : now.asked ≡ start.asked
  pub awake : IsPageSize size → 1 ≤ count → now.database.stopped ≡ false
  pub hold : start.database.held ≡ Some 0 → (now.database.held ≡ Some 0) × (now.database.file ≡ start.database.file)
  pub value : start.database.held ≡ Some 0
      → sum ≡ sums_from (lock_page size) 1 (map (page_at_rest size start.database.file) (range_with_len 1 count))

pub summed_none : (size : ℕ) (x : LiveRecord) → HasSummed size 0 0 x x
summed_none size x = record {
  step = step_itself x.database;
  asked = refl;
  awake = λ is none. absurd (omega (arith, none));
  hold = λ held. (held, refl);
  value = λ held. refl;
}

-- page 1 is never the lock page
pub first_unlocked : (size : ℕ) → IsPageSize size → 1 < lock_page size
first_unlocked size is =
    let least : 2 ^ 9 ≤ 2 ^ is.0 = pow-le-pow_right (omega arith) is.1 in
    let most : 2 ^ is.0 ≤ 2 ^ 16 = pow-le-pow_right (omega arith) is.2 in
    below_lock_page size 1 1 (omega (arith, is.3, least)) (omega (arith, is.3, most)) (omega arith)

still_awake : (size count : ℕ) (now next : LiveRecord) → (IsPageSize size → 1 ≤ count → now.database.stopped ≡ false)
    → (next.database.stopped ≡ false) ⊎ ((count + 1 ≡ lock_page size) × (next ≡ now)) → IsPageSize size
    → next.database.stopped ≡ false
still_awake size count now next before (inl awake) is = awake
still_awake size count now next before (inr (locked, same)) is =
    ap (λ (r : LiveRecord). r.database.stopped) same ∙ before is (omega (arith, locked, first_unlocked size is))

module _ (size count sum more : ℕ) (start now next : LiveRecord) (so_far : HasSummed size count sum start now)
    (adds : AddsPage size (count + 1) sum (Ok more) now next) where
  abbrev page : ℕ → List ℕ
  page p = page_at_rest size start.database.file p

  grown_sum : start.database.held ≡ Some 0 → more ≡ sums_from (lock_page size) 1
      (map page (range_with_len 1 (count + 1)))
  grown_sum held =
      let before = so_far.hold held in
      let lock = lock_page size in
      let done = map page (range_with_len 1 count) in
      let number : 1 + length done ≡ count + 1 = omega (arith, length-map-range_with_len page 1 count) in
      adds.value before.0 ∙ ap (λ (file : List ℕ). bit_xor sum
      (counted_sum lock (count + 1) (page_at_rest size file (count + 1)))) before.1
      ∙ ap (λ (n : ℕ). bit_xor n (counted_sum lock (count + 1) (page (count + 1)))) (so_far.value held)
      ∙ ap (λ (n : ℕ). bit_xor (sums_from lock 1 done) (counted_sum lock n (page (count + 1)))) (sym number)
      ∙ sym (sums_from-push lock 1 done (page (count + 1)))
      ∙ ap (sums_from lock 1) (sym (map-range_with_len_more page 1 count (count + 1) (omega arith)))

  pub summed_more : HasSummed size (count + 1) more start next
  summed_more = record {
    step = step_join start.database now.database next.database so_far.step adds.step;
    asked = adds.asked ∙ so_far.asked;
    awake = λ is some. still_awake size count now next so_far.awake (adds.awake refl) is;
    hold = λ held.
        let before = so_far.hold held in
        let after = adds.hold before.0 in
        (after.0, after.1 ∙ before.1);
    value = grown_sum;
  }

pub summed_all : (size pages sum : ℕ) (start now : LiveRecord) → HasSummed size pages sum start now
    → ReadsRest size pages (Ok (Rest (bit_or sum (2 ^ 63)))) start now
summed_all size pages sum start now so_far = record {
  step = so_far.step;
  awake = λ is some ok. so_far.awake is some;
  asked = so_far.asked;
  value = λ held. ap (λ (n : ℕ). Rest (bit_or n (2 ^ 63))) (so_far.value held);
}

pub summed_failed : (size pages count sum : ℕ) (r : Result Place LiveFault) (fault : LiveFault)
    (start now next : LiveRecord) → r ≡ Err fault
    → HasSummed size count sum start now → AddsPage size (count + 1) sum (Err fault) now next
    → ReadsRest size pages r start next
summed_failed size pages count sum r fault start now next is so_far adds =
    subst (λ (answer : Result Place LiveFault). ReadsRest size pages answer start next) (sym is) (record {
      step = step_join start.database now.database next.database so_far.step adds.step;
      awake = λ size some ok. absurd cc;
      asked = adds.asked ∙ so_far.asked;
      value = λ held. tt;
    })
