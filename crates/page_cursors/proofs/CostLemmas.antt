-- What the steps of readers cost.
use Rattle.std.proofs.Common.{◌≡◌, ◌≢◌, ℕ, zero, suc, ◌+◌, ◌-◌, ◌*◌, ◌^◌, ◌≤◌, ◌<◌, Bool, true, false, min, List, []}
use Rattle.std.proofs.Common.{◌∷◌, ◌++◌}
use Rattle.std.proofs.Common.{length, take, drop, Option, Some, None, refl, sym, ap, subst, ◌∙◌, inl, inr, arith}
use Rattle.std.specs.Prelude.{◌⊎◌, Result, Ok, Err, if◌then◌else◌, slice_get, slice_set}
use Rattle.crash_disk.specs.Told.{gives}
use Rattle.ltx_format.specs.FirstFault.{has_index}
use Rattle.ltx_reader.specs.declared.progress.Progress.{Progress}
use Rattle.ltx_reader.specs.declared.progress.Progress.TheVariants.{Going, AtNumber, Ended, Failed}
use Rattle.ltx_reader.specs.declared.read_fault.ReadFault.{ReadFault}
use Rattle.ltx_reader.specs.Reader.{Reader, IsReaderOf, Progresses, Announces, Gives, HasSameFile, StaysBeforePage}
use Rattle.ltx_reader.specs.Reader.{Waits, RepeatsNumber, IfKnown, steps_of, next_block, block_offset, read_to}
use Rattle.ltx_reader.specs.Reader.{pages_left, pages_to_come, pages_of}
use Rattle.ltx_reader.specs.ReaderGiven.{GivesAtMost, HasCounted, bytes_again, bytes_left, bytes_to_come, read_so_far}
use Rattle.ltx_reader.proofs.ReaderHeaderLemmas.{fields_of}
use Rattle.ltx_reader.proofs.ReaderProgressLemmas.{add_block}
use Rattle.page_cursors.specs.Costs.{Cost, nothing, numbers_again, file_cost, Takes, cost_from, cost_by}
use Rattle.page_cursors.specs.Costs.{cost_left, CountsWithin, CountsPages}

-- ---- what is taken, one after the other

gives_twice : (before : Option ℕ) (a b : ℕ) → gives (gives before a) b ≡ gives before (a + b)
gives_twice None a b = refl
gives_twice (Some n) a b =
    let same : min (min (n + a) (2 ^ 64 - 1) + b) (2 ^ 64 - 1) ≡ min (n + (a + b)) (2 ^ 64 - 1) = omega arith in
    ap (λ k. Some k) same

abbrev Rises : Option ℕ → Option ℕ → ℕ → Type 0
Rises x y more = (y ≡ x) ⊎ (y ≡ gives x more)

rises_then : (x y z : Option ℕ) (m n : ℕ) → Rises x y m → Rises y z n
    → (more : ℕ) × (more ≤ m + n) × Rises x z more
rises_then x y z m n (inl first) (inl second) = (0, omega arith, inl (second ∙ first))
rises_then x y z m n (inl first) (inr second) = (n, omega arith, inr (second ∙ ap (λ g. gives g n) first))
rises_then x y z m n (inr first) (inl second) = (m, omega arith, inr (second ∙ first))
rises_then x y z m n (inr first) (inr second) =
    (m + n, omega arith, inr (second ∙ ap (λ g. gives g n) first ∙ gives_twice x m n))

pub takes_then : (a b c : Cost) (s t u : ℕ) (x y z : Option ℕ) → Takes a b s t x y → Takes b c t u y z
    → Takes a c s u x z
takes_then a b c s t u x y z first second =
    let rises = rises_then x y z first.more second.more first.is second.is in
    record {
      steps = omega (arith, first.steps, second.steps);
      more = rises.0;
      within = omega (arith, rises.1, first.within, second.within);
      is = rises.2;
    }

pub takes_none : (a : Cost) (s t : ℕ) (x y : Option ℕ) → t ≡ s → y ≡ x → Takes a a s t x y
takes_none a s t x y steps given =
    record { steps = omega (arith, steps); more = 0; within = omega arith; is = inl given }

-- by numbers: less may be left, and more may have been left before
pub takes_by : (a b c d : Cost) (s t u v : ℕ) (x y : Option ℕ) → Takes a b s t x y
    → v + d.blocks + s + a.blocks ≤ u + c.blocks + t + b.blocks → d.bytes + a.bytes ≤ c.bytes + b.bytes
    → Takes c d u v x y
takes_by a b c d s t u v x y takes blocks bytes = record {
  steps = omega (arith, takes.steps, blocks);
  more = takes.more;
  within = omega (arith, takes.within, bytes);
  is = takes.is;
}

pub takes_gave : (a b : Cost) (s t most : ℕ) (x y : Option ℕ) → GivesAtMost most x y → t + b.blocks ≤ s + a.blocks
    → most + b.bytes ≤ a.bytes → Takes a b s t x y
takes_gave a b s t most x y gave steps bytes = record {
  steps = steps;
  more = gave.more;
  within = omega (arith, gave.within, bytes);
  is = gave.is;
}

-- ---- one reader

again_if : (a b : Bool) (m n : ℕ) → a ≡ b → m ≤ n → (if b then 4 * m else 0) ≤ (if a then 4 * n else 0)
again_if true true m n same low = omega (arith, low)
again_if true false m n same low = omega arith
again_if false true m n same low = absurd cc
again_if false false m n same low = omega arith

again_within : (bytes : List ℕ) (reader : Reader) → IsReaderOf bytes reader → reader.count ≤ length (pages_of bytes)
    → bytes_again reader.header reader.count ≤ numbers_again bytes
again_within bytes reader is low =
    again_if (has_index bytes) reader.header.index reader.count (length (pages_of bytes))
    (fields_of bytes reader.header is.header).index_is low

to_come : (bytes : List ℕ) (reader : Reader) (p : Progress) → IsReaderOf bytes reader
    → CountsWithin (length (pages_of bytes)) reader.count (length (pages_left bytes reader)) p
    → bytes_to_come bytes reader p ≤ (cost_by bytes reader p).bytes
to_come bytes reader Going is counts =
    let again = again_within bytes reader is (omega (arith, counts)) in omega (arith, again)
to_come bytes reader (AtNumber n) is counts = omega arith
to_come bytes reader Ended is counts = omega arith
to_come bytes reader (Failed fault) is counts = omega arith

-- whatever a call answers, it takes no more than what is left
pub spends : (bytes : List ℕ) (reader : Reader) (s t : ℕ) (x y : Option ℕ) → IsReaderOf bytes reader
    → CountsPages bytes reader → t ≡ s → GivesAtMost (bytes_left bytes reader) x y
    → Takes (cost_left bytes reader) nothing s t x y
spends bytes reader s t x y is counts steps gave =
    let most = to_come bytes reader reader.progress is counts in
    takes_gave (cost_left bytes reader) nothing s t (bytes_left bytes reader) x y gave (omega (arith, steps))
    (omega (arith, most))

counts_ended : (bytes : List ℕ) (reader : Reader) → reader.progress ≡ Ended → CountsPages bytes reader
counts_ended bytes reader ended =
    subst (λ (p : Progress). CountsWithin (length (pages_of bytes)) reader.count (length (pages_left bytes reader)) p)
    (sym ended) tt

ended_left : (bytes : List ℕ) (reader : Reader) → reader.progress ≡ Ended → cost_left bytes reader ≡ nothing
ended_left bytes reader ended = ap (λ (p : Progress). cost_by bytes reader p) ended

ended_none : (bytes : List ℕ) (reader : Reader) → reader.progress ≡ Ended → length (pages_left bytes reader) ≡ 0
ended_none bytes reader ended = ap (λ (p : Progress). length (pages_to_come bytes reader p)) ended

same_block : (old new : Reader) → HasSameFile old new → new.count ≡ old.count → next_block new ≡ next_block old
same_block old new file count =
    ap (λ k. block_offset new.header k) count ∙ ap (λ h. block_offset h old.count) file.header

-- the file goes on at least to where the reader is
inside_by : (bytes : List ℕ) (reader : Reader) (p : Progress) → Progresses bytes reader p → reader.progress ≡ p
    → (n : ℕ) → (p ≡ AtNumber n) → next_block reader + 6 ≤ length bytes
inside_by bytes reader Going progresses is n at = absurd cc
inside_by bytes reader (AtNumber m) progresses is n at =
    let here = progresses.0.summed.inside in
    let same : read_to (next_block reader) reader.progress ≡ next_block reader + 6 =
    ap (read_to (next_block reader)) is in
    omega (arith, here, same)
inside_by bytes reader Ended progresses is n at = absurd cc
inside_by bytes reader (Failed fault) progresses is n at = absurd cc

inside_going : (bytes : List ℕ) (reader : Reader) (p : Progress) → Progresses bytes reader p → reader.progress ≡ p
    → p ≡ Going → next_block reader ≤ length bytes
inside_going bytes reader Going progresses is at =
    let here = progresses.summed.inside in
    let same : read_to (next_block reader) reader.progress ≡ next_block reader =
    ap (read_to (next_block reader)) is in
    omega (arith, here, same)
inside_going bytes reader (AtNumber m) progresses is at = absurd cc
inside_going bytes reader Ended progresses is at = absurd cc
inside_going bytes reader (Failed fault) progresses is at = absurd cc

pub going_inside : (bytes : List ℕ) (reader : Reader) → IsReaderOf bytes reader → reader.progress ≡ Going
    → next_block reader ≤ length bytes
going_inside bytes reader is going = inside_going bytes reader reader.progress is.progress refl going

waiting_inside : (bytes : List ℕ) (reader : Reader) (n : ℕ) → IsReaderOf bytes reader → reader.progress ≡ AtNumber n
    → next_block reader + 6 ≤ length bytes
waiting_inside bytes reader n is at = inside_by bytes reader reader.progress is.progress refl n at

-- ---- the number of the next page

module _ (bytes : List ℕ) (old new : Reader) (s : ℕ) (x y : Option ℕ) (is : IsReaderOf bytes old)
    (now : IsReaderOf bytes new) (file : HasSameFile old new) (stays : StaysBeforePage old new) where
  abbrev Goes : Type 0
  Goes = CountsPages bytes new × Takes (cost_left bytes old) (cost_left bytes new) s s x y

  counts_waiting : (n : ℕ) → new.progress ≡ AtNumber n → pages_left bytes new ≡ pages_left bytes old
      → old.count + length (pages_left bytes old) ≤ length (pages_of bytes) → CountsPages bytes new
  counts_waiting n waits left low =
      subst (λ (p : Progress). CountsWithin (length (pages_of bytes)) new.count (length (pages_left bytes new)) p)
      (sym waits) (omega (arith, ap length left, stays.count, low))

  takes_number : (p : Progress) → old.progress ≡ p → (n : ℕ) → RepeatsNumber p (Ok (Some n))
      → IfKnown p (new ≡ old) → new.progress ≡ AtNumber n → pages_left bytes new ≡ pages_left bytes old
      → CountsWithin (length (pages_of bytes)) old.count (length (pages_left bytes old)) p
      → GivesAtMost (read_so_far new - read_so_far old) x y → Goes
  takes_number Going going n again known waits left low gave =
      let at_old : read_so_far old ≡ next_block old = ap (read_to (next_block old)) going in
      let at_new : read_so_far new ≡ next_block new + 6 = ap (read_to (next_block new)) waits in
      let block = same_block old new file stays.count in
      let inside = waiting_inside bytes new n now waits in
      let before : cost_left bytes old ≡ cost_from bytes old (next_block old) = ap (cost_by bytes old) going in
      let after : cost_left bytes new ≡ cost_from bytes new (next_block new + 6) = ap (cost_by bytes new) waits in (
        counts_waiting n waits left low,
        subst (λ (c : Cost). Takes c (cost_left bytes new) s s x y) (sym before)
            (subst (λ (c : Cost). Takes (cost_from bytes old (next_block old)) c s s x y) (sym after)
            (takes_gave (cost_from bytes old (next_block old)) (cost_from bytes new (next_block new + 6)) s s
            (read_so_far new - read_so_far old) x y gave (omega (arith, ap length left))
            (omega (arith, at_old, at_new, block, inside)))),
      )
  takes_number (AtNumber m) at n again known waits left low gave =
      let none : read_so_far new - read_so_far old ≡ 0 =
      ap (λ (r : Reader). read_so_far r - read_so_far old) known
      ∙ (let zero_is : read_so_far old - read_so_far old ≡ 0 = omega arith in zero_is) in (
        counts_waiting n waits left low,
        subst (λ (r : Reader). Takes (cost_left bytes old) (cost_left bytes r) s s x y) (sym known)
            (takes_gave (cost_left bytes old) (cost_left bytes old) s s (read_so_far new - read_so_far old) x y gave
            (omega arith) (omega (arith, none))),
      )
  takes_number Ended ended n again known waits left low gave = absurd cc
  takes_number (Failed fault) failed n again known waits left low gave = absurd cc

  pub number_takes : (next : Option ℕ) → Announces bytes old new next → Waits new.progress (Ok next)
      → RepeatsNumber old.progress (Ok next) → IfKnown old.progress (new ≡ old) → CountsPages bytes old
      → GivesAtMost (bytes_left bytes old) x y
      → ((n : ℕ) → next ≡ Some n → GivesAtMost (read_so_far new - read_so_far old) x y) → Goes
  number_takes None announces waits again known low gave gave_number = (
    counts_ended bytes new announces.1,
    subst (λ (c : Cost). Takes (cost_left bytes old) c s s x y) (sym (ended_left bytes new announces.1))
        (spends bytes old s s x y is low refl gave),
  )
  number_takes (Some n) announces waits again known low gave gave_number =
      takes_number old.progress refl n again known waits announces.3 low (gave_number n refl)

-- ---- the next page

module _ (bytes : List ℕ) (old new : Reader) (s t : ℕ) (page : List ℕ) (x y : Option ℕ) (is : IsReaderOf bytes old)
    (now : IsReaderOf bytes new) (file : HasSameFile old new) where
  abbrev GoesOn : Type 0
  GoesOn = CountsPages bytes new × Takes (cost_left bytes old) (cost_left bytes new) s t x y

  next_at : new.count ≡ old.count + 1 → next_block new ≡ next_block old + 6 + old.header.size
  next_at count =
      ap (λ k. block_offset new.header k) count ∙ ap (λ h. block_offset h (old.count + 1)) file.header
      ∙ sym (add_block old.header old.count old.header.size refl)

  one_less : (n : ℕ) → pages_left bytes old ≡ (n, page) ∷ pages_left bytes new
      → length (pages_left bytes old) ≡ length (pages_left bytes new) + 1
  one_less n gives_page =
      ap length gives_page
      ∙ (let one : suc (length (pages_left bytes new)) ≡ length (pages_left bytes new) + 1 = omega arith in one)

  -- from the offset at which the old reader is
  takes_from : (at n : ℕ) → HasCounted old new → pages_left bytes old ≡ (n, page) ∷ pages_left bytes new → t ≡ s + 1
      → read_so_far old ≡ at → cost_left bytes old ≡ cost_from bytes old at → at ≤ next_block old + 6
      → old.count + length (pages_left bytes old) ≤ length (pages_of bytes)
      → GivesAtMost (read_so_far new - read_so_far old) x y → GoesOn
  takes_from at n counted gives_page steps at_old before early low gave =
      let at_new : read_so_far new ≡ next_block new = ap (read_to (next_block new)) counted.going in
      let inside = going_inside bytes new now counted.going in
      let less = one_less n gives_page in
      let past = next_at counted.count in
      let after : cost_left bytes new ≡ cost_from bytes new (next_block new) = ap (cost_by bytes new) counted.going in (
        subst (λ (p : Progress). CountsWithin (length (pages_of bytes)) new.count (length (pages_left bytes new)) p)
            (sym counted.going) (omega (arith, less, counted.count, low)),
        subst (λ (c : Cost). Takes c (cost_left bytes new) s t x y) (sym before)
            (subst (λ (c : Cost). Takes (cost_from bytes old at) c s t x y) (sym after)
            (takes_gave (cost_from bytes old at) (cost_from bytes new (next_block new)) s t
            (read_so_far new - read_so_far old) x y gave (omega (arith, less, steps))
            (omega (arith, at_old, at_new, past, inside, early)))),
      )

  takes_page : (p : Progress) → old.progress ≡ p → (n : ℕ) → HasCounted old new
      → pages_left bytes old ≡ (n, page) ∷ pages_left bytes new → t ≡ s + 1
      → CountsWithin (length (pages_of bytes)) old.count (length (pages_left bytes old)) p
      → GivesAtMost (read_so_far new - read_so_far old) x y → GoesOn
  takes_page Going going n counted gives_page steps low gave =
      takes_from (next_block old) n counted gives_page steps (ap (read_to (next_block old)) going)
      (ap (cost_by bytes old) going) (omega arith) low gave
  takes_page (AtNumber m) at n counted gives_page steps low gave =
      takes_from (next_block old + 6) n counted gives_page steps (ap (read_to (next_block old)) at)
      (ap (cost_by bytes old) at) (omega arith) low gave
  takes_page Ended ended n counted gives_page steps low gave =
      let none : length (pages_left bytes old) ≡ 0 = ended_none bytes old ended in
      absurd (omega (arith, none, one_less n gives_page))
  takes_page (Failed fault) failed n counted gives_page steps low gave =
      let none : length (pages_left bytes old) ≡ 0 =
      ap (λ (p : Progress). length (pages_to_come bytes old p)) failed in
      absurd (omega (arith, none, one_less n gives_page))

  pub page_takes : (given : Option ℕ) → Gives bytes old new page given → t ≡ s + steps_of (Ok given)
      → ((n : ℕ) → given ≡ Some n → HasCounted old new) → CountsPages bytes old
      → GivesAtMost (bytes_left bytes old) x y
      → ((n : ℕ) → given ≡ Some n → GivesAtMost (read_so_far new - read_so_far old) x y) → GoesOn
  page_takes None gives_page steps counted low gave gave_page = (
    counts_ended bytes new gives_page.1,
    subst (λ (c : Cost). Takes (cost_left bytes old) c s t x y) (sym (ended_left bytes new gives_page.1))
        (spends bytes old s t x y is low (omega (arith, steps)) gave),
  )
  page_takes (Some n) gives_page steps counted low gave gave_page =
      takes_page old.progress refl n (counted n refl) gives_page steps low (gave_page n refl)

-- ---- a file that was opened

-- a new reader has taken the header
pub opened_takes : (bytes : List ℕ) (reader : Reader) (x y : Option ℕ) → IsReaderOf bytes reader
    → reader.progress ≡ Going → reader.count ≡ 0 → pages_left bytes reader ≡ pages_of bytes → GivesAtMost 100 x y
    → CountsPages bytes reader × Takes (file_cost bytes) (cost_left bytes reader) 0 0 x y
opened_takes bytes reader x y is going count left gave =
    let at : next_block reader ≡ 100 = ap (block_offset reader.header) count
    ∙ (let here : 100 + 0 * (6 + reader.header.size) ≡ 100 = omega arith in here) in
    let inside = going_inside bytes reader is going in
    let after : cost_left bytes reader ≡ cost_from bytes reader (next_block reader) = ap (cost_by bytes reader) going
    in (
      subst (λ (p : Progress). CountsWithin (length (pages_of bytes)) reader.count (length (pages_left bytes reader)) p)
          (sym going) (omega (arith, count, ap length left)),
      subst (λ (c : Cost). Takes (file_cost bytes) c 0 0 x y) (sym after)
          (takes_gave (file_cost bytes) (cost_from bytes reader (next_block reader)) 0 0 100 x y gave
          (omega (arith, ap length left)) (omega (arith, at, inside))),
    )

-- or at most the file, where none was opened
pub unopened_takes : (bytes : List ℕ) (x y : Option ℕ) → GivesAtMost (length bytes) x y
    → Takes (file_cost bytes) nothing 0 0 x y
unopened_takes bytes x y gave = takes_gave (file_cost bytes) nothing 0 0 (length bytes) x y gave (omega arith)
    (omega arith)
