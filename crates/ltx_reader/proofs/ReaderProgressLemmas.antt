-- How a reader goes on: from one block to the next, to a fault, and to the end.
use Rattle.std.proofs.Common.{◌≡◌, ◌≢◌, ℕ, suc, ◌+◌, ◌-◌, ◌*◌, ◌≤◌, ◌<◌, true, false, ◌==◌, List, ◌∷◌, ◌++◌, take, drop}
use Rattle.std.proofs.Common.{Some, None, Err, refl, sym, ap, subst, ◌∙◌, arith}
use Rattle.std.specs.Int.{w32}
use Rattle.std.proofs.Math.Nat.{add-mul}
use Rattle.std.proofs.lemmas.Bool.{ne_eqb}
use Rattle.ls_sums.specs.Crc64.{IsBehind}
use Rattle.ltx_format.specs.declared.fault.LtxFault.{LtxFault}
use Rattle.ltx_format.specs.declared.header.LtxHeader.{LtxHeader}
use Rattle.ltx_reader.specs.declared.read_fault.ReadFault.{ReadFault}
use Rattle.ltx_reader.specs.declared.read_fault.ReadFault.TheVariants.{Disk, Fault, Memory}
use Rattle.ltx_reader.specs.declared.progress.Progress.{Progress}
use Rattle.ltx_reader.specs.declared.progress.Progress.TheVariants.{Going, AtNumber, Ended}
use Rattle.ltx_format.specs.FirstFault.{number, page_size, commit, is_next, fault_from}
use Rattle.ltx_reader.specs.Reader.{Reader, AreBytes, IsSummed, IsFaultlessTo, IsNextNumber, IsReaderOf, Progresses}
use Rattle.ltx_reader.specs.Reader.{Announces, next_block, block_offset, read_to, pages_from, pages_to_come, pages_left}
use Rattle.ltx_reader.specs.ReaderSteps.{Passes, StandAt, next_fault, reaches, stopped}
use Rattle.ltx_reader.proofs.ReaderHeaderLemmas.{fields_of}
use Rattle.ltx_reader.proofs.ReaderIndexLemmas.{summed_more, reached}
use Rattle.ltx_reader.proofs.ReaderBlockLemmas.{from_stops, from_ends, next_tests, next_is_next, pages_end, pages_next}
use Rattle.ltx_reader.proofs.ReaderBlockLemmas.{positive, next_bounds, past_stops, past_goes}

-- ---- to a fault, and to the end

module _ (bytes : List ℕ) (reader : Reader) (is : IsReaderOf bytes reader) (going : reader.progress ≡ Going) where
  abbrev at : ℕ
  at = next_block reader

  abbrev left : ℕ
  left = commit bytes - reader.count

  pub faultless : IsFaultlessTo bytes reader
  faultless = subst (λ (progress : Progress). Progresses bytes reader progress) going is.progress

  pub stopped_reads : {T : Type 0} (P : T → Type 0) (fault : ReadFault)
      → Passes P (next_fault bytes reader at) (Err fault) → IsReaderOf bytes (stopped fault reader)
  stopped_reads P (Disk why) found = is
  stopped_reads P Memory found = is
  stopped_reads P (Fault fault) found = record {
    header = is.header;
    progress = faultless.rest
        ∙ from_stops bytes reader left at fault found;
  }

  left_going : pages_left bytes reader ≡ pages_from (suc left) bytes at
  left_going = ap (pages_to_come bytes reader) going

  module _ (none : next_fault bytes reader at ≡ None) where
    pub ended_reads : number w32 at bytes ≡ 0 → AreBytes bytes → IsReaderOf bytes (record reader { progress = Ended })
    ended_reads is_end small = record {
      header = is.header;
      progress = (
        faultless.rest
            ∙ from_ends bytes reader left at is_end none,
        small,
      );
    }

    pub ended_announces : (new : Reader) → new.progress ≡ Ended → number w32 at bytes ≡ 0
        → Announces bytes reader new None
    ended_announces new ended is_end = (left_going ∙ pages_end bytes left at is_end, ended)

    module _ (n sum : ℕ) (is_number : number w32 at bytes ≡ n) (some : n ≢ 0) (summed : IsSummed bytes
        (at + 6) sum) where
      abbrev waiting : Reader
      waiting = record reader { sum = sum; progress = AtNumber n }

      nonzero : number w32 at bytes ≢ 0
      nonzero e = some (sym is_number ∙ e)

      pub waits_reads : IsReaderOf bytes waiting
      waits_reads = record {
        header = is.header;
        progress = (
          record { counted = faultless.counted; few = faultless.few; rest = faultless.rest; summed = summed },
          record {
            tests = next_tests bytes reader left at none;
            is = is_number;
            some = positive n some;
            next = (ap (is_next (page_size bytes) (commit bytes) reader.last) (sym is_number)
                ∙ next_is_next bytes reader left at nonzero none);
          },
        );
      }

      pub waits_announces : Announces bytes reader waiting (Some n)
      waits_announces =
          let first = pages_next bytes left at nonzero in (
            take (page_size bytes) (drop (at + 6) bytes),
            pages_from left bytes (at + 6 + page_size bytes),
            left_going ∙ first ∙ ap (λ k. (k, take (page_size bytes) (drop (at + 6) bytes)) ∷ pages_from left bytes
                (at + 6 + page_size bytes)) is_number,
            sym left_going,
          )

-- ---- past a page

pub add_block : (h : LtxHeader) (count size : ℕ) → size ≡ h.size
    → block_offset h count + 6 + size ≡ block_offset h (count + 1)
add_block h count size same =
    let more : (count + 1) * (6 + h.size) ≡ count * (6 + h.size) + 1 * (6 + h.size) = add-mul count 1 (6 + h.size) in
    omega (arith, same, more)

module _ (bytes : List ℕ) (reader : Reader) (n : ℕ) (is : IsReaderOf bytes reader)
    (waits : reader.progress ≡ AtNumber n) where
  abbrev here : ℕ
  here = next_block reader

  abbrev rest : ℕ
  rest = commit bytes - reader.count

  pub known : IsFaultlessTo bytes reader × IsNextNumber bytes reader n
  known = subst (λ (progress : Progress). Progresses bytes reader progress) waits is.progress

  size_same : page_size bytes ≡ reader.header.size
  size_same = (fields_of bytes reader.header is.header).size_is

  nonzero_here : (number w32 here bytes == 0) ≡ false
  nonzero_here = let some = known.1.some in ne_eqb (number w32 here bytes) 0 (λ e. let none = sym known.1.is
      ∙ e in omega (arith, some, none))

  right_here : is_next (page_size bytes) (commit bytes) reader.last (number w32 here bytes) ≡ true
  right_here = ap (is_next (page_size bytes) (commit bytes) reader.last) known.1.is ∙ known.1.next

  pub page_stops : (fault : LtxFault) → reaches bytes (here + 6) reader.header.size ≡ Some fault
      → IsReaderOf bytes (stopped (Fault fault) reader)
  page_stops fault found = record {
    header = is.header;
    progress = known.0.rest ∙ past_stops bytes reader rest here fault known.1.tests nonzero_here right_here (ap
        (reaches bytes (here + 6)) size_same ∙ found);
  }

  pub summed_here : IsSummed bytes (here + 6) reader.sum
  summed_here = subst (λ (progress : Progress). IsSummed bytes (read_to here progress) reader.sum) waits known.0.summed

  few_here : (reader.last < n) × (n ≤ commit bytes)
  few_here = next_bounds (page_size bytes) (commit bytes) reader.last n (known.1.next)

  module _ (page : List ℕ) (sum : ℕ) (whole : reaches bytes (here + 6) reader.header.size ≡ None)
      (stands : StandAt bytes (here + 6) reader.header.size page) where
    abbrev past : Reader
    past = record reader { count = reader.count + 1; last = n; sum = sum; progress = Going }

    fewer : rest ≡ suc (commit bytes - (reader.count + 1))
    fewer = let counted = known.0.counted in let low = few_here.0 in let high = few_here.1 in omega
        (arith, counted, low, high)

    pub page_reads : ((before : List ℕ) → IsBehind before reader.sum → IsBehind (before ++ page) sum)
        → IsReaderOf bytes past
    page_reads goes = record {
      header = is.header;
      progress = record {
        counted = let counted = known.0.counted in let low = few_here.0 in omega (arith, counted, low);
        few = few_here.1;
        rest =
            known.0.rest ∙ past_goes bytes reader rest here known.1.tests nonzero_here right_here (ap (reaches bytes
            (here + 6)) size_same ∙ whole)
            ∙ ap (λ k. fault_from k bytes (suc reader.count) (number w32 here bytes) (here + 6 + page_size bytes)) fewer
            ∙ ap (λ k. fault_from (suc (commit bytes - (reader.count + 1))) bytes k (number w32 here bytes)
            (here + 6 + page_size bytes)) (let one : suc reader.count ≡ reader.count + 1 = omega arith in one)
            ∙ ap (λ k. fault_from (suc (commit bytes - (reader.count + 1))) bytes (reader.count + 1) k
            (here + 6 + page_size bytes)) known.1.is
            ∙ ap (fault_from (suc (commit bytes - (reader.count + 1))) bytes (reader.count + 1) n)
            (add_block reader.header reader.count (page_size bytes) size_same);
        summed =
            subst (λ (k : ℕ). IsSummed bytes k sum) (add_block reader.header reader.count reader.header.size refl)
            (summed_more bytes (here + 6) reader.sum sum reader.header.size page summed_here stands (reached bytes
            (here + 6) reader.header.size whole) (goes (take (here + 6) bytes)));
      };
    }

    pub page_given : pages_left bytes reader ≡ (n, page) ∷ pages_left bytes past
    page_given =
        ap (pages_to_come bytes reader) waits
        ∙ pages_next bytes rest here (λ e. let some = known.1.some in let none = sym known.1.is
        ∙ e in omega (arith, some, none))
        ∙ ap (λ k. (k, take (page_size bytes) (drop (here + 6) bytes)) ∷ pages_from rest bytes
        (here + 6 + page_size bytes)) known.1.is
        ∙ ap (λ k. (n, take k (drop (here + 6) bytes)) ∷ pages_from rest bytes (here + 6 + page_size bytes)) size_same
        ∙ ap (λ xs. (n, xs) ∷ pages_from rest bytes (here + 6 + page_size bytes)) (sym stands.stand)
        ∙ ap (λ k. (n, page) ∷ pages_from k bytes (here + 6 + page_size bytes)) fewer
        ∙ ap (λ k. (n, page) ∷ pages_from (suc (commit bytes - (reader.count + 1))) bytes k)
        (add_block reader.header reader.count (page_size bytes) size_same)

pub known_announces : (bytes : List ℕ) (reader : Reader) (n : ℕ) → IsReaderOf bytes reader
    → reader.progress ≡ AtNumber n → Announces bytes reader reader (Some n)
known_announces bytes reader n is waits =
    let next = (known bytes reader n is waits).1 in
    let some = next.some in
    let at = next_block reader in
    let left = commit bytes - reader.count in (
      take (page_size bytes) (drop (at + 6) bytes),
      pages_from left bytes (at + 6 + page_size bytes),
      ap (pages_to_come bytes reader) waits ∙ pages_next bytes left at (λ e. let none = sym next.is
          ∙ e in omega (arith, some, none))
          ∙ ap (λ k. (k, take (page_size bytes) (drop (at + 6) bytes)) ∷ pages_from left bytes
          (at + 6 + page_size bytes)) next.is,
      refl,
    )
