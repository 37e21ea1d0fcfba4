-- A new reader, and the header that it read.
use Rattle.std.proofs.Common.{◌≡◌, ℕ, suc, ◌+◌, ◌-◌, ◌*◌, ◌≤◌, ◌<◌, List, [], ◌++◌, length, take, Option, Some, None}
use Rattle.std.proofs.Common.{Result, Ok, Err, refl, sym, ap, subst, ◌∙◌, arith}
use Rattle.std.specs.Result.{IsErrAnd, IfErr}
use Rattle.crash_disk.specs.Told.{Told}
use Rattle.std.proofs.lemmas.Bool.{lt-leb}
use Rattle.ls_sums.specs.Crc64.{IsBehind}
use Rattle.ltx_format.specs.declared.fault.LtxFault.{LtxFault}
use Rattle.ltx_format.specs.declared.fault.LtxFault.TheVariants.{Short}
use Rattle.ltx_format.specs.declared.header.LtxHeader.{LtxHeader}
use Rattle.ltx_reader.specs.declared.read_fault.ReadFault.{ReadFault}
use Rattle.ltx_reader.specs.declared.read_fault.ReadFault.TheVariants.{Fault}
use Rattle.ltx_reader.specs.declared.progress.Progress.{Progress}
use Rattle.ltx_reader.specs.declared.progress.Progress.TheVariants.{Going}
use Rattle.ltx_format.specs.LtxFormat.{HasHeader}
use Rattle.ltx_format.specs.FirstFault.{commit, fault_from, first_fault, header_fault}
use Rattle.ltx_reader.specs.Reader.{OfBytes, TellsFault, Reader, AreBytes, IsSummed, IsFaultlessTo, IsReaderOf}
use Rattle.ltx_reader.specs.Reader.{Progresses, next_block, block_offset, read_to, pages_from, pages_to_come}
use Rattle.ltx_reader.specs.Reader.{pages_left, pages_of}
use Rattle.ltx_reader.specs.ReaderSteps.{IsFilled}
use Rattle.std.proofs.lemmas.List.{take_all}
use Rattle.ltx_reader.proofs.ReaderTestLemmas.{filled_whole}
use Rattle.ltx_reader.proofs.ReaderHeaderLemmas.{header_fault_in_front}
use Rattle.ltx_reader.proofs.ReaderBlockLemmas.{none_or, some_or}

-- ---- a new reader

faultless_first : (bytes : List ℕ) → header_fault bytes ≡ None
    → first_fault bytes ≡ fault_from (suc (commit bytes)) bytes 0 0 100
unfolding first_fault
faultless_first bytes none = none_or (header_fault bytes) _ none

pub header_stops : (bytes : List ℕ) (fault : LtxFault) → header_fault bytes ≡ Some fault
    → first_fault bytes ≡ Some fault
unfolding first_fault
header_stops bytes fault is = some_or (header_fault bytes) _ fault is

pub begins : (bytes : List ℕ) (reader : Reader) → HasHeader bytes reader.header → header_fault bytes ≡ None
    → reader.count ≡ 0 → reader.last ≡ 0
    → reader.progress ≡ Going → IsSummed bytes 100 reader.sum → IsReaderOf bytes reader
begins bytes reader has none count last going summed =
    let at : next_block reader ≡ 100 = ap (block_offset reader.header) count
    ∙ (let here : 100 + 0 * (6 + reader.header.size) ≡ 100 = omega arith in here) in
    let start : IsFaultlessTo bytes reader = record {
      counted = omega (arith, count);
      few = omega (arith, last);
      rest =
          faultless_first bytes none
          ∙ ap (λ k. fault_from (suc k) bytes 0 0 100) (let all : commit bytes ≡ commit bytes - reader.count = omega
          (arith, count) in all)
          ∙ ap (λ k. fault_from (suc (commit bytes - reader.count)) bytes k 0 100) (sym count)
          ∙ ap (λ k. fault_from (suc (commit bytes - reader.count)) bytes reader.count k 100) (sym last)
          ∙ ap (λ k. fault_from (suc (commit bytes - reader.count)) bytes reader.count reader.last k) (sym at);
      summed = subst (λ (k : ℕ). IsSummed bytes k reader.sum) (sym (ap (read_to (next_block reader)) going
          ∙ at)) summed;
    } in
    record {
      header = has;
      progress = subst (λ (progress : Progress). Progresses bytes reader progress)
          (sym going) start;
    }

-- ---- the header that was read

pub has_in_front : (bytes front : List ℕ) (h : LtxHeader) → front ≡ take 100 bytes → length front ≡ 100
    → HasHeader front h → HasHeader bytes h
has_in_front bytes front h same size has = record {
  header = has.header;
  spelled = sym same ∙ sym (take_all 100 front (omega (arith, size))) ∙ has.spelled;
}

pub fault_in_front : (bytes front : List ℕ) (o : Option LtxFault) → front ≡ take 100 bytes → length front ≡ 100
    → 100 ≤ length bytes → header_fault (take 100 front) ≡ o → header_fault bytes ≡ o
fault_in_front bytes front o same size long is =
    sym (header_fault_in_front bytes long) ∙ ap header_fault (sym same
    ∙ sym (take_all 100 front (omega (arith, size)))) ∙ is

pub header_short : (bytes : List ℕ) → length bytes < 100 → header_fault bytes ≡ Some Short
unfolding header_fault
header_short bytes short = rw (lt-leb 100 (length bytes) short) refl

-- the first 100 bytes, read whole
pub record FrontRead (bytes front : List ℕ) : Type 0 where
  pub long : 100 ≤ length bytes
  pub same : front ≡ take 100 bytes
  pub size : length front ≡ 100

pub front_read : (bytes front : List ℕ) (n : ℕ) → IsFilled bytes 0 100 front n → length front ≡ 100 → 100 ≤ n
    → FrontRead bytes front
front_read bytes front n is size whole =
    let filled = filled_whole bytes 0 100 front n (omega arith) is size whole in
    let inside = filled.inside in
    record { long = omega (arith, inside, size); same = filled.stand ∙ ap (λ k. take k bytes) size; size = size }

pub summed_header : (bytes front : List ℕ) (start sum : ℕ) → FrontRead bytes front → AreBytes front → IsBehind [] start
    → ((before : List ℕ) → IsBehind before start → IsBehind (before ++ front) sum) → IsSummed bytes 100 sum
summed_header bytes front start sum read small begun goes = record {
  inside = read.long;
  are_bytes = subst AreBytes read.same small;
  sum = subst (λ (xs : List ℕ). IsBehind xs sum) read.same (goes [] begun);
}

-- a fault of the file that goes on as it is
pub told_err : {T : Type 0} (told : Told) (name : List ℕ) (r : Result T ReadFault) (found : LtxFault)
    → IsErrAnd r (λ other. other ≡ Fault found)
    → OfBytes told name (λ bytes. first_fault bytes ≡ Some found)
    → IfErr r (λ e. OfBytes told name (λ bytes. TellsFault bytes e))
told_err told name (Ok x) found is holds = absurd is
told_err told name (Err other) found is holds = subst (λ (e : ReadFault). OfBytes told name
    (λ bytes. TellsFault bytes e)) (sym is) holds
