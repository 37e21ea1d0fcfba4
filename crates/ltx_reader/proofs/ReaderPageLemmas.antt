-- How a page that was asked for is given.
use Rattle.std.proofs.Common.{◌≡◌, ℕ, ◌+◌, ◌-◌, ◌≤◌, List, length, Some, Result, Ok, Err, refl, sym, ap, ◌∙◌, arith}
use Rattle.std.specs.Result.{IsErrAnd, IsErrOf}
use Rattle.ltx_format.specs.declared.fault.LtxFault.{LtxFault}
use Rattle.ltx_reader.specs.declared.read_fault.ReadFault.{ReadFault}
use Rattle.ltx_reader.specs.declared.read_fault.ReadFault.TheVariants.{Disk, Fault, Memory}
use Rattle.ltx_reader.specs.declared.progress.Progress.{Progress}
use Rattle.ltx_reader.specs.declared.progress.Progress.TheVariants.{Going, AtNumber, Ended, Failed}
use Rattle.crash_disk.specs.declared.fault.DiskFault.{DiskFault}
use Rattle.ltx_reader.specs.ReaderGiven.{read_so_far, bytes_to_come, bytes_left}
use Rattle.ltx_reader.specs.Reader.{HasSameFile, StaysBeforePage, RepeatsNumber, IsAsBefore, Reader, IsReaderOf}
use Rattle.ltx_reader.specs.Reader.{next_block, block_offset, read_to}
use Rattle.ltx_reader.specs.ReaderSteps.{Passes, reaches, stopped}
use Rattle.ltx_reader.proofs.ReaderProgressLemmas.{add_block, page_stops, summed_here}

number_not_failed : (n : ℕ) (fault : LtxFault) → AtNumber n ≡ Failed fault → ⊥
number_not_failed n fault e = absurd cc

number_not_ended : (n : ℕ) → AtNumber n ≡ Ended → ⊥
number_not_ended n e = absurd cc

pub disk_stops : (fault : ReadFault) (why : DiskFault) (reader : Reader) → fault ≡ Disk why
    → stopped fault reader ≡ reader
disk_stops fault why reader is = ap (λ f. stopped f reader) is

module _ (bytes : List ℕ) (reader : Reader) (n : ℕ) (is : IsReaderOf bytes reader)
    (waits : reader.progress ≡ AtNumber n) where
  pub page_stopped : {T : Type 0} (P : T → Type 0) (fault : ReadFault)
      → Passes P (reaches bytes (next_block reader + 6) reader.header.size) (Err fault)
      → IsReaderOf bytes (stopped fault reader)
  page_stopped P (Disk why) found = is
  page_stopped P Memory found = is
  page_stopped P (Fault fault) found = page_stops bytes reader n is waits fault found

  pub number_inside : next_block reader + 6 ≤ length bytes
  number_inside = (summed_here bytes reader n is waits).inside

pub same_block : (old new : Reader) → HasSameFile old new → StaysBeforePage old new → next_block new ≡ next_block old
same_block old new file stays = ap (λ k. block_offset new.header k) stays.count
    ∙ ap (λ h. block_offset h old.count) file.header

read_to_max : (at : ℕ) (progress : Progress) → read_to at progress ≤ at + 6
read_to_max at Going = omega arith
read_to_max at (AtNumber n) = omega arith
read_to_max at Ended = omega arith
read_to_max at (Failed fault) = omega arith

read_at_number : (reader : Reader) (n : ℕ) → reader.progress ≡ AtNumber n → read_so_far reader ≡ next_block reader + 6
read_at_number reader n waits = ap (read_to (next_block reader)) waits

-- how far the reader is behind the page
pub read_past : (old mid new : Reader) (n sum : ℕ) → HasSameFile old mid → StaysBeforePage old mid
    → mid.progress ≡ AtNumber n
    → new ≡ record mid { count = mid.count + 1; last = n; sum = sum; progress = Going }
    → read_so_far mid - read_so_far old + mid.header.size ≤ read_so_far new - read_so_far old
read_past old mid new n sum file stays waits is =
    let past : read_so_far new ≡ block_offset mid.header (mid.count + 1) = ap read_so_far is in
    let next = add_block mid.header mid.count mid.header.size refl in
    let at = read_at_number mid n waits in
    let same = same_block old mid file stays in
    let most = read_to_max (next_block old) old.progress in
    omega (arith, past, next, at, same, most)

left_for : (bytes : List ℕ) (old : Reader) (progress : Progress) (n most : ℕ) → RepeatsNumber progress (Ok (Some n))
    → next_block old + 6 ≤ length bytes
    → most ≤ length bytes - (next_block old + 6) → next_block old + 6 - read_to
    (next_block old) progress + most ≤ bytes_to_come bytes old progress
left_for bytes old Going n most again inside fits = omega (arith, inside, fits)
left_for bytes old (AtNumber m) n most again inside fits = omega (arith, inside, fits)
left_for bytes old Ended n most again inside fits = absurd cc
left_for bytes old (Failed fault) n most again inside fits = absurd cc

pub left_for_page : (bytes : List ℕ) (old mid : Reader) (n most : ℕ) → HasSameFile old mid → StaysBeforePage old mid
    → mid.progress ≡ AtNumber n
    → RepeatsNumber old.progress (Ok (Some n)) → next_block mid + 6 ≤ length bytes
    → most ≤ length bytes - (next_block mid + 6)
    → read_so_far mid - read_so_far old + most ≤ bytes_left bytes old
left_for_page bytes old mid n most file stays waits again inside fits =
    let at = read_at_number mid n waits in
    let same = same_block old mid file stays in
    let left = left_for bytes old old.progress n most again (omega (arith, same, inside)) (omega (arith, same, fits)) in
    omega (arith, at, same, left)

-- a fault of the disk while the page is read
pub as_before : (old mid new : Reader) (n : ℕ) → StaysBeforePage old mid → mid.progress ≡ AtNumber n → new ≡ mid
    → IsAsBefore old new
as_before old mid new n stays waits is =
    let progress : new.progress ≡ AtNumber n = ap (λ (r : Reader). r.progress) is ∙ waits in
    record {
      count = ap (λ (r : Reader). r.count) is ∙ stays.count;
      last = ap (λ (r : Reader). r.last) is ∙ stays.last;
      unfailed = λ fault failed. absurd (number_not_failed n fault (sym progress ∙ failed));
      not_ended = λ ended. absurd (number_not_ended n (sym progress ∙ ended));
    }

abbrev wrong : {T : Type 0} → ReadFault → Result T ReadFault
wrong fault = Err fault

same_fault : {T : Type 0} (a b : ReadFault) → IsErrOf (wrong {T = T} a) b → a ≡ b
same_fault a b is = cc

pub err_same : {T : Type 0} (r : Result T ReadFault) (e : ReadFault) (why : DiskFault)
    → IsErrAnd r (λ other. other ≡ e) → IsErrOf r (Disk why) → e ≡ Disk why
err_same (Ok x) e why is other = absurd is
err_same {T = T} (Err fault) e why is other = sym is ∙ same_fault {T = T} fault (Disk why) other
