-- What a reader gives a cursor.
use Rattle.std.proofs.Common.{◌≡◌, ℕ, suc, ◌+◌, ◌-◌, ◌<◌, ◌≤◌, false, eqb, List, [], ◌∷◌}
use Rattle.std.proofs.Common.{Option, Some, None, sym, ap, subst, ◌∙◌, arith}
use Rattle.std.specs.Prelude.{Result, Ok, Err, IfOk, IfErr, take, drop}
use Rattle.std.specs.Int.{w32}
use Rattle.std.specs.FinMap.{entries}
use Rattle.std.proofs.lemmas.Bool.{ne_eqb}
use Rattle.ls_base.specs.Change.{Change}
use Rattle.ltx_reader.specs.declared.progress.Progress.{Progress}
use Rattle.ltx_reader.specs.declared.progress.Progress.TheVariants.{AtNumber, Ended}
use Rattle.ltx_format.specs.FirstFault.{number, page_size, commit}
use Rattle.ltx_format.specs.LtxFormat.{IsLtxFile}
use Rattle.ltx_reader.specs.declared.read_fault.ReadFault.{ReadFault}
use Rattle.ltx_reader.specs.declared.read_fault.ReadFault.TheVariants.{Disk, Fault, Memory}
use Rattle.crash_disk.specs.declared.event.Event.{Event}
use Rattle.crash_disk.specs.Files.{files_after}
use Rattle.replica_store.specs.Listing.{bytes_under}
use Rattle.ltx_reader.specs.Reader.{bytes_named}
use Rattle.ltx_reader.specs.Reader.{Reader, Stops, TellsFault, IsReaderOf, IsNextNumber, Progresses, pages_left}
use Rattle.ltx_reader.specs.Reader.{pages_from, pages_of, pages_to_come, next_block, Announces, Gives}
use Rattle.ltx_format.proofs.BlockLoop.{next_parts}
use Rattle.ltx_reader.proofs.ReaderHeaderLemmas.{fields_of}
use Rattle.ltx_reader.proofs.ReaderLawLemmas.{ended_files, file_pages}

-- a reader at the end of its file has read a file of the format, whose pages are those that it gave
pub ended_file : (bytes : List ℕ) (reader : Reader) → IsReaderOf bytes reader → reader.progress ≡ Ended
    → (c : Change) × IsLtxFile bytes reader.header c × (entries c.pages ≡ pages_of bytes)
ended_file bytes reader is ended = let file = ended_files bytes reader is ended in (
  file.0,
  file.1,
  sym
      (file_pages bytes reader.header file.0 file.1),
)

pub commit_is : (bytes : List ℕ) (reader : Reader) → IsReaderOf bytes reader → commit bytes ≡ reader.header.commit
commit_is bytes reader is = (fields_of bytes reader.header is.header).commit_is

at_number : (bytes : List ℕ) (reader : Reader) (n : ℕ) → IsReaderOf bytes reader → reader.progress ≡ AtNumber n
    → IsNextNumber bytes reader n
at_number bytes reader n is at = (subst (λ (p : Progress). Progresses bytes reader p) at is.progress).1

above_zero : (left : ℕ) (bytes : List ℕ) (at n : ℕ) → number w32 at bytes ≡ n → 1 ≤ n
    → (page : List ℕ) × (rest : List (ℕ × List ℕ)) × (pages_from (suc left) bytes at ≡ (n, page) ∷ rest)
unfolding pages_from
above_zero left bytes at n is some =
    let nonzero : eqb (number w32 at bytes) 0 ≡ false = ne_eqb (number w32 at bytes) 0 (λ e. omega
    (arith, is, some, e)) in (
      take (page_size bytes) (drop (at + 6) bytes),
      pages_from left bytes (at + 6 + page_size bytes),
      rw nonzero (ap (λ (k : ℕ). (k, take (page_size bytes) (drop (at + 6) bytes)) ∷ pages_from left bytes
          (at + 6 + page_size bytes)) is),
    )

-- the page of the number with which it waits comes next
pub announced : (bytes : List ℕ) (reader : Reader) (n : ℕ) → IsReaderOf bytes reader → reader.progress ≡ AtNumber n
    → (page : List ℕ) × (rest : List (ℕ × List ℕ)) × (pages_left bytes reader ≡ (n, page) ∷ rest)
announced bytes reader n is at =
    let next = at_number bytes reader n is at in
    let found = above_zero (commit bytes - reader.count) bytes (next_block reader) n next.is next.some in
    (found.0, found.1, ap (λ (p : Progress). pages_to_come bytes reader p) at ∙ found.2)

-- and is above the last one, and at most the commit
pub number_fits : (bytes : List ℕ) (reader : Reader) (n : ℕ) → IsReaderOf bytes reader → reader.progress ≡ AtNumber n
    → (reader.last < n) × (n ≤ reader.header.commit)
number_fits bytes reader n is at =
    let next = at_number bytes reader n is at in
    let parts = next_parts (page_size bytes) (commit bytes) reader.last n next.next in
    (parts.0, omega (arith, parts.1, commit_is bytes reader is))

-- ---- a page and the number behind it

abbrev head_or : ℕ → List (ℕ × List ℕ) → ℕ
head_or n [] = n
head_or n (block ∷ blocks) = block.0

-- what a reader does that gives a page and then looks for the next number
pub record Turns (bytes : List ℕ) (old mid new : Reader) (page : List ℕ) (given next : Option ℕ) : Type 0 where
  pub gives : IsReaderOf bytes old → Gives bytes old mid page given
  pub keeps : IsReaderOf bytes old → IsReaderOf bytes mid
  pub moved : (n : ℕ) → given ≡ Some n → mid.last ≡ n
  pub announces : IsReaderOf bytes mid → Announces bytes mid new next
  pub keeps_too : IsReaderOf bytes mid → IsReaderOf bytes new
  pub waits : (n : ℕ) → next ≡ Some n → new.progress ≡ AtNumber n
  pub stays : (n : ℕ) → next ≡ Some n → new.last ≡ mid.last

first_number : (m n : ℕ) (page first : List ℕ) (left rest : List (ℕ × List ℕ))
    → (m, page) ∷ left ≡ (n, first) ∷ rest → m ≡ n
first_number m n page first left rest e = ap (head_or m) e

gives_which : (bytes : List ℕ) (old mid : Reader) (page first : List ℕ) (rest : List (ℕ × List ℕ)) (n : ℕ)
    (given : Option ℕ)
    → pages_left bytes old ≡ (n, first) ∷ rest → Gives bytes old mid page given
    → (given ≡ Some n) × (pages_left bytes old ≡ (n, page) ∷ pages_left bytes mid)
gives_which bytes old mid page first rest n None is gives = let none = gives.0 in absurd cc
gives_which bytes old mid page first rest n (Some m) is gives =
    let same : m ≡ n = first_number m n page first (pages_left bytes mid) rest (sym gives ∙ is) in
    (ap (λ (k : ℕ). Some k) same, gives ∙ ap (λ (k : ℕ). (k, page) ∷ pages_left bytes mid) same)

pub still_left : (bytes : List ℕ) (mid new : Reader) (next : Option ℕ) → Announces bytes mid new next
    → pages_left bytes new ≡ pages_left bytes mid
still_left bytes mid new None (none, ended) = ap (λ (p : Progress). pages_to_come bytes new p) ended ∙ sym none
still_left bytes mid new (Some n) announces = announces.3

-- the page of the number with which the reader waited, and what is left behind it
pub turned : (bytes : List ℕ) (old mid new : Reader) (page : List ℕ) (given next : Option ℕ) (n : ℕ)
    → IsReaderOf bytes old → old.progress ≡ AtNumber n → Turns bytes old mid new page given next
    → (pages_left bytes old ≡ (n, page) ∷ pages_left bytes new) × IsReaderOf bytes new × (mid.last ≡ n)
turned bytes old mid new page given next n is at turns =
    let first = announced bytes old n is at in
    let which = gives_which bytes old mid page first.0 first.1 n given first.2 (turns.gives is) in
    let middle = turns.keeps is in (
      which.1 ∙ ap (λ (left : List (ℕ × List ℕ)). (n, page) ∷ left) (sym (still_left bytes mid new next
          (turns.announces middle))),
      turns.keeps_too middle,
      turns.moved n which.0,
    )

-- a fault that stops a reader is the file's first
pub fault_told : (bytes : List ℕ) (reader : Reader) (e : ReadFault) → IsReaderOf bytes reader
    → Stops reader.progress (Err e) → TellsFault bytes e
fault_told bytes reader (Disk why) is stops = tt
fault_told bytes reader (Fault why) is stops = subst (λ (p : Progress). Progresses bytes reader p) stops is.progress
fault_told bytes reader Memory is stops = tt

-- the bytes under the reader's name are those under the path
pub at_path : (events : List Event) (name path : List ℕ) (P : List ℕ → Type 0) → name ≡ path
    → P (bytes_named events name) → P (bytes_under (files_after events) path)
at_path events name path P same holds = subst (λ (n : List ℕ). P (bytes_named events n)) same holds

abbrev pub ok_next : Option ℕ → Result (Option ℕ) ReadFault
ok_next next = Ok next

pub from_ok : {T E : Type 0} (r : Result T E) (P : T → Type 0) (x : T) → IfOk r P → r ≡ Ok x → P x
from_ok (Ok y) P x holds is = let same : y ≡ x = cc in subst P same holds
from_ok (Err e) P x holds is = absurd cc

pub from_err : {T E : Type 0} (r : Result T E) (P : E → Type 0) (e : E) → IfErr r P → r ≡ Err e → P e
from_err (Ok x) P e holds is = absurd cc
from_err (Err x) P e holds is = let same : x ≡ e = cc in subst P same holds
