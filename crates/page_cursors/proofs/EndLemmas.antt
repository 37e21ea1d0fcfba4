-- Reading a file to its end.
use Rattle.std.proofs.Common.{◌≡◌, ℕ, zero, suc, ◌+◌, ◌-◌, ◌^◌, ◌<◌, ◌≤◌, eqb, true, false, Bool, List, length}
use Rattle.std.proofs.Common.{Option, Some, None, refl, ap, subst, ◌∙◌, arith, inl, inr}
use Rattle.std.specs.Prelude.{is_some, not}
use Rattle.std.specs.Int.{w32}
use Rattle.crash_disk.specs.Files.{Files}
use Rattle.replica_store.specs.declared.file_name.FileName.{FileName}
use Rattle.page_cursors.specs.Cursor.{ReadsFile, HasEnded, bytes_of}
use Rattle.std.proofs.lemmas.Bool.{cases_Bool}
use Rattle.ltx_reader.specs.declared.progress.Progress.{Progress}
use Rattle.ltx_reader.specs.declared.progress.Progress.TheVariants.{Going, AtNumber, Ended, Failed}
use Rattle.ltx_format.specs.FirstFault.{number, page_size, commit}
use Rattle.ltx_format.proofs.HeaderLaws.{commit_fits}
use Rattle.page_cursors.proofs.ReaderLemmas.{commit_is}
use Rattle.ltx_reader.specs.Reader.{Reader, IsReaderOf, pages_left, pages_from, pages_to_come, next_block, Gives}

-- the reader has given so many pages on the way to the end
pub record ReadsOn (bytes : List ℕ) (turns : ℕ) (reader : Reader) : Type 0 where
  pub reads : IsReaderOf bytes reader
  pub few : turns + length (pages_left bytes reader) ≤ 2 ^ 32

-- no more pages come than are asked for
at_most : (left : ℕ) (bytes : List ℕ) (at : ℕ) → length (pages_from left bytes at) ≤ left
unfolding pages_from
at_most zero bytes at = omega arith
at_most (suc left) bytes at = elim (cases_Bool (eqb (number w32 at bytes) 0)) [
  | inl none ↦ rw none (omega arith)
  | inr some ↦ rw some (let rest = at_most left bytes (at + 6 + page_size bytes) in omega (arith, rest))
]

commit_small : (bytes : List ℕ) (reader : Reader) → IsReaderOf bytes reader → suc (commit bytes) ≤ 2 ^ 32
commit_small bytes reader is =
    let same = commit_is bytes reader is in
    let fits = commit_fits reader.header.size reader.header.commit is.header.header.size is.header.header.small in
    omega (arith, same, fits)

few_left : (bytes : List ℕ) (reader : Reader) (progress : Progress) → suc (commit bytes) ≤ 2 ^ 32
    → length (pages_to_come bytes reader progress) ≤ 2 ^ 32
few_left bytes reader Going small = let most = at_most (suc (commit bytes - reader.count)) bytes
    (next_block reader) in omega (arith, most, small)
few_left bytes reader (AtNumber n) small = let most = at_most (suc (commit bytes - reader.count)) bytes
    (next_block reader) in omega (arith, most, small)
few_left bytes reader Ended small = omega arith
few_left bytes reader (Failed fault) small = omega arith

pub begins_on : (bytes : List ℕ) (reader : Reader) → IsReaderOf bytes reader → ReadsOn bytes 0 reader
begins_on bytes reader is = record {
  reads = is;
  few = let few = few_left bytes reader reader.progress
      (commit_small bytes reader is) in omega (arith, few);
}

pub reads_on : (bytes : List ℕ) (turns : ℕ) (old new : Reader) (page : List ℕ) (n : ℕ) → ReadsOn bytes turns old
    → (IsReaderOf bytes old → IsReaderOf bytes new)
    → (IsReaderOf bytes old → Gives bytes old new page (Some n)) → ReadsOn bytes (turns + 1) new
reads_on bytes turns old new page n on keeps gives = record {
  reads = keeps on.reads;
  few = let few = on.few in let less = ap length (gives on.reads) in omega (arith, few, less);
}

-- so that the turns end before they run out
pub turns_end : (bytes : List ℕ) (turns : ℕ) (reader : Reader) → ReadsOn bytes turns reader → 2 ^ 32 < turns → ⊥
turns_end bytes turns reader on many = let few = on.few in omega (arith, few, many)

pub none_given : (given : Option ℕ) (test : Bool) → test ≡ true → is_some given ≡ not test → given ≡ None
none_given None test passed is = refl
none_given (Some n) test passed is = absurd cc

pub some_given : (given : Option ℕ) (test : Bool) → test ≡ false → is_some given ≡ not test → (n : ℕ) × (given ≡ Some n)
some_given None test failed is = absurd cc
some_given (Some n) test failed is = (n, refl)

pub came_to_end : (files : Files) (name : FileName) (first old new : Reader) (page : List ℕ) (given : Option ℕ)
    (turns : ℕ) (test : Bool) → test ≡ true → is_some given ≡ not test
    → new.name ≡ first.name → new.header ≡ first.header → (ReadsFile files name first
    → ReadsOn (bytes_of files name) turns old)
    → (ReadsFile files name first → IsReaderOf (bytes_of files name) old → IsReaderOf (bytes_of files name) new)
    → (ReadsFile files name first → IsReaderOf (bytes_of files name) old
    → Gives (bytes_of files name) old new page given) → HasEnded files name first new
came_to_end files name first old new page given turns test passed is same_name same_header on keeps gives = record {
  header = same_header;
  ended = λ reads.
      let before = (on reads).reads in
      let none = subst (λ (o : Option ℕ). Gives (bytes_of files name) old new page o)
      (none_given given test passed is) (gives reads before) in
      (record { named = same_name ∙ reads.named; reads = keeps reads before }, none.1);
}

pub goes_on_reading : (files : Files) (name : FileName) (first old new : Reader) (page : List ℕ) (given : Option ℕ)
    (turns : ℕ) (test : Bool) → test ≡ false → is_some given ≡ not test
    → ReadsFile files name first → (ReadsFile files name first → ReadsOn (bytes_of files name) turns old)
    → (IsReaderOf (bytes_of files name) old → IsReaderOf (bytes_of files name) new)
    → (IsReaderOf (bytes_of files name) old → Gives (bytes_of files name) old new page given)
    → ReadsOn (bytes_of files name) (turns + 1) new
goes_on_reading files name first old new page given turns test failed is reads on keeps gives =
    let n = some_given given test failed is in
    reads_on (bytes_of files name) turns old new page n.0 (on reads) keeps (λ before. subst (λ (o : Option ℕ). Gives
    (bytes_of files name) old new page o) n.1 (gives before))
