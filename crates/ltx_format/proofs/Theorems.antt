-- What `decode` promises: what is read is spelled so, what is spelled so is read, and each value has one
-- spelling.
use Rattle.std.proofs.Common.{◌≡◌, ℕ, List, ◌++◌, length, take, Result, Ok, Err, refl, sym, ap, subst, ◌∙◌}
use Rattle.std.specs.Prelude.{IfOk}
use Rattle.std.specs.Int.{w64, to_be_bytes}
use Rattle.std.specs.FinMap.{entries, same_entries_map}
use Rattle.std.proofs.lemmas.List.{take_at}
use Rattle.ls_base.specs.Change.{Change}
use Rattle.ltx_format.specs.declared.fault.DecodeFault.{DecodeFault}
use Rattle.ltx_format.specs.declared.fault.DecodeFault.TheVariants as causes
use Rattle.ltx_format.specs.declared.file.LtxFile.{LtxFile}
use Rattle.ltx_format.specs.declared.header.LtxHeader.{LtxHeader}
use Rattle.ltx_format.specs.LtxFormat.{IsLtxFile, change_of, file_sum, ReadsAs}
use Rattle.ltx_format.specs.Reading.{ReadsInMemory, parts, file_at}
use Rattle.ltx_format.proofs.Crc64Lemmas.{file_sum-lt}
use Rattle.ltx_format.proofs.StepLemmas.{same_ok, err_is_not_ok}
use Rattle.ltx_format.proofs.FieldLaws.{AreBytes, AreBytes-take}
use Rattle.ltx_format.proofs.BlockLoop.{Blocks}
use Rattle.ltx_format.proofs.PageLemmas.{pages-from_blocks, blocks-from_pages}
use Rattle.ltx_format.proofs.FileLaws.{before_sum, file-read, file-again}
use Rattle.ltx_format.proofs.ByteLemmas.{file_are_bytes}

pub what_is_read : (bytes : List ℕ) (r : Result LtxFile DecodeFault) → AreBytes bytes
    → ReadsInMemory parts r (file_at bytes) → IfOk r (λ file. IsLtxFile bytes file.header (change_of file))
what_is_read bytes (Ok file) small reads =
    let is = file-read bytes (parts file) small reads in
    record {
      header = is.header;
      same_size = refl;
      same_commit = refl;
      pages =
          pages-from_blocks file.header file.pages is.blocks is.whole;
      spelled = is.spelled;
    }
what_is_read bytes (Err cause) small reads = tt

-- the front of bytes are bytes
AreBytes-front : (front rest bytes : List ℕ) → bytes ≡ front ++ rest → AreBytes bytes → AreBytes front
AreBytes-front front rest bytes e small =
    let taken : take (length front) bytes ≡ front = ap (take (length front)) e
    ∙ take_at front rest (length front) refl in
    subst AreBytes taken (AreBytes-take (length front) bytes small)

pub file_is_read : (bytes : List ℕ) (h : LtxHeader) (c : Change) → AreBytes bytes → IsLtxFile bytes h c
    → file_at bytes ≡ Ok (h, entries c.pages)
file_is_read bytes h c small is =
    let blocks = entries c.pages in
    let before = before_sum h blocks in
    let fit = blocks-from_pages h c.pages is.pages in
    let before_small = AreBytes-front before (to_be_bytes w64 (file_sum before)) bytes is.spelled small in
    file-again bytes h blocks small (record { header = is.header; blocks = fit.0; whole = fit.1; spelled = is.spelled })
    (file_sum-lt before before_small)

same_change : (c d : Change) → c.page_size ≡ d.page_size → c.commit ≡ d.commit → entries c.pages ≡ entries d.pages
    → c ≡ d
same_change c d size commit blocks =
    let pages = same_entries_map c.pages d.pages blocks in
    λ i. record { page_size = size i; commit = commit i; pages = pages i }

reads_as : (r : Result LtxFile DecodeFault) (h : LtxHeader) (c : Change) → c.page_size ≡ h.size → c.commit ≡ h.commit
    → ReadsInMemory parts r (Ok (h, entries c.pages)) → ReadsAs r h c
reads_as (Ok file) h c size commit reads =
    let same = same_ok (h, entries c.pages) (parts file) reads in
    let header : file.header ≡ h = sym (ap (λ (x : LtxHeader × Blocks). x.0) same) in
    let blocks : entries file.pages ≡ entries c.pages = sym (ap (λ (x : LtxHeader × Blocks). x.1) same) in (
      header,
      same_change (change_of file) c (ap (λ (x : LtxHeader). x.size) header ∙ sym size)
          (ap (λ (x : LtxHeader). x.commit) header ∙ sym commit) blocks,
    )
reads_as (Err causes.Memory) h c size commit reads = refl
reads_as (Err (causes.Fault fault)) h c size commit reads = absurd
    (err_is_not_ok fault (h, entries c.pages) (sym reads))

pub what_is_spelled : (bytes : List ℕ) (r : Result LtxFile DecodeFault) → AreBytes bytes
    → ReadsInMemory parts r (file_at bytes) → (h : LtxHeader) (c : Change) → IsLtxFile bytes h c → ReadsAs r h c
what_is_spelled bytes r small reads h c is = reads_as r h c is.same_size is.same_commit
    (subst (ReadsInMemory parts r) (file_is_read bytes h c small is) reads)

-- ---- one spelling

pub same_bytes : (a b : List ℕ) (h : LtxHeader) (c : Change) → IsLtxFile a h c → IsLtxFile b h c → a ≡ b
same_bytes a b h c is other = is.spelled ∙ sym other.spelled

pub same_value : (bytes : List ℕ) (h i : LtxHeader) (c d : Change) → IsLtxFile bytes h c → IsLtxFile bytes i d → (h ≡ i)
    × (c ≡ d)
same_value bytes h i c d is other =
    let small = file_are_bytes bytes h c is in
    let same = same_ok (h, entries c.pages) (i, entries d.pages)
    (sym (file_is_read bytes h c small is) ∙ file_is_read bytes i d small other) in
    let header : h ≡ i = ap (λ (x : LtxHeader × Blocks). x.0) same in (
      header,
      same_change c d (is.same_size ∙ ap (λ (x : LtxHeader). x.size) header ∙ sym other.same_size)
          (is.same_commit ∙ ap (λ (x : LtxHeader). x.commit) header ∙ sym other.same_commit)
          (ap (λ (x : LtxHeader × Blocks). x.1) same),
    )
