-- A reader at its end has read a file, and what it gave are the pages of the file's change.
use Rattle.std.proofs.Common.{◌≡◌, ℕ, zero, suc, ◌+◌, ◌≤◌, Bool, true, false, ◌==◌, nat_le, List, [], ◌∷◌, ◌++◌, length}
use Rattle.std.proofs.Common.{take, drop, Result, Ok, refl, sym, ap, subst, ◌∙◌, arith, if◌then◌else◌, inl, inr}
use Rattle.std.specs.Prelude.{◌⊎◌}
use Rattle.std.specs.Int.{w16, w32, from_be_bytes}
use Rattle.std.specs.FinMap.{entries}
use Rattle.std.proofs.lemmas.Bool.{eqb-true, eqb-false}
use Rattle.std.proofs.lemmas.List.{drop-drop, take_all, take-append-le, length-append}
use Rattle.ls_base.specs.Change.{Change}
use Rattle.ltx_format.specs.declared.fault.LtxFault.{LtxFault}
use Rattle.ltx_format.specs.declared.fault.LtxFault.TheVariants.{Short, BadOrder}
use Rattle.ltx_format.specs.declared.header.LtxHeader.{LtxHeader}
use Rattle.ltx_format.specs.LtxFormat.{HasHeader, IsLtxFile, header_bytes, page_blocks, ltx_bytes}
use Rattle.ltx_format.specs.FirstFault.{page_size, commit, is_next}
use Rattle.ltx_format.specs.Reading.{where_true, number_at, flags_from, block_at, last_at, page_at, blocks_at}
use Rattle.ltx_format.specs.Reading.{header_at, index_part_at, end_at, has_all, file_at}
use Rattle.ltx_reader.specs.Reader.{AreBytes, Reader, IsReaderOf, Progresses, pages_from, pages_of}
use Rattle.ltx_reader.specs.declared.progress.Progress.{Progress}
use Rattle.ltx_reader.specs.declared.progress.Progress.TheVariants.{Ended}
use Rattle.ltx_format.proofs.FrontLemmas.{same_header}
use Rattle.ltx_format.proofs.HeaderLaws.{header-length}
use Rattle.ltx_format.proofs.StepLemmas.{bind_then, same_ok, where_true-ok}
use Rattle.ltx_format.proofs.FileFaults.{says_fields, files}
use Rattle.ltx_format.proofs.ByteLemmas.{file_are_bytes}
use Rattle.ltx_format.proofs.Theorems.{file_is_read}
use Rattle.ltx_reader.proofs.ReaderTrailerLemmas.{number_read}
use Rattle.ltx_reader.proofs.ReaderBlockLemmas.{pages_end, pages_next}

abbrev Block : Type 0
Block = ℕ × List ℕ

abbrev BlocksRead : Type 0
BlocksRead = List (ℕ × List ℕ) × List ℕ

block_read : (xs : List ℕ) (y : Block) → block_at xs ≡ Ok y → (from_be_bytes w32 (take 4 xs) ≡ y.0) × (y.1 ≡ drop 6 xs)
unfolding block_at
block_read xs y e =
    bind_then (number_at w32 xs) _ y e (λ a a_is e1. bind_then (number_at w16 a.1) _ y e1 (λ f f_is e2. bind_then
    (flags_from 0 f.0) _ y e2 (λ plain plain_is e3.
    let first = number_read w32 xs a.0 a.1 a_is in
    let second = number_read w16 a.1 f.0 f.1 f_is in
    let last = same_ok (a.0, f.1) y e3 in (
      sym first.is ∙ ap (λ (p : Block). p.0) last,
      sym (ap (λ (p : Block). p.1) last) ∙ second.behind ∙ ap (drop 2) first.behind ∙ drop-drop 2 4 xs,
    ))))

page_read : (size commit last n : ℕ) (xs : List ℕ) (y : List ℕ × List ℕ) → page_at size commit last n xs ≡ Ok y
    → (y.0 ≡ take size xs) × (y.1 ≡ drop size xs)
unfolding page_at
page_read size commit last n xs y e =
    bind_then (where_true (is_next size commit last n) (BadOrder n) xs) (λ rest. where_true (nat_le size
    (length rest)) Short (take size rest, drop size rest)) y e (λ rest rest_is e1.
    let a = where_true-ok (is_next size commit last n) (BadOrder n) xs rest rest_is in
    let b = where_true-ok (nat_le size (length rest)) Short (take size rest, drop size rest) y e1 in (
      sym (ap (λ (p : List ℕ × List ℕ). p.0) b.1) ∙ ap (take size) (sym a.1),
      sym (ap (λ
          (p : List ℕ × List ℕ). p.1) b.1) ∙ ap (drop size) (sym a.1),
    ))

last_read : (xs rest : List ℕ) → last_at xs ≡ Ok rest → from_be_bytes w32 (take 4 xs) ≡ 0
unfolding last_at
last_read xs rest e =
    bind_then (block_at xs) _ rest e (λ n n_is e1.
    let a = where_true-ok (n.0 == 0) (BadOrder n.0) n.1 rest e1 in
    (block_read xs n n_is).0 ∙ eqb-true n.0 0 a.0)

either : (b : Bool) (none : BlocksRead) (more : Result BlocksRead LtxFault) (x : BlocksRead)
    → (if b then Ok none else more) ≡ Ok x
    → ((b ≡ true) × (none ≡ x)) ⊎ ((b ≡ false) × (more ≡ Ok x))
either true none more x e = inl (refl, same_ok none x e)
either false none more x e = inr (refl, e)

pub pages_of_blocks : (bytes : List ℕ) (n commit last at : ℕ) (x : BlocksRead)
    → blocks_at n (page_size bytes) commit last (drop at bytes) ≡ Ok x
    → pages_from (suc n) bytes at ≡ x.0
unfolding blocks_at
pages_of_blocks bytes zero commit last at x e =
    bind_then (last_at (drop at bytes)) _ x e (λ rest last_is e1.
    pages_end bytes 0 at (last_read (drop at bytes) rest last_is)
    ∙ ap (λ (p : BlocksRead). p.0) (same_ok ([], rest) x e1))
pages_of_blocks bytes (suc n) commit last at x e =
    bind_then (block_at (drop at bytes)) _ x e (λ first first_is e1.
    let block = block_read (drop at bytes) first first_is in
    elim (either (first.0 == 0) ([], first.1) _ x e1) [
      | inl ended ↦ pages_end bytes (suc n) at (block.0 ∙ eqb-true first.0 0 ended.0)
          ∙ ap (λ (p : BlocksRead). p.0) ended.1
      | inr goes ↦
          bind_then (page_at (page_size bytes) commit last first.0 first.1) _ x goes.1 (λ page page_is e2.
          bind_then (blocks_at n (page_size bytes) commit first.0 page.1) _ x e2 (λ others others_is e3.
          let given = page_read (page_size bytes) commit last first.0 first.1 page page_is in
          let here : first.1 ≡ drop (at + 6) bytes = block.1 ∙ drop-drop 6 at bytes in
          let behind : page.1 ≡ drop (at + 6 + page_size bytes) bytes = given.1 ∙ ap (drop (page_size bytes)) here
          ∙ drop-drop (page_size bytes) (at + 6) bytes in
          let rest = pages_of_blocks bytes n commit first.0 (at + 6 + page_size bytes) others (ap (blocks_at n
          (page_size bytes) commit first.0) (sym behind) ∙ others_is) in
          pages_next bytes (suc n) at (λ none. eqb-false first.0 0 goes.0 (sym block.0 ∙ none))
          ∙ ap (λ k. (k, take (page_size bytes) (drop (at + 6) bytes)) ∷ pages_from (suc n) bytes
          (at + 6 + page_size bytes)) block.0
          ∙ ap (λ xs. (first.0, xs) ∷ pages_from (suc n) bytes (at + 6 + page_size bytes)) (ap (take
          (page_size bytes)) (sym here) ∙ sym given.0)
          ∙ ap (λ ps. (first.0, page.0) ∷ ps) rest
          ∙ ap (λ (p : BlocksRead). p.0) (same_ok ((first.0, page.0) ∷ others.0, others.1) x e3)))
    ])

read_pages : (bytes : List ℕ) (y : LtxHeader × List (ℕ × List ℕ)) → AreBytes bytes → file_at bytes ≡ Ok y
    → pages_of bytes ≡ y.1
unfolding file_at
read_pages bytes y small e =
    bind_then (header_at bytes) _ y e (λ h h_is e1. bind_then (blocks_at h.0.commit h.0.size h.0.commit 0 h.1) _ y e1
    (λ blocks blocks_is e2.
    bind_then (where_true (has_all h.0 blocks.0) (BadOrder 0) blocks.0) _ y e2 (λ whole whole_is e3.
    bind_then (index_part_at h.0.index _ blocks.1) _ y e3 (λ tail tail_is e4. bind_then (end_at bytes tail) _ y e4
    (λ ended ended_is e5.
    let says = says_fields bytes h small h_is in
    let same = where_true-ok (has_all h.0 blocks.0) (BadOrder 0) blocks.0 whole whole_is in
    let read = ap (λ size. blocks_at h.0.commit size h.0.commit 0 h.1) (sym says.size_is) ∙ blocks_is in
    let here = ap (blocks_at h.0.commit (page_size bytes) h.0.commit 0) (sym says.behind) ∙ read in
    ap (λ k. pages_from (suc k) bytes 100) (sym says.commit_is)
    ∙ pages_of_blocks bytes h.0.commit h.0.commit 0 100 blocks here
    ∙ same.1 ∙ ap (λ (p : LtxHeader × List (ℕ × List ℕ)). p.1) (same_ok (h.0, whole) y e5))))))

pub file_pages : (bytes : List ℕ) (h : LtxHeader) (c : Change) → IsLtxFile bytes h c → pages_of bytes ≡ entries c.pages
file_pages bytes h c is =
    let small = file_are_bytes bytes h c is in
    read_pages bytes (h, entries c.pages) small (file_is_read bytes h c small is)

-- bytes that begin with these 100
record BeginsWith100 (front xs : List ℕ) : Type 0 where
  first : take 100 xs ≡ front
  long : 100 ≤ length xs

more_behind : (front xs ys : List ℕ) → BeginsWith100 front xs → BeginsWith100 front (xs ++ ys)
more_behind front xs ys begins =
    let long = begins.long in
    record { first = take-append-le 100 xs ys long ∙ begins.first; long = omega (arith, long, length-append xs ys) }

header_first : (h : LtxHeader) (c : Change) → take 100 (ltx_bytes h c.pages) ≡ header_bytes h
header_first h c =
    let front = header_bytes h in
    let start : BeginsWith100 front front = record {
      first = take_all 100 front (omega
          (arith, header-length h));
      long = omega (arith, header-length h);
    } in
    (more_behind front _ _ (more_behind front _ _ (more_behind front _ _ (more_behind front _ _ (more_behind front _
    (page_blocks c.pages) start))))).first

begins_with_header : (bytes : List ℕ) (h : LtxHeader) (c : Change) → IsLtxFile bytes h c → HasHeader bytes h
begins_with_header bytes h c is = record { header = is.header; spelled = ap (take 100) is.spelled ∙ header_first h c }

pub ended_files : (bytes : List ℕ) (reader : Reader) → IsReaderOf bytes reader → reader.progress ≡ Ended
    → (c : Change) × IsLtxFile bytes reader.header c
ended_files bytes reader is ended =
    let done = subst (λ (progress : Progress). Progresses bytes reader progress) ended is.progress in
    let file = (files bytes done.1).0 done.0 in
    let same : file.0 ≡ reader.header = same_header bytes file.0 reader.header
    (begins_with_header bytes file.0 file.1 file.2) is.header in
    (file.1, subst (λ (h : LtxHeader). IsLtxFile bytes h file.1) same file.2)
