-- The log that files tell.
use Rattle.std.proofs.Common.{◌≡◌, ℕ, suc, ◌<◌, ◌≤◌, List, [], ◌++◌, length, take, replicate, Option, Some, sym, ap}
use Rattle.std.proofs.Common.{subst, ◌∙◌, inl, inr, length-append, arith}
use Rattle.std.specs.Prelude.{unwrap_or}
use Rattle.std.specs.FinMap.{get, keys}
use Rattle.std.specs.List.{slice_get}
use Rattle.std.proofs.Math.Seq.{take-append_seam}
use Rattle.std.proofs.lemmas.Bool.{cases_lt}
use Rattle.std.proofs.lemmas.List.{take-append-le}
use Rattle.crash_disk.specs.Files.{Files}
use Rattle.ls_base.specs.History.{History}
use Rattle.ls_base.specs.SyncLog.{SyncLog, line_of}
use Rattle.ls_base.proofs.StateLemmas.{lists_by_elements}
use Rattle.ls_base.specs.Change.{Change}
use Rattle.ltx_format.specs.declared.header.LtxHeader.{LtxHeader}
use Rattle.ltx_format.specs.LtxFormat.{HasHeader, IsLtxFile, header_bytes, page_blocks, index_part}
use Rattle.ltx_format.proofs.FrontLemmas.{same_header}
use Rattle.ltx_format.proofs.HeaderLaws.{header-length}
use Rattle.replica_store.specs.declared.file_name.FileName.{FileName}
use Rattle.replica_store.specs.CarriesOn.{IsExtendedBy}
use Rattle.replica_store.specs.CarryLaws.{FaithfulFilesExtend, OneExtension}
use Rattle.replica_store.specs.Dating.{IsHeaderUnder}
use Rattle.replica_store.specs.Faithful.{IsFaithfulFile}
use Rattle.replica_store.specs.FaithLaws.{line_in}
use Rattle.replica_store.specs.Listing.{path_of, bytes_under}
use Rattle.replica_store.proofs.FaithLemmas.{there_with}
use Rattle.replica_store.proofs.LogLemmas.{line_of-longer, longer_by}

front : (n : ℕ) (a b c d e f : List ℕ) → n ≡ length a → take n (a ++ b ++ c ++ d ++ e ++ f) ≡ a
front n a b c d e f is =
    let two : n ≤ length (a ++ b) = omega (arith, is, length-append a b) in
    let three : n ≤ length (a ++ b ++ c) = omega (arith, two, length-append (a ++ b) c) in
    let four : n ≤ length (a ++ b ++ c ++ d) = omega (arith, three, length-append (a ++ b ++ c) d) in
    let five : n ≤ length (a ++ b ++ c ++ d ++ e) = omega (arith, four, length-append (a ++ b ++ c ++ d) e) in
    take-append-le n (a ++ b ++ c ++ d ++ e) f five ∙ take-append-le n (a ++ b ++ c ++ d) e four
    ∙ take-append-le n (a ++ b ++ c) d three ∙ take-append-le n (a ++ b) c two
    ∙ ap (λ (k : ℕ). take k (a ++ b)) is ∙ take-append_seam a b

-- a file begins with its header
pub begins_with_header : (bytes : List ℕ) (h : LtxHeader) (c : Change) → IsLtxFile bytes h c → HasHeader bytes h
begins_with_header bytes h c is = record {
  header = is.header;
  spelled =
      let index = index_part h.index (keys c.pages) in
      ap (take 100) is.spelled
      ∙ front 100 (header_bytes h) (page_blocks c.pages) (replicate 6 0) index (replicate 8 0) _
      (sym (header-length h));
}

-- what a faithful file under a name tells
tells : (files : Files) (history : History) (log : SyncLog) (name : FileName) (bytes : List ℕ)
    → get files (path_of name) ≡ Some bytes → IsFaithfulFile history log name.min name.max bytes
    → (header : LtxHeader) × IsHeaderUnder files name header
    × (line_of log name.max ≡ Some (record { place = header.place; moment = header.moment }))
tells files history log name bytes there is =
    let under : bytes_under files (path_of name) ≡ bytes = ap (λ (file : Option (List ℕ)). unwrap_or file []) there in (
      is.header,
      record {
        has = subst (λ (b : List ℕ). HasHeader b is.header) (sym under)
            (begins_with_header bytes is.header is.change is.file.file);
        from_min = is.file.from_min;
        to_max = is.file.to_max;
      },
      is.line,
    )

pub faithful_files_extend : FaithfulFilesExtend
faithful_files_extend files history log later faithful longer some = record {
  lines = longer;
  within = faithful.within;
  some = some;
  each = λ name there new. there_with (get files (path_of name)) there.there
      (λ bytes found. tells files history later name bytes found (faithful.each name bytes there.valid found));
}

module _ (log : SyncLog) (files : Files) where
  no_shorter : (a b : SyncLog) → IsExtendedBy log files a → IsExtendedBy log files b → length a ≤ length b
  no_shorter a b first second =
      elim (cases_lt (length log) (length a)) [
        | inl new ↦
            let last = first.some (length a) new (omega arith) in
            let low = second.within last.0 last.1 in omega (arith, low, last.2)
        | inr old ↦ let up = longer_by log b second.lines in omega (arith, old, up)
      ]

  same_line : (a b : SyncLog) → IsExtendedBy log files a → IsExtendedBy log files b → (k : ℕ) → k < length a
      → slice_get a k ≡ slice_get b k
  same_line a b first second k within =
      elim (cases_lt k (length log)) [
        | inl old ↦ line_of-longer log a (suc k) first.lines (omega (arith, old))
            ∙ sym (line_of-longer log b (suc k) second.lines (omega (arith, old)))
        | inr new ↦
            let file = first.some (suc k) (omega (arith, new)) (omega (arith, within)) in
            let name = file.0 in
            let above : length log < name.max = omega (arith, new, file.2) in
            let here = first.each name file.1 above in
            let there = second.each name file.1 above in
            let one : here.0 ≡ there.0 = same_header (bytes_under files (path_of name)) here.0 there.0 here.1.has
            there.1.has in
            ap (line_of a) (sym file.2) ∙ here.2 ∙ ap (λ (h : LtxHeader). Some (line_in h)) one ∙ sym there.2
            ∙ ap (line_of b) file.2
      ]

pub one_extension : OneExtension
one_extension log files a b first second =
    let up = no_shorter log files a b first second in
    let down = no_shorter log files b a second first in
    lists_by_elements a b (omega (arith, up, down)) (same_line log files a b first second)
