-- A file that is written page by page.
use Rattle.std.proofs.Common.{◌≡◌, ℕ, List, [], ◌++◌, take, append_assoc, append-nil, refl, sym, ap, subst, ◌∙◌}
use Rattle.std.proofs.Common.{inl}
use Rattle.std.proofs.Math.Seq.{take-append_seam}
use Rattle.std.specs.List.{flat_map}
use Rattle.std.specs.FinMap.{empty, insert}
use Rattle.crash_disk.specs.GoesOn.{GoesOn}
use Rattle.crash_disk.specs.Told.{Told}
use Rattle.crash_disk.proofs.GoesOnLemmas.{goes_on-weaker}
use Rattle.ltx_format.specs.declared.header.LtxHeader.{LtxHeader}
use Rattle.ltx_format.specs.LtxFormat.{IsHeader, HasHeader, header_bytes, page_block, page_blocks}
use Rattle.ltx_format.specs.Writing.{PageMap, Written, HasWritten, IsLastBlock, EndsFile}
use Rattle.ltx_format.specs.Writing as writing
use Rattle.ltx_format.proofs.BlockLoop.{entries-empty}
use Rattle.ltx_format.proofs.HeaderLaws.{header-length}
use Rattle.replica_store.specs.Putting.{KeepsOthers, IsPutting, AfterPutting, StillKeepsOthers, HasPut, MayPut}
use Rattle.replica_sync.specs.declared.page_file.PageFile.{PageFile}
use Rattle.replica_sync.specs.Gathering.{HasGathered, IsGathering, GathersMore, KeepsAllOthers}
use Rattle.replica_sync.specs.PageFile.{HasPages, IsWriting, GainsPage, KeepsAll, EndsAs, PutsFile, MayPutFile}
use Rattle.replica_sync.proofs.GatherLemmas.{all_put, keeps}

no_blocks : page_blocks empty ≡ []
no_blocks = ap (flat_map page_block) (entries-empty empty refl)

pub file_begun : (file : PageFile) (old new : Told) (h : LtxHeader) → HasWritten file.writer empty
    → file.writer.header ≡ h → file.gathered ≡ header_bytes h → GoesOn old new (IsPutting file.put [])
    → HasPages file old new empty
file_begun file old new h written is bytes putting = record {
  written = written;
  gathers = record {
    written = [];
    is = ap (λ (xs : List ℕ). header_bytes file.writer.header ++ xs) no_blocks
        ∙ append-nil (header_bytes file.writer.header) ∙ ap header_bytes is ∙ sym bytes;
    putting = putting;
  };
}

-- a file that is written is being gathered
pub is_gathering : (file : PageFile) (now : Told) → IsWriting file now → IsGathering file.put file.gathered now
is_gathering file now is = record {
  begun = is.begun;
  all = header_bytes file.writer.header ++ page_blocks is.pages;
  gathers = is.has.gathers;
}

pub pages_keep : (file : PageFile) (begun now : Told) (pages : PageMap) → HasPages file begun now pages
    → GoesOn begun now (KeepsOthers file.put)
pages_keep file begun now pages has =
    keeps file.put file.gathered begun now (header_bytes file.writer.header ++ page_blocks pages) has.gathers

-- what became of the bytes is what became of the file
pub keeps_all : (file : PageFile) (old new : Told) → KeepsAllOthers file.put file.gathered old new
    → KeepsAll file old new
keeps_all file old new lost begun pages has =
    lost begun (header_bytes file.writer.header ++ page_blocks pages) has.gathers

-- a page and what stands before it were given
pub page_given : (before after : PageFile) (number : ℕ) (page front : List ℕ) (old new : Told)
    → after.put ≡ before.put → after.writer.header ≡ before.writer.header
    → IsLastBlock (HasWritten before.writer) number page front
    → writing.GainsPage (HasWritten before.writer) (HasWritten after.writer) number page
    → GathersMore before.put before.gathered (front ++ page) after.gathered old new
    → GainsPage before after number page old new
page_given before after number page front old new path header block gains gathers begun pages has =
    let h = header_bytes before.writer.header in
    let is : (h ++ page_blocks pages) ++ (front ++ page)
    ≡ header_bytes after.writer.header ++ page_blocks (insert pages number page) =
    append_assoc h (page_blocks pages) (front ++ page)
    ∙ ap (λ (xs : List ℕ). h ++ xs) (sym (append_assoc (page_blocks pages) front page))
    ∙ ap (λ (xs : List ℕ). h ++ xs) (sym (block pages has.written))
    ∙ ap (λ (k : LtxHeader). header_bytes k ++ page_blocks (insert pages number page)) (sym header) in
    record {
      written = gains pages has.written;
      gathers = subst (λ (p : List ℕ). HasGathered p after.gathered begun new
          (header_bytes after.writer.header ++ page_blocks (insert pages number page))) (sym path)
          (subst (HasGathered before.put after.gathered begun new) is
          (gathers begun (h ++ page_blocks pages) has.gathers));
    }

-- ---- the end

-- what is put behind a header begins with it
begins_with : (h : LtxHeader) (blocks end : List ℕ) → IsHeader h → HasHeader (header_bytes h ++ blocks ++ end) h
begins_with h blocks end is = record {
  header = is;
  spelled =
      ap (take 100) (append_assoc (header_bytes h) blocks end)
      ∙ ap (λ (n : ℕ). take n (header_bytes h ++ (blocks ++ end))) (sym (header-length h))
      ∙ take-append_seam (header_bytes h) (blocks ++ end);
}

module _ (file : PageFile) (end : List ℕ) (old mid new : Told)
    (ends : EndsFile (HasWritten file.writer) file.writer.header end) where
  abbrev bytes_of : PageMap → List ℕ
  bytes_of pages = header_bytes file.writer.header ++ page_blocks pages ++ end

  ends_as : (pages : PageMap) → HasWritten file.writer pages → EndsAs file pages (bytes_of pages)
  ends_as pages has = record {
    head = begins_with file.writer.header (page_blocks pages) end has.header;
    is = λ whole. ends pages has whole;
  }

  module _ (last : GathersMore file.put file.gathered end [] old mid) where
    all_in : (begun : Told) (pages : PageMap) → HasPages file begun old pages
        → GoesOn begun mid (IsPutting file.put (bytes_of pages))
    all_in begun pages has =
        all_put file.put begun mid (bytes_of pages)
        (last begun (header_bytes file.writer.header ++ page_blocks pages) has.gathers)

    pub file_put : AfterPutting file.put mid new (HasPut file.put) → PutsFile file old new
    file_put put begun pages has =
        (bytes_of pages, ends_as pages has.written, put begun (bytes_of pages) (all_in begun pages has))

    pub file_may_be_put : AfterPutting file.put mid new (MayPut file.put) → MayPutFile file old new
    file_may_be_put put begun pages has =
        (bytes_of pages, ends_as pages has.written, put begun (bytes_of pages) (all_in begun pages has))

  pub file_abandoned : KeepsAllOthers file.put file.gathered old mid → StillKeepsOthers file.put mid new
      → MayPutFile file old new
  file_abandoned lost still begun pages has = (
    bytes_of pages,
    ends_as pages has.written,
    goes_on-weaker begun new (KeepsOthers file.put) (MayPut file.put (bytes_of pages))
        (still begun (lost begun (header_bytes file.writer.header ++ page_blocks pages) has.gathers))
        (λ x y kept. inl kept),
  )
