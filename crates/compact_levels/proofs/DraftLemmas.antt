-- A merged file that is being written goes on by pieces.
use Rattle.std.proofs.Common.{◌≡◌, ℕ, List, [], ◌∷◌, ◌++◌, Option, Some, None, refl, sym, ap, subst, ◌∙◌, inl, inr}
use Rattle.std.proofs.Common.{append_assoc, arith}
use Rattle.std.specs.Prelude.{map, ◌⊎◌, is_some, IsSome}
use Rattle.std.specs.FinMap.{empty, insert}
use Rattle.std.specs.List.{flat_map}
use Rattle.std.proofs.lemmas.List.{append-nil}
use Rattle.crash_disk.specs.declared.event.Event.{Event}
use Rattle.crash_disk.specs.Files.{file_at, IsThere}
use Rattle.crash_disk.specs.GoesOn.{GoesOn}
use Rattle.crash_disk.specs.Told.{Told, IfTold}
use Rattle.crash_disk.proofs.GoesOnLemmas.{goes_on-weaker, told_now}
use Rattle.ltx_format.specs.declared.header.LtxHeader.{LtxHeader}
use Rattle.ltx_format.specs.LtxFormat.{header_bytes, page_block, page_blocks, IsLtxFile}
use Rattle.ltx_format.specs.Writing.{PageMap, Indexed, HasIndexed, EndsFile, IsLastBlock, GainsPage, IsWhole}
use Rattle.ltx_format.specs.Writing.{change_with}
use Rattle.ltx_format.proofs.BlockLoop.{entries-empty}
use Rattle.replica_store.specs.Putting.{draft_path, IsPutting, KeepsOthers, Puts, HasPut, MayPut, AfterPutting}
use Rattle.replica_store.specs.Putting.{PutsMore, PutsNothing, StillKeepsOthers}
use Rattle.compact_levels.specs.declared.draft.Draft.{Draft}
use Rattle.compact_levels.specs.declared.merge_fault.MergeFault.{MergeFault}
use Rattle.compact_levels.specs.declared.merge_fault.MergeFault.TheVariants.{Damaged, PageMissing, Store, Memory}
use Rattle.compact_levels.specs.Drafting.{header_of, IsBeingPut, IsDrafting, IsFileWith, HasPutDraft, MayHavePutDraft}
use Rattle.compact_levels.specs.Drafting.{LeavesDraft, IsOfDiskOrMemory}

-- ---- bytes

-- a block behind what is gathered
gathered_more : (front blocks more written piece longer : List ℕ) → front ++ blocks ≡ written ++ piece
    → longer ≡ blocks ++ more → front ++ longer ≡ written ++ (piece ++ more)
gathered_more front blocks more written piece longer is block =
    ap (λ (bs : List ℕ). front ++ bs) block ∙ sym (append_assoc front blocks more) ∙ ap (λ (bs : List ℕ). bs ++ more) is
    ∙ append_assoc written piece more

-- no page is gathered yet
pub none_gathered : (front piece : List ℕ) (pages : PageMap) → piece ≡ front → pages ≡ empty
    → front ++ page_blocks pages ≡ [] ++ piece
none_gathered front piece pages is none =
    ap (λ (bs : List ℕ). front ++ bs) (ap (flat_map page_block) (entries-empty pages none)) ∙ append-nil front ∙ sym is

-- ---- the temporary file

some_bytes : (o : Option (List ℕ)) (bytes : List ℕ) → o ≡ Some bytes → IsSome o
some_bytes o bytes is = ap is_some is

-- it is there
pub is_there : (path written : List ℕ) (begun now : Told) → GoesOn begun now (IsPutting path written)
    → IfTold now (λ events. IsThere events (draft_path path))
is_there path written begun now put =
    told_now begun now (IsPutting path written) (λ events. IsThere events (draft_path path)) put
    (λ x y putting. record { there = some_bytes (file_at y (draft_path path)) written putting.draft })

-- and nothing but it has changed
pub keeps_others : (path written : List ℕ) (begun now : Told) → GoesOn begun now (IsPutting path written)
    → GoesOn begun now (KeepsOthers path)
keeps_others path written begun now put =
    goes_on-weaker begun now (IsPutting path written) (KeepsOthers path) put (λ x y putting. putting.others)

-- ---- pages

-- one more page is gathered
pub gathers : (begun now : Told) (old new : Draft) (pages : PageMap) (number : ℕ) (page front : List ℕ)
    → IsDrafting begun now old pages → new.put ≡ old.put → header_of new ≡ header_of old
    → new.piece.items ≡ (old.piece.items ++ front) ++ page
    → IsLastBlock (HasIndexed old.writer) number page front
    → GainsPage (HasIndexed old.writer) (HasIndexed new.writer) number page
    → IsDrafting begun now new (insert pages number page)
gathers begun now old new pages number page front is path same piece block gains = record {
  has = gains pages is.has;
  written = is.written;
  put = subst (λ (p : List ℕ). GoesOn begun now (IsPutting p is.written)) (sym path) is.put;
  all = ap (λ (h : LtxHeader). header_bytes h ++ page_blocks (insert pages number page)) same
      ∙ gathered_more (header_bytes (header_of old)) (page_blocks pages) (front ++ page) is.written old.piece.items
      (page_blocks (insert pages number page)) is.all
      (block pages is.has ∙ append_assoc (page_blocks pages) front page)
      ∙ ap (λ (bs : List ℕ). is.written ++ bs) (sym (append_assoc old.piece.items front page) ∙ sym piece);
}

-- what was gathered is put
pub puts_piece : (begun old now : Told) (full new : Draft) (pages : PageMap) → IsDrafting begun old full pages
    → new.put ≡ full.put → new.writer ≡ full.writer → new.piece.items ≡ [] → PutsMore full.put full.piece.items old now
    → IsDrafting begun now new pages
puts_piece begun old now full new pages is path writer none more = record {
  has = subst (λ (w : Indexed). HasIndexed w pages) (sym writer) is.has;
  written = is.written ++ full.piece.items;
  put = subst (λ (p : List ℕ). GoesOn begun now (IsPutting p (is.written ++ full.piece.items))) (sym path)
      (more begun is.written is.put);
  all = ap (λ (w : Indexed). header_bytes w.written.header ++ page_blocks pages) writer ∙ is.all
      ∙ sym (append-nil (is.written ++ full.piece.items))
      ∙ ap (λ (bs : List ℕ). (is.written ++ full.piece.items) ++ bs) (sym none);
}

-- ---- the end

pub ends_draft : (path piece tail : List ℕ) (writer : Indexed) (old mid now : Told)
    → EndsFile (HasIndexed writer) writer.written.header tail → PutsMore path piece old mid → PutsMore path tail mid now
    → (begun : Told) (pages : PageMap) (written : List ℕ) → HasIndexed writer pages
    → GoesOn begun old (IsPutting path written)
    → header_bytes writer.written.header ++ page_blocks pages ≡ written ++ piece
    → (bytes : List ℕ) × IsFileWith writer.written.header pages bytes × GoesOn begun now (IsPutting path bytes)
ends_draft path piece tail writer old mid now ends first second begun pages written has put all = (
  (written ++ piece) ++ tail,
  λ whole. subst (λ (bs : List ℕ). IsLtxFile (bs ++ tail) writer.written.header
      (change_with writer.written.header pages))
      all (ends pages has whole),
  second begun (written ++ piece) (first begun written put),
)

pub has_put_draft : (path : List ℕ) (h : LtxHeader) (pages : PageMap) (begun now : Told) (bytes : List ℕ)
    → IsFileWith h pages bytes → GoesOn begun now (HasPut path bytes) → GoesOn begun now (HasPutDraft path h pages)
has_put_draft path h pages begun now bytes file put =
    goes_on-weaker begun now (HasPut path bytes) (HasPutDraft path h pages) put
    (λ x y has. record { bytes = bytes; file = file; put = has })

may_have_put : (path : List ℕ) (h : LtxHeader) (pages : PageMap) (bytes : List ℕ) (x y : List Event)
    → IsFileWith h pages bytes → MayPut path bytes x y → KeepsOthers path x y ⊎ MayHavePutDraft path h pages x y
may_have_put path h pages bytes x y file (inl kept) = inl kept
may_have_put path h pages bytes x y file (inr puts) = inr (record { bytes = bytes; file = file; put = puts })

pub may_have_put_draft : (path : List ℕ) (h : LtxHeader) (pages : PageMap) (begun now : Told) (bytes : List ℕ)
    → IsFileWith h pages bytes → GoesOn begun now (MayPut path bytes)
    → GoesOn begun now (λ x y. KeepsOthers path x y ⊎ MayHavePutDraft path h pages x y)
may_have_put_draft path h pages begun now bytes file put =
    goes_on-weaker begun now (MayPut path bytes) (λ x y. KeepsOthers path x y ⊎ MayHavePutDraft path h pages x y) put
    (λ x y may. may_have_put path h pages bytes x y file may)

-- why it was given up
pub given_up : (path : List ℕ) (h : LtxHeader) (pages : PageMap) (begun now : Told) (fault : MergeFault)
    → IsOfDiskOrMemory fault → GoesOn begun now (KeepsOthers path)
    → GoesOn begun now (LeavesDraft path h pages fault)
given_up path h pages begun now (Damaged name damage) of kept = absurd of
given_up path h pages begun now (PageMissing name number) of kept = absurd of
given_up path h pages begun now (Store fault) of kept =
    goes_on-weaker begun now (KeepsOthers path) (LeavesDraft path h pages (Store fault)) kept (λ x y k. inl k)
given_up path h pages begun now Memory of kept = kept
