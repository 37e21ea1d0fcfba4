-- The merge of files is put, or nothing but a temporary file has changed.
use Rattle.std.proofs.Common.{◌≡◌, ℕ, zero, suc, ◌+◌, ◌<◌, ◌≤◌, List, [], ◌∷◌, ◌++◌, length, Option, Some, None, refl}
use Rattle.std.proofs.Common.{sym, ap, subst, ◌∙◌, inl, inr, arith}
use Rattle.std.specs.Prelude.{◌⊎◌, map, slice_get, Result, Ok, Err, IfErr}
use Rattle.std.specs.FinMap.{empty, get, get-empty}
use Rattle.std.specs.Ordering.{nat_cmp}
use Rattle.crash_disk.specs.declared.event.Event.{Event}
use Rattle.crash_disk.specs.Files.{Files, files_after}
use Rattle.crash_disk.specs.GoesOn.{GoesOn}
use Rattle.crash_disk.specs.Told.{Told, IfTold}
use Rattle.crash_disk.proofs.GoesOnLemmas.{goes_on-same, goes_on-weaker, grown_same}
use Rattle.ltx_format.specs.declared.file.LtxFile.{LtxFile}
use Rattle.ltx_format.specs.declared.header.LtxHeader.{LtxHeader}
use Rattle.ltx_format.specs.LtxFormat.{HasHeader, IsLtxFile, change_of}
use Rattle.ltx_format.specs.Writing.{PageMap, change_with}
use Rattle.ltx_format.proofs.FrontLemmas.{same_header}
use Rattle.page_cursors.specs.declared.cursor.Cursor.{Cursor}
use Rattle.page_cursors.specs.declared.cursors.Cursors.{Cursors}
use Rattle.page_cursors.specs.declared.fault.CursorsFault.{CursorsFault}
use Rattle.page_cursors.specs.declared.fault.CursorsFault.TheVariants as found
use Rattle.page_cursors.specs.Blocks.{Blocks}
use Rattle.page_cursors.specs.Cursor.{HaveSize, bytes_of}
use Rattle.page_cursors.specs.Cursors.{HaveGiven, plan_of}
use Rattle.page_cursors.specs.Fault.{Blames}
use Rattle.page_cursors.specs.LastPages.{last_commit}
use Rattle.page_cursors.specs.Opening.{names_of}
use Rattle.page_cursors.proofs.NextLemmas.{front_at}
use Rattle.page_cursors.proofs.TakeLemmas.{some_commit}
use Rattle.replica_store.specs.declared.file_name.FileName.{FileName}
use Rattle.replica_store.specs.FileOf.{AreFilesUnder, IsFileUnder}
use Rattle.replica_store.specs.Listing.{path_of, bytes_under}
use Rattle.replica_store.specs.Putting.{KeepsOthers, Puts, HasPut, StillKeepsOthers}
use Rattle.replica_store.proofs.ExtendedLemmas.{begins_with_header}
use Rattle.replica_store.proofs.ImageLemmas.{others_start}
use Rattle.compact_levels.specs.declared.draft.Draft.{Draft}
use Rattle.compact_levels.specs.declared.merge_fault.MergeFault.{MergeFault}
use Rattle.compact_levels.specs.declared.merge_fault.MergeFault.TheVariants.{Damaged, PageMissing, Store, Memory}
use Rattle.compact_levels.specs.Drafting.{header_of, AreCopied, BeginsCopying, HaveCopied, HasCopied, HasPutDraft}
use Rattle.compact_levels.specs.Drafting.{IsBeingPut, IsDrafting, IsFileWith, IsOfDiskOrMemory, LeavesDraft}
use Rattle.compact_levels.specs.Drafting.{MayHavePutDraft, StopsCopying}
use Rattle.compact_levels.specs.Merged.{HasMergedPlan, IsMergeOf, IsMergeOfPlan, LeavesPlan, MayHaveMergedPlan}
use Rattle.compact_levels.specs.Merged.{MergesHeader, Spans}
use Rattle.compact_levels.specs.MergeCause.{fault_of}
use Rattle.compact_levels.proofs.MergeLemmas.{HasFirst, HasLast, first_file, last_file, last_same, names_end}
use Rattle.compact_levels.proofs.MergeLemmas.{commit_at_end, is_merged, is_whole}

-- ---- before the first page

none_copied : (h : LtxHeader) → AreCopied h [] empty
none_copied h = record { stored = λ p is. get-empty nat_cmp p; others = λ p not. get-empty nat_cmp p }

pub begins_copying : (begun mid now : Told) (cursors : Cursors) (draft : Draft) (name : FileName) → mid ≡ begun
    → IfTold begun (λ events. HaveGiven (files_after events) cursors []) → IsDrafting mid now draft empty
    → draft.put ≡ path_of name → BeginsCopying begun now cursors draft
begins_copying begun mid now cursors draft name same given drafting named = record {
  named = record { name = name; is = named };
  gives = given;
  low = λ p past. refl;
  drafting = subst (λ (t : Told). IsDrafting t now draft empty) same drafting;
  copied = none_copied (header_of draft);
}

pub being_put : (begun now : Told) (draft : Draft) (pages : PageMap) → IsDrafting begun now draft pages
    → IsBeingPut draft.put now
being_put begun now draft pages is = record { begun = begun; written = is.written; put = is.put }

-- ---- the last file's header

place_of_last : {X : Type 0} (before : List X) (last : X) → slice_get (before ++ last ∷ []) (length before) ≡ Some last
place_of_last [] last = refl
place_of_last (x ∷ before) last = place_of_last before last

length_end : {X : Type 0} (before : List X) (last : X) → length before + 1 ≡ length (before ++ last ∷ [])
length_end [] last = refl
length_end (x ∷ before) last = let rest = length_end before last in omega (arith, rest)

-- the reader of a cursor that has given nothing tells the header of its file
header_told : (files : Files) (cursors : Cursors) (given : Blocks) (before : List Cursor) (last : Cursor)
    → HaveGiven files cursors given
    → cursors.cursors.items ≡ before ++ last ∷ [] → HasHeader (bytes_of files last.name) last.reader.header
header_told files cursors given before last has ends =
    let at : slice_get cursors.cursors.items (length before) ≡ Some last =
    ap (λ (cs : List Cursor). slice_get cs (length before)) ends ∙ place_of_last before last in
    let low : length before < length cursors.cursors.items = omega (arith, length_end before last, ap length ends) in
    let commit = some_commit cursors.cursors.items (length before) low in
    let front = front_at has.fronts (length before) (omega (arith, low, has.count)) in
    (has.each (length before) commit.0 last front.0 at commit.1 front.1).open_file.reads.reads.header

-- ---- the merge

module _ (files : Files) (plan : List FileName) (name : FileName) (cursors : Cursors) (h : LtxHeader) (given : Blocks)
    (pages : PageMap)
    (size : ℕ) (bytes : List ℕ) (begun : HaveGiven files cursors []) (same_plan : plan_of cursors ≡ plan)
    (merges : MergesHeader cursors name h)
    (spans : Spans plan name.min name.max) (sized : h.size ≡ size) (all : HaveCopied name.min files plan size given)
    (copied : AreCopied h given pages) (file : IsFileWith h pages bytes) where
  end : HasLast files spans.last all.read
  end = last_file files spans.before spans.last all.read
      (subst (λ (ns : List FileName). AreFilesUnder files ns all.read) spans.ends all.are)

  last_name : merges.last.name ≡ spans.last
  last_name = last_same (names_of merges.before) spans.before merges.last.name spans.last
      (sym (names_end merges.before merges.last) ∙ ap names_of (sym merges.ends) ∙ same_plan ∙ spans.ends)

  same_last : merges.last.reader.header ≡ end.last.header
  same_last =
      let bytes = bytes_under files (path_of spans.last) in
      same_header bytes merges.last.reader.header end.last.header
      (subst (λ (n : FileName). HasHeader (bytes_of files n) merges.last.reader.header) last_name
      (header_told files cursors [] merges.before merges.last begun merges.ends))
      (begins_with_header bytes end.last.header (change_of end.last) end.is.file)

  commit_is : h.commit ≡ last_commit 0 (map change_of all.read)
  commit_is = ap (λ (k : LtxHeader). k.commit) merges.is ∙ ap (λ (k : LtxHeader). k.commit) same_last
      ∙ sym (commit_at_end 0 end.before end.last) ∙ ap (λ (fs : List LtxFile). last_commit 0 (map change_of fs))
      (sym end.ends)

  begin : HasFirst files spans.first all.read
  begin = first_file files spans.first spans.rest all.read
      (subst (λ (ns : List FileName). AreFilesUnder files ns all.read) spans.begins all.are)

  min_is : h.min ≡ name.min
  min_is = ap (λ (k : LtxHeader). k.min) merges.is

  merge_of : IsMergeOf all.read bytes
  merge_of = record {
    header = h;
    change = change_with h pages;
    file = file (is_whole files plan size h given pages sized name.min all copied min_is commit_is);
    merged = is_merged files plan size h given pages sized name.min all copied commit_is;
    first = begin.first;
    rest = begin.rest;
    begins = begin.begins;
    min = min_is ∙ sym spans.from_min ∙ sym begin.is.from_min;
    before = end.before;
    last = end.last;
    ends = end.ends;
    size = ap (λ (k : LtxHeader). k.size) merges.is ∙ ap (λ (k : LtxHeader). k.size) same_last;
    max = ap (λ (k : LtxHeader). k.max) merges.is ∙ sym spans.to_max ∙ sym end.is.to_max;
    moment = ap (λ (k : LtxHeader). k.moment) merges.is ∙ ap (λ (k : LtxHeader). k.moment) same_last;
    place = ap (λ (k : LtxHeader). k.place) merges.is ∙ ap (λ (k : LtxHeader). k.place) same_last;
    index = ap (λ (k : LtxHeader). k.index) merges.is;
  }

  pub merges_plan : IsMergeOfPlan files plan bytes
  merges_plan = record {
    read = all.read;
    are = record { are = all.are; size = size; one_size = all.one_size };
    merge = merge_of;
  }

-- ---- what the call did

module _ (begun copied_at now : Told) (plan : List FileName) (name : FileName) (cursors : Cursors) (h : LtxHeader)
    (draft : Draft)
    (given : IfTold begun (λ events. HaveGiven (files_after events) cursors [])) (same_plan : plan_of cursors ≡ plan)
    (merges : MergesHeader cursors name h) (spans : Spans plan name.min name.max) (sized : h.size ≡ cursors.size)
    (same : header_of draft ≡ h) (copied : HasCopied begun copied_at name.min plan cursors.size draft) where
  merged_by : (events : List Event) → begun ≡ Some events → (bytes : List ℕ)
      → IsFileWith (header_of draft) copied.pages bytes
      → IsMergeOfPlan (files_after events) plan bytes
  merged_by events told bytes file =
      merges_plan (files_after events) plan name cursors h copied.given copied.pages cursors.size bytes
      (given events told) same_plan merges
      spans sized (copied.read events told)
      (subst (λ (k : LtxHeader). AreCopied k copied.given copied.pages) same copied.copied)
      (subst (λ (k : LtxHeader). IsFileWith k copied.pages bytes) same file)

  pub has_merged : (path : List ℕ) → GoesOn begun now (HasPutDraft path (header_of draft) copied.pages)
      → GoesOn begun now (HasMergedPlan plan path)
  has_merged path put = record {
    told = λ events told.
        let all = put.told events told in (
          all.0,
          all.1,
          record { bytes = all.2.bytes; merge = merged_by events told all.2.bytes all.2.file; put = all.2.put },
          all.3,
        );
    silent = put.silent;
  }

  may_have_merged : (path : List ℕ) (events after : List Event) → begun ≡ Some events
      → KeepsOthers path events after ⊎ MayHavePutDraft path (header_of draft) copied.pages events after
      → KeepsOthers path events after ⊎ MayHaveMergedPlan plan path events after
  may_have_merged path events after told (inl kept) = inl kept
  may_have_merged path events after told (inr put) = inr (record {
    bytes = put.bytes;
    merge = merged_by events told put.bytes put.file;
    put = put.put;
  })

  pub not_finished : (path : List ℕ) (fault : MergeFault)
      → GoesOn begun now (LeavesDraft path (header_of draft) copied.pages fault)
      → GoesOn begun now (LeavesPlan name.min plan path fault)
  not_finished path (Damaged name damage) put =
      goes_on-weaker begun now (LeavesDraft path (header_of draft) copied.pages (Damaged name damage)) _ put
      (λ x y never. absurd never)
  not_finished path (PageMissing name number) put =
      goes_on-weaker begun now (LeavesDraft path (header_of draft) copied.pages (PageMissing name number)) _ put
      (λ x y never. absurd never)
  not_finished path (Store fault) put = record {
    told = λ events told.
        let all = put.told events told in (all.0, all.1, may_have_merged path events all.0 told all.2, all.3);
    silent = put.silent;
  }
  not_finished path Memory put = put

-- it was given up while pages were copied
pub given_up_copying : (begun old now : Told) (min : ℕ) (plan : List FileName) (path : List ℕ) (fault : MergeFault)
    → GoesOn begun old (StopsCopying min plan path fault) → StillKeepsOthers path old now
    → GoesOn begun now (LeavesPlan min plan path fault)
given_up_copying begun old now min plan path (Damaged name damage) stops still =
    let kept = still begun (goes_on-weaker begun old (StopsCopying min plan path (Damaged name damage))
    (KeepsOthers path) stops
    (λ x y both. both.1)) in
    record {
      told = λ events told.
          let all = kept.told events told in (all.0, all.1, ((stops.told events told).2.0, all.2), all.3);
      silent = kept.silent;
    }
given_up_copying begun old now min plan path (PageMissing name number) stops still =
    let kept = still begun (goes_on-weaker begun old (StopsCopying min plan path (PageMissing name number))
    (KeepsOthers path) stops
    (λ x y both. both.2)) in
    record {
      told = λ events told.
          let all = kept.told events told in
          let was = (stops.told events told).2 in (all.0, all.1, (was.0, was.1, all.2), all.3);
      silent = kept.silent;
    }
given_up_copying begun old now min plan path (Store fault) stops still =
    goes_on-weaker begun now (KeepsOthers path) (LeavesPlan min plan path (Store fault)) (still begun stops)
    (λ x y kept. inl kept)
given_up_copying begun old now min plan path Memory stops still = still begun stops

-- or before them
pub given_up_before : (begun now : Told) (min : ℕ) (plan : List FileName) (path : List ℕ) (fault : MergeFault)
    → IsOfDiskOrMemory fault
    → GoesOn begun now (KeepsOthers path) → GoesOn begun now (LeavesPlan min plan path fault)
given_up_before begun now min plan path (Damaged name damage) of kept = absurd of
given_up_before begun now min plan path (PageMissing name number) of kept = absurd of
given_up_before begun now min plan path (Store fault) of kept =
    goes_on-weaker begun now (KeepsOthers path) (LeavesPlan min plan path (Store fault)) kept (λ x y k. inl k)
given_up_before begun now min plan path Memory of kept = kept

-- the files were not opened
pub not_opened : (begun now : Told) (min : ℕ) (plan : List FileName) (path : List ℕ) (fault : CursorsFault)
    → now ≡ begun
    → Blames begun plan fault → ((name : FileName) (number : ℕ) → fault ≡ found.PageMissing name number → ⊥)
    → GoesOn begun now (LeavesPlan min plan path (fault_of fault))
not_opened begun now min plan path (found.Damaged name damage) same blames none = record {
  told = λ events told. (events, same ∙ told, (blames events told, others_start path events), grown_same events);
  silent = λ silent. same ∙ silent;
}
not_opened begun now min plan path (found.PageMissing name number) same blames none = absurd (none name number refl)
not_opened begun now min plan path (found.Store fault) same blames none =
    goes_on-same begun now (LeavesPlan min plan path (Store fault)) same (λ events. inl (others_start path events))
not_opened begun now min plan path found.Memory same blames none =
    goes_on-same begun now (LeavesPlan min plan path Memory) same (λ events. others_start path events)

-- ---- the pieces of the call

pub header_sized : (cursors : Cursors) (name : FileName) (h : LtxHeader) → MergesHeader cursors name h
    → HaveSize cursors.size cursors.cursors.items → h.size ≡ cursors.size
header_sized cursors name h merges sized =
    ap (λ (k : LtxHeader). k.size) merges.is
    ∙ sized (length merges.before) merges.last
    (ap (λ (cs : List Cursor). slice_get cs (length merges.before)) merges.ends
    ∙ place_of_last merges.before merges.last)

pub if_err_weaker : {T : Type 0} (r : Result T MergeFault) (P Q : MergeFault → Type 0)
    → ((fault : MergeFault) → P fault → Q fault)
    → IfErr r P → IfErr r Q
if_err_weaker (Ok x) P Q more holds = tt
if_err_weaker (Err e) P Q more holds = more e holds

pub stops_named : (begun now : Told) (header_min min : ℕ) (given plan : List FileName) (put path : List ℕ)
    (fault : MergeFault)
    → header_min ≡ min → given ≡ plan → put ≡ path → GoesOn begun now (StopsCopying header_min given put fault)
    → GoesOn begun now (StopsCopying min plan path fault)
stops_named begun now header_min min given plan put path fault is same named stops =
    subst (λ (m : ℕ). GoesOn begun now (StopsCopying m plan path fault)) is
    (subst (λ (ns : List FileName). GoesOn begun now (StopsCopying header_min ns path fault)) same
    (subst (λ (p : List ℕ). GoesOn begun now (StopsCopying header_min given p fault)) named stops))

pub copied_named : (begun now : Told) (header_min min : ℕ) (given plan : List FileName) (size : ℕ) (draft : Draft)
    → header_min ≡ min → given ≡ plan → HasCopied begun now header_min given size draft
    → HasCopied begun now min plan size draft
copied_named begun now header_min min given plan size draft is same copied =
    subst (λ (m : ℕ). HasCopied begun now m plan size draft) is
    (subst (λ (ns : List FileName). HasCopied begun now header_min ns size draft) same copied)
