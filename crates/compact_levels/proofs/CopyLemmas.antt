-- Files of a run are read while the merged file is put: what is told of them stays.
use Rattle.std.proofs.Common.{◌≡◌, ◌≢◌, ℕ, ◌+◌, ◌<◌, List, [], ◌∷◌, ◌++◌, length, Option, Some, None, refl, sym, ap}
use Rattle.std.proofs.Common.{subst, ◌∙◌, inl, inr, arith}
use Rattle.std.specs.Prelude.{slice_get, unwrap_or, codes, IsSome}
use Rattle.std.specs.FinMap.{get, insert, empty}
use Rattle.std.proofs.lemmas.List.{length-append}
use Rattle.crash_disk.specs.declared.event.Event.{Event}
use Rattle.crash_disk.specs.Files.{Files, files_after, file_at}
use Rattle.crash_disk.specs.GoesOn.{GoesOn}
use Rattle.crash_disk.specs.Told.{Told, IfTold}
use Rattle.ltx_format.specs.declared.file.LtxFile.{LtxFile}
use Rattle.ltx_format.specs.LtxFormat.{change_of}
use Rattle.ltx_reader.specs.Reader.{Reader, IsReaderOf, pages_left, pages_of}
use Rattle.replica_store.specs.declared.error.Damage.{Damage}
use Rattle.replica_store.specs.declared.file_name.FileName.{FileName}
use Rattle.replica_store.specs.FileOf.{AreFilesUnder, IsFileUnder, IsFileOf, IsDamage}
use Rattle.replica_store.specs.Listing.{path_of, bytes_under}
use Rattle.replica_store.specs.Putting.{draft_path, IsPutting, KeepsOthers}
use Rattle.replica_store.proofs.PathLemmas.{length-file_path}
use Rattle.page_cursors.specs.declared.cursor.Cursor.{Cursor}
use Rattle.page_cursors.specs.declared.cursors.Cursors.{Cursors}
use Rattle.page_cursors.specs.Blocks.{Blocks}
use Rattle.page_cursors.specs.Cursor.{HasGiven, bytes_of}
use Rattle.page_cursors.specs.Cursors.{HaveGiven}
use Rattle.page_cursors.specs.PlanFiles.{IsFirstDamaged, IsFirstMissing}
use Rattle.compact_levels.specs.Drafting.{HaveCopied, IsPathOf}

-- the same bytes stand under each name
pub record HaveSameBytes (a b : Files) : Type 0 where
  pub each : (name : FileName) → bytes_of a name ≡ bytes_of b name

pub back : (a b : Files) → HaveSameBytes a b → HaveSameBytes b a
back a b same = record { each = λ name. sym (same.each name) }

-- a name's path is not that of a temporary file
not_a_draft : (name : FileName) (path : List ℕ) → IsPathOf path → path_of name ≢ draft_path path
not_a_draft name path named is =
    let own : length (path_of name) ≡ 43 = length-file_path name.level name.min name.max in
    let other : length path ≡ 43 = ap length named.is ∙ length-file_path named.name.level named.name.min
    named.name.max in
    let longer = length-append path (codes ".tmp") in
    omega (arith, own, other, longer, ap length is)

-- so it keeps its bytes while a file is put
pub kept_bytes : (path : List ℕ) (before now : List Event) → IsPathOf path → KeepsOthers path before now
    → HaveSameBytes (files_after before) (files_after now)
kept_bytes path before now named kept = record {
  each = λ name. ap (λ (o : Option (List ℕ)). unwrap_or o [])
      (sym (kept.files (path_of name) (not_a_draft name path named)));
}

-- ---- what is told of the files

given_by : (a b : Files) (size bound before : ℕ) (cursor : Cursor) (front : Blocks) → HaveSameBytes a b
    → HasGiven a size bound before cursor front → HasGiven b size bound before cursor front
given_by a b size bound before cursor front same has =
    let e = same.each cursor.name in
    record {
      open_file = record {
        reads = record {
          named = has.open_file.reads.named;
          reads = subst (λ (bs : List ℕ). IsReaderOf bs cursor.reader) e has.open_file.reads.reads;
        };
        from_min = has.open_file.from_min;
        to_max = has.open_file.to_max;
        sized = has.open_file.sized;
      };
      split = subst (λ (bs : List ℕ). pages_of bs ≡ front ++ pages_left bs cursor.reader) e has.split;
      low = has.low;
      within = has.within;
      wants = has.wants;
    }

pub given_elsewhere : (a b : Files) (cursors : Cursors) (given : Blocks) → HaveSameBytes a b
    → HaveGiven a cursors given → HaveGiven b cursors given
given_elsewhere a b cursors given same has = record {
  fronts = has.fronts;
  count = has.count;
  each = λ place before cursor front is at_commit at_front. given_by a b cursors.size (cursors.last + 1) before cursor
      front same (has.each place before cursor front is at_commit at_front);
  waits = has.waits;
  given_is = has.given_is;
  ends = has.ends;
}

file_elsewhere : (a b : Files) (name : FileName) (file : LtxFile) → HaveSameBytes a b → IsFileUnder a name file
    → IsFileUnder b name file
file_elsewhere a b name file same is =
    subst (λ (bs : List ℕ). IsFileOf bs name.min name.max file.header (change_of file)) (same.each name) is

pub files_elsewhere : (a b : Files) (plan : List FileName) (read : List LtxFile) → HaveSameBytes a b
    → AreFilesUnder a plan read → AreFilesUnder b plan read
files_elsewhere a b [] [] same are = tt
files_elsewhere a b [] (file ∷ read) same are = are
files_elsewhere a b (name ∷ plan) [] same are = are
files_elsewhere a b (name ∷ plan) (file ∷ read) same (here, are) = (
  file_elsewhere a b name file same here,
  files_elsewhere a b plan read same are,
)

pub copied_elsewhere : (a b : Files) (min : ℕ) (plan : List FileName) (size : ℕ) (given : Blocks) → HaveSameBytes a b
    → HaveCopied min a plan size given → HaveCopied min b plan size given
copied_elsewhere a b min plan size given same has = record {
  read = has.read;
  are = files_elsewhere a b plan has.read same has.are;
  one_size = has.one_size;
  pages = has.pages;
  hold = has.hold;
}

pub damaged_elsewhere : (a b : Files) (plan : List FileName) (name : FileName) (damage : Damage) → HaveSameBytes a b
    → IsFirstDamaged a plan name damage → IsFirstDamaged b plan name damage
damaged_elsewhere a b plan name damage same is = record {
  before = is.before;
  after = is.after;
  split = is.split;
  read = is.read;
  are = files_elsewhere a b is.before is.read same is.are;
  size = is.size;
  one_size = is.one_size;
  first = is.first;
  damaged = subst (λ (bs : List ℕ). IsDamage bs name is.size damage) (same.each name) is.damaged;
}

pub missing_elsewhere : (a b : Files) (plan : List FileName) (name : FileName) (number : ℕ) → HaveSameBytes a b
    → IsFirstMissing a plan name number → IsFirstMissing b plan name number
missing_elsewhere a b plan name number same is = record {
  read = is.read;
  are = record {
    are = files_elsewhere a b plan is.read same is.are.are;
    size = is.are.size;
    one_size = is.are.one_size;
  };
  before = is.before;
  after = is.after;
  split = is.split;
  read_before = is.read_before;
  are_before = files_elsewhere a b is.before is.read_before same is.are_before;
  state = is.state;
  makes = is.makes;
  file = is.file;
  is = file_elsewhere a b name is.file same is.is;
  lacks = is.lacks;
}
