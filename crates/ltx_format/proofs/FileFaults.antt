-- The first fault of a file is that of its reader, and bytes without one are a file.
use Rattle.std.proofs.Common.{◌≡◌, ◌↔◌, ℕ, suc, ◌+◌, ◌<◌, ◌≤◌, ◌^◌, Bool, true, false, eqb, ◌&&◌, T, List, [], ◌∷◌}
use Rattle.std.proofs.Common.{◌++◌, length, drop, Some, None, Result, Ok, Err, refl, sym, ap, ◌∙◌, length-append, arith}
use Rattle.std.specs.Option.{option_or}
use Rattle.std.specs.Result.{IfErr}
use Rattle.std.specs.Map.{keys_of}
use Rattle.std.specs.Ordering.{nat_cmp, is_lt}
use Rattle.std.specs.FinMap.{FinMap, entries, from_sorted, entries-from_sorted, is_sorted}
use Rattle.std.specs.FinMap.Entries.{below_all}
use Rattle.std.proofs.lemmas.Bool.{lt-ltb}
use Rattle.std.proofs.lemmas.List.{drop_at}
use Rattle.ls_base.specs.Change.{Change}
use Rattle.ltx_format.specs.declared.fault.DecodeFault.{DecodeFault}
use Rattle.ltx_format.specs.declared.fault.DecodeFault.TheVariants as causes
use Rattle.ltx_format.specs.declared.fault.LtxFault.{LtxFault}
use Rattle.ltx_format.specs.declared.fault.LtxFault.TheVariants.{BadOrder}
use Rattle.ltx_format.specs.declared.file.LtxFile.{LtxFile}
use Rattle.ltx_format.specs.declared.header.LtxHeader.{LtxHeader}
use Rattle.ltx_format.specs.LtxFormat.{IsLtxFile, header_flags, header_bytes}
use Rattle.ltx_format.specs.FirstFault.{page_size, commit, min_txid, has_index, header_fault, fault_from, first_fault}
use Rattle.ltx_format.specs.FirstFault.{TellsFirstFault}
use Rattle.ltx_format.specs.Reading.{◌>>=◌, where_true, passes, header_at, blocks_at, index_part_at, end_at, has_all}
use Rattle.ltx_format.specs.Reading.{file_at, ReadsInMemory, parts}
use Rattle.ltx_format.proofs.TestSteps.{fault_of}
use Rattle.ltx_format.proofs.FieldLaws.{AreBytes, numbers32, numbers64, flags_fit, flags_tell}
use Rattle.ltx_format.proofs.HeaderLaws.{header-read, header-length, size_bounds, commit_fits}
use Rattle.ltx_format.proofs.HeaderFaults.{header_fault-is}
use Rattle.ltx_format.proofs.BlockLoop.{Blocks}
use Rattle.ltx_format.proofs.BlockLaws.{AreBlocks}
use Rattle.ltx_format.proofs.BlockFaults.{finish, blocks_fault}
use Rattle.ltx_format.proofs.TailFaults.{block_numbers}
use Rattle.ltx_format.proofs.BlockNumbers.{numbers_of_blocks}
use Rattle.ltx_format.proofs.PageLemmas.{pages-from_blocks}
use Rattle.ltx_format.proofs.FileLaws.{IsSpelled, file-read}
use Rattle.ltx_format.proofs.ByteLemmas.{file_are_bytes}
use Rattle.ltx_format.proofs.Theorems.{file_is_read}

-- ---- what the header says, by offsets

pub record SaysFields (bytes : List ℕ) (x : LtxHeader × List ℕ) : Type 0 where
  pub size_is : x.0.size ≡ page_size bytes
  pub commit_is : x.0.commit ≡ commit bytes
  pub min_is : x.0.min ≡ min_txid bytes
  pub index_is : x.0.index ≡ has_index bytes
  pub behind : x.1 ≡ drop 100 bytes
  pub long : 100 ≤ length bytes

size_said : (h : LtxHeader) (rest : List ℕ) → h.size < 2 ^ 32 → page_size (header_bytes h ++ rest) ≡ h.size
unfolding header_bytes
size_said h rest fits = numbers32.number_again h.size fits

commit_said : (h : LtxHeader) (rest : List ℕ) → h.commit < 2 ^ 32 → commit (header_bytes h ++ rest) ≡ h.commit
unfolding header_bytes
commit_said h rest fits = numbers32.number_again h.commit fits

min_said : (h : LtxHeader) (rest : List ℕ) → h.min < 2 ^ 64 → min_txid (header_bytes h ++ rest) ≡ h.min
unfolding header_bytes
min_said h rest fits = numbers64.number_again h.min fits

index_said : (h : LtxHeader) (rest : List ℕ) → has_index (header_bytes h ++ rest) ≡ h.index
unfolding header_bytes
index_said h rest = ap (λ (n : ℕ). eqb n 6) (numbers32.number_again (header_flags h.index) (flags_fit h.index))
    ∙ flags_tell h.index

pub says_fields : (bytes : List ℕ) (x : LtxHeader × List ℕ) → AreBytes bytes → header_at bytes ≡ Ok x
    → SaysFields bytes x
says_fields bytes x small e =
    let read = header-read bytes x small e in
    let whole = read.0.whole in
    let is = read.1 in
    let bounds = size_bounds x.0.size is.size in
    let in_order = is.in_order in
    let max_fits = is.max_fits in
    record {
      size_is = sym (ap page_size whole ∙ size_said x.0 x.1 bounds.1);
      commit_is = sym (ap commit whole ∙ commit_said x.0 x.1 (commit_fits x.0.size x.0.commit is.size is.small));
      min_is = sym (ap min_txid whole ∙ min_said x.0 x.1 (omega (arith, in_order, max_fits)));
      index_is = sym (ap has_index whole ∙ index_said x.0 x.1);
      behind = sym (ap (drop 100) whole ∙ drop_at (header_bytes x.0) x.1 100 (header-length x.0));
      long = omega (arith, ap length whole, length-append (header_bytes x.0) x.1, header-length x.0);
    }

-- ---- the whole

-- what is read behind the blocks
abbrev ending : List ℕ → LtxHeader → Blocks × List ℕ → Result (LtxHeader × Blocks) LtxFault
ending bytes h blocks = where_true (has_all h blocks.0) (BadOrder 0) blocks.0 >>= λ whole.
    index_part_at h.index (keys_of whole) blocks.1 >>= λ tail. end_at bytes tail >>= λ end. Ok (h, whole)

ok_last : {B C : Type 0} (end : Result B LtxFault) (c : C) → fault_of (end >>= λ e. Ok c) ≡ fault_of end
ok_last (Ok x) c = refl
ok_last (Err fault) c = refl

then_ok : {A B C : Type 0} (tail : Result A LtxFault) (end : A → Result B LtxFault) (c : C)
    → fault_of (tail >>= λ t. end t >>= λ e. Ok c) ≡ fault_of (tail >>= end)
then_ok (Err fault) end c = refl
then_ok (Ok t) end c = ok_last (end t) c

last_ok : {A B C D : Type 0} (test : Bool) (fault : LtxFault) (x : A) (tail : A → Result B LtxFault)
    (end : B → Result C LtxFault) (f : A → D)
    → fault_of (where_true test fault x >>= λ y. tail y >>= λ t. end t >>= λ e. Ok (f y)) ≡ fault_of
    (passes test fault >>= λ whole. tail x >>= end)
last_ok false fault x tail end f = refl
last_ok true fault x tail end f = then_ok (tail x) end (f x)

ending_same : (bytes : List ℕ) (h : LtxHeader) (rest : List ℕ) → SaysFields bytes (h, rest)
    → (read : Result (Blocks × List ℕ) LtxFault) → ((x : Blocks × List ℕ) → read ≡ Ok x
    → keys_of x.0 ≡ block_numbers bytes (length x.0) 0)
    → fault_of (read >>= ending bytes h) ≡ fault_of (read >>= finish bytes 0)
ending_same bytes h rest says (Err fault) numbered = refl
ending_same bytes h rest says (Ok blocks) numbered =
    let none : 0 + length blocks.0 ≡ length blocks.0 = omega arith in
    last_ok (has_all h blocks.0) (BadOrder 0) blocks.0 (λ whole. index_part_at h.index (keys_of whole) blocks.1)
    (end_at bytes) (λ whole. (h, whole))
    ∙ rw (numbered blocks refl, says.commit_is, says.size_is, says.min_is, says.index_is, none) refl

-- what is read behind the header
abbrev behind_header : List ℕ → LtxHeader × List ℕ → Result (LtxHeader × Blocks) LtxFault
behind_header bytes x = blocks_at x.0.commit x.0.size x.0.commit 0 x.1 >>= ending bytes x.0

by_header : (bytes : List ℕ) (read : Result (LtxHeader × List ℕ) LtxFault) → AreBytes bytes → header_at bytes ≡ read
    → fault_of (read >>= behind_header bytes) ≡ option_or (header_fault bytes)
    (fault_from (suc (commit bytes)) bytes 0 0 100)
by_header bytes (Err fault) small e =
    let first : header_fault bytes ≡ Some fault = sym (header_fault-is bytes) ∙ ap fault_of e in
    rw first refl
by_header bytes (Ok x) small e =
    let first : header_fault bytes ≡ None = sym (header_fault-is bytes) ∙ ap fault_of e in
    let says = says_fields bytes x small e in
    let read = blocks_at x.0.commit x.0.size x.0.commit 0 x.1 in
    let numbered : (y : Blocks × List ℕ) → read ≡ Ok y → keys_of y.0 ≡ block_numbers bytes (length y.0) 0 =
    rw (says.size_is, says.behind) (numbers_of_blocks bytes x.0.commit x.0.commit 0 0 100 (omega arith)) in
    rw first (ending_same bytes x.0 x.1 says read numbered
    ∙ rw (says.commit_is, says.size_is, says.behind) (blocks_fault bytes (commit bytes) 0 0 100 (omega arith)
    (omega arith) says.long))

-- the fault that reading a file tells is its first
pub file_fault : (bytes : List ℕ) → AreBytes bytes → fault_of (file_at bytes) ≡ first_fault bytes
unfolding file_at first_fault
file_fault bytes small = by_header bytes (header_at bytes) small refl

pub explained : (bytes : List ℕ) (r : Result LtxFile DecodeFault) → AreBytes bytes
    → ReadsInMemory parts r (file_at bytes) → IfErr r (λ e. TellsFirstFault bytes e)
explained bytes (Ok file) small reads = tt
explained bytes (Err (causes.Fault fault)) small reads = sym (file_fault bytes small) ∙ ap fault_of reads
explained bytes (Err causes.Memory) small reads = tt

-- ---- bytes without a fault

both : (a b : Bool) → a ≡ true → T b → T (a && b)
both true b e h = h
both false b e h = absurd cc

all_above : (size commit last x : ℕ) (blocks : Blocks) → AreBlocks size commit last blocks → x ≤ last
    → T (below_all nat_cmp x blocks)
all_above size commit last x [] are low = tt
all_above size commit last x (block ∷ blocks) are low =
    let above = are.0.above in
    let less : is_lt (nat_cmp x block.0) ≡ true = rw (lt-ltb x block.0 (omega arith)) refl in
    both (is_lt (nat_cmp x block.0)) (below_all nat_cmp x blocks) less
    (all_above size commit block.0 x blocks are.1 (omega arith))

from_T : (b : Bool) → T b → b ≡ true
from_T true h = refl
from_T false h = absurd h

sorted : (size commit last : ℕ) (blocks : Blocks) → AreBlocks size commit last blocks → T (is_sorted nat_cmp blocks)
sorted size commit last [] are = tt
sorted size commit last (block ∷ blocks) are =
    both (below_all nat_cmp block.0 blocks) (is_sorted nat_cmp blocks)
    (from_T _ (all_above size commit block.0 block.0 blocks are.1 (omega arith)))
    (sorted size commit block.0 blocks are.1)

-- what is read is a file
made_file : (bytes : List ℕ) (x : LtxHeader × Blocks) → IsSpelled bytes x → (h : LtxHeader) × (c : Change)
    × IsLtxFile bytes h c
made_file bytes x is =
    let pages : FinMap nat_cmp (List ℕ) = from_sorted x.1 in
    let same : entries pages ≡ x.1 = entries-from_sorted nat_cmp x.1 (sorted x.0.size x.0.commit 0 x.1 is.blocks) in
    let change : Change = record { page_size = x.0.size; commit = x.0.commit; pages = pages } in (
      x.0,
      change,
      record {
        header = is.header;
        same_size = refl;
        same_commit = refl;
        pages = pages-from_blocks x.0 pages (rw same is.blocks) (rw same is.whole);
        spelled = rw same is.spelled;
      },
    )

by_reading : (bytes : List ℕ) (read : Result (LtxHeader × Blocks) LtxFault) → AreBytes bytes → file_at bytes ≡ read
    → fault_of read ≡ None → (h : LtxHeader) × (c : Change) × IsLtxFile bytes h c
by_reading bytes (Ok x) small e none = made_file bytes x (file-read bytes x small e)
by_reading bytes (Err fault) small e none = absurd cc

pub no_fault : (bytes : List ℕ) (h : LtxHeader) (c : Change) → IsLtxFile bytes h c → first_fault bytes ≡ None
no_fault bytes h c is =
    let small = file_are_bytes bytes h c is in
    sym (file_fault bytes small) ∙ ap fault_of (file_is_read bytes h c small is)

pub files : (bytes : List ℕ) → AreBytes bytes → (first_fault bytes ≡ None) ↔
    ((h : LtxHeader) × (c : Change) × IsLtxFile bytes h c)
files bytes small = (
  λ none. by_reading bytes (file_at bytes) small refl (file_fault bytes small ∙ none),
  λ file. no_fault bytes file.0 file.1 file.2,
)
