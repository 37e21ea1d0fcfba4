-- The first numbers of all cursors.
use Rattle.std.proofs.Common.{◌≡◌, ◌≢◌, ℕ, zero, suc, ◌+◌, ◌<◌, ◌≤◌, List, [], length, replicate, Option}
use Rattle.std.proofs.Common.{Some, None, refl, sym, ap, subst, ◌∙◌, arith, inl, inr}
use Rattle.std.specs.Prelude.{slice_get, slice_set}
use Rattle.std.proofs.lemmas.Bool.{cases_eq}
use Rattle.std.specs.Option.{option_or}
use Rattle.std.proofs.lemmas.List.{length-replicate, length-set}
use Rattle.std.proofs.lemmas.Option.{slice_get_within}
use Rattle.crash_disk.specs.Files.{Files}
use Rattle.page_cursors.specs.declared.cursor.Cursor.{Cursor}
use Rattle.page_cursors.specs.declared.cursors.Cursors.{Cursors}
use Rattle.page_cursors.specs.Blocks.{Blocks, last_in}
use Rattle.page_cursors.specs.Cursor.{HasGiven, WaitsNext, KeepsFile, AreMoved, AsksAt, bytes_of, commit_of}
use Rattle.page_cursors.specs.Cursors.{HaveGiven, EndWith, plan_of}
use Rattle.page_cursors.specs.Ending.{BlamesAt}
use Rattle.page_cursors.specs.Fault.{Blames}
use Rattle.page_cursors.specs.declared.fault.CursorsFault.{CursorsFault}
use Rattle.crash_disk.specs.Told.{Told}
use Rattle.ltx_format.specs.declared.fault.LtxFault.{LtxFault}
use Rattle.ltx_format.specs.FirstFault.{first_fault}
use Rattle.replica_store.specs.declared.file_name.FileName.{FileName}
use Rattle.page_cursors.specs.Opening.{HaveBegun, commits_from}
use Rattle.page_cursors.specs.Queue.{Waits, AreFresh, number_above}
use Rattle.page_cursors.proofs.DamageLemmas.{same_cursor}
use Rattle.page_cursors.proofs.QueueLemmas.{slice_get-set_other, slice_get-set_same}
use Rattle.page_cursors.proofs.TakeLemmas.{MovesOn, commits-set, is_above, same_next, waits_above_last, some_commit}
use Rattle.page_cursors.proofs.TakeLemmas.{told_behind}

-- the cursors wait with numbers above the last one that was given
abbrev pub AboveLast : Cursors → Type 0
AboveLast cursors = (place number : ℕ) → Waits cursors.waiting.numbers place number → cursors.last < number

-- the cursors before this place have been asked for their first numbers
pub record HaveStarted (files : Files) (place : ℕ) (cursors : Cursors) : Type 0 where
  pub given : (k before : ℕ) (cursor : Cursor) → slice_get cursors.cursors.items k ≡ Some cursor
      → slice_get (commits_from 0 cursors.cursors.items) k ≡ Some before
      → HasGiven files cursors.size 1 before cursor []
  pub waits : (k : ℕ) (cursor : Cursor) (next : Option ℕ) → k < place
      → slice_get cursors.cursors.items k ≡ Some cursor → slice_get cursors.waiting.numbers k ≡ Some next
      → WaitsNext cursor 0 next

pub begins_started : (files : Files) (cursors : Cursors) → HaveBegun files cursors.size 0 cursors.cursors.items
    → HaveStarted files 0 cursors
begins_started files cursors begun = record {
  given = λ k before cursor is commit. (begun k before cursor is commit).0;
  waits = λ k cursor next low is at. absurd (omega (arith, low));
}

pub started_next : (files : Files) (place : ℕ) (old new : Cursors) (next : Option ℕ) → HaveStarted files place old
    → place < length old.cursors.items → (asks : AsksAt files place old.cursors.items new.cursors.items next)
    → MovesOn old new 0 place asks.moves.moved next → (before : ℕ)
    → slice_get (commits_from 0 old.cursors.items) place ≡ Some before → HaveStarted files (place + 1) new
started_next files place old new next started low asks moves before commit_here =
    let cursor = asks.moves.cursor in
    let moved = asks.moves.moved in
    let given_here = started.given place before cursor asks.moves.is commit_here in
    let same_commit : commit_of moved ≡ commit_of cursor = ap (λ h. h.commit) asks.moves.same.header in
    let was_cursor : (k : ℕ) (c : Cursor) → k ≢ place → slice_get new.cursors.items k ≡ Some c
    → slice_get old.cursors.items k ≡ Some c
    = λ k c other found. sym (slice_get-set_other old.cursors.items place k moved other)
    ∙ subst (λ (cs : List Cursor). slice_get cs k ≡ Some c) moves.items found in
    let is_moved : (k : ℕ) (c : Cursor) → k ≡ place → slice_get new.cursors.items k ≡ Some c → c ≡ moved
    = λ k c here found.
    same_cursor (slice_get (slice_set old.cursors.items place moved) place) c moved
    (subst (λ (n : ℕ). slice_get (slice_set old.cursors.items place moved) n ≡ Some c) here (subst (λ
    (cs : List Cursor). slice_get cs k ≡ Some c) moves.items found))
    (slice_get-set_same old.cursors.items place moved low) in
    let was_commit : (k n : ℕ) → slice_get (commits_from 0 new.cursors.items) k ≡ Some n
    → slice_get (commits_from 0 old.cursors.items) k ≡ Some n
    = λ k n found.
    subst (λ (ns : List ℕ). slice_get ns k ≡ Some n)
    (commits-set 0 place old.cursors.items cursor moved asks.moves.is same_commit)
    (subst (λ (cs : List Cursor). slice_get (commits_from 0 cs) k ≡ Some n) moves.items found) in
    record {
      given = λ k n c found commit. subst (λ (size : ℕ). HasGiven files size 1 n c []) (sym moves.size) (elim
          (cases_eq k place) [
            | inl here ↦
                subst (λ (x : Cursor). HasGiven files old.size 1 n x []) (sym (is_moved k c here found))
                (asks.given old.size n (started.given place n cursor asks.moves.is (subst (λ (i : ℕ). slice_get
                (commits_from 0 old.cursors.items) i ≡ Some n) here (was_commit k n commit))))
            | inr other ↦ started.given k n c (was_cursor k c other found) (was_commit k n commit)
          ]);
      waits = λ k c n below found at. elim (cases_eq k place) [
        | inl here ↦
            let waits = asks.waits old.size before given_here in
            let which = same_next (slice_get new.waiting.numbers place) n next (subst (λ
            (i : ℕ). slice_get new.waiting.numbers i ≡ Some n) here at)
            (moves.here ∙ ap (λ (o : Option ℕ). Some o) (is_above moved 0 next waits)) in
            subst (λ (x : Cursor). WaitsNext x 0 n) (sym (is_moved k c here found)) (subst (λ
            (o : Option ℕ). WaitsNext moved 0 o) (sym which) waits)
        | inr other ↦ started.waits k c n (omega (arith, below, other)) (was_cursor k c other found) (sym
            (moves.others k other) ∙ at)
      ];
    }

none_in : (n p : ℕ) → last_in (replicate n []) p ≡ None
none_in zero p = refl
none_in (suc n) p = ap (λ (o : Option (List ℕ)). option_or o None) (none_in n p)

no_block : (n k : ℕ) (front : Blocks) → slice_get (replicate {A = Blocks} n []) k ≡ Some front → front ≡ []
no_block zero k front is = absurd cc
no_block (suc n) zero front is = cc
no_block (suc n) (suc k) front is = no_block n k front is

-- all were asked: no page was given yet
pub have_started : (files : Files) (cursors : Cursors) (place : ℕ) → HaveStarted files place cursors
    → length cursors.cursors.items ≤ place → cursors.last ≡ 0 → EndWith cursors → HaveGiven files cursors []
have_started files cursors place started all last ends = record {
  fronts = replicate (length cursors.cursors.items) [];
  count = length-replicate (length cursors.cursors.items) [];
  each = λ k before cursor front is commit at.
      subst (λ (f : Blocks). HasGiven files cursors.size (cursors.last + 1) before cursor f) (sym (no_block
      (length cursors.cursors.items) k front at))
      (subst (λ (n : ℕ). HasGiven files cursors.size (n + 1) before cursor []) (sym last)
      (started.given k before cursor is commit));
  waits = λ k cursor next is at.
      subst (λ (n : ℕ). WaitsNext cursor n next) (sym last) (started.waits k cursor next (omega
      (arith, slice_get_within cursors.cursors.items k cursor is, all)) is at);
  given_is = λ p. sym (none_in (length cursors.cursors.items) p);
  ends = ends;
}

-- what changed where the cursor at one place was asked
pub asked_moves : (old new : Cursors) (place : ℕ) (next : Option ℕ)
    (at : AreMoved place old.cursors.items new.cursors.items) → slice_get old.waiting.numbers place ≡ Some None
    → new.waiting.numbers ≡ slice_set old.waiting.numbers place (number_above 0 next) → new.size ≡ old.size
    → new.commit ≡ old.commit → MovesOn old new 0 place at.moved next
asked_moves old new place next at fresh put size commit = record {
  items = at.items;
  here = ap (λ ns. slice_get ns place) put ∙ slice_get-set_same old.waiting.numbers place (number_above 0 next)
      (slice_get_within old.waiting.numbers place None fresh);
  others = λ k other. ap (λ ns. slice_get ns k) put
      ∙ slice_get-set_other old.waiting.numbers place k (number_above 0 next) other;
  size = size;
  commit = commit;
}

pub above_next : (old new : Cursors) (place : ℕ) (next : Option ℕ) (moved : Cursor) → AboveLast old → old.last ≡ 0
    → new.last ≡ 0 → MovesOn old new 0 place moved next → AboveLast new
above_next old new place next moved above last last_too moves k number waits = elim (cases_eq k place) [
  | inl here ↦
      let over = waits_above_last 0 next number (same_next (slice_get new.waiting.numbers place)
      (number_above 0 next) (Some number) moves.here (subst (λ (n : ℕ). slice_get new.waiting.numbers n ≡ Some
      (Some number)) here waits)) in
      omega (arith, over, last_too)
  | inr other ↦ let before = above k number (sym (moves.others k other)
      ∙ waits) in omega (arith, before, last, last_too)
]

pub fresh_next : (old new : Cursors) (place : ℕ) (next : Option ℕ) (moved : Cursor)
    → AreFresh place old.waiting.numbers → length new.waiting.numbers ≡ length old.waiting.numbers
    → MovesOn old new 0 place moved next → AreFresh (place + 1) new.waiting.numbers
fresh_next old new place next moved fresh count moves k past low = moves.others k (λ e. omega (arith, e, past))
    ∙ fresh k (omega (arith, past)) (omega (arith, low, count))

pub end_with_same : (old new : Cursors) (place : ℕ) (next : Option ℕ) (cursor moved : Cursor)
    → slice_get old.cursors.items place ≡ Some cursor → commit_of moved ≡ commit_of cursor
    → MovesOn old new 0 place moved next → EndWith old → EndWith new
end_with_same old new place next cursor moved is same moves ends =
    subst (λ (cs : List Cursor). slice_get (commits_from 0 cs) (length cs) ≡ Some new.commit) (sym moves.items)
    (subst (λ (ns : List ℕ). slice_get ns (length (slice_set old.cursors.items place moved)) ≡ Some new.commit) (sym
    (commits-set 0 place old.cursors.items cursor moved is same))
    (subst (λ (n : ℕ). slice_get (commits_from 0 old.cursors.items) n ≡ Some new.commit) (sym
    (length-set old.cursors.items place moved)) (ends ∙ ap (λ (n : ℕ). Some n) (sym moves.commit))))

none_and_some : (o : Option (Option ℕ)) (number : ℕ) → o ≡ Some None → o ≡ Some (Some number) → ⊥
none_and_some None number none some = cc
none_and_some (Some None) number none some = cc
none_and_some (Some (Some n)) number none some = cc

pub none_fresh : (numbers : List (Option ℕ)) (k number : ℕ) → AreFresh 0 numbers → Waits numbers k number → ⊥
none_fresh numbers k number fresh waits = none_and_some (slice_get numbers k) number (fresh k (omega arith)
    (slice_get_within numbers k (Some number) waits)) waits

-- a fault of the file at a place is told as the plan's first
pub start_fault : (files : Files) (told : Told) (place size : ℕ) (first old : Cursors) (after : List Cursor)
    (cursor moved : Cursor) (fault : LtxFault) (found : CursorsFault)
    → HaveStarted files place old → plan_of old ≡ plan_of first → place < length old.cursors.items
    → slice_get old.cursors.items place ≡ Some cursor → KeepsFile cursor moved
    → after ≡ slice_set old.cursors.items place moved → size ≡ old.size
    → first_fault (bytes_of files cursor.name) ≡ Some fault → BlamesAt files told size after place fault found
    → Blames told (plan_of first) found
start_fault files told place size first old after cursor moved fault found started plan low is same items sized
    damaged blames =
    subst (λ (names : List FileName). Blames told names found) plan
    (told_behind files told place size old after cursor moved fault found
    (λ k c at. let commit = some_commit old.cursors.items k (slice_get_within old.cursors.items k c at) in
    (started.given k commit.0 c at commit.1).open_file) low is same items sized damaged blames)
