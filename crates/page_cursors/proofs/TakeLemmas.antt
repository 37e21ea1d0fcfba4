-- One page of the number more is taken.
use Rattle.std.proofs.Common.{◌≡◌, ◌≢◌, ℕ, zero, suc, ◌+◌, ◌-◌, ◌<◌, ◌≤◌, ltb, List, [], ◌∷◌, ◌++◌, length, take}
use Rattle.std.proofs.Common.{get_or, Option, Some, None, refl, sym, ap, subst, ◌∙◌, arith, inl, inr}
use Rattle.std.specs.Prelude.{map, slice_get, slice_set}
use Rattle.std.proofs.lemmas.Bool.{cases_eq, cases_lt, cases_Bool, lt-ltb, ltb-true}
use Rattle.std.proofs.lemmas.List.{length-set}
use Rattle.std.proofs.lemmas.Option.{slice_get_within, slice_get-get_or}
use Rattle.crash_disk.specs.Files.{Files}
use Rattle.page_cursors.specs.declared.cursor.Cursor.{Cursor}
use Rattle.page_cursors.specs.Blocks.{Blocks, numbers_of, page_in}
use Rattle.page_cursors.specs.Cursor.{HasGiven, GivesPage, KeepsFile, WaitsNext, HaveSize, IsOpen, bytes_of, commit_of}
use Rattle.page_cursors.specs.declared.cursors.Cursors.{Cursors}
use Rattle.page_cursors.specs.Cursors.{WaitsFrom, HaveTaken, HaveShape, AreTaking, SamePlan, plan_of}
use Rattle.ltx_reader.specs.declared.progress.Progress.TheVariants.{AtNumber}
use Rattle.page_cursors.specs.Opening.{commits_from, names_of}
use Rattle.page_cursors.specs.Ending.{AreOpen, BlamesAt}
use Rattle.page_cursors.specs.Fault.{Blames}
use Rattle.page_cursors.specs.declared.fault.CursorsFault.{CursorsFault}
use Rattle.crash_disk.specs.Told.{Told}
use Rattle.ltx_format.specs.declared.fault.LtxFault.{LtxFault}
use Rattle.ltx_format.specs.FirstFault.{first_fault}
use Rattle.replica_store.specs.declared.file_name.FileName.{FileName}
use Rattle.page_cursors.specs.Queue.{number_above, Waits}
use Rattle.page_cursors.proofs.BlockLemmas.{below-more, page-push_other, page-push_here, last-set}
use Rattle.page_cursors.proofs.DamageLemmas.{same_cursor, sized_next, get-take}
use Rattle.page_cursors.proofs.QueueLemmas.{slice_get-set_other, slice_get-set_same}

-- a cursor whose numbers are below one bound has them below a greater one
pub given_more : (files : Files) (size low high before : ℕ) (cursor : Cursor) (front : Blocks) → low ≤ high
    → HasGiven files size low before cursor front → HasGiven files size high before cursor front
given_more files size low high before cursor front le has = record {
  open_file = has.open_file;
  split = has.split;
  low = below-more (numbers_of front) low high le has.low;
  within = has.within;
  wants = has.wants;
}

-- the sizes of the files stay where a cursor moves on
pub commits-set : (before place : ℕ) (cursors : List Cursor) (old new : Cursor) → slice_get cursors place ≡ Some old
    → commit_of new ≡ commit_of old
    → commits_from before (slice_set cursors place new) ≡ commits_from before cursors
commits-set before place [] old new is same = refl
commits-set before zero (c ∷ cursors) old new is same =
    let e : c ≡ old = cc in ap (λ (n : ℕ). before ∷ n ∷ map commit_of cursors) (same ∙ ap commit_of (sym e))
commits-set before (suc place) (c ∷ cursors) old new is same = ap (λ (ns : List ℕ). before ∷ ns) (commits-set
    (commit_of c) place cursors old new is same)

same_front : (o : Option Blocks) (a b : Blocks) → o ≡ Some a → o ≡ Some b → a ≡ b
same_front None a b first second = absurd cc
same_front (Some x) a b first second = let one : x ≡ a = cc in let two : x ≡ b = cc in sym one ∙ two

pub length-commits : (before : ℕ) (cursors : List Cursor) → length (commits_from before cursors) ≡ length cursors + 1
length-commits before [] = refl
length-commits before (c ∷ cursors) = let rest = length-commits (commit_of c) cursors in omega (arith, rest)

pub some_commit : (cursors : List Cursor) (place : ℕ) → place < length cursors
    → (before : ℕ) × (slice_get (commits_from 0 cursors) place ≡ Some before)
some_commit cursors place low = (
  get_or (commits_from 0 cursors) place 0,
  slice_get-get_or
      (commits_from 0 cursors) place 0 (omega (arith, low, length-commits 0 cursors)),
)

some_front : (fronts : List Blocks) (place : ℕ) → place < length fronts
    → (front : Blocks) × (slice_get fronts place ≡ Some front)
some_front fronts place low = (get_or fronts place [], slice_get-get_or fronts place [] low)

-- what changed where the cursor at one place gave a page
pub record MovesOn (old new : Cursors) (number place : ℕ) (moved : Cursor) (next : Option ℕ) : Type 0 where
  pub items : new.cursors.items ≡ slice_set old.cursors.items place moved
  pub here : slice_get new.waiting.numbers place ≡ Some (number_above number next)
  pub others : (k : ℕ) → k ≢ place → slice_get new.waiting.numbers k ≡ slice_get old.waiting.numbers k
  pub size : new.size ≡ old.size
  pub commit : new.commit ≡ old.commit

pub waits_from : (cursor : Cursor) (last : ℕ) (next : Option ℕ) → WaitsNext cursor last next → WaitsFrom cursor next
waits_from cursor last None waits = waits
waits_from cursor last (Some n) waits = waits.0

pub is_above : (cursor : Cursor) (last : ℕ) (next : Option ℕ) → WaitsNext cursor last next
    → number_above last next ≡ next
is_above cursor last None waits = refl
is_above cursor last (Some n) waits = rw (lt-ltb last n waits.1) refl

pub same_next : (o : Option (Option ℕ)) (a b : Option ℕ) → o ≡ Some a → o ≡ Some b → a ≡ b
same_next None a b first second = absurd cc
same_next (Some x) a b first second = let one : x ≡ a = cc in let two : x ≡ b = cc in sym one ∙ two

module _ (files : Files) (number from place : ℕ) (given : Blocks) (old new : Cursors) (cursor moved : Cursor)
    (next : Option ℕ)
    (low : place < length old.cursors.items) (past : from ≤ place)
    (is : slice_get old.cursors.items place ≡ Some cursor)
    (at : cursor.reader.progress ≡ AtNumber number) (same : commit_of moved ≡ commit_of cursor)
    (moves : MovesOn old new number place moved next)
    (gives : GivesPage files number cursor moved new.page.items next)
    (taken : HaveTaken files old number from given) where
  first : (front : Blocks) × (slice_get taken.fronts place ≡ Some front)
  first = some_front taken.fronts place (omega (arith, low, taken.count))

  before_here : (before : ℕ) → slice_get (commits_from 0 old.cursors.items) place ≡ Some before
      → HasGiven files old.size number before cursor first.0
  before_here before commit = taken.rest place before cursor first.0 past is commit first.1

  after : Blocks
  after = first.0 ++ (number, new.page.items) ∷ []

  -- what stands in the new lists at another place stood there
  was_cursor : (k : ℕ) (c : Cursor) → k ≢ place → slice_get new.cursors.items k ≡ Some c
      → slice_get old.cursors.items k ≡ Some c
  was_cursor k c other found = sym (slice_get-set_other old.cursors.items place k moved other)
      ∙ subst (λ (cs : List Cursor). slice_get cs k ≡ Some c) moves.items found

  was_commit : (k before : ℕ) → slice_get (commits_from 0 new.cursors.items) k ≡ Some before
      → slice_get (commits_from 0 old.cursors.items) k ≡ Some before
  was_commit k before found =
      subst (λ (ns : List ℕ). slice_get ns k ≡ Some before) (commits-set 0 place old.cursors.items cursor moved is same)
      (subst (λ (cs : List Cursor). slice_get (commits_from 0 cs) k ≡ Some before) moves.items found)

  is_moved : (k : ℕ) (c : Cursor) → k ≡ place → slice_get new.cursors.items k ≡ Some c → c ≡ moved
  is_moved k c here found =
      same_cursor (slice_get (slice_set old.cursors.items place moved) place) c moved
      (subst (λ (n : ℕ). slice_get (slice_set old.cursors.items place moved) n ≡ Some c) here (subst (λ
      (cs : List Cursor). slice_get cs k ≡ Some c) moves.items found))
      (slice_get-set_same old.cursors.items place moved low)

  is_after : (k : ℕ) (front : Blocks) → k ≡ place → slice_get (slice_set taken.fronts place after) k ≡ Some front
      → front ≡ after
  unfolding after
  is_after k front here found =
      same_front (slice_get (slice_set taken.fronts place after) place) front after (subst (λ (n : ℕ). slice_get
      (slice_set taken.fronts place after) n ≡ Some front) here found)
      (slice_get-set_same taken.fronts place after (omega (arith, low, taken.count)))

  done_next : (k before : ℕ) (c : Cursor) (front : Blocks) → k < place + 1 → slice_get new.cursors.items k ≡ Some c
      → slice_get (commits_from 0 new.cursors.items) k ≡ Some before
      → slice_get (slice_set taken.fronts place after) k ≡ Some front
      → HasGiven files new.size (number + 1) before c front
  unfolding after
  done_next k before c front below at_cursor at_commit at_front = subst (λ (size : ℕ). HasGiven files size
      (number + 1) before c front) (sym moves.size) (elim (cases_eq k place) [
        | inl here ↦
            subst (λ (x : Cursor). HasGiven files old.size (number + 1) before x front)
            (sym (is_moved k c here at_cursor))
            (subst (λ (f : Blocks). HasGiven files old.size (number + 1) before moved f) (sym
            (is_after k front here at_front))
            (gives.gives old.size before first.0 at (before_here before (subst (λ (n : ℕ). slice_get
            (commits_from 0 old.cursors.items) n ≡ Some before) here (was_commit k before at_commit)))))
        | inr other ↦
            let front_was = sym (slice_get-set_other taken.fronts place k after other) ∙ at_front in
            elim (cases_lt k from) [
              | inl less ↦ taken.done k before c front less (was_cursor k c other at_cursor)
                  (was_commit k before at_commit) front_was
              | inr more ↦ given_more files old.size number (number + 1) before c front (omega arith)
                  (taken.rest k before c front more (was_cursor k c other at_cursor)
                  (was_commit k before at_commit) front_was)
            ]
      ])

  rest_next : (k before : ℕ) (c : Cursor) (front : Blocks) → place + 1 ≤ k → slice_get new.cursors.items k ≡ Some c
      → slice_get (commits_from 0 new.cursors.items) k ≡ Some before
      → slice_get (slice_set taken.fronts place after) k ≡ Some front → HasGiven files new.size number before c front
  unfolding after
  rest_next k before c front beyond at_cursor at_commit at_front =
      let other : k ≢ place = λ e. omega (arith, e, beyond) in
      subst (λ (size : ℕ). HasGiven files size number before c front) (sym moves.size)
      (taken.rest k before c front (omega (arith, past, beyond)) (was_cursor k c other at_cursor)
      (was_commit k before at_commit) (sym (slice_get-set_other taken.fronts place k after other) ∙ at_front))

  waits_next : (k : ℕ) (c : Cursor) (n : Option ℕ) → slice_get new.cursors.items k ≡ Some c
      → slice_get new.waiting.numbers k ≡ Some n → WaitsFrom c n
  waits_next k c n at_cursor at_number = elim (cases_eq k place) [
    | inl here ↦
        let commit = some_commit old.cursors.items place low in
        let above = gives.waits old.size commit.0 first.0 at (before_here commit.0 commit.1) in
        let waits = waits_from moved number next above in
        let which = same_next (slice_get new.waiting.numbers place) n next (subst (λ
        (i : ℕ). slice_get new.waiting.numbers i ≡ Some n) here at_number) (moves.here
        ∙ ap (λ (o : Option ℕ). Some o) (is_above moved number next above)) in
        subst (λ (x : Cursor). WaitsFrom x n) (sym (is_moved k c here at_cursor)) (subst (λ
        (o : Option ℕ). WaitsFrom moved o) (sym which) waits)
    | inr other ↦ taken.waits k c n (was_cursor k c other at_cursor) (sym (moves.others k other) ∙ at_number)
  ]

  pub take_next : HaveTaken files new number (place + 1) given
  unfolding after
  take_next = record {
    fronts = slice_set taken.fronts place after;
    count = length-set taken.fronts place after ∙ taken.count ∙ sym (length-set old.cursors.items place moved)
        ∙ ap length (sym moves.items);
    done = done_next;
    rest = rest_next;
    waits = waits_next;
    given_is = λ p other. taken.given_is p other ∙ sym (last-set taken.fronts place first.0 after p first.1
        (page-push_other first.0 number p new.page.items other));
    not_yet = taken.not_yet;
    here = λ some front found.
        let commit = some_commit old.cursors.items place low in
        ap (λ (f : Blocks). page_in f number) (is_after (place + 1 - 1) front (omega arith) found)
        ∙ page-push_here first.0 number new.page.items (before_here commit.0 commit.1).low;
    ends =
        subst (λ (cs : List Cursor). slice_get (commits_from 0 cs) (length cs) ≡ Some new.commit) (sym moves.items)
        (subst (λ (ns : List ℕ). slice_get ns (length (slice_set old.cursors.items place moved)) ≡ Some new.commit)
        (sym (commits-set 0 place old.cursors.items cursor moved is same))
        (subst (λ (n : ℕ). slice_get (commits_from 0 old.cursors.items) n ≡ Some new.commit) (sym
        (length-set old.cursors.items place moved))
        (taken.ends ∙ ap (λ (n : ℕ). Some n) (sym moves.commit))));
  }

pub waits_above_last : (last : ℕ) (next : Option ℕ) (other : ℕ) → number_above last next ≡ Some other → last < other
waits_above_last last None other is = absurd cc
waits_above_last last (Some n) other is = elim (cases_Bool (ltb last n)) [
  | inl above ↦ let found : Some n ≡ Some other = sym (rw above refl)
      ∙ is in let same : n ≡ other = cc in omega (arith, same, ltb-true last n above)
  | inr below ↦ let none : ◌≡◌ {A = Option ℕ} None (Some other) = sym (rw below refl) ∙ is in absurd cc
]

-- after another page of the number the cursors that may still wait with it stand behind
pub taking_next : (old new : Cursors) (number from place : ℕ) (moved : Cursor) (next : Option ℕ)
    → AreTaking old number from → place < length old.cursors.items
    → ((other : ℕ) → Waits old.waiting.numbers other number → place ≤ other)
    → MovesOn old new number place moved next → HaveShape new → AreTaking new number (place + 1)
taking_next old new number from place moved next taking low earliest moves shape = record {
  shape = shape;
  least = λ k other waits. elim (cases_eq k place) [
    | inl here ↦ let above = waits_above_last number next other (same_next (slice_get new.waiting.numbers place)
        (number_above number next) (Some other) moves.here (subst (λ (n : ℕ). slice_get new.waiting.numbers n ≡ Some
        (Some other)) here waits)) in omega (arith, above)
    | inr elsewhere ↦ taking.least k other (sym (moves.others k elsewhere) ∙ waits)
  ];
  later = λ k waits. elim (cases_eq k place) [
    | inl here ↦ let above = waits_above_last number next number (same_next (slice_get new.waiting.numbers place)
        (number_above number next) (Some number) moves.here (subst (λ (n : ℕ). slice_get new.waiting.numbers n ≡ Some
        (Some number)) here waits)) in absurd (omega (arith, above))
    | inr elsewhere ↦ let at_least = earliest k (sym (moves.others k elsewhere)
        ∙ waits) in omega (arith, at_least, elsewhere)
  ];
  within = omega (arith, low, length-set old.cursors.items place moved, ap length moves.items);
}

same_names : (cursors : List Cursor) (place : ℕ) (cursor moved : Cursor) → slice_get cursors place ≡ Some cursor
    → KeepsFile cursor moved → names_of (slice_set cursors place moved) ≡ names_of cursors
same_names [] place cursor moved is same = refl
same_names (c ∷ cursors) zero cursor moved is same =
    let e : c ≡ cursor = cc in ap (λ (n : FileName). n ∷ names_of cursors) (same.name
    ∙ ap (λ (x : Cursor). x.name) (sym e))
same_names (c ∷ cursors) (suc place) cursor moved is same = ap (λ (ns : List FileName). c.name ∷ ns)
    (same_names cursors place cursor moved is same)

-- where a cursor moved on, the plan is as before
pub same_plan : (old new : Cursors) (number place : ℕ) (cursor moved : Cursor) (next : Option ℕ)
    → slice_get old.cursors.items place ≡ Some cursor → KeepsFile cursor moved
    → MovesOn old new number place moved next → SamePlan old new
same_plan old new number place cursor moved next is same moves = record {
  plan = ap names_of moves.items ∙ same_names old.cursors.items place cursor moved is same;
  size = moves.size;
  commit = moves.commit;
}

-- and so is the shape
pub same_shape : (old new : Cursors) (number place : ℕ) (cursor moved : Cursor) (next : Option ℕ) → HaveShape old
    → place < length old.cursors.items → slice_get old.cursors.items place ≡ Some cursor
    → KeepsFile cursor moved → MovesOn old new number place moved next
    → length new.waiting.numbers ≡ length old.waiting.numbers → length new.page.items ≡ length old.page.items
    → HaveShape new
same_shape old new number place cursor moved next shape low is same moves count room = record {
  count = count ∙ shape.count ∙ sym (length-set old.cursors.items place moved) ∙ ap length (sym moves.items);
  sized = subst (λ (cs : List Cursor). HaveSize new.size cs) (sym moves.items) (subst (λ (n : ℕ). HaveSize n
      (slice_set old.cursors.items place moved)) (sym moves.size)
      (sized_next old.size place old.cursors.items cursor moved shape.sized low is (same.header)));
  page = room ∙ shape.page ∙ sym moves.size;
}

pub open_at : (files : Files) (old : Cursors) (number from : ℕ) (given : Blocks)
    → HaveTaken files old number from given → AreOpen files old.size old.cursors.items
open_at files old number from given taken k cursor is =
    let low = slice_get_within old.cursors.items k cursor is in
    let commit = some_commit old.cursors.items k low in
    let front = some_front taken.fronts k (omega (arith, low, taken.count)) in
    elim (cases_lt k from) [
      | inl less ↦ (taken.done k commit.0 cursor front.0 less is commit.1 front.1).open_file
      | inr more ↦ (taken.rest k commit.0 cursor front.0 more is commit.1 front.1).open_file
    ]

-- a fault of the file at a place is told as the plan's first
pub told_behind : (files : Files) (told : Told) (place size : ℕ) (old : Cursors) (after : List Cursor)
    (cursor moved : Cursor) (fault : LtxFault) (found : CursorsFault)
    → AreOpen files old.size old.cursors.items → place < length old.cursors.items
    → slice_get old.cursors.items place ≡ Some cursor → KeepsFile cursor moved
    → after ≡ slice_set old.cursors.items place moved
    → size ≡ old.size → first_fault (bytes_of files cursor.name) ≡ Some fault
    → BlamesAt files told size after place fault found → Blames told (plan_of old) found
told_behind files told place size old after cursor moved fault found are low is same items sized damaged blames =
    let at : slice_get after place ≡ Some moved = ap (λ (cs : List Cursor). slice_get cs place) items
    ∙ slice_get-set_same old.cursors.items place moved low in
    let before : AreOpen files size (take place after)
    = λ k c in_front.
    let found_at = get-take after place k c in_front in
    let was = sym (slice_get-set_other old.cursors.items place k moved (λ e. omega (arith, e, found_at.0)))
    ∙ subst (λ (cs : List Cursor). slice_get cs k ≡ Some c) items found_at.1 in
    subst (λ (n : ℕ). IsOpen files n c) (sym sized) (are k c was) in
    subst (λ (plan : List FileName). Blames told plan found) (ap names_of items
    ∙ same_names old.cursors.items place cursor moved is same)
    (blames moved at before (subst (λ (n : FileName). first_fault (bytes_of files n) ≡ Some fault)
    (sym same.name) damaged))

pub explains_fault : (files : Files) (told : Told) (number from place size : ℕ) (given : Blocks) (old : Cursors)
    (after : List Cursor) (cursor moved : Cursor) (fault : LtxFault) (found : CursorsFault)
    → HaveTaken files old number from given → place < length old.cursors.items
    → slice_get old.cursors.items place ≡ Some cursor → KeepsFile cursor moved
    → after ≡ slice_set old.cursors.items place moved
    → size ≡ old.size → first_fault (bytes_of files cursor.name) ≡ Some fault
    → BlamesAt files told size after place fault found → Blames told (plan_of old) found
explains_fault files told number from place size given old after cursor moved fault found taken low is same items
    sized damaged blames =
    told_behind files told place size old after cursor moved fault found
    (open_at files old number from given taken) low is same items sized damaged blames
