-- The bytes of an output, page by page.
use Rattle.std.proofs.Common.{◌≡◌, ◌≢◌, ℕ, zero, suc, ◌+◌, ◌<◌, ◌≤◌, Bool, true, false, inl, inr, List, [], ◌∷◌, ◌++◌}
use Rattle.std.proofs.Common.{map, length, take, Option, Some, None, refl, sym, ap, subst, ◌∙◌, append_assoc, arith}
use Rattle.std.proofs.Math.Dec.{ltb}
use Rattle.std.specs.Prelude.{IsSome, is_some, ◌&&◌, ◌==◌, if◌then◌else◌, replicate, unwrap_or, slice_get}
use Rattle.std.specs.List.{concat}
use Rattle.std.proofs.lemmas.Bool.{cases_eq, cases_lt, eq-eqb, ne_eqb, lt-ltb, le-ltb}
use Rattle.std.proofs.lemmas.List.{append-nil, take_more, take_all}
use Rattle.std.proofs.lemmas.Option.{get_or_from_slice_get}
use Rattle.crash_disk.specs.Files.{Files}
use Rattle.ls_base.specs.PageSize.{lock_page}
use Rattle.ls_base.specs.State.{State, page_of}
use Rattle.ltx_format.specs.declared.file.LtxFile.{LtxFile}
use Rattle.ltx_format.specs.LtxFormat.{change_of}
use Rattle.page_cursors.specs.declared.cursors.Cursors.{Cursors}
use Rattle.page_cursors.specs.Blocks.{Blocks, page_in}
use Rattle.page_cursors.specs.Cursors.{HaveRead, plan_of}
use Rattle.page_cursors.specs.LastPages.{HaveSize, MakesOfLastPages, last_page, last_commit}
use Rattle.page_cursors.proofs.LastPagesLemmas.{make_states}
use Rattle.replica_store.specs.FileOf.{HavePageSize}
use Rattle.restore_apply.specs.Pages.{output_page, output_to, lock_between}
use Rattle.restore_apply.specs.Restoring.{AreStateOf}
use Rattle.restore_apply.proofs.StagingLemmas.{concat-append}

-- ---- one page

page_lock : (size : ℕ) (given : Blocks) (p : ℕ) → p ≡ lock_page size → output_page size given p ≡ replicate size 0
page_lock size given p is = rw (eq-eqb p (lock_page size) is) refl

pub page_other : (size : ℕ) (given : Blocks) (p : ℕ) → p ≢ lock_page size
    → output_page size given p ≡ unwrap_or (page_in given p) []
page_other size given p other = rw (ne_eqb p (lock_page size) other) refl

page_none : (size : ℕ) (given : Blocks) (p : ℕ) → p ≢ lock_page size → page_in given p ≡ None
    → output_page size given p ≡ []
page_none size given p other none = page_other size given p other ∙ ap (λ (o : Option (List ℕ)). unwrap_or o []) none

-- ---- the lock page between two numbers

if_both : (a b : Bool) (xs : List ℕ) → a ≡ true → b ≡ true → (if a && b then xs else []) ≡ xs
if_both true true xs first second = refl
if_both true false xs first second = absurd cc
if_both false b xs first second = absurd cc

if_first_not : (a b : Bool) (xs : List ℕ) → a ≡ false → (if a && b then xs else []) ≡ []
if_first_not true b xs not_first = absurd cc
if_first_not false b xs not_first = refl

if_second_not : (a b : Bool) (xs : List ℕ) → b ≡ false → (if a && b then xs else []) ≡ []
if_second_not true true xs not_second = absurd cc
if_second_not true false xs not_second = refl
if_second_not false b xs not_second = refl

lock_inside : (size last next : ℕ) → last < lock_page size → lock_page size < next
    → lock_between size last next ≡ replicate size 0
lock_inside size last next low high =
    if_both (ltb last (lock_page size)) (ltb (lock_page size) next) (replicate size 0)
    (lt-ltb last (lock_page size) low) (lt-ltb (lock_page size) next high)

lock_before : (size last next : ℕ) → lock_page size ≤ last → lock_between size last next ≡ []
lock_before size last next past =
    if_first_not (ltb last (lock_page size)) (ltb (lock_page size) next) (replicate size 0)
    (le-ltb last (lock_page size) past)

lock_later : (size last next : ℕ) → next ≤ lock_page size → lock_between size last next ≡ []
lock_later size last next early =
    if_second_not (ltb last (lock_page size)) (ltb (lock_page size) next) (replicate size 0)
    (le-ltb (lock_page size) next early)

-- none lies between a number and the next
lock_none : (size last : ℕ) → lock_between size last (suc last) ≡ []
lock_none size last = elim (cases_lt last (lock_page size)) [
  | inl early ↦ lock_later size last (suc last) (omega (arith, early))
  | inr past ↦ lock_before size last (suc last) past
]

same_test : (lock next : ℕ) → suc next ≢ lock → ltb lock (suc next) ≡ ltb lock (suc (suc next))
same_test lock next other = elim (cases_lt lock (suc next)) [
  | inl past ↦ lt-ltb lock (suc next) past ∙ sym (lt-ltb lock (suc (suc next)) (omega (arith, past)))
  | inr early ↦ le-ltb lock (suc next) early
      ∙ sym (le-ltb lock (suc (suc next))
      (let apart : lock ≢ suc next = λ e. other (sym e) in omega (arith, early, apart)))
]

-- and where the number behind isn't the lock page's, nothing changes
lock_same : (size last next : ℕ) → suc next ≢ lock_page size
    → lock_between size last (suc next) ≡ lock_between size last (suc (suc next))
lock_same size last next other =
    ap (λ (b : Bool). if ltb last (lock_page size) && b then replicate size 0 else [])
    (same_test (lock_page size) next other)

-- ---- pages up to a number

-- with the same pages given the output is the same
pub output-same : (size k : ℕ) (given after : Blocks) → ((p : ℕ) → p ≤ k → page_in after p ≡ page_in given p)
    → output_to size after k ≡ output_to size given k
output-same size zero given after same = refl
output-same size (suc k) given after same =
    ap (λ (front : List ℕ). front ++ output_page size after (suc k))
    (output-same size k given after (λ p low. same p (omega (arith, low))))
    ∙ ap (λ (o : Option (List ℕ)). output_to size given k ++ (if suc k == lock_page size then replicate size 0
    else unwrap_or o [])) (same (suc k) (omega arith))

-- where no page was given between two numbers, only the lock page stands there
gap_none : (size last next : ℕ) (given : Blocks) → last ≡ next
    → output_to size given next ≡ output_to size given last ++ lock_between size last (suc next)
gap_none size last next given same =
    ap (output_to size given) (sym same) ∙ sym (append-nil (output_to size given last))
    ∙ ap (λ (more : List ℕ). output_to size given last ++ more) (sym (lock_none size last)
    ∙ ap (λ (n : ℕ). lock_between size last (suc n)) same)

gap_more : (size last next : ℕ) (given : Blocks) → last ≤ next
    → ((p : ℕ) → last < p → p ≤ suc next → p ≢ lock_page size → page_in given p ≡ None)
    → output_to size given next ≡ output_to size given last ++ lock_between size last (suc next)
    → output_to size given (suc next) ≡ output_to size given last ++ lock_between size last (suc (suc next))
gap_more size last next given low none before = elim (cases_eq (suc next) (lock_page size)) [
  | inl lock ↦
      ap (λ (front : List ℕ). front ++ output_page size given (suc next)) before
      ∙ ap (λ (page : List ℕ). (output_to size given last ++ lock_between size last (suc next)) ++ page)
      (page_lock size given (suc next) lock)
      ∙ ap (λ (more : List ℕ). (output_to size given last ++ more) ++ replicate size 0)
      (lock_later size last (suc next) (omega (arith, lock)))
      ∙ ap (λ (front : List ℕ). front ++ replicate size 0) (append-nil (output_to size given last))
      ∙ ap (λ (more : List ℕ). output_to size given last ++ more)
      (sym (lock_inside size last (suc (suc next)) (omega (arith, low, lock)) (omega (arith, lock))))
  | inr other ↦
      ap (λ (front : List ℕ). front ++ output_page size given (suc next)) before
      ∙ ap (λ (page : List ℕ). (output_to size given last ++ lock_between size last (suc next)) ++ page)
      (page_none size given (suc next) other (none (suc next) (omega (arith, low)) (omega arith) other))
      ∙ append-nil (output_to size given last ++ lock_between size last (suc next))
      ∙ ap (λ (more : List ℕ). output_to size given last ++ more) (lock_same size last next other)
]

pub output-gap : (size last next : ℕ) (given : Blocks) → last ≤ next
    → ((p : ℕ) → last < p → p ≤ next → p ≢ lock_page size → page_in given p ≡ None)
    → output_to size given next ≡ output_to size given last ++ lock_between size last (suc next)
output-gap size last zero given low none = gap_none size last zero given (omega (arith, low))
output-gap size last (suc next) given low none = elim (cases_eq last (suc next)) [
  | inl same ↦ gap_none size last (suc next) given same
  | inr apart ↦
      let under : last ≤ next = omega (arith, low, apart) in
      gap_more size last next given under none
      (output-gap size last next given under (λ p above within. none p above (omega (arith, within))))
]

-- ---- all pages

output_is : (size k : ℕ) (given : Blocks) (pages : List (List ℕ)) → k ≤ length pages
    → ((n : ℕ) → n < k → slice_get pages n ≡ Some (output_page size given (suc n)))
    → output_to size given k ≡ concat (take k pages)
output_is size zero given pages low each = refl
output_is size (suc k) given pages low each =
    let x = output_page size given (suc k) in
    let one_more : suc k ≡ k + 1 = omega arith in
    let taken : take (suc k) pages ≡ take k pages ++ x ∷ [] =
    ap (λ (n : ℕ). take n pages) one_more ∙ take_more pages k [] (omega (arith, low))
    ∙ ap (λ (y : List ℕ). take k pages ++ y ∷ []) (get_or_from_slice_get pages k x [] (each k (omega arith))) in
    ap (λ (front : List ℕ). front ++ x) (output_is size k given pages (omega (arith, low))
    (λ n below. each n (omega (arith, below))))
    ∙ sym (ap concat taken ∙ concat-append (take k pages) (x ∷ [])
    ∙ ap (λ (rest : List ℕ). concat (take k pages) ++ rest) (append-nil x))

sized_changes : (size : ℕ) (read : List LtxFile) → HavePageSize size read → HaveSize size (map change_of read)
sized_changes size [] sized = tt
sized_changes size (file ∷ read) (is, sized) = (is, sized_changes size read sized)

there_at : {X : Type 0} (xs : List X) (at : ℕ) → at < length xs → IsSome (slice_get xs at)
there_at [] at below = absurd (omega (arith, below))
there_at (x ∷ xs) zero below = refl
there_at (x ∷ xs) (suc at) below = there_at xs at (omega (arith, below))

some_unwrapped : (o : Option (List ℕ)) → IsSome o → o ≡ Some (unwrap_or o [])
some_unwrapped None h = absurd cc
some_unwrapped (Some x) h = refl

-- each page of the state is the one of the output
page_is : (files : Files) (cursors : Cursors) (given : Blocks) (read : HaveRead files cursors given) (state : State)
    → MakesOfLastPages cursors.size (map change_of read.read) state → (n : ℕ) → n < cursors.commit
    → slice_get state.pages n ≡ Some (output_page cursors.size given (suc n))
page_is files cursors given read state made n below =
    let changes = map change_of read.read in
    let within : suc n ≤ last_commit 0 changes = omega (arith, below, read.ends) in
    elim (cases_eq (suc n) (lock_page cursors.size)) [
      | inl lock ↦ made.lock (suc n) lock within
          ∙ ap (λ (page : List ℕ). Some page) (sym (page_lock cursors.size given (suc n) lock))
      | inr other ↦
          let same : slice_get state.pages n ≡ page_in given (suc n) =
          made.others (suc n) (omega arith) within other ∙ sym (read.pages (suc n)) in
          let there = there_at state.pages n (omega (arith, below, read.ends, made.count)) in
          same ∙ some_unwrapped (page_in given (suc n)) (subst (λ (o : Option (List ℕ)). IsSome o) same there)
          ∙ ap (λ (page : List ℕ). Some page) (sym (page_other cursors.size given (suc n) other))
    ]

-- the pages that were given make the state
pub state_of_read : (files : Files) (cursors : Cursors) (given : Blocks) → HaveRead files cursors given
    → AreStateOf files (plan_of cursors) cursors.commit (output_to cursors.size given cursors.commit)
state_of_read files cursors given read =
    let changes = map change_of read.read in
    let found = make_states cursors.size changes (sized_changes cursors.size read.read read.one_size) read.hold in
    let state = found.0 in
    let made = found.1 in
    let count : length state.pages ≡ cursors.commit = made.count ∙ read.ends in
    record {
      state = state;
      makes = record {
        read = read.read;
        are = record { are = read.are; size = cursors.size; one_size = read.one_size };
        makes = made.applies;
      };
      count = sym count;
      are =
          output_is cursors.size cursors.commit given state.pages (omega (arith, count))
          (page_is files cursors given read state made)
          ∙ ap concat (take_all cursors.commit state.pages (omega (arith, count)));
    }
