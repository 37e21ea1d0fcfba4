-- The page of the next number: all cursors that wait with it, before and after.
use Rattle.std.proofs.Common.{◌≡◌, ℕ, zero, suc, ◌+◌, ◌-◌, ◌<◌, ◌≤◌, List, [], ◌∷◌, ◌++◌, length, get_or, Option}
use Rattle.std.proofs.Common.{Some, None, refl, sym, ap, subst, ◌∙◌, arith, inl, inr}
use Rattle.std.specs.Prelude.{slice_get, Result, Ok, Err, IfErr, IsErrAnd, IfSome}
use Rattle.std.specs.Option.{IfNone}
use Rattle.replica_store.specs.declared.file_name.FileName.{FileName}
use Rattle.page_cursors.specs.declared.fault.CursorsFault.{CursorsFault}
use Rattle.page_cursors.specs.Fault.{Blames}
use Rattle.std.proofs.lemmas.Bool.{cases_eq, cases_lt}
use Rattle.std.proofs.lemmas.Option.{slice_get_within, slice_get-get_or}
use Rattle.crash_disk.specs.Files.{Files}
use Rattle.page_cursors.specs.declared.cursor.Cursor.{Cursor}
use Rattle.page_cursors.specs.declared.cursors.Cursors.{Cursors}
use Rattle.page_cursors.specs.Blocks.{Blocks, page_in, last_in}
use Rattle.page_cursors.specs.Cursor.{WaitsNext}
use Rattle.crash_disk.specs.Files.{files_after}
use Rattle.crash_disk.specs.Told.{Told, IfTold}
use Rattle.page_cursors.specs.Cursors.{HaveGiven, HaveTaken, HaveShape, AreTaking, WaitsFrom, SamePlan, IsUntouched}
use Rattle.page_cursors.specs.Cursors.{HaveAllTaken, plan_of}
use Rattle.page_cursors.specs.Opening.{names_of}
use Rattle.page_cursors.specs.Queue.{Waits}
use Rattle.page_cursors.proofs.BlockLemmas.{page-past, page-push_other, page-push_new, last-none, last-at}
use Rattle.page_cursors.proofs.TakeLemmas.{given_more, some_commit, waits_from}

some_cursor : (cursors : List Cursor) (place : ℕ) → place < length cursors
    → (cursor : Cursor) × (slice_get cursors place ≡ Some cursor)
some_cursor [] place low = absurd (omega (arith, low))
some_cursor (c ∷ cursors) zero low = (c, refl)
some_cursor (c ∷ cursors) (suc place) low = some_cursor cursors place (omega (arith, low))

-- no page of a number above the last one was given
pub none_given : (files : Files) (cursors : Cursors) (given : Blocks) (number : ℕ) → HaveGiven files cursors given
    → cursors.last < number → page_in given number ≡ None
none_given files cursors given number has above =
    has.given_is number ∙ last-none has.fronts number (λ place front is.
    let low = slice_get_within has.fronts place front is in
    let cursor = some_cursor cursors.cursors.items place (omega (arith, low, has.count)) in
    let commit = some_commit cursors.cursors.items place (omega (arith, low, has.count)) in
    page-past front (cursors.last + 1) number (has.each place commit.0 cursor.0 front cursor.1 commit.1 is).low
    (omega (arith, above)))

-- before the first of them
pub enter : (files : Files) (cursors : Cursors) (given : Blocks) (number : ℕ) → HaveGiven files cursors given
    → cursors.last < number → HaveTaken files cursors number 0 given
enter files cursors given number has above = record {
  fronts = has.fronts;
  count = has.count;
  done = λ place before cursor front low at commit is. absurd (omega (arith, low));
  rest = λ place before cursor front low at commit is. given_more files cursors.size
      (cursors.last + 1) number before cursor front (omega (arith, above))
      (has.each place before cursor front at commit is);
  waits = λ place cursor next at is. waits_from cursor cursors.last next (has.waits place cursor next at is);
  given_is = λ p other. has.given_is p;
  not_yet = none_given files cursors given number has above;
  here = λ some front is. absurd (omega (arith, some));
  ends = has.ends;
}

waits_above : (cursor : Cursor) (numbers : List (Option ℕ)) (place number : ℕ) (next : Option ℕ)
    → slice_get numbers place ≡ Some next → ((k other : ℕ) → Waits numbers k other → number ≤ other)
    → ((k : ℕ) → Waits numbers k number → ⊥) → WaitsFrom cursor next → WaitsNext cursor number next
waits_above cursor numbers place number None is least none waits = waits
waits_above cursor numbers place number (Some n) is least none waits =
    let at_least = least place n is in (
      waits,
      elim (cases_lt number n) [
        | inl above ↦ above
        | inr below ↦ let same : n ≡ number = omega (arith, at_least, below) in absurd (none place (subst (λ
            (m : ℕ). slice_get numbers place ≡ Some (Some m)) same is))
      ],
    )

pub front_at : (fronts : List Blocks) (place : ℕ) → place < length fronts
    → (front : Blocks) × (slice_get fronts place ≡ Some front)
front_at fronts place low = (get_or fronts place [], slice_get-get_or fronts place [] low)

from_within : (files : Files) (old : Cursors) (given : Blocks) (number from : ℕ)
    (taken : HaveTaken files old number from given) → 0 < from → from ≤ length old.cursors.items
    → page_in (given ++ (number, old.page.items) ∷ []) number ≡ last_in taken.fronts number
from_within files old given number from taken some within =
    let front = front_at taken.fronts (from - 1) (omega (arith, some, within, taken.count)) in
    page-push_new given number old.page.items taken.not_yet
    ∙ sym (last-at taken.fronts (from - 1) front.0 number old.page.items front.1 (taken.here some front.0 front.1)
    (λ k f past found.
    let low = slice_get_within taken.fronts k f found in
    let cursor = some_cursor old.cursors.items k (omega (arith, low, taken.count)) in
    let commit = some_commit old.cursors.items k (omega (arith, low, taken.count)) in
    page-past f number number (taken.rest k commit.0 cursor.0 f (omega
    (arith, past, some)) cursor.1 commit.1 found).low (omega arith)))

-- and after the last
pub leave : (files : Files) (old new : Cursors) (given : Blocks) (number from : ℕ)
    → HaveTaken files old number from given → AreTaking old number from → 0 < from
    → ((place : ℕ) → Waits old.waiting.numbers place number → ⊥) → new ≡ record old { last = number }
    → HaveGiven files new (given ++ (number, new.page.items) ∷ [])
leave files old new given number from taken taking some none is = subst (λ (c : Cursors). HaveGiven files c (given ++
    (number, c.page.items) ∷ [])) (sym is) (record {
      fronts = taken.fronts;
      count = taken.count;
      each = λ place before cursor front at commit found. elim (cases_lt place from) [
        | inl less ↦ taken.done place before cursor front less at commit found
        | inr more ↦ given_more files old.size number (number + 1) before cursor front (omega arith)
            (taken.rest place before cursor front more at commit found)
      ];
      waits = λ place cursor next at found. waits_above cursor old.waiting.numbers place number next found taking.least
          none (taken.waits place cursor next at found);
      given_is = λ p. elim (cases_eq p number) [
        | inl here ↦ subst (λ (n : ℕ). page_in (given ++ (number, old.page.items) ∷ []) n ≡ last_in taken.fronts n)
            (sym here) (from_within files old given number from taken some taking.within)
        | inr other ↦ page-push_other given number p old.page.items other ∙ taken.given_is p other
      ];
      ends = taken.ends;
    })

-- ---- the cursors that wait with the number, one after another

-- so many pages of the number were taken
pub record IsTakingAll (told : Told) (first now : Cursors) (number turns : ℕ) : Type 0 where
  pub from : ℕ
  pub turned : turns ≤ from
  pub taking : AreTaking now number from
  pub takes : IfTold told (λ events. (given : Blocks) → HaveTaken (files_after events) first number 0 given
      → HaveTaken (files_after events) now number from given)
  pub same : SamePlan first now
  pub begun : turns ≡ 0 → now ≡ first

untouched_shape : (old new : Cursors) → IsUntouched old new → HaveShape old → HaveShape new
untouched_shape old new same shape = subst HaveShape (sym same.is) (record {
  count = ap length same.numbers ∙ shape.count;
  sized = shape.sized;
  page = shape.page;
})

untouched_taking : (old new : Cursors) (number from : ℕ) → IsUntouched old new → AreTaking old number from
    → AreTaking new number from
untouched_taking old new number from same taking = subst (λ (c : Cursors). AreTaking c number from) (sym same.is)
    (record {
      shape = record {
        count = ap length same.numbers ∙ taking.shape.count;
        sized = taking.shape.sized;
        page =
            taking.shape.page;
      };
      least = λ place other waits. taking.least place other (ap (λ (ns : List (Option ℕ)). slice_get ns place)
          (sym same.numbers) ∙ waits);
      later = λ place waits. taking.later place (ap (λ (ns : List (Option ℕ)). slice_get ns place) (sym same.numbers)
          ∙ waits);
      within = taking.within;
    })

pub untouched_taken : (files : Files) (old new : Cursors) (number from : ℕ) (given : Blocks) → IsUntouched old new
    → HaveTaken files old number from given → HaveTaken files new number from given
untouched_taken files old new number from given same taken = subst (λ
    (c : Cursors). HaveTaken files c number from given) (sym same.is) (record {
      fronts = taken.fronts;
      count = taken.count;
      done = taken.done;
      rest = taken.rest;
      waits = λ place cursor next at is. taken.waits place cursor next at (ap (λ (ns : List
          (Option ℕ)). slice_get ns place) (sym same.numbers) ∙ is);
      given_is = taken.given_is;
      not_yet = taken.not_yet;
      here = taken.here;
      ends = taken.ends;
    })

pub begins_taking : (told : Told) (first : Cursors) (number : ℕ) → AreTaking first number 0
    → IsTakingAll told first first number 0
begins_taking told first number taking = record {
  from = 0;
  turned = omega arith;
  taking = taking;
  takes = λ events is given taken. taken;
  same = record { plan = refl; size = refl; commit = refl };
  begun = λ none. refl;
}

pub takes_on : (told : Told) (first old new : Cursors) (number turns place : ℕ)
    → (so_far : IsTakingAll told first old number turns)
    → ((from : ℕ) → AreTaking old number from → (from ≤ place) ×
    (place < length old.cursors.items) × AreTaking new number (place + 1))
    → IfTold told (λ events. (from : ℕ) (given : Blocks) → AreTaking old number from
    → HaveTaken (files_after events) old number from given
    → HaveTaken (files_after events) new number (place + 1) given)
    → SamePlan old new → IsTakingAll told first new number (turns + 1)
takes_on told first old new number turns place so_far taking takes same =
    let next = taking so_far.from so_far.taking in
    record {
      from = place + 1;
      turned = omega (arith, so_far.turned, next.0);
      taking = next.2;
      takes = λ events is given taken. takes events is so_far.from given so_far.taking
          (so_far.takes events is given taken);
      same = record {
        plan = same.plan ∙ so_far.same.plan;
        size = same.size ∙ so_far.same.size;
        commit = same.commit
            ∙ so_far.same.commit;
      };
      begun = λ none. absurd (omega (arith, none));
    }

pub all_taken : (told : Told) (first old new : Cursors) (number turns place : ℕ)
    → IsTakingAll told first old number turns → Waits first.waiting.numbers place number → IsUntouched old new
    → ((k : ℕ) → Waits old.waiting.numbers k number → ⊥) → HaveAllTaken told first new number
all_taken told first old new number turns place so_far waits same none = record {
  from = so_far.from;
  some = elim (cases_lt 0 turns) [
    | inl some ↦ omega (arith, some, so_far.turned)
    | inr zero_turns ↦ absurd (none place (subst (λ (c : Cursors). Waits c.waiting.numbers place number) (sym
        (so_far.begun (omega (arith, zero_turns)))) waits))
  ];
  taking = untouched_taking old new number so_far.from same so_far.taking;
  none = λ k at. none k (ap (λ (ns : List (Option ℕ)). slice_get ns k) (sym same.numbers) ∙ at);
  takes = λ events is given taken. untouched_taken (files_after events) old new number so_far.from given same
      (so_far.takes events is given taken);
}

pub each_taken : (told : Told) (first now : Cursors) (number turns place : ℕ)
    → IsTakingAll told first now number turns → Waits first.waiting.numbers place number
    → length now.cursors.items ≤ turns
    → HaveAllTaken told first now number
each_taken told first now number turns place so_far waits all =
    all_taken told first now now number turns place so_far waits (record { is = refl; numbers = refl }) (λ k at.
    let low = slice_get_within now.waiting.numbers k (Some number) at in
    let past = so_far.taking.later k at in
    absurd (omega (arith, low, past, so_far.turned, all, so_far.taking.shape.count)))

-- ---- answers

pub err_is : {T E : Type 0} (r : Result T E) (e : E) (P : E → Type 0) → IsErrAnd r (λ x. x ≡ e) → P e → IfErr r P
err_is (Ok x) e P is holds = tt
err_is (Err x) e P is holds = subst P (sym is) holds

pub from_none : {T : Type 0} (o : Option T) (P : Type 0) → IfNone o P → o ≡ None → P
from_none None P holds is = holds
from_none (Some x) P holds is = absurd cc

pub from_some : {T : Type 0} (o : Option T) (P : T → Type 0) (x : T) → IfSome o P → o ≡ Some x → P x
from_some None P x holds is = absurd cc
from_some (Some y) P x holds is = let same : y ≡ x = cc in subst P same holds

length-names : (cursors : List Cursor) → length (names_of cursors) ≡ length cursors
length-names [] = refl
length-names (c ∷ cursors) = let rest = length-names cursors in omega (arith, rest)

pub same_length : (old new : Cursors) → SamePlan old new → length new.cursors.items ≡ length old.cursors.items
same_length old new same = sym (length-names new.cursors.items) ∙ ap length same.plan ∙ length-names old.cursors.items

pub blames_same : (told now : Told) (old new : Cursors) (fault : CursorsFault) → now ≡ told
    → plan_of new ≡ plan_of old → Blames now (plan_of new) fault → Blames told (plan_of old) fault
blames_same told now old new fault is plan blames = subst (λ (t : Told). Blames t (plan_of old) fault) is (subst (λ
    (names : List FileName). Blames now names fault) plan blames)
