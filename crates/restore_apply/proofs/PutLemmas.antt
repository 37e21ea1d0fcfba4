-- What was put into an output while the cursors give one page after another.
use Rattle.std.proofs.Common.{◌≡◌, ◌≢◌, ℕ, zero, suc, ◌+◌, ◌<◌, ◌≤◌, Bool, true, false, inl, inr, List, [], ◌∷◌, ◌++◌}
use Rattle.std.proofs.Common.{Option, Some, None, refl, sym, ap, subst, ◌∙◌, append_assoc, arith}
use Rattle.std.proofs.Math.Dec.{leb, eqb}
use Rattle.std.specs.Prelude.{◌&&◌, not, if◌then◌else◌, unwrap_or}
use Rattle.std.proofs.lemmas.Bool.{cases_eq, ne_eqb, eq-eqb, leb-true, le-leb}
use Rattle.std.proofs.lemmas.List.{append-nil}
use Rattle.crash_disk.specs.Files.{files_after}
use Rattle.crash_disk.specs.Told.{Told, IfTold}
use Rattle.ls_base.specs.PageSize.{lock_page}
use Rattle.page_cursors.specs.declared.cursors.Cursors.{Cursors}
use Rattle.page_cursors.specs.Blocks.{Blocks, page_in}
use Rattle.page_cursors.specs.Cursors.{HaveGiven, HaveRead, SamePlan, plan_of}
use Rattle.page_cursors.proofs.BlockLemmas.{page-push_other, page-push_new}
use Rattle.replica_store.specs.declared.file_name.FileName.{FileName}
use Rattle.restore_apply.specs.Pages.{output_to, output_page, lock_between, is_put, bytes_put, last_put}
use Rattle.restore_apply.specs.Restoring.{AreStateOf}
use Rattle.restore_apply.proofs.PagesLemmas.{output-same, output-gap, page_other, state_of_read}

-- The cursors gave pages up to a number, and those that stand in the output were put up to this one.
pub record ArePut (told : Told) (first now : Cursors) (last : ℕ) (put : List ℕ) : Type 0 where
  pub given : Blocks
  pub are : put ≡ output_to first.size given last
  pub low : last ≤ now.last
  pub within : last ≤ first.commit
  pub none : (p : ℕ) → last < p → p ≤ first.commit → p ≢ lock_page first.size → page_in given p ≡ None
  pub past : (p : ℕ) → now.last < p → page_in given p ≡ None
  pub goes : IfTold told (λ events. HaveGiven (files_after events) now given)
  pub same : SamePlan first now

pub put_start : (told : Told) (first : Cursors) → IfTold told (λ events. HaveGiven (files_after events) first [])
    → ArePut told first first 0 []
put_start told first given = record {
  given = [];
  are = refl;
  low = omega arith;
  within = omega arith;
  none = λ p above high other. refl;
  past = λ p above. refl;
  goes = given;
  same = record { plan = refl; size = refl; commit = refl };
}

-- ---- whether a page is put

both : (a b : Bool) → true ≡ (a && b) → (a ≡ true) × (b ≡ true)
both true true e = (refl, refl)
both true false e = absurd cc
both false b e = absurd cc

not_equal : (a b : ℕ) → not (eqb a b) ≡ true → a ≢ b
not_equal a b e same = let yes : eqb a b ≡ true = eq-eqb a b same in cc

put_fits : (size commit number : ℕ) → true ≡ is_put size commit number
    → (number ≤ commit) × (number ≢ lock_page size)
put_fits size commit number e =
    let two = both (leb number commit) (not (eqb number (lock_page size))) e in
    (leb-true number commit two.0, not_equal number (lock_page size) two.1)

put_not : (size commit number : ℕ) → false ≡ is_put size commit number → number ≤ commit → number ≢ lock_page size
    → ⊥
put_not size commit number e low other =
    let first : leb number commit ≡ true = le-leb number commit low in
    let second : eqb number (lock_page size) ≡ false = ne_eqb number (lock_page size) other in
    cc

put_if : (a b : Bool) (xs ys : List ℕ) → true ≡ a → true ≡ b → (if a && b then xs else ys) ≡ xs
put_if true true xs ys first second = refl
put_if true false xs ys first second = absurd cc
put_if false b xs ys first second = absurd cc

-- what is put where the tests hold
pub puts_all : (size commit last number lock : ℕ) (page : List ℕ) → number ≤ commit → number ≢ lock
    → lock ≡ lock_page size → bytes_put size commit last number page ≡ lock_between size last number ++ page
puts_all size commit last number lock page low other is =
    put_if (leb number commit) (not (eqb number (lock_page size))) (lock_between size last number ++ page) []
    (sym (le-leb number commit low))
    (ap (λ (b : Bool). not b) (sym (ne_eqb number (lock_page size) (λ e. other (e ∙ sym is)))))

-- a number that isn't 0 stands behind another
split_one : (n : ℕ) → 0 < n → (m : ℕ) × (n ≡ suc m)
split_one zero some = absurd (omega (arith, some))
split_one (suc m) some = (m, refl)

-- ---- the next page

module _ (told : Told) (first now next : Cursors) (last number : ℕ) (put page : List ℕ)
    (before : ArePut told first now last put) (above : now.last < number) (there : next.last ≡ number)
    (gives : IfTold told (λ events. (given : Blocks) → HaveGiven (files_after events) now given
    → HaveGiven (files_after events) next (given ++ (number, page) ∷ [])))
    (same : SamePlan now next) where
  given_now : Blocks
  given_now = before.given ++ (number, page) ∷ []

  other_page : (p : ℕ) → p ≢ number → page_in given_now p ≡ page_in before.given p
  unfolding given_now
  other_page p other = page-push_other before.given number p page other

  this_page : page_in given_now number ≡ Some page
  unfolding given_now
  this_page = page-push_new before.given number page (before.past number above)

  same_plan : SamePlan first next
  same_plan = record {
    plan = same.plan ∙ before.same.plan;
    size = same.size ∙ before.same.size;
    commit = same.commit ∙ before.same.commit;
  }

  goes_now : IfTold told (λ events. HaveGiven (files_after events) next given_now)
  unfolding given_now
  goes_now events is = gives events is before.given (before.goes events is)

  past_now : (p : ℕ) → next.last < p → page_in given_now p ≡ None
  past_now p high = other_page p (λ e. omega (arith, e, high, there))
      ∙ before.past p (omega (arith, high, there, above))

  -- it is put, behind the lock page where that comes first
  put_more : number ≤ first.commit → number ≢ lock_page first.size
      → put ++ (lock_between first.size last number ++ page) ≡ output_to first.size given_now number
  put_more low other =
      let size = first.size in
      let from = before.low in
      let split = split_one number (omega (arith, above)) in
      let m = split.0 in
      let is = split.1 in
      let under : last ≤ m = omega (arith, from, above, is) in
      let kept : output_to size given_now m ≡ output_to size before.given m =
      output-same size m before.given given_now (λ p below. other_page p (λ e. omega (arith, e, below, is))) in
      let gap = output-gap size last m before.given under
      (λ p more below apart. before.none p more (omega (arith, below, is, low)) apart) in
      let here : output_page size given_now number ≡ page =
      page_other size given_now number other ∙ ap (λ (o : Option (List ℕ)). unwrap_or o []) this_page in
      ap (λ (front : List ℕ). front ++ (lock_between size last number ++ page)) before.are
      ∙ sym (append_assoc (output_to size before.given last) (lock_between size last number) page)
      ∙ ap (λ (n : ℕ). (output_to size before.given last ++ lock_between size last n) ++ page) is
      ∙ ap (λ (front : List ℕ). front ++ page) (sym gap) ∙ ap (λ (front : List ℕ). front ++ page) (sym kept)
      ∙ ap (λ (more : List ℕ). output_to size given_now m ++ more) (sym here)
      ∙ ap (λ (n : ℕ). output_to size given_now m ++ output_page size given_now n) is
      ∙ ap (output_to size given_now) (sym is)

  put_where : (b : Bool) → b ≡ is_put first.size first.commit number → ArePut told first next
      (if b then number else last) (put ++ (if b then lock_between first.size last number ++ page else []))
  put_where true is =
      let fits = put_fits first.size first.commit number is in
      record {
        given = given_now;
        are = put_more fits.0 fits.1;
        low = omega (arith, there);
        within = fits.0;
        none = λ p more high other. past_now p (omega (arith, more, there));
        past = past_now;
        goes = goes_now;
        same = same_plan;
      }
  put_where false is = record {
    given = given_now;
    are =
        append-nil put ∙ before.are
        ∙ sym (output-same first.size last before.given given_now
        (λ p low. other_page p (λ e. omega (arith, e, low, before.low, above))));
    low = omega (arith, before.low, above, there);
    within = before.within;
    none = λ p more high other. other_page p (λ e. put_not first.size first.commit number is (omega (arith, e, high))
        (λ lock. other (e ∙ lock))) ∙ before.none p more high other;
    past = past_now;
    goes = goes_now;
    same = same_plan;
  }

  pub put_next : ArePut told first next (last_put first.size first.commit last number)
      (put ++ bytes_put first.size first.commit last number page)
  put_next = put_where (is_put first.size first.commit number) refl

  -- the same where the sizes are told by the cursors as they are now
  pub put_goes_on : (last_now : ℕ) → last_now ≡ last_put next.size next.commit last next.last
      → ArePut told first next last_now (put ++ bytes_put next.size next.commit last next.last page)
  put_goes_on last_now is =
      let plan = same_plan in
      subst (λ (k : ℕ). ArePut told first next k (put ++ bytes_put next.size next.commit last next.last page)) (sym is)
      (subst (λ (s : ℕ). ArePut told first next (last_put s next.commit last next.last)
      (put ++ bytes_put s next.commit last next.last page)) (sym plan.size)
      (subst (λ (c : ℕ). ArePut told first next (last_put first.size c last next.last)
      (put ++ bytes_put first.size c last next.last page)) (sym plan.commit)
      (subst (λ (n : ℕ). ArePut told first next (last_put first.size first.commit last n)
      (put ++ bytes_put first.size first.commit last n page)) (sym there) put_next)))

-- ---- behind the last page

pub put_end : (told : Told) (first now : Cursors) (last : ℕ) (put : List ℕ) → ArePut told first now last put
    → IfTold told (λ events. (given : Blocks) → HaveGiven (files_after events) now given
    → HaveRead (files_after events) now given)
    → IfTold told (λ events. AreStateOf (files_after events) (plan_of first) first.commit
    (put ++ lock_between first.size last (first.commit + 1)))
put_end told first now last put before ended events is =
    let files = files_after events in
    let given = before.given in
    let size = first.size in
    let made = state_of_read files now given (ended events is given (before.goes events is)) in
    let gap = output-gap size last first.commit given before.within
    (λ p more low other. before.none p more low other) in
    let one_more : first.commit + 1 ≡ suc first.commit = omega arith in
    let bytes : output_to size given first.commit ≡ put ++ lock_between size last (first.commit + 1) =
    gap ∙ ap (λ (n : ℕ). output_to size given last ++ lock_between size last n) (sym one_more)
    ∙ ap (λ (front : List ℕ). front ++ lock_between size last (first.commit + 1)) (sym before.are) in
    subst (λ (b : List ℕ). AreStateOf files (plan_of first) first.commit b) bytes
    (subst (λ (n : ℕ). AreStateOf files (plan_of first) first.commit (output_to n given first.commit)) before.same.size
    (subst (λ (n : ℕ). AreStateOf files (plan_of first) n (output_to now.size given n)) before.same.commit
    (subst (λ (p : List FileName). AreStateOf files p now.commit (output_to now.size given now.commit)) before.same.plan
    made)))
