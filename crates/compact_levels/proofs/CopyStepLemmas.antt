-- One page more is copied, and all are.
use Rattle.std.proofs.Common.{◌≡◌, ◌≢◌, ℕ, ◌<◌, List, [], ◌∷◌, ◌++◌, Bool, cond, Option, Some, None, refl, sym, ap}
use Rattle.std.proofs.Common.{subst, ◌∙◌, inl, inr, arith}
use Rattle.std.specs.Prelude.{IsErrOf, Result}
use Rattle.std.specs.Ordering.{nat_cmp}
use Rattle.std.specs.Cmp.{nat_cmp_total, unsigned_tied}
use Rattle.std.specs.FinMap.{FinMap, get, insert, get-insert}
use Rattle.std.proofs.lemmas.Bool.{cases_eq, ne_eqb}
use Rattle.crash_disk.specs.declared.event.Event.{Event}
use Rattle.crash_disk.specs.Files.{Files, files_after}
use Rattle.crash_disk.specs.GoesOn.{GoesOn}
use Rattle.crash_disk.specs.Told.{Told, IfTold}
use Rattle.ls_base.proofs.ChangeLemmas.{get-insert_at}
use Rattle.ltx_format.specs.declared.header.LtxHeader.{LtxHeader}
use Rattle.ltx_format.specs.LtxFormat.{IsStored}
use Rattle.ltx_format.specs.Writing.{PageMap}
use Rattle.page_cursors.specs.declared.cursors.Cursors.{Cursors}
use Rattle.page_cursors.specs.declared.fault.CursorsFault.{CursorsFault}
use Rattle.page_cursors.specs.declared.fault.CursorsFault.TheVariants as found
use Rattle.page_cursors.specs.Blocks.{Blocks, page_in}
use Rattle.page_cursors.specs.Cursors.{HaveGiven, SamePlan, plan_of}
use Rattle.page_cursors.specs.Fault.{Blames}
use Rattle.page_cursors.specs.PlanFiles.{IsFirstDamaged, IsFirstMissing}
use Rattle.page_cursors.proofs.BlockLemmas.{page-push_other, page-push_new}
use Rattle.replica_store.specs.declared.error.Damage.{Damage}
use Rattle.replica_store.specs.declared.file_name.FileName.{FileName}
use Rattle.replica_store.specs.Putting.{IsPutting, KeepsOthers}
use Rattle.compact_levels.specs.declared.draft.Draft.{Draft}
use Rattle.compact_levels.specs.Drafting.{header_of, AreCopied, Gives, HaveCopied, HasCopied, IsCopying, IsCopyingSome}
use Rattle.compact_levels.specs.Drafting.{IsDrafting, IsOfDiskOrMemory, IsPathOf, IsSameFile, StopsCopying}
use Rattle.compact_levels.specs.declared.merge_fault.MergeFault.{MergeFault}
use Rattle.compact_levels.specs.declared.merge_fault.MergeFault.TheVariants.{Damaged, PageMissing, Store, Memory}
use Rattle.compact_levels.specs.MergeCause.{fault_of}
use Rattle.compact_levels.proofs.CopyLemmas.{HaveSameBytes, back, kept_bytes, given_elsewhere, copied_elsewhere}
use Rattle.compact_levels.proofs.CopyLemmas.{damaged_elsewhere, missing_elsewhere}
use Rattle.compact_levels.proofs.DraftLemmas.{keeps_others}

-- ---- the files now and as they were

module _ (path written : List ℕ) (begun now : Told) (named : IsPathOf path)
    (put : GoesOn begun now (IsPutting path written)) where
  record IsSince (events : List Event) : Type 0 where
    after : List Event
    told : now ≡ Some after
    same : HaveSameBytes (files_after events) (files_after after)

  since : (events : List Event) → begun ≡ Some events → IsSince events
  since events told =
      let found = put.told events told in
      record { after = found.0; told = found.1; same = kept_bytes path events found.0 named found.2.others }

  pub next_given : (old new : Cursors) (given more : Blocks) → IfTold begun
      (λ events. HaveGiven (files_after events) old given)
      → IfTold now (λ events. (given : Blocks) → HaveGiven (files_after events) old given
      → HaveGiven (files_after events) new (given ++ more))
      → IfTold begun (λ events. HaveGiven (files_after events) new (given ++ more))
  next_given old new given more has next events told =
      let is = since events told in
      given_elsewhere (files_after is.after) (files_after events) new (given ++ more)
      (back (files_after events) (files_after is.after) is.same)
      (next is.after is.told given (given_elsewhere (files_after events) (files_after is.after) old given is.same
      (has events told)))

  pub all_given : (old : Cursors) (min : ℕ) (plan : List FileName) (size : ℕ) (given : Blocks)
      → IfTold begun (λ events. HaveGiven (files_after events) old given)
      → IfTold now (λ events. (given : Blocks) → HaveGiven (files_after events) old given
      → HaveCopied min (files_after events) plan size given)
      → IfTold begun (λ events. HaveCopied min (files_after events) plan size given)
  all_given old min plan size given has ended events told =
      let is = since events told in
      copied_elsewhere (files_after is.after) (files_after events) min plan size given
      (back (files_after events) (files_after is.after) is.same)
      (ended is.after is.told given (given_elsewhere (files_after events) (files_after is.after) old given is.same
      (has events told)))

  -- what the cursors found
  abbrev Explains : Cursors → List FileName → CursorsFault → Type 0
  Explains old plan fault = IfTold now
      (λ events. (given : Blocks) → HaveGiven (files_after events) old given → Blames now plan fault)

  pub stopped : (old : Cursors) (min : ℕ) (plan : List FileName) (given : Blocks) (fault : CursorsFault)
      → IfTold begun (λ events. HaveGiven (files_after events) old given) → Explains old plan fault
      → ((name : FileName) (number : ℕ) → fault ≡ found.PageMissing name number → min ≡ 1)
      → GoesOn begun now (StopsCopying min plan path (fault_of fault))
  stopped old min plan given (found.Damaged name damage) has explains missing = record {
    told = λ events told.
        let all = put.told events told in
        let is = since events told in
        let blamed = explains is.after is.told given
        (given_elsewhere (files_after events) (files_after is.after) old given is.same (has events told)) is.after
        is.told in (
          all.0,
          all.1,
          (
            damaged_elsewhere (files_after is.after) (files_after events) plan name damage
                (back (files_after events) (files_after is.after) is.same) blamed,
            all.2.others,
          ),
          all.3,
        );
    silent = put.silent;
  }
  stopped old min plan given (found.PageMissing name number) has explains missing = record {
    told = λ events told.
        let all = put.told events told in
        let is = since events told in
        let blamed = explains is.after is.told given
        (given_elsewhere (files_after events) (files_after is.after) old given is.same (has events told)) is.after
        is.told in (
          all.0,
          all.1,
          (
            missing name number refl,
            missing_elsewhere (files_after is.after) (files_after events) plan name number
                (back (files_after events) (files_after is.after) is.same) blamed,
            all.2.others,
          ),
          all.3,
        );
    silent = put.silent;
  }
  stopped old min plan given (found.Store fault) has explains missing = keeps_others path written begun now put
  stopped old min plan given found.Memory has explains missing = keeps_others path written begun now put

-- ---- the pages

other_page : (m : PageMap) (k : ℕ) (v : List ℕ) (q : ℕ) → q ≢ k → get (insert m k v) q ≡ get m q
other_page m k v q other = get-insert nat_cmp_total m k v q ∙ ap (λ (b : Bool). cond b (Some v) (get m q))
    (unsigned_tied q k ∙ ne_eqb q k other)

module _ (h : LtxHeader) (given : Blocks) (pages : PageMap) (number : ℕ) (page : List ℕ)
    (fresh : page_in given number ≡ None)
    (copied : AreCopied h given pages) where
  pub copied_more : IsStored h number → AreCopied h (given ++ (number, page) ∷ []) (insert pages number page)
  copied_more here = record {
    stored = λ p is. elim (cases_eq p number) [
      | inl same ↦ subst (λ (q : ℕ). get (insert pages number page) q ≡ page_in (given ++ (number, page) ∷ []) q)
          (sym same)
          (get-insert_at pages number page ∙ sym (page-push_new given number page fresh))
      | inr other ↦ other_page pages number page p other ∙ copied.stored p is
          ∙ sym (page-push_other given number p page other)
    ];
    others = λ p not. other_page pages number page p (λ same. not (subst (IsStored h) (sym same) here))
        ∙ copied.others p not;
  }

  pub copied_none : (IsStored h number → ⊥) → AreCopied h (given ++ (number, page) ∷ []) pages
  copied_none away = record {
    stored = λ p is. copied.stored p is
        ∙ sym (page-push_other given number p page (λ same. away (subst (IsStored h) same is)));
    others = copied.others;
  }

low_more : (given : Blocks) (number old new : ℕ) (page : List ℕ) → ((p : ℕ) → old < p → page_in given p ≡ None)
    → old < number
    → new ≡ number → (p : ℕ) → new < p → page_in (given ++ (number, page) ∷ []) p ≡ None
low_more given number old new page low above same p past =
    page-push_other given number p page (λ is. omega (arith, is, same, past)) ∙ low p (omega (arith, above, same, past))

-- the page of this number was taken in
pub copies_page : (begun mid now : Told) (old new : Cursors) (draft longer : Draft) (number : ℕ)
    → (some : IsCopyingSome begun mid old draft) → old.last < number → new.last ≡ number → Gives mid old new number
    → IsStored (header_of draft) number → IsDrafting begun now longer (insert some.pages number new.page.items)
    → IsSameFile draft longer → IsCopyingSome begun now new longer
copies_page begun mid now old new draft longer number some above last gives stored drafting same = record {
  given = some.given ++ (number, new.page.items) ∷ [];
  pages = insert some.pages number new.page.items;
  is = record {
    named = subst IsPathOf (sym same.put) some.is.named;
    gives = next_given draft.put some.is.drafting.written begun mid some.is.named some.is.drafting.put old new
        some.given
        ((number, new.page.items) ∷ []) some.is.gives gives;
    low = low_more some.given number old.last new.last new.page.items some.is.low above last;
    drafting = drafting;
    copied = subst (λ (h : LtxHeader). AreCopied h (some.given ++ (number, new.page.items) ∷ [])
        (insert some.pages number new.page.items))
        (sym same.header)
        (copied_more (header_of draft) some.given some.pages number new.page.items (some.is.low number above)
        some.is.copied stored);
  };
}

-- the page of this number was passed over
pub passes_page : (begun now : Told) (old new : Cursors) (draft : Draft) (number : ℕ)
    → (some : IsCopyingSome begun now old draft) → old.last < number → new.last ≡ number → Gives now old new number
    → (IsStored (header_of draft) number → ⊥) → IsCopyingSome begun now new draft
passes_page begun now old new draft number some above last gives away = record {
  given = some.given ++ (number, new.page.items) ∷ [];
  pages = some.pages;
  is = record {
    named = some.is.named;
    gives = next_given draft.put some.is.drafting.written begun now some.is.named some.is.drafting.put old new
        some.given
        ((number, new.page.items) ∷ []) some.is.gives gives;
    low = low_more some.given number old.last new.last new.page.items some.is.low above last;
    drafting = some.is.drafting;
    copied = copied_none (header_of draft) some.given some.pages number new.page.items (some.is.low number above)
        some.is.copied away;
  };
}

-- all were
pub has_copied : (begun now : Told) (first old : Cursors) (draft : Draft) (min : ℕ)
    → (some : IsCopyingSome begun now old draft)
    → SamePlan first old
    → IfTold now (λ events. (given : Blocks) → HaveGiven (files_after events) old given
    → HaveCopied min (files_after events) (plan_of old) old.size given)
    → HasCopied begun now min (plan_of first) first.size draft
has_copied begun now first old draft min some same ended = record {
  given = some.given;
  pages = some.pages;
  drafting = some.is.drafting;
  copied = some.is.copied;
  read = all_given draft.put some.is.drafting.written begun now some.is.named some.is.drafting.put old min
      (plan_of first) first.size
      some.given some.is.gives
      (λ events told given has. subst (λ (n : ℕ). HaveCopied min (files_after events) (plan_of first) n given) same.size
      (subst (λ (names : List FileName). HaveCopied min (files_after events) names old.size given) same.plan
      (ended events told given has)));
}

-- a page could not be given to the file
pub stops_page : (begun now : Told) (min : ℕ) (plan : List FileName) (path : List ℕ) (fault : MergeFault)
    → IsOfDiskOrMemory fault
    → GoesOn begun now (KeepsOthers path) → GoesOn begun now (StopsCopying min plan path fault)
stops_page begun now min plan path (Damaged name damage) of kept = absurd of
stops_page begun now min plan path (PageMissing name number) of kept = absurd of
stops_page begun now min plan path (Store fault) of kept = kept
stops_page begun now min plan path Memory of kept = kept

-- the files could not be read on
pub stops_reading : (begun old now : Told) (first cursors : Cursors) (begin draft : Draft) (min : ℕ)
    (fault : CursorsFault)
    → IsCopyingSome begun old cursors draft → SamePlan first cursors → IsSameFile begin draft → now ≡ old
    → IfTold old (λ events. (given : Blocks) → HaveGiven (files_after events) cursors given
    → Blames old (plan_of cursors) fault)
    → ((name : FileName) (number : ℕ) → fault ≡ found.PageMissing name number → min ≡ 1)
    → GoesOn begun now (StopsCopying min (plan_of first) begin.put (fault_of fault))
stops_reading begun old now first cursors begin draft min fault some same file unchanged explains missing =
    let stops = stopped draft.put some.is.drafting.written begun old some.is.named some.is.drafting.put cursors min
    (plan_of cursors)
    some.given fault some.is.gives explains missing in
    subst (λ (t : Told). GoesOn begun t (StopsCopying min (plan_of first) begin.put (fault_of fault))) (sym unchanged)
    (subst (λ (names : List FileName). GoesOn begun old (StopsCopying min names begin.put (fault_of fault))) same.plan
    (subst (λ (p : List ℕ). GoesOn begun old (StopsCopying min (plan_of cursors) p (fault_of fault))) file.put stops))

-- the same at another record of the disk
pub still_some : (begun old now : Told) (cursors : Cursors) (draft : Draft) → now ≡ old
    → IsCopyingSome begun old cursors draft
    → IsCopyingSome begun now cursors draft
still_some begun old now cursors draft same some = subst (λ (t : Told). IsCopyingSome begun t cursors draft)
    (sym same) some

pub same_file_then : (a b c : Draft) → IsSameFile a b → IsSameFile b c → IsSameFile a c
same_file_then a b c first second = record { header = second.header ∙ first.header; put = second.put ∙ first.put }

pub same_plan_then : (a b c : Cursors) → SamePlan a b → SamePlan b c → SamePlan a c
same_plan_then a b c first second = record {
  plan = second.plan ∙ first.plan;
  size = second.size ∙ first.size;
  commit = second.commit ∙ first.commit;
}
