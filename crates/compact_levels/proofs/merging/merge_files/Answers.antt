use Rattle.std.proofs.Common.{ℕ, List, ap, subst, ◌∙◌}
use Rattle.std.specs.Prelude.{Err}
use Rattle.std.proofs.lemmas.Result.{on_ok_weaker}
use Rattle.crash_disk.specs.GoesOn.{GoesOn}
use Rattle.ltx_format.specs.declared.header.LtxHeader.{LtxHeader}
use Rattle.page_cursors.specs.declared.fault.CursorsFault.{CursorsFault}
use Rattle.page_cursors.specs.Cursors.{plan_of}
use Rattle.page_cursors.proofs.NextLemmas.{err_is}
use Rattle.replica_store.specs.Listing.{path_of}
use Rattle.replica_store.specs.Putting.{StillKeepsOthers}
use Rattle.compact_levels.specs.Drafting.{header_of, HasPutDraft, LeavesDraft, WithDraft}
use Rattle.compact_levels.specs.Merged.{LeavesPlan}
use Rattle.compact_levels.specs.MergeCause.{fault_of}
use Rattle.compact_levels.proofs.MergeFilesLemmas.{begins_copying, copied_named, given_up_copying, has_merged}
use Rattle.compact_levels.proofs.MergeFilesLemmas.{header_sized}
use Rattle.compact_levels.proofs.MergeFilesLemmas.{if_err_weaker, not_finished, not_opened, stops_named}
use Rattle.compact_levels.proofs.merging.merge_files.Goals as goal

pub returns-in_err-cursors-clause-err : goal.returns-in_err-cursors-clause-err
returns-in_err-cursors-clause-err g c =
    let fault = c.in_err-cursors.field-0.0 in
    err_is c.from_residual.result (fault_of fault) _ c.from_residual.ensures.1
    (not_opened (g.S.Disk.told c.args.store.now) (g.S.Disk.told c.begin.new.store) c.args.name.now.min c.args.plan.now
    (path_of c.args.name.now) fault c.begin.ensures.unchanged c.in_err-cursors.ensures.explained
    (λ name number is. c.in_err-cursors.ensures.no_missing name number (ap (λ (e : CursorsFault). Err e) is)))

pub copy_pages-requires-clause-sized : goal.copy_pages-requires-clause-sized
copy_pages-requires-clause-sized g c =
    header_sized c.in_ok-cursors.cursors c.args.name.now c.merged_header-header.result
    c.merged_header-header.ensures.merges
    c.in_ok-cursors.ensures.ready.shape.sized

pub returns-in-Err-clause-err : goal.returns-in-Err-clause-err
returns-in-Err-clause-err g c =
    let begun = g.S.Disk.told c.args.store.now in
    let opened = g.S.Disk.told c.begin.new.store in
    let drafted = g.S.Disk.told c.begin-2.new.store in
    let copied = g.S.Disk.told c.copy_pages.new.store in
    let now = g.S.Disk.told c.abandon.new.store in
    let cursors = c.in_ok-cursors.cursors in
    let draft = c.in_ok-draft.draft in
    let name = c.args.name.now in
    let path = path_of name in
    let begins = begins_copying begun opened drafted cursors draft name c.begin.ensures.unchanged
    c.in_ok-cursors.ensures.begun
    c.in_ok-draft.ensures.ok c.in_ok-draft.ensures.named in
    let min = ap (λ (k : LtxHeader). k.min) c.merged_header-header.ensures.merges.is in
    given_up_copying begun copied now name.min c.args.plan.now path c.in-Err.fault
    (stops_named begun copied c.merged_header-header.result.min name.min (plan_of cursors) c.args.plan.now draft.put
    path
    c.in-Err.fault min c.in_ok-cursors.ensures.plan c.in_ok-draft.ensures.named (c.in-Err.ensures.err begun begins))
    (subst (λ (p : List ℕ). StillKeepsOthers p copied now)
    (c.copy_pages.ensures.same.put ∙ c.in_ok-draft.ensures.named) c.abandon.ensures.kept)

pub returns-clause-ok : goal.returns-clause-ok
returns-clause-ok g c =
    let begun = g.S.Disk.told c.args.store.now in
    let opened = g.S.Disk.told c.begin.new.store in
    let drafted = g.S.Disk.told c.begin-2.new.store in
    let copied_at = g.S.Disk.told c.copy_pages.new.store in
    let now = g.S.Disk.told c.finish.new.store in
    let cursors = c.in_ok-cursors.cursors in
    let draft = c.in_ok-draft.draft in
    let whole = c.copy_pages.new.draft in
    let name = c.args.name.now in
    let h = c.merged_header-header.result in
    let merges = c.merged_header-header.ensures.merges in
    let begins = begins_copying begun opened drafted cursors draft name c.begin.ensures.unchanged
    c.in_ok-cursors.ensures.begun
    c.in_ok-draft.ensures.ok c.in_ok-draft.ensures.named in
    let copied = copied_named begun copied_at h.min name.min (plan_of cursors) c.args.plan.now cursors.size whole
    (ap (λ (k : LtxHeader). k.min) merges.is) c.in_ok-cursors.ensures.plan (c.in_default.ensures.ok begun begins) in
    on_ok_weaker c.finish.result
    (λ put. has_merged begun copied_at now c.args.plan.now name cursors h whole c.in_ok-cursors.ensures.begun
    c.in_ok-cursors.ensures.plan merges c.requires.spans
    (header_sized cursors name h merges c.in_ok-cursors.ensures.ready.shape.sized)
    (c.copy_pages.ensures.same.header ∙ c.in_ok-draft.ensures.header) copied (path_of name)
    (subst (λ (p : List ℕ). GoesOn begun now (HasPutDraft p (header_of whole) copied.pages))
    (c.copy_pages.ensures.same.put ∙ c.in_ok-draft.ensures.named) (put begun copied.pages copied.drafting)))
    c.finish.ensures.ok

pub returns-clause-err : goal.returns-clause-err
returns-clause-err g c =
    let begun = g.S.Disk.told c.args.store.now in
    let opened = g.S.Disk.told c.begin.new.store in
    let drafted = g.S.Disk.told c.begin-2.new.store in
    let copied_at = g.S.Disk.told c.copy_pages.new.store in
    let now = g.S.Disk.told c.finish.new.store in
    let cursors = c.in_ok-cursors.cursors in
    let draft = c.in_ok-draft.draft in
    let whole = c.copy_pages.new.draft in
    let name = c.args.name.now in
    let h = c.merged_header-header.result in
    let merges = c.merged_header-header.ensures.merges in
    let begins = begins_copying begun opened drafted cursors draft name c.begin.ensures.unchanged
    c.in_ok-cursors.ensures.begun
    c.in_ok-draft.ensures.ok c.in_ok-draft.ensures.named in
    let copied = copied_named begun copied_at h.min name.min (plan_of cursors) c.args.plan.now cursors.size whole
    (ap (λ (k : LtxHeader). k.min) merges.is) c.in_ok-cursors.ensures.plan (c.in_default.ensures.ok begun begins) in
    if_err_weaker c.finish.result
    (λ fault. WithDraft whole copied_at
    (λ begun pages. GoesOn begun now (LeavesDraft whole.put (header_of whole) pages fault)))
    (λ fault. GoesOn begun now (LeavesPlan name.min c.args.plan.now (path_of name) fault))
    (λ fault put. not_finished begun copied_at now c.args.plan.now name cursors h whole c.in_ok-cursors.ensures.begun
    c.in_ok-cursors.ensures.plan merges c.requires.spans
    (header_sized cursors name h merges c.in_ok-cursors.ensures.ready.shape.sized)
    (c.copy_pages.ensures.same.header ∙ c.in_ok-draft.ensures.header) copied (path_of name) fault
    (subst (λ (p : List ℕ). GoesOn begun now (LeavesDraft p (header_of whole) copied.pages fault))
    (c.copy_pages.ensures.same.put ∙ c.in_ok-draft.ensures.named) (put begun copied.pages copied.drafting)))
    c.finish.ensures.err
