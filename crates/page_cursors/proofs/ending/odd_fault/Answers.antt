use Rattle.std.proofs.Common.{take, length, sym, ap, subst, ◌∙◌, arith}
use Rattle.std.specs.Prelude.{slice_index_or}
use Rattle.std.proofs.lemmas.Option.{slice_get-get_or}
use Rattle.ls_base.specs.PageSize.{IsPageSize}
use Rattle.page_cursors.specs.Ending.{FindsFault}
use Rattle.crash_disk.specs.Told.{Told}
use Rattle.crash_disk.specs.Files.{files_after}
use Rattle.page_cursors.proofs.OddLemmas.{odd_alone, odd_behind, page_fits, empty_list, some_list}
use Rattle.page_cursors.specs.Costs.{both, left_of_all, odd_left, nothing}
use Rattle.page_cursors.proofs.CostLemmas.{takes_by, takes_then}
use Rattle.page_cursors.proofs.ending.odd_fault.Goals as goal

pub returns-then-is_empty-clause-blames : goal.returns-then-is_empty-clause-blames
returns-then-is_empty-clause-blames g c = λ events told size plan begun covers events' told'.
    odd_alone (g.S.Disk.told c.args.store.now) events size plan c.args.cursors.now c.args.odd c.in-Ok.damage told
    (empty_list c.args.cursors.now c.is_empty.result c.is_empty.ensures c.if-is_empty.true) covers
    (c.in-Ok.ensures.damage events told size covers.2) events' told'

pub first_damage-requires : goal.first_damage-requires
first_damage-requires g c =
    let cursors = c.args.cursors.now in
    let low = some_list cursors c.is_empty.result c.is_empty.ensures c.if-is_empty.false in
    let first = slice_index_or cursors 0 c.index-cursors-0.result in
    let own = c.requires.one_size.1 0 first (slice_get-get_or cursors 0 c.index-cursors-0.result low) in
    let size = c.get.ensures.value ∙ ap (λ h. h.size) c.header.ensures.value ∙ own in
    let page = page_fits c.get.result c.odd_damage.new.page (subst IsPageSize
    (sym c.get.ensures.value) c.get.ensures.valid) (c.odd_damage.auto.page ∙ c.requires.room) in
    record { sized = λ k cursor is. c.requires.one_size.1 k cursor is ∙ sym size ∙ sym page }

pub returns-clause-blames : goal.returns-clause-blames
returns-clause-blames g c = λ events told size plan begun covers.
    let cursors = c.args.cursors.now in
    let low = some_list cursors c.is_empty.result c.is_empty.ensures c.if-is_empty.false in
    let first = slice_index_or cursors 0 c.index-cursors-0.result in
    let own = c.requires.one_size.1 0 first (slice_get-get_or cursors 0 c.index-cursors-0.result low) in
    let same = c.get.ensures.value ∙ ap (λ h. h.size) c.header.ensures.value ∙ own in
    let page = page_fits c.get.result c.odd_damage.new.page (subst IsPageSize
    (sym c.get.ensures.value) c.get.ensures.valid) (c.odd_damage.auto.page ∙ c.requires.room) in
    let n = length (take c.get.result c.odd_damage.new.page) in
    odd_behind (g.S.Disk.told c.args.store.now) events size n plan cursors c.args.odd c.in-Ok.damage
    c.first_damage.result (λ k cursor is. c.requires.one_size.1 k cursor is ∙ sym same ∙ sym page) low begun covers
    (c.in-Ok.ensures.damage events told size covers.2)
    (subst (λ (t : Told). FindsFault (files_after events) t n cursors c.args.odd.name c.in-Ok.damage
    c.first_damage.result) c.odd_damage.ensures.unchanged
    (c.first_damage.ensures.blames events (c.odd_damage.ensures.unchanged ∙ told)))

pub returns-in-Err-clause-spends : goal.returns-in-Err-clause-spends
returns-in-Err-clause-spends g c = λ events told counted odd.
    let files = files_after events in
    let all = both (left_of_all files c.args.cursors.now) (odd_left files c.args.odd.name c.args.odd.reader) in
    let s = c.args.steps.now in
    let t = c.odd_damage.new.steps in
    takes_by (odd_left files c.args.odd.name c.args.odd.reader) nothing all nothing s t s t _ _
    (c.odd_damage.ensures.spends events told odd) (omega arith) (omega arith)

pub returns-then-is_empty-clause-spends : goal.returns-then-is_empty-clause-spends
returns-then-is_empty-clause-spends g c = λ events told counted odd.
    let files = files_after events in
    let all = both (left_of_all files c.args.cursors.now) (odd_left files c.args.odd.name c.args.odd.reader) in
    let s = c.args.steps.now in
    let t = c.odd_damage.new.steps in
    takes_by (odd_left files c.args.odd.name c.args.odd.reader) nothing all nothing s t s t _ _
    (c.odd_damage.ensures.spends events told odd) (omega arith) (omega arith)

pub returns-clause-spends : goal.returns-clause-spends
returns-clause-spends g c = λ events told counted odd.
    let files = files_after events in
    let cursors = left_of_all files c.args.cursors.now in
    let rest = odd_left files c.args.odd.name c.args.odd.reader in
    let s = c.args.steps.now in
    let t = c.odd_damage.new.steps in
    let before = g.S.Disk.given c.args.store.now in
    let middle = g.S.Disk.given c.odd_damage.new.store in
    takes_then (both cursors rest) cursors nothing s t c.first_damage.new.steps before middle
    (g.S.Disk.given c.first_damage.new.store)
    (takes_by rest nothing (both cursors rest) cursors s t s t before middle
    (c.odd_damage.ensures.spends events told odd)
    (omega arith) (omega arith))
    (c.first_damage.ensures.spends events (c.odd_damage.ensures.unchanged ∙ told) counted)
