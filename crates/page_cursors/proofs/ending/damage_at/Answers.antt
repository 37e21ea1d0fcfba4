use Rattle.std.proofs.Common.{◌≡◌, Some, length, subst}
use Rattle.std.specs.Prelude.{slice_get, slice_index_or}
use Rattle.crash_disk.specs.Files.{files_after}
use Rattle.std.proofs.lemmas.Option.{slice_get-get_or}
use Rattle.page_cursors.specs.declared.cursor.Cursor.{Cursor}
use Rattle.ltx_format.specs.FirstFault.{first_fault}
use Rattle.page_cursors.specs.Cursor.{bytes_of}
use Rattle.page_cursors.proofs.DamageLemmas.{same_cursor, found_behind}
use Rattle.page_cursors.proofs.ending.damage_at.Goals as goal

pub returns-clause-blames : goal.returns-clause-blames
returns-clause-blames g c = λ events told cursor at are damaged.
    let cursors = c.args.cursors.now in
    let place = c.args.place in
    let named = slice_index_or cursors place c.index-cursors-place.result in
    let same = same_cursor (slice_get cursors place) cursor named at
    (slice_get-get_or cursors place c.index-cursors-place.result c.requires.within) in
    found_behind (files_after events) (g.S.Disk.told c.args.store.now)
    (length c.args.page.now) cursors place named c.args.fault c.first_damage.result
    (slice_get-get_or cursors place c.index-cursors-place.result c.requires.within) are (subst (λ
    (x : Cursor). first_fault (bytes_of (files_after events) x.name) ≡ Some c.args.fault) same damaged)
    (c.first_damage.ensures.blames events told)
