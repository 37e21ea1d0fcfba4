use Rattle.std.proofs.Common.{◌+◌, [], ◌∷◌, refl}
use Rattle.page_cursors.proofs.NextLemmas.{err_is}
use Rattle.replica_upkeep.proofs.TurnsLemmas.{first_turned, none_turned, one_more_turned, stops_then}
use Rattle.replica_upkeep.proofs.maintaining.merge_levels.Goals as goal

pub returns-in_err-first-clause-err : goal.returns-in_err-first-clause-err
returns-in_err-first-clause-err g c =
    let a = g.S.Disk.told c.args.store.now in
    let b = g.S.Disk.told c.merge_level.new.store in
    let dated = c.args.dated.now.items in
    let stop = c.in_err-first.field-0.0 in
    let start = none_turned a c.args.now dated c.requires.files in
    err_is c.from_residual.result stop _ c.from_residual.ensures.1
    (stops_then [] c.args.now dated dated 0 1 a a b start (2 ∷ 3 ∷ 9 ∷ []) refl stop c.in_err-first.ensures.err)

pub returns-in_err-second-clause-err : goal.returns-in_err-second-clause-err
returns-in_err-second-clause-err g c =
    let a = g.S.Disk.told c.args.store.now in
    let b = g.S.Disk.told c.merge_level.new.store in
    let d = g.S.Disk.told c.merge_level-2.new.store in
    let dated = c.args.dated.now.items in
    let one = c.merge_level.new.dated.items in
    let stop = c.in_err-second.field-0.0 in
    let first = first_turned c.args.now dated one 1 c.in_ok-first.first a b c.requires.files c.in_ok-first.ensures.ok in
    err_is c.from_residual-in_err-second.result stop _ c.from_residual-in_err-second.ensures.1
    (stops_then (1 ∷ []) c.args.now dated one c.in_ok-first.first 2 a b d first (3 ∷ 9 ∷ []) refl stop
    c.in_err-second.ensures.err)

pub returns-in_err-third-clause-err : goal.returns-in_err-third-clause-err
returns-in_err-third-clause-err g c =
    let a = g.S.Disk.told c.args.store.now in
    let b = g.S.Disk.told c.merge_level.new.store in
    let d = g.S.Disk.told c.merge_level-2.new.store in
    let e = g.S.Disk.told c.merge_level-3.new.store in
    let dated = c.args.dated.now.items in
    let one = c.merge_level.new.dated.items in
    let two = c.merge_level-2.new.dated.items in
    let n = c.in_ok-first.first in
    let m = c.in_ok-second.second in
    let stop = c.in_err-third.field-0.0 in
    let first = first_turned c.args.now dated one 1 n a b c.requires.files c.in_ok-first.ensures.ok in
    let second = one_more_turned (1 ∷ []) c.args.now dated one n 2 a b d first two m c.in_ok-second.ensures.ok in
    err_is c.from_residual-in_err-third.result stop _ c.from_residual-in_err-third.ensures.1
    (stops_then (1 ∷ 2 ∷ []) c.args.now dated two (n + m) 3 a d e second (9 ∷ []) refl stop c.in_err-third.ensures.err)

pub returns-in_err-whole-clause-err : goal.returns-in_err-whole-clause-err
returns-in_err-whole-clause-err g c =
    let a = g.S.Disk.told c.args.store.now in
    let b = g.S.Disk.told c.merge_level.new.store in
    let d = g.S.Disk.told c.merge_level-2.new.store in
    let e = g.S.Disk.told c.merge_level-3.new.store in
    let f = g.S.Disk.told c.merge_level-4.new.store in
    let dated = c.args.dated.now.items in
    let one = c.merge_level.new.dated.items in
    let two = c.merge_level-2.new.dated.items in
    let three = c.merge_level-3.new.dated.items in
    let n = c.in_ok-first.first in
    let m = c.in_ok-second.second in
    let k = c.in_ok-third.third in
    let stop = c.in_err-whole.field-0.0 in
    let first = first_turned c.args.now dated one 1 n a b c.requires.files c.in_ok-first.ensures.ok in
    let second = one_more_turned (1 ∷ []) c.args.now dated one n 2 a b d first two m c.in_ok-second.ensures.ok in
    let third = one_more_turned (1 ∷ 2 ∷ []) c.args.now dated two (n + m) 3 a d e second three k
    c.in_ok-third.ensures.ok in
    err_is c.from_residual-in_err-whole.result stop _ c.from_residual-in_err-whole.ensures.1
    (stops_then (1 ∷ 2 ∷ 3 ∷ []) c.args.now dated three (n + m + k) 9 a e f third [] refl stop
    c.in_err-whole.ensures.err)

pub returns-clause-ok : goal.returns-clause-ok
returns-clause-ok g c =
    let a = g.S.Disk.told c.args.store.now in
    let b = g.S.Disk.told c.merge_level.new.store in
    let d = g.S.Disk.told c.merge_level-2.new.store in
    let e = g.S.Disk.told c.merge_level-3.new.store in
    let f = g.S.Disk.told c.merge_level-4.new.store in
    let dated = c.args.dated.now.items in
    let one = c.merge_level.new.dated.items in
    let two = c.merge_level-2.new.dated.items in
    let three = c.merge_level-3.new.dated.items in
    let four = c.merge_level-4.new.dated.items in
    let n = c.in_ok-first.first in
    let m = c.in_ok-second.second in
    let k = c.in_ok-third.third in
    let first = first_turned c.args.now dated one 1 n a b c.requires.files c.in_ok-first.ensures.ok in
    let second = one_more_turned (1 ∷ []) c.args.now dated one n 2 a b d first two m c.in_ok-second.ensures.ok in
    let third = one_more_turned (1 ∷ 2 ∷ []) c.args.now dated two (n + m) 3 a d e second three k
    c.in_ok-third.ensures.ok in
    one_more_turned (1 ∷ 2 ∷ 3 ∷ []) c.args.now dated three (n + m + k) 9 a e f third four c.in_ok-whole.whole
    c.in_ok-whole.ensures.ok
