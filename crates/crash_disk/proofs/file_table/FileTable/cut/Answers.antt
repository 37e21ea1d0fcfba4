use Rattle.std.proofs.Common.{◌<◌, ◌^◌, length, refl, ap, ◌∙◌}
use Rattle.std.specs.FinMap.{get}
use Rattle.crash_disk.specs.Files.{changed, with_length}
use Rattle.crash_disk.proofs.ResultLemmas.{on_err}
use Rattle.crash_disk.proofs.TableLemmas.{by_name-kept, by_name-writes, by_name-changes, by_name-absent, insert-IsShort}
use Rattle.crash_disk.proofs.InPlaceLemmas.{short-with_length}
use Rattle.crash_disk.proofs.file_table.FileTable.cut.Goals as goal

pub returns-in_default-clause-ok : goal.returns-in_default-clause-ok
returns-in_default-clause-ok c =
    by_name-absent c.args.name.now c.self.inside.files c.get_mut.follows.lender-at-none (with_length c.args.size)
    c.get_mut.result c.in_default.is c.get_mut.ensures.value c.get_mut.follows.holds-at-none
    ∙ ap (λ m. changed m c.args.name.now (get m c.args.name.now) (with_length c.args.size)) c.self.view_is

pub invariant_of-self-in_err-set_length : goal.invariant_of-self-in_err-set_length
invariant_of-self-in_err-set_length c =
    let w = c.set_length.new.file in
    rw (by_name-kept c.args.name.now c.self.inside.files (c.get_mut.follows.lender w) c.in-Some.file.now w
    c.in-Some.ensures.value c.in_err-set_length.ensures.err (c.get_mut.follows.holds w)) c.self.invariant

pub returns-in_err-set_length-clause-err : goal.returns-in_err-set_length-clause-err
returns-in_err-set_length-clause-err c =
    let w = c.set_length.new.file in
    on_err _ _ (by_name-kept c.args.name.now c.self.inside.files (c.get_mut.follows.lender w) c.in-Some.file.now w
    c.in-Some.ensures.value c.in_err-set_length.ensures.err (c.get_mut.follows.holds w) ∙ c.self.view_is)

pub invariant_of-self-2 : goal.invariant_of-self-2
invariant_of-self-2 c =
    let w = c.set_length.new.file in
    let old = c.in-Some.file.now in
    let short : length w < 2 ^ 63 = rw c.in_ok-set_length.ensures.ok
    (short-with_length c.args.size old c.in_ok-set_length.ensures.short) in
    rw (by_name-writes c.args.name.now c.self.inside.files (c.get_mut.follows.lender w) old w c.in-Some.ensures.value
    (c.get_mut.follows.holds w)) (insert-IsShort _ c.args.name.now w c.self.invariant short)

pub returns-clause-ok : goal.returns-clause-ok
returns-clause-ok c =
    by_name-changes c.args.name.now c.self.inside.files (c.get_mut.follows.lender c.set_length.new.file)
    c.in-Some.file.now c.set_length.new.file (with_length c.args.size) c.in_ok-set_length.ensures.ok
    c.in-Some.ensures.value (c.get_mut.follows.holds c.set_length.new.file)
    ∙ ap (λ m. changed m c.args.name.now (get m c.args.name.now) (with_length c.args.size)) c.self.view_is
