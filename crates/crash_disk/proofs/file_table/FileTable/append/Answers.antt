use Rattle.std.proofs.Common.{◌<◌, ◌+◌, ◌^◌, ◌++◌, length, refl, ap, ◌∙◌, arith, length-append}
use Rattle.std.specs.FinMap.{get}
use Rattle.crash_disk.specs.Files.{changed}
use Rattle.crash_disk.proofs.ResultLemmas.{on_err}
use Rattle.crash_disk.proofs.TableLemmas.{by_name-kept, by_name-writes, by_name-changes, by_name-absent, insert-IsShort}
use Rattle.crash_disk.proofs.file_table.FileTable.append.Goals as goal

pub returns-in_default-clause-ok : goal.returns-in_default-clause-ok
returns-in_default-clause-ok c =
    by_name-absent c.args.name.now c.self.inside.files c.get_mut.follows.lender-at-none
    (λ old. old ++ c.args.bytes.now) c.get_mut.result c.in_default.is c.get_mut.ensures.value
    c.get_mut.follows.holds-at-none
    ∙ ap (λ m. changed m c.args.name.now (get m c.args.name.now) (λ old. old ++ c.args.bytes.now)) c.self.view_is

pub invariant_of-self-then-not-fits : goal.invariant_of-self-then-not-fits
invariant_of-self-then-not-fits c =
    let w = c.in-Some.file.now in
    rw (by_name-kept c.args.name.now c.self.inside.files (c.get_mut.follows.lender w) w w c.in-Some.ensures.value refl
    (c.get_mut.follows.holds w)) c.self.invariant

pub returns-then-not-fits-clause-err : goal.returns-then-not-fits-clause-err
returns-then-not-fits-clause-err c =
    let w = c.in-Some.file.now in
    by_name-kept c.args.name.now c.self.inside.files (c.get_mut.follows.lender w) w w c.in-Some.ensures.value refl
    (c.get_mut.follows.holds w) ∙ c.self.view_is

pub invariant_of-self-in_err-extend : goal.invariant_of-self-in_err-extend
invariant_of-self-in_err-extend c =
    let w = c.extend.new.self in
    rw (by_name-kept c.args.name.now c.self.inside.files (c.get_mut.follows.lender w) c.in-Some.file.now w
    c.in-Some.ensures.value c.in_err-extend.ensures.err (c.get_mut.follows.holds w)) c.self.invariant

pub returns-in_err-extend-clause-err : goal.returns-in_err-extend-clause-err
returns-in_err-extend-clause-err c =
    let w = c.extend.new.self in
    on_err _ _ (by_name-kept c.args.name.now c.self.inside.files (c.get_mut.follows.lender w) c.in-Some.file.now w
    c.in-Some.ensures.value c.in_err-extend.ensures.err (c.get_mut.follows.holds w) ∙ c.self.view_is)

pub invariant_of-self-2 : goal.invariant_of-self-2
invariant_of-self-2 c =
    let w = c.extend.new.self in
    let old = c.in-Some.file.now in
    let fits : length c.as_slice.result.now + length c.args.bytes.now < 2 ^ 63 = c.fits.ensures.0 c.if-not-fits.false in
    let longer : length (old ++ c.args.bytes.now) < 2 ^ 63 = omega
    (arith, length-append old c.args.bytes.now, ap length c.as_slice.ensures, fits) in
    let short : length w < 2 ^ 63 = rw c.in_ok-extend.ensures.ok longer in
    rw (by_name-writes c.args.name.now c.self.inside.files (c.get_mut.follows.lender w) old w c.in-Some.ensures.value
    (c.get_mut.follows.holds w)) (insert-IsShort _ c.args.name.now w c.self.invariant short)

pub returns-clause-ok : goal.returns-clause-ok
returns-clause-ok c =
    by_name-changes c.args.name.now c.self.inside.files (c.get_mut.follows.lender c.extend.new.self)
    c.in-Some.file.now c.extend.new.self (λ old. old ++ c.args.bytes.now) c.in_ok-extend.ensures.ok
    c.in-Some.ensures.value (c.get_mut.follows.holds c.extend.new.self)
    ∙ ap (λ m. changed m c.args.name.now (get m c.args.name.now) (λ old. old ++ c.args.bytes.now)) c.self.view_is
