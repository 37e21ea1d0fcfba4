use Rattle.crash_disk.specs.Files.{files_after}
use Rattle.page_cursors.proofs.FoundLemmas.{odd_ended}
use Rattle.std.proofs.Common.{Option, refl, sym, subst}
use Rattle.ltx_reader.specs.Reader.{Reader}
use Rattle.page_cursors.specs.Costs.{Takes, OddIsCounted, odd_left, nothing}
use Rattle.page_cursors.proofs.CostLemmas.{takes_none}
use Rattle.page_cursors.proofs.ending.odd_damage.Goals as goal

pub returns-in-Ok-clause-damage : goal.returns-in-Ok-clause-damage
returns-in-Ok-clause-damage g c = λ events told size is.
    odd_ended (files_after events) size c.args.odd c.in-Some.reader c.read_to_end.new.reader c.in-Some.is
    (c.in-Ok.ensures.ended events told c.args.odd.name) is

pub returns-in-Ok-clause-spends : goal.returns-in-Ok-clause-spends
returns-in-Ok-clause-spends g c = λ events told.
    let files = files_after events in
    let name = c.args.odd.name in
    subst (λ (o : Option Reader). OddIsCounted files name o → Takes (odd_left files name o) nothing c.args.steps.now
    c.read_to_end.new.steps (g.S.Disk.given c.args.store.now) (g.S.Disk.given c.read_to_end.new.store))
    (sym c.in-Some.is)
    (λ counted. c.read_to_end.ensures.spends events told name counted)

pub returns-in-Err-Fault-clause-spends : goal.returns-in-Err-Fault-clause-spends
returns-in-Err-Fault-clause-spends g c = λ events told.
    let files = files_after events in
    let name = c.args.odd.name in
    subst (λ (o : Option Reader). OddIsCounted files name o → Takes (odd_left files name o) nothing c.args.steps.now
    c.read_to_end.new.steps (g.S.Disk.given c.args.store.now) (g.S.Disk.given c.read_to_end.new.store))
    (sym c.in-Some.is)
    (λ counted. c.read_to_end.ensures.spends events told name counted)

pub returns-in-Err-Disk-clause-spends : goal.returns-in-Err-Disk-clause-spends
returns-in-Err-Disk-clause-spends g c = λ events told.
    let files = files_after events in
    let name = c.args.odd.name in
    subst (λ (o : Option Reader). OddIsCounted files name o → Takes (odd_left files name o) nothing c.args.steps.now
    c.read_to_end.new.steps (g.S.Disk.given c.args.store.now) (g.S.Disk.given c.read_to_end.new.store))
    (sym c.in-Some.is)
    (λ counted. c.read_to_end.ensures.spends events told name counted)

pub returns-in_default-clause-spends : goal.returns-in_default-clause-spends
returns-in_default-clause-spends g c = λ events told.
    let files = files_after events in
    let name = c.args.odd.name in
    subst (λ (o : Option Reader). OddIsCounted files name o → Takes (odd_left files name o) nothing c.args.steps.now
    c.args.steps.now (g.S.Disk.given c.args.store.now) (g.S.Disk.given c.args.store.now)) (sym c.in_default.is)
    (λ counted. takes_none nothing _ _ _ _ refl refl)
