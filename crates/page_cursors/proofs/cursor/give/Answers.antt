use Rattle.std.proofs.Common.{◌≡◌, ◌+◌, ℕ, List, Option, refl, ap, subst, ◌∙◌, arith}
use Rattle.std.specs.Prelude.{Result}
use Rattle.crash_disk.specs.Files.{files_after}
use Rattle.ltx_reader.specs.declared.read_fault.ReadFault.{ReadFault}
use Rattle.ltx_reader.specs.Reader.{IsReaderOf, Gives, Announces, Waits, Stops}
use Rattle.replica_store.specs.Listing.{path_of}
use Rattle.page_cursors.proofs.ReaderLemmas.{at_path, ok_next, from_ok, fault_told}
use Rattle.page_cursors.proofs.GiveLemmas.{if_ok, if_err, gives_page}
use Rattle.ltx_reader.specs.Reader.{RepeatsNumber, steps_of}
use Rattle.ltx_reader.specs.ReaderGiven.{GivesAtMost, bytes_left}
use Rattle.page_cursors.specs.Cursor.{bytes_of}
use Rattle.page_cursors.specs.Costs.{CountsPages, Takes, cost_left, nothing, IsCounted}
use Rattle.page_cursors.proofs.CostLemmas.{page_takes, number_takes, spends, takes_then}
use Rattle.page_cursors.proofs.CostListLemmas.{err_each}
use Rattle.page_cursors.proofs.cursor.give.Goals as goal

pub returns-clause-gives : goal.returns-clause-gives
returns-clause-gives g c = if_ok c.number.result _ (λ next is events told.
    let cursor = c.args.cursor.now in
    let old = cursor.reader in
    let mid = c.next_page.new.self in
    let new = c.number.new.self in
    let page = c.next_page.new.into in
    let given = c.in_ok-next_page.field-0 in
    let path = path_of cursor.name in
    let told_mid = c.next_page.ensures.unchanged ∙ told in
    gives_page (files_after events) c.args.number cursor
    (record { name = cursor.name; reader = new; wanted = c.take.new.self }) mid page given next (record {
      turns = λ reads. record {
        gives = at_path events old.name path (λ (bytes : List ℕ). IsReaderOf bytes old
            → Gives bytes old mid page given) reads.named (c.in_ok-next_page.ensures.page events told);
        keeps = at_path events old.name path (λ (bytes : List ℕ). IsReaderOf bytes old
            → IsReaderOf bytes mid) reads.named (c.next_page.ensures.keeps events told);
        moved = λ n e. c.next_page.ensures.moved n (c.in_ok-next_page.was ∙ ap ok_next e);
        announces = at_path events mid.name path (λ (bytes : List ℕ). IsReaderOf bytes mid
            → Announces bytes mid new next) (c.next_page.ensures.same_file.name ∙ reads.named)
            (from_ok c.number.result _ next c.number.ensures.number is events told_mid);
        keeps_too = at_path events mid.name path (λ (bytes : List ℕ). IsReaderOf bytes mid
            → IsReaderOf bytes new) (c.next_page.ensures.same_file.name ∙ reads.named)
            (c.number.ensures.keeps events told_mid);
        waits = λ n e. subst (λ (r : Result (Option ℕ) ReadFault). Waits new.progress r) (is
            ∙ ap ok_next e) c.number.ensures.waits;
        stays = λ n e. c.number.ensures.stays.last;
      };
      same_file = record {
        name = refl;
        path = c.number.ensures.same_file.name
            ∙ c.next_page.ensures.same_file.name;
        header = c.number.ensures.same_file.header
            ∙ c.next_page.ensures.same_file.header;
      };
      takes = c.take.ensures;
    }))

pub returns-clause-fault : goal.returns-clause-fault
returns-clause-fault g c = if_err c.number.result _ (λ e is events told reads.
    let cursor = c.args.cursor.now in
    let old = cursor.reader in
    let mid = c.next_page.new.self in
    let new = c.number.new.self in
    let path = path_of cursor.name in
    let told_mid = c.next_page.ensures.unchanged ∙ told in
    let at_mid = at_path events old.name path (λ (bytes : List ℕ). IsReaderOf bytes old
    → IsReaderOf bytes mid) reads.named (c.next_page.ensures.keeps events told) reads.reads in
    let at_new = at_path events mid.name path (λ (bytes : List ℕ). IsReaderOf bytes mid
    → IsReaderOf bytes new) (c.next_page.ensures.same_file.name ∙ reads.named)
    (c.number.ensures.keeps events told_mid) at_mid in
    fault_told _ new e at_new (subst (λ (r : Result
    (Option ℕ) ReadFault). Stops new.progress r) is c.number.ensures.stops))

pub returns-clause-takes : goal.returns-clause-takes
returns-clause-takes g c = if_ok c.number.result _ (λ next is events told counted.
    let cursor = c.args.cursor.now in
    let old = cursor.reader in
    let mid = c.next_page.new.self in
    let new = c.number.new.self in
    let page = c.next_page.new.into in
    let given = c.in_ok-next_page.field-0 in
    let path = path_of cursor.name in
    let bytes = bytes_of (files_after events) cursor.name in
    let before = g.S.Disk.given c.args.store.now in
    let middle = g.S.Disk.given c.next_page.new.disk in
    let after = g.S.Disk.given c.number.new.disk in
    let s = c.args.steps.now in
    let t = c.next_page.new.steps in
    let told_mid = c.next_page.ensures.unchanged ∙ told in
    let named = counted.reads.named in
    let mid_named = c.next_page.ensures.same_file.name ∙ named in
    let is_mid = at_path events old.name path (λ (bs : List ℕ). IsReaderOf bs old → IsReaderOf bs mid) named
    (c.next_page.ensures.keeps events told) counted.reads.reads in
    let is_new = at_path events mid.name path (λ (bs : List ℕ). IsReaderOf bs mid → IsReaderOf bs new) mid_named
    (c.number.ensures.keeps events told_mid) is_mid in
    let first = page_takes bytes old mid s t page before middle counted.reads.reads is_mid c.next_page.ensures.same_file
    given (at_path events old.name path (λ (bs : List ℕ). IsReaderOf bs old → Gives bs old mid page given) named
    (c.in_ok-next_page.ensures.page events told) counted.reads.reads)
    (c.next_page.ensures.steps ∙ ap (λ (r : Result (Option ℕ) ReadFault). s + steps_of r) c.in_ok-next_page.was)
    (λ n e. c.next_page.ensures.counted n (c.in_ok-next_page.was ∙ ap ok_next e)) counted.count
    (at_path events old.name path (λ (bs : List ℕ). IsReaderOf bs old → GivesAtMost (bytes_left bs old) before middle)
    named (c.next_page.ensures.gave events told) counted.reads.reads)
    (λ n e. c.next_page.ensures.gave_page n (c.in_ok-next_page.was ∙ ap ok_next e)) in
    let gave = at_path events mid.name path (λ (bs : List ℕ). IsReaderOf bs mid
    → GivesAtMost (bytes_left bs mid) middle after) mid_named (c.number.ensures.gave events told_mid) is_mid in
    let second = number_takes bytes mid new t middle after is_mid is_new c.number.ensures.same_file
    c.number.ensures.stays next
    (at_path events mid.name path (λ (bs : List ℕ). IsReaderOf bs mid → Announces bs mid new next) mid_named
    (from_ok c.number.result _ next c.number.ensures.number is events told_mid) is_mid)
    (subst (λ (r : Result (Option ℕ) ReadFault). Waits new.progress r) is c.number.ensures.waits)
    (subst (λ (r : Result (Option ℕ) ReadFault). RepeatsNumber mid.progress r) is c.number.ensures.again)
    c.number.ensures.unmoved first.0 gave (λ n e. c.number.ensures.gave_number n (is ∙ ap ok_next e)) in (
      record {
        reads = record { named = c.number.ensures.same_file.name ∙ mid_named; reads = is_new };
        count = second.0;
      },
      takes_then (cost_left bytes old) (cost_left bytes mid) (cost_left bytes new) s t t before middle after first.1
          second.1,
    ))

pub returns-clause-spends : goal.returns-clause-spends
returns-clause-spends g c = if_err c.number.result _ (λ e is events told counted.
    let cursor = c.args.cursor.now in
    let old = cursor.reader in
    let mid = c.next_page.new.self in
    let new = c.number.new.self in
    let page = c.next_page.new.into in
    let given = c.in_ok-next_page.field-0 in
    let path = path_of cursor.name in
    let bytes = bytes_of (files_after events) cursor.name in
    let before = g.S.Disk.given c.args.store.now in
    let middle = g.S.Disk.given c.next_page.new.disk in
    let after = g.S.Disk.given c.number.new.disk in
    let s = c.args.steps.now in
    let t = c.next_page.new.steps in
    let told_mid = c.next_page.ensures.unchanged ∙ told in
    let named = counted.reads.named in
    let mid_named = c.next_page.ensures.same_file.name ∙ named in
    let is_mid = at_path events old.name path (λ (bs : List ℕ). IsReaderOf bs old → IsReaderOf bs mid) named
    (c.next_page.ensures.keeps events told) counted.reads.reads in
    let is_new = at_path events mid.name path (λ (bs : List ℕ). IsReaderOf bs mid → IsReaderOf bs new) mid_named
    (c.number.ensures.keeps events told_mid) is_mid in
    let first = page_takes bytes old mid s t page before middle counted.reads.reads is_mid c.next_page.ensures.same_file
    given (at_path events old.name path (λ (bs : List ℕ). IsReaderOf bs old → Gives bs old mid page given) named
    (c.in_ok-next_page.ensures.page events told) counted.reads.reads)
    (c.next_page.ensures.steps ∙ ap (λ (r : Result (Option ℕ) ReadFault). s + steps_of r) c.in_ok-next_page.was)
    (λ n e. c.next_page.ensures.counted n (c.in_ok-next_page.was ∙ ap ok_next e)) counted.count
    (at_path events old.name path (λ (bs : List ℕ). IsReaderOf bs old → GivesAtMost (bytes_left bs old) before middle)
    named (c.next_page.ensures.gave events told) counted.reads.reads)
    (λ n e. c.next_page.ensures.gave_page n (c.in_ok-next_page.was ∙ ap ok_next e)) in
    let gave = at_path events mid.name path (λ (bs : List ℕ). IsReaderOf bs mid
    → GivesAtMost (bytes_left bs mid) middle after) mid_named (c.number.ensures.gave events told_mid) is_mid in
    takes_then (cost_left bytes old) (cost_left bytes mid) nothing s t t before middle after first.1
    (spends bytes mid t t middle after is_mid first.0 refl gave))

pub returns-in_err-next_page-clause-spends : goal.returns-in_err-next_page-clause-spends
returns-in_err-next_page-clause-spends g c = err_each c.from_residual.result _ (λ events told counted.
    let cursor = c.args.cursor.now in
    let old = cursor.reader in
    let path = path_of cursor.name in
    let s = c.args.steps.now in
    let t = c.next_page.new.steps in
    let before = g.S.Disk.given c.args.store.now in
    let middle = g.S.Disk.given c.next_page.new.disk in
    let none : t ≡ s + 0 =
    c.next_page.ensures.steps ∙ ap (λ (r : Result (Option ℕ) ReadFault). s + steps_of r) c.in_err-next_page.was in
    spends (bytes_of (files_after events) cursor.name) old s t before middle counted.reads.reads counted.count
    (omega (arith, none))
    (at_path events old.name path (λ (bs : List ℕ). IsReaderOf bs old → GivesAtMost (bytes_left bs old) before middle)
    counted.reads.named (c.next_page.ensures.gave events told) counted.reads.reads))
