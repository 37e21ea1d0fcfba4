use Rattle.std.proofs.Common.{◌≡◌, ◌+◌, ℕ, List, Option, refl, ap, ◌∙◌, arith}
use Rattle.crash_disk.specs.Files.{files_after}
use Rattle.ltx_reader.specs.Reader.{IsReaderOf, Gives}
use Rattle.replica_store.specs.Listing.{path_of}
use Rattle.page_cursors.proofs.ReaderLemmas.{at_path}
use Rattle.page_cursors.proofs.EndLemmas.{begins_on, came_to_end, goes_on_reading}
use Rattle.std.specs.Prelude.{Result}
use Rattle.ltx_reader.specs.declared.read_fault.ReadFault.{ReadFault}
use Rattle.ltx_reader.specs.Reader.{steps_of}
use Rattle.ltx_reader.specs.ReaderGiven.{GivesAtMost, bytes_left}
use Rattle.page_cursors.specs.Cursor.{bytes_of}
use Rattle.page_cursors.specs.Costs.{cost_left, nothing}
use Rattle.page_cursors.proofs.CostLemmas.{page_takes, spends, takes_none, takes_then}
use Rattle.page_cursors.proofs.CostListLemmas.{takes_all}
use Rattle.page_cursors.proofs.ReaderLemmas.{ok_next}
use Rattle.page_cursors.proofs.cursor.read_to_end.Goals as goal

pub loop-init : goal.loop-init
loop-init g c = record {
  on = λ events told name reads. begins_on _ c.args.reader.now reads.reads;
  costs = λ events told name counted. (counted, takes_none _ _ _ _ _ refl refl);
  name = refl;
  header = refl;
  sized = c.requires.sized;
  unchanged = refl;
  same_folder = refl;
  later = omega arith;
}

pub returns-then-is_none-clause-ended : goal.returns-then-is_none-clause-ended
returns-then-is_none-clause-ended g c = λ events told name.
    came_to_end (files_after events) name c.args.reader.now c.loop.reader c.next_page.new.self c.next_page.new.into
    c.in_ok-next_page.field-0 c.loop.counter c.is_none.result c.if-is_none.true c.is_none.ensures
    (c.next_page.ensures.same_file.name ∙ c.loop.invariant.name) (c.next_page.ensures.same_file.header
    ∙ c.loop.invariant.header) (c.loop.invariant.on events told name)
    (λ reads. at_path events c.loop.reader.name (path_of name) (λ (bytes : List ℕ). IsReaderOf bytes c.loop.reader
    → IsReaderOf bytes c.next_page.new.self) (c.loop.invariant.name ∙ reads.named)
    (c.next_page.ensures.keeps events (c.loop.invariant.unchanged ∙ told)))
    (λ reads. at_path events c.loop.reader.name (path_of name) (λ (bytes : List ℕ). IsReaderOf bytes c.loop.reader
    → Gives bytes c.loop.reader c.next_page.new.self c.next_page.new.into c.in_ok-next_page.field-0)
    (c.loop.invariant.name ∙ reads.named) (c.in_ok-next_page.ensures.page events (c.loop.invariant.unchanged ∙ told)))

pub loop-preserved : goal.loop-preserved
loop-preserved g c = record {
  on = λ events told name reads.
      goes_on_reading (files_after events) name c.args.reader.now c.loop.reader c.next_page.new.self
      c.next_page.new.into c.in_ok-next_page.field-0 c.loop.counter c.is_none.result c.if-is_none.false
      c.is_none.ensures
      reads (c.loop.invariant.on events told name)
      (at_path events c.loop.reader.name (path_of name) (λ (bytes : List ℕ). IsReaderOf bytes c.loop.reader
      → IsReaderOf bytes c.next_page.new.self) (c.loop.invariant.name ∙ reads.named)
      (c.next_page.ensures.keeps events (c.loop.invariant.unchanged ∙ told)))
      (at_path events c.loop.reader.name (path_of name) (λ (bytes : List ℕ). IsReaderOf bytes c.loop.reader
      → Gives bytes c.loop.reader c.next_page.new.self c.next_page.new.into c.in_ok-next_page.field-0)
      (c.loop.invariant.name ∙ reads.named) (c.in_ok-next_page.ensures.page events (c.loop.invariant.unchanged
      ∙ told)));
  costs = λ events told name counted.
      let old = c.args.reader.now in
      let mid = c.loop.reader in
      let new = c.next_page.new.self in
      let page = c.next_page.new.into in
      let given = c.in_ok-next_page.field-0 in
      let bytes = bytes_of (files_after events) name in
      let path = path_of name in
      let s = c.args.steps.now in
      let t = c.loop.steps in
      let u = c.next_page.new.steps in
      let before = g.S.Disk.given c.args.store.now in
      let middle = g.S.Disk.given c.loop.store in
      let after = g.S.Disk.given c.next_page.new.disk in
      let so_far = c.loop.invariant.costs events told name counted in
      let told_mid = c.loop.invariant.unchanged ∙ told in
      let reads = so_far.0.reads in
      let is_new = at_path events mid.name path (λ (bs : List ℕ). IsReaderOf bs mid → IsReaderOf bs new) reads.named
      (c.next_page.ensures.keeps events told_mid) reads.reads in
      let went = page_takes bytes mid new t u page middle after reads.reads is_new c.next_page.ensures.same_file given
      (at_path events mid.name path (λ (bs : List ℕ). IsReaderOf bs mid → Gives bs mid new page given) reads.named
      (c.in_ok-next_page.ensures.page events told_mid) reads.reads)
      (c.next_page.ensures.steps ∙ ap (λ (r : Result (Option ℕ) ReadFault). t + steps_of r) c.in_ok-next_page.was)
      (λ n e. c.next_page.ensures.counted n (c.in_ok-next_page.was ∙ ap ok_next e)) so_far.0.count
      (at_path events mid.name path (λ (bs : List ℕ). IsReaderOf bs mid → GivesAtMost (bytes_left bs mid) middle after)
      reads.named (c.next_page.ensures.gave events told_mid) reads.reads)
      (λ n e. c.next_page.ensures.gave_page n (c.in_ok-next_page.was ∙ ap ok_next e)) in
      let all = takes_then (cost_left bytes old) (cost_left bytes mid) (cost_left bytes new) s t u before middle after
      so_far.1 went.1 in (
        record {
          reads = record { named = c.next_page.ensures.same_file.name ∙ reads.named; reads = is_new };
          count = went.0;
        },
        all,
      );
  name = c.next_page.ensures.same_file.name ∙ c.loop.invariant.name;
  header = c.next_page.ensures.same_file.header ∙ c.loop.invariant.header;
  sized = c.next_page.auto.into ∙ c.loop.invariant.sized;
  unchanged = c.next_page.ensures.unchanged ∙ c.loop.invariant.unchanged;
  same_folder = c.next_page.ensures.same_folder ∙ c.loop.invariant.same_folder;
  later = omega (arith, c.next_page.ensures.cause.later, c.loop.invariant.later);
}

pub returns-then-is_none-clause-spends : goal.returns-then-is_none-clause-spends
returns-then-is_none-clause-spends g c = λ events told name counted.
    let old = c.args.reader.now in
    let mid = c.loop.reader in
    let new = c.next_page.new.self in
    let page = c.next_page.new.into in
    let given = c.in_ok-next_page.field-0 in
    let bytes = bytes_of (files_after events) name in
    let path = path_of name in
    let s = c.args.steps.now in
    let t = c.loop.steps in
    let u = c.next_page.new.steps in
    let before = g.S.Disk.given c.args.store.now in
    let middle = g.S.Disk.given c.loop.store in
    let after = g.S.Disk.given c.next_page.new.disk in
    let so_far = c.loop.invariant.costs events told name counted in
    let told_mid = c.loop.invariant.unchanged ∙ told in
    let reads = so_far.0.reads in
    let is_new = at_path events mid.name path (λ (bs : List ℕ). IsReaderOf bs mid → IsReaderOf bs new) reads.named
    (c.next_page.ensures.keeps events told_mid) reads.reads in
    let went = page_takes bytes mid new t u page middle after reads.reads is_new c.next_page.ensures.same_file given
    (at_path events mid.name path (λ (bs : List ℕ). IsReaderOf bs mid → Gives bs mid new page given) reads.named
    (c.in_ok-next_page.ensures.page events told_mid) reads.reads)
    (c.next_page.ensures.steps ∙ ap (λ (r : Result (Option ℕ) ReadFault). t + steps_of r) c.in_ok-next_page.was)
    (λ n e. c.next_page.ensures.counted n (c.in_ok-next_page.was ∙ ap ok_next e)) so_far.0.count
    (at_path events mid.name path (λ (bs : List ℕ). IsReaderOf bs mid → GivesAtMost (bytes_left bs mid) middle after)
    reads.named (c.next_page.ensures.gave events told_mid) reads.reads)
    (λ n e. c.next_page.ensures.gave_page n (c.in_ok-next_page.was ∙ ap ok_next e)) in
    let all = takes_then (cost_left bytes old) (cost_left bytes mid) (cost_left bytes new) s t u before middle after
    so_far.1 went.1 in
    takes_all (cost_left bytes old) (cost_left bytes new) s u before after all

pub returns-in_err-next_page-clause-spends : goal.returns-in_err-next_page-clause-spends
returns-in_err-next_page-clause-spends g c = λ events told name counted.
    let bytes = bytes_of (files_after events) name in
    let mid = c.loop.reader in
    let t = c.loop.steps in
    let u = c.next_page.new.steps in
    let middle = g.S.Disk.given c.loop.store in
    let after = g.S.Disk.given c.next_page.new.disk in
    let so_far = c.loop.invariant.costs events told name counted in
    let none : u ≡ t + 0 =
    c.next_page.ensures.steps ∙ ap (λ (r : Result (Option ℕ) ReadFault). t + steps_of r) c.in_err-next_page.was in
    takes_then (cost_left bytes c.args.reader.now) (cost_left bytes mid) nothing c.args.steps.now t u
    (g.S.Disk.given c.args.store.now) middle after so_far.1
    (spends bytes mid t u middle after so_far.0.reads.reads so_far.0.count (omega (arith, none))
    (at_path events mid.name (path_of name) (λ (bs : List ℕ). IsReaderOf bs mid
    → GivesAtMost (bytes_left bs mid) middle after) so_far.0.reads.named
    (c.next_page.ensures.gave events (c.loop.invariant.unchanged ∙ told)) so_far.0.reads.reads))

pub returns-clause-spends : goal.returns-clause-spends
returns-clause-spends g c = λ events told name counted.
    let so_far = c.loop.invariant.costs events told name counted in takes_all _ _ _ _ _ _ so_far.1
