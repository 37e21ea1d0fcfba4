use Rattle.std.proofs.Common.{ℕ, ◌≤◌, ◌++◌, List, length, None, false, sym, ap, subst, ◌∙◌}
use Rattle.sim_writer.specs.CommitFrames.{SaysSize}
use Rattle.sim_writer.specs.Sound.{IsFileEntry, fresh}
use Rattle.sim_writer.proofs.FreshLemmas.{first_long, first_says}
use Rattle.sim_writer.proofs.sim_live.SimLive.new.Goals as goal

pub fresh-requires : goal.fresh-requires
fresh-requires c =
    let size = c.args.size in
    let file = c.in_ok-file.file in
    let same = sym c.new-head.ensures.fields.is_size in
    let bytes = c.as_slice.ensures in
    let entry = c.in_ok-entry.ensures in
    let says = first_says size c.args.first.now entry.page_size c.requires.first in
    record {
      fresh = record {
        sums = c.new-head.ensures.sums;
        is = subst (λ (n : ℕ). IsFileEntry n file c.in_ok-entry.entry) same
            (subst (λ (b : List ℕ). IsFileEntry size b c.in_ok-entry.entry) bytes entry);
        long = subst (λ (b : List ℕ). 512 ≤ length b) (sym c.in_ok-file.ensures)
            (first_long size c.args.first.now entry.page_size c.requires.first);
        says = subst (λ (n : ℕ). SaysSize n file) same (subst (λ (b : List ℕ). SaysSize size b) (sym
            c.in_ok-file.ensures) says);
      };
    }

pub returns : goal.returns
returns c =
    let called = c.in_ok-extend.ensures.ok ∙ ap (λ (b : List ℕ). b ++ c.as_bytes.result.now) c.new-called.ensures
    ∙ c.as_bytes.ensures.value in
    let machine = c.in_ok-machine.ensures.is
    ∙ ap (λ (b : List ℕ). fresh c.new-head.result b c.in_ok-entry.entry) c.in_ok-file.ensures in
    record {
      begins = record {
        legal = c.in_ok-machine.ensures.sound.legal;
        head = c.new-head.result;
        fields = c.new-head.ensures.fields;
        entry = c.in_ok-entry.entry;
        is = λ i. record {
          name = called i;
          machine = machine i;
          asked = c.new.ensures i;
          attached = None;
          fails = false;
          faults = 0;
          skipped = 0;
          starved = 0;
        };
      };
    }
