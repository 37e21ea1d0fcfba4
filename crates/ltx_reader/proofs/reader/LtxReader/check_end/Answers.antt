use Rattle.std.proofs.Common.{◌≡◌, ◌+◌, ◌-◌, length, ℕ, ◌∙◌, sym, ap, subst}
use Rattle.ltx_format.specs.FirstFault.{tail_fault}
use Rattle.ltx_reader.specs.Reader.{Reader, bytes_named, IsSummed, AreBytes, next_block, block_offset}
use Rattle.ltx_reader.specs.ReaderGiven.{GivesAtMost, bytes_again}
use Rattle.ltx_reader.specs.ReaderSteps.{Passes}
use Rattle.ltx_reader.proofs.ReaderEndLemmas.{end_whole, end_part, passes_same}
use Rattle.ltx_reader.proofs.reader.LtxReader.check_end.Goals as goal

pub returns-then-not-has_all-clause-value : goal.returns-then-not-has_all-clause-value
returns-then-not-has_all-clause-value g c = λ events told has summed.
    let bytes = bytes_named events c.args.self.now.name in
    end_part bytes c.args.self.now.count (next_block c.args.self.now) (sym (c.has_all.ensures bytes has)
    ∙ c.if-not-has_all.true)

pub returns-clause-value : goal.returns-clause-value
returns-clause-value g c = λ events told has summed.
    let bytes = bytes_named events c.args.self.now.name in
    let offset : c.block_offset.result ≡ next_block c.args.self.now = c.block_offset.ensures.value
    ∙ ap (λ (r : Reader). block_offset c.args.self.now.header r.count) c.self.view_is in
    let value = subst (λ (k : ℕ). IsSummed bytes (k + 6) c.args.sum
    → Passes (λ _. AreBytes bytes) (tail_fault bytes c.args.self.now.count (k + 6)) c.check_tail.result) offset
    (c.check_tail.ensures.value events told has) in
    passes_same (λ _. AreBytes bytes) _ _ c.check_tail.result (sym (end_whole bytes c.args.self.now.count
    (next_block c.args.self.now) (sym (c.has_all.ensures bytes has) ∙ c.if-not-has_all.false))) (value summed)

pub returns-clause-gave : goal.returns-clause-gave
returns-clause-gave g c = λ events told has summed.
    let bytes = bytes_named events c.args.self.now.name in
    let offset : c.block_offset.result ≡ next_block c.args.self.now = c.block_offset.ensures.value
    ∙ ap (λ (r : Reader). block_offset c.args.self.now.header r.count) c.self.view_is in
    let gave = subst (λ (k : ℕ). IsSummed bytes (k + 6) c.args.sum
    → GivesAtMost (length bytes - (k + 6) + bytes_again c.args.self.now.header c.args.self.now.count)
    (g.D.Disk.given c.args.disk.now) (g.D.Disk.given c.check_tail.new.disk)) offset
    (c.check_tail.ensures.gave events told has) in
    gave summed
