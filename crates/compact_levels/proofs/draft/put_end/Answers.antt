use Rattle.std.proofs.Common.{List, ℕ, sym, subst}
use Rattle.ltx_format.specs.Writing.{EndsFile, HasIndexed}
use Rattle.replica_store.specs.Putting.{PutsMore}
use Rattle.compact_levels.proofs.DraftLemmas.{ends_draft}
use Rattle.compact_levels.proofs.draft.put_end.Goals as goal

pub returns-clause-ok : goal.returns-clause-ok
returns-clause-ok g c =
    let writer = c.args.writer in
    let path = c.args.put.now in
    let tail = c.as_slice.result.now in
    let mid = g.S.Disk.told c.append.new.store in
    let now = g.S.Disk.told c.append-2.new.store in
    ends_draft path c.args.piece.now tail writer (g.S.Disk.told c.args.store.now) mid now
    (subst (λ (bs : List ℕ). EndsFile (HasIndexed writer) writer.written.header bs) (sym c.as_slice.ensures)
    c.in_ok-tail.ensures.file)
    c.in_ok-append.ensures.ok
    (subst (λ (p : List ℕ). PutsMore p tail mid now) c.append.ensures.same_name c.in_ok-append-2.ensures.ok)
