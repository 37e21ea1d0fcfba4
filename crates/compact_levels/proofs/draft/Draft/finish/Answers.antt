use Rattle.std.proofs.Common.{ℕ, List, ◌++◌, sym, ap, subst, ◌∙◌}
use Rattle.replica_store.specs.Putting.{AfterPutting, HasPut}
use Rattle.compact_levels.specs.Drafting.{header_of}
use Rattle.compact_levels.proofs.DraftLemmas.{has_put_draft}
use Rattle.compact_levels.proofs.draft.Draft.finish.Goals as goal

pub returns-clause-ok : goal.returns-clause-ok
returns-clause-ok g c = λ begun pages is.
    let path = c.args.self.put in
    let mid = g.S.Disk.told c.put_end.new.store in
    let now = g.S.Disk.told c.finish.new.store in
    let all = is.all ∙ ap (λ (bs : List ℕ). is.written ++ bs) (sym c.deref.ensures.value) in
    let ended = c.in_default.ensures.ok begun pages is.written is.has is.put all in
    let put = subst (λ (p : List ℕ). AfterPutting p mid now (HasPut p)) c.put_end.ensures.same
    c.in_ok-finish.ensures.ok in
    has_put_draft path (header_of c.args.self) pages begun now ended.0 ended.1 (put begun ended.0 ended.2)
