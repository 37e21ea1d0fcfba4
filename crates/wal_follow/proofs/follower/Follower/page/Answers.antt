use Rattle.std.proofs.Common.{◌∙◌, Ok, Err, refl, sym, ap, subst, arith}
use Rattle.wal_follow.specs.declared.following.Following.{Following}
use Rattle.wal_follow.specs.Calls.{target_of}
use Rattle.wal_follow.proofs.PageLemmas.{size_limit, gives_page, gives_fault}
use Rattle.wal_follow.proofs.GoesOnLemmas.{goes_from}
use Rattle.wal_follow.specs.Following.{Fits}
use Rattle.wal_follow.specs.Calls.{GivesWanted}
use Rattle.wal_follow.specs.PageFaults.{page_fault}
use Rattle.snapshot_read.proofs.TellLemmas.{err_of}
use Rattle.wal_follow.proofs.follower.Follower.page.Goals as goal

pub page_at-requires-clause-offsets : goal.page_at-requires-clause-offsets
page_at-requires-clause-offsets g c = λ number at is.
    let size = size_limit c.args.found.now.size (c.self.invariant.sized (target_of c.args.found.now) (ap (λ
    (f : Following). f.found) c.self.view_is ∙ c.requires.found)) in
    omega (arith, c.newest-map.ensures.within number at is, size)

pub returns-clause-told : goal.returns-clause-told
returns-clause-told g c =
    let target = target_of c.args.found.now in
    let f = c.self.inside.following in
    goes_from _ _ _ _ c.in_ok-page_at.ensures.told (λ r after told reads.
    subst (λ (k : Following). GivesWanted k target c.args.number (Ok tt) c.page_at.new.into r after) c.self.view_is
    (gives_page f target c.args.number c.newest-map.result.now.offsets c.page_at.new.into _ r after
    c.newest-map.ensures.at c.requires.from c.requires.upto reads
    (subst (λ (k : Following). Fits k r.database) (sym c.self.view_is) (c.requires.fits r told))
    (ap (λ (k : Following). k.found) c.self.view_is ∙ c.requires.found) refl))

pub returns-in_err-page_at-clause-told : goal.returns-in_err-page_at-clause-told
returns-in_err-page_at-clause-told g c =
    let target = target_of c.args.found.now in
    let f = c.self.inside.following in
    goes_from _ _ _ _ c.in_err-page_at.ensures.told (λ r after told reads.
    subst (λ result. GivesWanted c.args.self.now target c.args.number result c.page_at.new.into r after) (sym
    (err_of _ _ c.from_residual.ensures.1))
    (subst (λ (k : Following). GivesWanted k target c.args.number (Err
    (page_fault c.in_err-page_at.field-0.0)) c.page_at.new.into r after) c.self.view_is
    (gives_fault f target c.args.number c.newest-map.result.now.offsets c.page_at.new.into _ r after
    c.newest-map.ensures.at c.requires.from c.requires.upto reads
    (subst (λ (k : Following). Fits k r.database) (sym c.self.view_is) (c.requires.fits r told))
    (ap (λ (k : Following). k.found) c.self.view_is ∙ c.requires.found)
    (λ missing is. let byte = c.in_err-page_at.ensures.short missing is in (byte.at, byte.found))
    c.in_err-page_at.field-0.0 refl)))
