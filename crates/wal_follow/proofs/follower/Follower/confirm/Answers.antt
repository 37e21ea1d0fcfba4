use Rattle.std.proofs.Common.{rules, ℕ, refl, sym, subst}
use Rattle.live_gate.proofs.StepLemmas.{step_itself}
use Rattle.snapshot_read.proofs.TellLemmas.{err_of}
use Rattle.wal_follow.specs.Calls.{target_of, Confirms}
use Rattle.wal_follow.proofs.GoesOnLemmas.{goes_from, goes_both}
use Rattle.wal_follow.proofs.ConfirmLemmas.{confirms_fault, confirms_unread, confirms_rest, confirms_read, IsAnswerFor}
use Rattle.wal_follow.proofs.ConfirmLemmas.{salts_answered, same_passes}
use Rattle.wal_follow.proofs.follower.Follower.confirm.Goals as goal

pub returns-in_err-aim-in-Wal-clause-told : goal.returns-in_err-aim-in-Wal-clause-told
returns-in_err-aim-in-Wal-clause-told g c =
    goes_from _ _ _ _ c.in_err-aim-in-Wal.ensures.told (λ r after told aims.
    subst (λ result. Confirms c.args.self.now (target_of c.args.found.now) result r after) (sym
    (err_of _ _ c.from_residual.ensures.1))
    (confirms_fault c.args.self.now (target_of c.args.found.now) r after aims.call.step
    (c.requires.fits r told) (same_passes r.asked after.asked aims.err) c.in_err-aim-in-Wal.field-0.0))

pub returns-in_err-count-in-Wal-clause-told : goal.returns-in_err-count-in-Wal-clause-told
returns-in_err-count-in-Wal-clause-told g c =
    goes_both _ _ _ _ _ _ c.in_ok-aim-in-Wal.ensures.told c.in_err-count-in-Wal.ensures.told
    (λ r mid after told aims fills.
    subst (λ result. Confirms c.args.self.now (target_of c.args.found.now) result r after) (sym
    (err_of _ _ c.from_residual-in_err-count-in-Wal.ensures.1))
    (confirms_unread c.args.self.now (target_of c.args.found.now) c.fill.new.into c.in_err-count-in-Wal.field-0.0
    r mid after aims fills (c.requires.fits r told)))

pub returns-in-Rest-clause-told : goal.returns-in-Rest-clause-told
returns-in-Rest-clause-told g c = record {
  told = λ r is. (
    r,
    is,
    confirms_rest c.args.self.now (target_of c.args.found.now) r r (step_itself r.database)
        (c.requires.fits r is) (same_passes r.asked r.asked refl) c.in-Rest.sum c.in-Rest.is,
  );
  silent = λ is. is;
}

pub returns-in_ok-count-in-Wal-clause-told : goal.returns-in_ok-count-in-Wal-clause-told
returns-in_ok-count-in-Wal-clause-told g c =
    let was : ℕ × ℕ = (c.in-Wal.salt1, c.in-Wal.salt2) in
    goes_both _ _ _ _ _ _ c.in_ok-aim-in-Wal.ensures.told c.in_ok-count-in-Wal.ensures.told
    (λ r mid after told aims fills.
    confirms_read c.args.self.now (target_of c.args.found.now) c.fill.new.into c.in_ok-count-in-Wal.count
    c.in-Wal.salt1 c.in-Wal.salt2 c.in-Wal.end c.in-Wal.s0 c.in-Wal.s1 c.check_salts.result c.salts-now.result
    r mid after aims fills
    (search rules) (c.requires.fits r told) c.requires.found c.in-Wal.is c.salts-now.ensures
    (subst (λ result. IsAnswerFor was c.salts-now.result result) (sym c.check_salts.ensures)
    (salts_answered was c.salts-now.result)))
