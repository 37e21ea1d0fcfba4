use Rattle.std.proofs.Common.{sym, ◌∙◌, arith}
use Rattle.live_gate.specs.LiveRecord.{is_at_rest}
use Rattle.replica_round.proofs.PassLemmas.{pass_fails, pass_keeps, kept_fits, passed_now}
use Rattle.replica_round.proofs.ResultLemmas.{err_of}
use Rattle.replica_round.proofs.passing.pass_when_long.Goals as goal

pub returns-in_err-pass-clause-told : goal.returns-in_err-pass-clause-told
returns-in_err-pass-clause-told g c =
    pass_fails c.args.follower.now c.in-Some.place (is_at_rest (g.L.Live.attached c.args.live.now))
    (sym c.place.ensures ∙ sym c.copied.ensures ∙ c.in-Some.is)
    (omega (arith, c.frames.ensures, c.if-frames-lt-LONG_LOG.false))
    (g.L.Live.told c.args.live.now) (g.L.Live.told c.pass.new.self) c.from_residual.result c.in_err-pass.field-0.0
    (err_of _ _ c.from_residual.ensures.1) c.in_err-pass.ensures.told

pub returns-in-Passed-clause-fits : goal.returns-in-Passed-clause-fits
returns-in-Passed-clause-fits g c =
    passed_now c.args.follower.now c.in-Some.place (is_at_rest (g.L.Live.attached c.args.live.now))
    (sym c.place.ensures ∙ sym c.copied.ensures ∙ c.in-Some.is)
    (omega (arith, c.frames.ensures, c.if-frames-lt-LONG_LOG.false))
    (g.L.Live.told c.args.live.now) (g.L.Live.told c.pass.new.self) c.requires.fits c.passed.new.self c.passed.ensures
    c.requires.pages c.requires.legal c.in_ok-pass.field-0 c.in-Passed.is c.in_ok-pass.ensures.told

pub returns-in-Kept-clause-told : goal.returns-in-Kept-clause-told
returns-in-Kept-clause-told g c =
    pass_keeps c.args.follower.now c.in-Some.place (is_at_rest (g.L.Live.attached c.args.live.now))
    (sym c.place.ensures ∙ sym c.copied.ensures ∙ c.in-Some.is)
    (omega (arith, c.frames.ensures, c.if-frames-lt-LONG_LOG.false))
    (g.L.Live.told c.args.live.now) (g.L.Live.told c.pass.new.self) c.in_ok-pass.field-0 c.in-Kept.is
    c.in_ok-pass.ensures.told

pub returns-in-Kept-clause-fits : goal.returns-in-Kept-clause-fits
returns-in-Kept-clause-fits g c =
    kept_fits c.args.follower.now c.in-Some.place (is_at_rest (g.L.Live.attached c.args.live.now))
    (sym c.place.ensures ∙ sym c.copied.ensures ∙ c.in-Some.is)
    (omega (arith, c.frames.ensures, c.if-frames-lt-LONG_LOG.false))
    (g.L.Live.told c.args.live.now) (g.L.Live.told c.pass.new.self) c.requires.fits c.in_ok-pass.field-0
    c.in-Kept.is c.in_ok-pass.ensures.told
