use Rattle.std.proofs.Common.{sym, refl, ◌∙◌, true, false}
use Rattle.crash_disk.specs.Crash.{synced_number_at}
use Rattle.crash_disk.specs.declared.event.Event.TheVariants.{Placed, NamesSynced}
use Rattle.crash_disk.proofs.ReplayLemmas.{newest_last, none_last, no_events, synced-Placed, synced-kept}
use Rattle.crash_disk.proofs.replay.+synced_number_at.Goals as goal

pub returns-in_err-newest : goal.returns-in_err-newest
unfolding synced_number_at
returns-in_err-newest t c = none_last (λ e. synced_number_at e c.args.name.now) c.args.events.now
    c.from_residual.result (no_events c.args.events.now c.in_err-newest.ensures.cases) c.from_residual.ensures

pub returns-then-is : goal.returns-then-is
returns-then-is t c =
    newest_last (λ e. synced_number_at e c.args.name.now) c.args.events.now c.in_ok-newest.before.now
    c.in_ok-newest.newest.now (Placed c.in-Placed.given c.in-Placed.field-1) _ c.in_ok-newest.ensures.cases.0
    c.in-Placed.is
    (synced-Placed c.in_ok-newest.before.now c.args.name.now c.in-Placed.given true (sym c.if-is.true ∙ c.is.ensures)
    c.in-Placed.field-1)

pub returns-else-is : goal.returns-else-is
returns-else-is t c =
    newest_last (λ e. synced_number_at e c.args.name.now) c.args.events.now c.in_ok-newest.before.now
    c.in_ok-newest.newest.now (Placed c.in-Placed.given c.in-Placed.field-1) _ c.in_ok-newest.ensures.cases.0
    c.in-Placed.is
    (c.synced_number_at.ensures ∙ synced-Placed c.in_ok-newest.before.now c.args.name.now c.in-Placed.given false
    (sym c.if-is.false ∙ c.is.ensures) c.in-Placed.field-1)

pub returns-in-NamesSynced : goal.returns-in-NamesSynced
unfolding synced_number_at
returns-in-NamesSynced t c =
    newest_last (λ e. synced_number_at e c.args.name.now) c.args.events.now c.in_ok-newest.before.now
    c.in_ok-newest.newest.now NamesSynced _ c.in_ok-newest.ensures.cases.0 c.in-NamesSynced.is
    c.number_at.ensures

pub returns-in_default : goal.returns-in_default
returns-in_default t c =
    newest_last (λ e. synced_number_at e c.args.name.now) c.args.events.now c.in_ok-newest.before.now
    c.in_ok-newest.newest.now c.in_ok-newest.newest.now _ c.in_ok-newest.ensures.cases.0 refl
    (c.synced_number_at-in_default.ensures ∙ synced-kept c.in_ok-newest.newest.now c.in_ok-newest.before.now
    c.args.name.now c.in_default.not-Placed c.in_default.not-NamesSynced)
