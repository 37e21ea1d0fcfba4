use Rattle.std.proofs.Common.{sym, ap, refl, ◌∙◌, true, false, reverse, Some}
use Rattle.crash_disk.specs.Numbers.{number_at}
use Rattle.std.specs.Option.{option_or}
use Rattle.crash_disk.specs.Files.{is_name}
use Rattle.crash_disk.specs.declared.event.Event.TheVariants.{Placed, Created, Renamed, Removed}
use Rattle.crash_disk.proofs.ReplayLemmas.{newest_last, none_last, no_events, number-Placed, number-Created}
use Rattle.crash_disk.proofs.ReplayLemmas.{number-Removed, number-Renamed, number-kept}
use Rattle.crash_disk.proofs.replay.+number_at.Goals as goal

pub returns-in_err-newest : goal.returns-in_err-newest
unfolding number_at
returns-in_err-newest t c = none_last (λ e. number_at e c.args.name.now) c.args.events.now c.from_residual.result
    (no_events c.args.events.now c.in_err-newest.ensures.cases) c.from_residual.ensures

pub returns-then-is : goal.returns-then-is
returns-then-is t c =
    newest_last (λ e. number_at e c.args.name.now) c.args.events.now c.in_ok-newest.before.now
    c.in_ok-newest.newest.now (Placed c.in-Placed.given c.in-Placed.field-1) _ c.in_ok-newest.ensures.cases.0
    c.in-Placed.is
    (number-Placed c.in_ok-newest.before.now c.args.name.now c.in-Placed.given true (sym c.if-is.true ∙ c.is.ensures)
    c.in-Placed.field-1)

pub returns-else-is : goal.returns-else-is
returns-else-is t c =
    newest_last (λ e. number_at e c.args.name.now) c.args.events.now c.in_ok-newest.before.now
    c.in_ok-newest.newest.now (Placed c.in-Placed.given c.in-Placed.field-1) _ c.in_ok-newest.ensures.cases.0
    c.in-Placed.is
    (c.number_at.ensures ∙ number-Placed c.in_ok-newest.before.now c.args.name.now c.in-Placed.given false
    (sym c.if-is.false ∙ c.is.ensures) c.in-Placed.field-1)

pub returns-in-Appended : goal.returns-in-Appended
returns-in-Appended t c =
    newest_last (λ e. number_at e c.args.name.now) c.args.events.now c.in_ok-newest.before.now
    c.in_ok-newest.newest.now c.in_ok-newest.newest.now _ c.in_ok-newest.ensures.cases.0 refl
    (c.number_at-in-Appended.ensures ∙ number-kept c.in_ok-newest.newest.now c.in_ok-newest.before.now c.args.name.now
    c.in-Appended.is)

pub returns-then-is-2 : goal.returns-then-is-2
returns-then-is-2 t c =
    newest_last (λ e. number_at e c.args.name.now) c.args.events.now c.in_ok-newest.before.now
    c.in_ok-newest.newest.now (Created c.in-Created.given) _ c.in_ok-newest.ensures.cases.0 c.in-Created.is
    (ap Some c.unwrap_or.ensures ∙ number-Created c.in_ok-newest.before.now c.args.name.now c.in-Created.given true
    (sym c.if-is-2.true ∙ c.is-in-Created.ensures) c.number_at-then-is-2.result
    (c.number_at-then-is-2.ensures ∙ ap (number_at (reverse c.in_ok-newest.before.now)) c.as_str.ensures))

pub returns-else-is-2 : goal.returns-else-is-2
returns-else-is-2 t c =
    newest_last (λ e. number_at e c.args.name.now) c.args.events.now c.in_ok-newest.before.now
    c.in_ok-newest.newest.now (Created c.in-Created.given) _ c.in_ok-newest.ensures.cases.0 c.in-Created.is
    (c.number_at-else-is-2.ensures ∙ number-Created c.in_ok-newest.before.now c.args.name.now c.in-Created.given false
    (sym c.if-is-2.false ∙ c.is-in-Created.ensures)
    (number_at (reverse c.in_ok-newest.before.now) c.in-Created.given) refl)

pub returns-then-is-3 : goal.returns-then-is-3
returns-then-is-3 t c =
    newest_last (λ e. number_at e c.args.name.now) c.args.events.now c.in_ok-newest.before.now
    c.in_ok-newest.newest.now (Renamed c.in-Renamed.from c.in-Renamed.to) _ c.in_ok-newest.ensures.cases.0
    c.in-Renamed.is
    (c.or.ensures ∙ ap (λ a. option_or a c.number_at-then-is-3-2.result)
    (c.number_at-then-is-3.ensures ∙ ap (number_at (reverse c.in_ok-newest.before.now))
    c.as_str-then-is-3.ensures) ∙ ap (option_or (number_at (reverse c.in_ok-newest.before.now) c.in-Renamed.from))
    c.number_at-then-is-3-2.ensures ∙ number-Renamed c.in_ok-newest.before.now c.args.name.now c.in-Renamed.from
    c.in-Renamed.to true (is_name c.args.name.now c.in-Renamed.from)
    (sym c.if-is-3.true ∙ c.is-in-Renamed.ensures) refl)

pub returns-then-is-4 : goal.returns-then-is-4
returns-then-is-4 t c =
    newest_last (λ e. number_at e c.args.name.now) c.args.events.now c.in_ok-newest.before.now
    c.in_ok-newest.newest.now (Renamed c.in-Renamed.from c.in-Renamed.to) _ c.in_ok-newest.ensures.cases.0
    c.in-Renamed.is
    (number-Renamed c.in_ok-newest.before.now c.args.name.now c.in-Renamed.from c.in-Renamed.to false true
    (sym c.if-is-3.false ∙ c.is-in-Renamed.ensures) (sym c.if-is-4.true ∙ c.is-else-is-3.ensures))

pub returns-else-is-4 : goal.returns-else-is-4
returns-else-is-4 t c =
    newest_last (λ e. number_at e c.args.name.now) c.args.events.now c.in_ok-newest.before.now
    c.in_ok-newest.newest.now (Renamed c.in-Renamed.from c.in-Renamed.to) _ c.in_ok-newest.ensures.cases.0
    c.in-Renamed.is
    (c.number_at-else-is-4.ensures ∙ number-Renamed c.in_ok-newest.before.now c.args.name.now c.in-Renamed.from
    c.in-Renamed.to false false (sym c.if-is-3.false ∙ c.is-in-Renamed.ensures)
    (sym c.if-is-4.false ∙ c.is-else-is-3.ensures))

pub returns-then-is-5 : goal.returns-then-is-5
returns-then-is-5 t c =
    newest_last (λ e. number_at e c.args.name.now) c.args.events.now c.in_ok-newest.before.now
    c.in_ok-newest.newest.now (Removed c.in-Removed.gone) _ c.in_ok-newest.ensures.cases.0 c.in-Removed.is
    (number-Removed c.in_ok-newest.before.now c.args.name.now c.in-Removed.gone true
    (sym c.if-is-5.true ∙ c.is-in-Removed.ensures))

pub returns-else-is-5 : goal.returns-else-is-5
returns-else-is-5 t c =
    newest_last (λ e. number_at e c.args.name.now) c.args.events.now c.in_ok-newest.before.now
    c.in_ok-newest.newest.now (Removed c.in-Removed.gone) _ c.in_ok-newest.ensures.cases.0 c.in-Removed.is
    (c.number_at-else-is-5.ensures ∙ number-Removed c.in_ok-newest.before.now c.args.name.now c.in-Removed.gone false
    (sym c.if-is-5.false ∙ c.is-in-Removed.ensures))
