use Rattle.std.proofs.Common.{ℕ, ◌++◌, List, take, None, sym, ap, subst, ◌∙◌, arith}
use Rattle.std.specs.List.{last_or}
use Rattle.std.proofs.lemmas.List.{take-append-drop, length-take-le}
use Rattle.wal_frames.specs.Scanned.{HasTaken}
use Rattle.wal_frames.proofs.AcceptedLemmas.{accepts, read_header-take}
use Rattle.wal_frames.proofs.LogLemmas.{no_marks}
use Rattle.sim_writer.proofs.passing.last_mark.Goals as goal

pub returns-in_default : goal.returns-in_default
returns-in_default c = sym (ap (last_or None)
    (no_marks c.args.log.now c.in_default.field-0 (sym c.read_wal_header.ensures.value ∙ c.in_default.is)))

pub returns : goal.returns
returns c =
    let log = c.args.log.now in
    let accepted = sym c.read_wal_header.ensures.value ∙ c.in-Ok.is in
    let long = (accepts log c.in-Ok.head accepted).long in
    let front = c.in_ok-scan.ensures.value (take 32 log) (length-take-le 32 log long)
    (read_header-take 32 log (omega arith) long ∙ accepted) in
    let all = c.feed_all.ensures (take 32 log) front in
    let whole = ap (λ (b : List ℕ). take 32 log ++ b) c.rest_from.ensures ∙ take-append-drop 32 log in
    c.last.ensures.value log (subst (λ (b : List ℕ). HasTaken c.feed_all.new.scan b) whole all)
