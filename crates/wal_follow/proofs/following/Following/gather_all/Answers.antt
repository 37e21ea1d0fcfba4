use Rattle.std.proofs.Common.{◌∙◌, true, Ok, subst}
use Rattle.live_gate.proofs.StepLemmas.{step_itself}
use Rattle.snapshot_read.proofs.TellLemmas.{goes_nowhere, goes_weaker, err_of}
use Rattle.wal_follow.specs.AtMark.{sought, least_at_pass}
use Rattle.wal_follow.specs.Gathering.{Begins}
use Rattle.wal_follow.specs.LogReading.{ReadsOn}
use Rattle.wal_follow.proofs.LogReadLemmas.{log_failed, log_read}
use Rattle.wal_follow.proofs.NextLemmas.{gathered_within, takes_over}
use Rattle.wal_follow.proofs.ReadLemmas.{asks_itself}
use Rattle.wal_follow.proofs.following.Following.gather_all.Goals as goal

pub returns-in_err-scan-clause-told : goal.returns-in_err-scan-clause-told
returns-in_err-scan-clause-told g c =
    goes_nowhere _ _ (λ x. log_failed c.args.bytes c.args.head c.args.self.now c.args.self.now _ _ x x
    (err_of _ _ c.from_residual.ensures.1) (step_itself x.database) (asks_itself x))

pub returns-in_err-read_on-clause-told : goal.returns-in_err-read_on-clause-told
returns-in_err-read_on-clause-told g c =
    goes_weaker _ _ _ _ c.in_err-read_on.ensures.told (λ x y reads.
    log_failed c.args.bytes c.args.head c.args.self.now c.args.self.now _ _ x y
    (err_of _ _ c.from_residual-in_err-read_on.ensures.1) reads.step reads.asked)

pub returns-clause-told : goal.returns-clause-told
returns-clause-told g c =
    let f = c.args.self.now in
    let e = c.new-gathering.ensures in
    let begins : Begins c.new-gathering.result c.in_ok-scan.scan (sought f) (least_at_pass f) = record {
      is_scan = e.is_scan;
      is_place = e.is_place ∙ c.sought.ensures;
      is_least = e.is_least ∙ c.least_at_pass.ensures;
      newer = e.newer;
      pending = e.pending;
    } in
    goes_weaker _ _ _ _ c.in_ok-read_on.ensures.told (λ x y reads.
    log_read c.args.bytes c.args.head f c.take_over.new.self c.in_ok-scan.scan c.new-gathering.result
    c.read_on.new.gathering x y begins c.in_ok-scan.ensures.value c.in_ok-scan.ensures.empty.0
    c.read_on.ensures.base
    (subst (λ n. ReadsOn n c.new-gathering.result c.read_on.new.gathering (Ok tt) x y) c.saturating_sub-left.ensures
    reads) c.take_over.ensures.keeps c.take_over.result c.take_over.ensures.value)

pub returns-clause-keeps_places : goal.returns-clause-keeps_places
returns-clause-keeps_places g c =
    takes_over c.args.self.now c.take_over.new.self c.read_on.new.gathering true c.take_over.ensures.keeps
    (gathered_within _ _ _ _ _ c.new-gathering.ensures c.read_on.ensures.base)
