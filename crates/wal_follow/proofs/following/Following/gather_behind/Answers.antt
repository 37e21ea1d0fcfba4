use Rattle.std.proofs.Common.{◌∙◌, false, Some, None, Ok, Err, sym, ap, subst}
use Rattle.std.specs.Prelude.{option_map}
use Rattle.wal_frames.specs.Scanned.{Scanned, scanned_to}
use Rattle.snapshot_read.proofs.TellLemmas.{goes_then, goes_weaker, err_of}
use Rattle.wal_follow.specs.Gathering.{Begins}
use Rattle.wal_follow.specs.LogReading.{ReadsOn}
use Rattle.wal_follow.proofs.LogReadLemmas.{from_unaimed, from_nothing, from_failed, from_read}
use Rattle.wal_follow.proofs.NextLemmas.{gathered_within, takes_over}
use Rattle.wal_follow.proofs.following.Following.gather_behind.Goals as goal

pub returns-in_err-aim-clause-told : goal.returns-in_err-aim-clause-told
returns-in_err-aim-clause-told g c =
    goes_weaker _ _ _ _ c.in_err-aim.ensures.told (λ x y aims.
    from_unaimed c.args.bytes c.args.mark.now c.args.self.now _ _ c.in_err-aim.field-0.0 x y
    (err_of _ _ c.from_residual.ensures.1) aims)

pub returns-in_default-clause-told : goal.returns-in_default-clause-told
returns-in_default-clause-told g c =
    goes_weaker _ _ _ _ c.in_ok-aim.ensures.told (λ x y aims.
    from_nothing c.args.bytes c.args.mark.now c.args.self.now _ x y aims (sym c.in_default.ensures.value)
    c.take.ensures.after)

pub returns-in_err-read-clause-told : goal.returns-in_err-read-clause-told
returns-in_err-read-clause-told g c =
    let begins : Begins c.new-gathering.result (scanned_to c.in-Some.scan.head c.args.mark.now) None
    (Some c.args.mark.now.commit) = record {
      is_scan = c.new-gathering.ensures.is_scan ∙ c.back.ensures.exact;
      is_place = c.new-gathering.ensures.is_place;
      is_least = c.new-gathering.ensures.is_least;
      newer = c.new-gathering.ensures.newer;
      pending = c.new-gathering.ensures.pending;
    } in
    let has = ap (option_map (λ (scan : Scanned). scan.head)) (sym c.in-Some.ensures.value) in
    goes_then _ _ _ _ _ _ c.in_ok-aim.ensures.told c.in_err-read.ensures.told (λ x y z aims reads.
    from_failed c.args.bytes c.args.mark.now c.args.self.now c.take_over-gathered.new.self c.in-Some.scan.head
    c.new-gathering.result c.read_on-read.new.gathering x y z has begins c.read_on-read.ensures.base aims
    c.take_over-gathered.ensures.keeps _ _ (Err c.in_err-read.field-0.0)
    (err_of _ _ c.from_residual-in_err-read.ensures.1)
    (subst (λ n. ReadsOn n c.new-gathering.result c.read_on-read.new.gathering
    (Err c.in_err-read.field-0.0) y z) c.saturating_sub-left.ensures
    reads))

pub returns-clause-told : goal.returns-clause-told
returns-clause-told g c =
    let begins : Begins c.new-gathering.result (scanned_to c.in-Some.scan.head c.args.mark.now) None
    (Some c.args.mark.now.commit) = record {
      is_scan = c.new-gathering.ensures.is_scan ∙ c.back.ensures.exact;
      is_place = c.new-gathering.ensures.is_place;
      is_least = c.new-gathering.ensures.is_least;
      newer = c.new-gathering.ensures.newer;
      pending = c.new-gathering.ensures.pending;
    } in
    let has = ap (option_map (λ (scan : Scanned). scan.head)) (sym c.in-Some.ensures.value) in
    goes_then _ _ _ _ _ _ c.in_ok-aim.ensures.told c.in_ok-read.ensures.told (λ x y z aims reads.
    from_read c.args.bytes c.args.mark.now c.args.self.now c.take_over-gathered.new.self c.in-Some.scan.head
    c.new-gathering.result c.read_on-read.new.gathering x y z has begins c.read_on-read.ensures.base aims
    c.take_over-gathered.ensures.keeps c.take_over-gathered.result c.take_over-gathered.ensures.value
    (subst (λ n. ReadsOn n c.new-gathering.result c.read_on-read.new.gathering (Ok tt) y z)
    c.saturating_sub-left.ensures reads))

pub returns-in_err-read-clause-keeps_places : goal.returns-in_err-read-clause-keeps_places
returns-in_err-read-clause-keeps_places g c =
    takes_over c.args.self.now c.take_over-gathered.new.self c.read_on-read.new.gathering false
    c.take_over-gathered.ensures.keeps
    (gathered_within _ _ _ _ _ c.new-gathering.ensures c.read_on-read.ensures.base)

pub returns-clause-keeps_places : goal.returns-clause-keeps_places
returns-clause-keeps_places g c =
    takes_over c.args.self.now c.take_over-gathered.new.self c.read_on-read.new.gathering false
    c.take_over-gathered.ensures.keeps
    (gathered_within _ _ _ _ _ c.new-gathering.ensures c.read_on-read.ensures.base)
