use Rattle.std.proofs.Common.{◌≡◌, ◌∙◌, Option, Some, None, Ok, Err, refl, sym, ap, subst, arith, nat_cmp}
use Rattle.std.specs.FinMap.{get, get-empty}
use Rattle.ls_base.specs.declared.mark.Mark.{Mark}
use Rattle.live_gate.proofs.StepLemmas.{step_itself}
use Rattle.snapshot_read.specs.PageOffsets.{Offsets}
use Rattle.snapshot_read.proofs.TellLemmas.{goes_nowhere, goes_then, goes_weaker, err_of}
use Rattle.wal_follow.specs.LogGathering.{AsksHead}
use Rattle.wal_follow.specs.Steps.{recorded_mark, kept_mark}
use Rattle.wal_follow.proofs.LogGatherLemmas.{gathers_failed, gathers_none, gathers_behind, gathers_all}
use Rattle.wal_follow.proofs.ReadLemmas.{asks_itself}
use Rattle.wal_follow.specs.Gathers.{IsGatherAnswer}
use Rattle.wal_follow.proofs.KeptLemmas.{none_within}
use Rattle.wal_follow.proofs.NextLemmas.{cause_then, cause_ok, cause_err, gather_fault}
use Rattle.wal_follow.proofs.following.Following.gather.Goals as goal

pub returns-in_err-buffer-clause-told : goal.returns-in_err-buffer-clause-told
returns-in_err-buffer-clause-told g c =
    goes_nowhere _ _ (λ x. gathers_failed c.args.bytes c.args.self.now c.args.self.now refl refl x x
    (step_itself x.database) (asks_itself x) (omega arith) _ _ (err_of _ _ c.from_residual.ensures.1))

pub returns-in_err-head-clause-told : goal.returns-in_err-head-clause-told
returns-in_err-head-clause-told g c =
    goes_weaker _ _ _ _ c.in_err-head.ensures.told (λ x y asks.
    gathers_failed c.args.bytes c.args.self.now c.args.self.now refl refl x y asks.step asks.asked asks.taken _ _
    (err_of _ _ c.from_residual-in_err-head.ensures.1))

pub returns-in_default-clause-told : goal.returns-in_default-clause-told
returns-in_default-clause-told g c =
    goes_weaker _ _ _ _ c.in_ok-head.ensures.told (λ x y asks.
    gathers_none c.args.bytes c.args.self.now _ x y refl refl
    (subst (λ head. AsksHead c.args.bytes (Ok head) x y) c.in_default.is asks) refl
    (λ p. ap (λ (m : Offsets). get m p) c.new.ensures ∙ get-empty nat_cmp p))

pub returns-in-Some-kept_mark-clause-told : goal.returns-in-Some-kept_mark-clause-told
returns-in-Some-kept_mark-clause-told g c =
    let f = c.args.self.now in
    let h = c.in-Some.head in
    let a = c.in-Some-kept_mark.mark in
    let kept : kept_mark (recorded_mark f.recorded f.passed f.place f.pages) h c.args.bytes ≡ Some a =
    ap (λ (o : Option Mark). kept_mark o h c.args.bytes) (sym c.recorded_mark.ensures)
    ∙ sym c.in-Some-kept_mark.ensures in
    goes_then _ _ _ _ _ _ c.in_ok-head.ensures.told c.gather_behind.ensures.told (λ x y z asks from.
    gathers_behind c.args.bytes f h a kept c.gather_behind.new.self c.gather_behind.result x y z
    c.gather_behind.ensures.keeps_places.only
    (subst (λ head. AsksHead c.args.bytes (Ok head) x y) c.in-Some.is asks) from)

pub returns-clause-told : goal.returns-clause-told
returns-clause-told g c =
    let f = c.args.self.now in
    let h = c.in-Some.head in
    let kept : kept_mark (recorded_mark f.recorded f.passed f.place f.pages) h c.args.bytes ≡ None =
    ap (λ (o : Option Mark). kept_mark o h c.args.bytes) (sym c.recorded_mark.ensures) ∙ sym c.in-None.ensures in
    goes_then _ _ _ _ _ _ c.in_ok-head.ensures.told c.gather_all.ensures.told (λ x y z asks log.
    gathers_all c.args.bytes f c.gather_all.new.self h kept c.gather_all.result x y z
    c.gather_all.ensures.keeps_places.only
    (subst (λ head. AsksHead c.args.bytes (Ok head) x y) c.in-Some.is asks) log)

pub returns-in_err-head-clause-answer : goal.returns-in_err-head-clause-answer
returns-in_err-head-clause-answer g c =
    subst (λ result. IsGatherAnswer c.args.self.now result) (sym (err_of _ _ c.from_residual-in_err-head.ensures.1))
    (gather_fault c.args.self.now c.in_err-head.field-0.0 c.in_err-head.ensures.answer)

pub returns-in_default-clause-keeps_places : goal.returns-in_default-clause-keeps_places
returns-in_default-clause-keeps_places g c = record {
  only = refl;
  scan = λ is. is;
  within = λ was. none_within 65536 _ c.new.ensures;
}

pub returns-in_default-clause-cause : goal.returns-in_default-clause-cause
returns-in_default-clause-cause g c = cause_ok _ _ _ c.in_ok-head.ensures.cause.later

pub returns-in-Some-kept_mark-clause-cause : goal.returns-in-Some-kept_mark-clause-cause
returns-in-Some-kept_mark-clause-cause g c =
    cause_then _ _ _ _ c.in_ok-head.ensures.cause.later c.gather_behind.ensures.cause

pub returns-clause-cause : goal.returns-clause-cause
returns-clause-cause g c = cause_then _ _ _ _ c.in_ok-head.ensures.cause.later c.gather_all.ensures.cause

pub returns-in_err-head-clause-cause : goal.returns-in_err-head-clause-cause
returns-in_err-head-clause-cause g c =
    cause_err (Err c.in_err-head.field-0.0) _ c.in_err-head.field-0.0 _ _ refl
    (err_of _ _ c.from_residual-in_err-head.ensures.1)
    c.in_err-head.ensures.cause
