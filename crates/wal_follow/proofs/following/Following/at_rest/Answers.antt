use Rattle.std.proofs.Common.{rules, ◌∙◌, Some, Ok, Err, refl, sym, ap, subst}
use Rattle.std.specs.Prelude.{option_map}
use Rattle.ls_base.specs.declared.place.Place.{Place}
use Rattle.ls_base.specs.PageSize.{IsPageSize}
use Rattle.wal_frames.specs.Scanned.{Scanned}
use Rattle.snapshot_read.proofs.TellLemmas.{goes_then, goes_weaker, err_of}
use Rattle.wal_follow.specs.declared.answer.Next.{Next}
use Rattle.wal_follow.specs.declared.fault.FollowFault.{FollowFault}
use Rattle.wal_follow.specs.declared.following.Following.{Following}
use Rattle.wal_follow.specs.declared.following.Target.{Target}
use Rattle.wal_follow.specs.AtRest.{AnswersAtRest}
use Rattle.wal_follow.specs.Following.{is_in_log}
use Rattle.wal_follow.proofs.AtRestLemmas.{file_same, file_sized, rest_fault, rest_starved, rest_large, rest_same}
use Rattle.wal_follow.proofs.AtRestLemmas.{rest_found, rest_stopped, rest_step, rest_asked, ready_found}
use Rattle.wal_follow.proofs.LogGatherLemmas.{IsKnown, known_itself}
use Rattle.wal_follow.proofs.following.Following.at_rest.Goals as goal

pub returns-in_err-bytes-clause-told : goal.returns-in_err-bytes-clause-told
returns-in_err-bytes-clause-told g c =
    let f = c.args.self.now in
    goes_weaker _ _ _ _ c.in_err-bytes.ensures.told (λ x y sized.
    rest_fault c.args.size f f _ c.in_err-bytes.field-0.0 x y (err_of _ _ c.from_residual.ensures.1) (known_itself f)
    (λ none. none) sized.call.step (file_same x.asked y.asked sized.err))

pub returns-in_err-pages-clause-told : goal.returns-in_err-pages-clause-told
returns-in_err-pages-clause-told g c =
    let f = c.args.self.now in
    let large = c.in_err-pages.ensures.large in
    goes_weaker _ _ _ _ c.in_ok-bytes.ensures.told (λ x y sized.
    rest_large c.args.size c.in_ok-bytes.bytes f f _ x y
    (err_of _ _ c.from_residual-in_err-pages.ensures.1 ∙ ap (λ (e : FollowFault). Err e) large.0) large.1
    (known_itself f) (λ none. none) sized)

pub returns-in_err-page-clause-told : goal.returns-in_err-page-clause-told
returns-in_err-page-clause-told g c =
    let f = c.args.self.now in
    goes_weaker _ _ _ _ c.in_ok-bytes.ensures.told (λ x y sized.
    rest_starved c.args.size f f _ x y (err_of _ _ c.from_residual-in_err-page.ensures.1) (known_itself f)
    (λ none. none) sized.call.step (file_sized x.asked y.asked c.in_ok-bytes.bytes sized.ok))

pub returns-in_err-place-clause-told : goal.returns-in_err-place-clause-told
returns-in_err-place-clause-told g c =
    let f = c.args.self.now in
    goes_then _ _ _ _ _ _ c.in_ok-bytes.ensures.told c.in_err-place.ensures.told (λ x y z sized rest.
    rest_stopped c.args.size c.in_ok-pages.pages c.in_ok-bytes.bytes f _ c.in_err-place.field-0.0 x y z
    (err_of _ _ c.from_residual-in_err-place.ensures.1) sized rest)

pub returns-then-is_same_rest-clause-told : goal.returns-then-is_same_rest-clause-told
returns-then-is_same_rest-clause-told g c =
    let f = c.args.self.now in
    let is_size : IsPageSize c.args.size = search rules in
    goes_then _ _ _ _ _ _ c.in_ok-bytes.ensures.told c.in_ok-place.ensures.told (λ x y z sized rest.
    rest_same c.args.size c.in_ok-pages.pages c.in_ok-bytes.bytes c.in_ok-place.place f x y z sized rest is_size
    c.in_ok-pages.ensures.value.0 (record f { size = Some c.args.size }) (record {
      place = refl;
      recorded = refl;
      passed = refl;
      pages = refl;
      kept = refl;
      head = λ a b d. refl;
    }) (λ none. none)
    (sym c.is_same_rest.ensures ∙ c.if-is_same_rest.true))

pub returns-in_err-reserve-clause-told : goal.returns-in_err-reserve-clause-told
returns-in_err-reserve-clause-told g c =
    let f = c.args.self.now in
    let known : IsKnown f (record f { kept = c.reserve.new.self }) = record {
      place = refl;
      recorded = refl;
      passed = refl;
      pages = refl;
      kept = c.reserve.ensures.offsets;
      head = λ a b d. refl;
    } in
    goes_then _ _ _ _ _ _ c.in_ok-bytes.ensures.told c.in_ok-place.ensures.told (λ x y z sized rest.
    rest_starved c.args.size f (record f { kept = c.reserve.new.self }) _ x z
    (err_of _ _ c.from_residual-in_err-reserve.ensures.1) known (λ none. none)
    (rest_step c.args.size c.in_ok-pages.pages c.in_ok-bytes.bytes c.in_ok-place.place f x y z sized rest)
    (rest_asked c.args.size c.in_ok-pages.pages c.in_ok-bytes.bytes c.in_ok-place.place f x y z sized rest))

pub returns-clause-told : goal.returns-clause-told
returns-clause-told g c =
    let f = c.args.self.now in
    let is_size : IsPageSize c.args.size = search rules in
    let keeps = c.answer.ensures.keeps in
    let known : IsKnown f c.answer.new.self = record {
      place = ap (λ (k : Following). k.place) keeps;
      recorded = ap (λ (k : Following). k.recorded) keeps;
      passed = ap (λ (k : Following). k.passed) keeps;
      pages = ap (λ (k : Following). k.pages) keeps;
      kept = ap (λ (k : Following). k.kept.offsets) keeps ∙ c.reserve.ensures.offsets;
      head = λ a b d. ap (λ (k : Following). option_map (λ (s : Scanned). s.head) k.scan) keeps;
    } in
    goes_then _ _ _ _ _ _ c.in_ok-bytes.ensures.told c.in_ok-place.ensures.told (λ x y z sized rest.
    subst (λ (n : Next). AnswersAtRest c.args.size f c.answer.new.self (Ok n) x z) (sym c.answer.ensures.value)
    (rest_found c.args.size c.in_ok-pages.pages c.in_ok-bytes.bytes c.in_ok-place.place f x y z sized rest is_size
    c.in_ok-pages.ensures.value.0 c.answer.new.self known (ap (λ (k : Following). k.found) keeps)
    (ap (λ (k : Following). k.fresh) keeps) (ap (λ (k : Following). k.newer.offsets) keeps)
    c.in_ok-place.ensures.rest.sum c.in_ok-place.ensures.rest.is
    (sym c.is_same_rest.ensures ∙ c.if-is_same_rest.false) c.in_ok-pages.ensures.value.1))

pub returns-clause-ready : goal.returns-clause-ready
returns-clause-ready g c =
    let is_size : IsPageSize c.args.size = search rules in
    let target : Target = record {
      size = c.args.size;
      place = c.in_ok-place.place;
      commit = c.in_ok-pages.pages;
    } in
    ready_found c.args.self.now c.answer.new.self c.reserve.new.self target c.requires.ready c.answer.ensures.keeps
    c.reserve.ensures.offsets (search rules) is_size
    (ap (λ (p : Place). is_in_log (Some p)) c.in_ok-place.ensures.rest.is)
