use Rattle.std.proofs.Common.{◌≡◌, ◌∙◌, Option, Some, None, Ok, Err, sym, ap, subst}
use Rattle.live_gate.specs.LiveRecord.{LiveRecord}
use Rattle.snapshot_read.proofs.TellLemmas.{goes_then, err_of}
use Rattle.wal_follow.specs.declared.following.Following.{Following}
use Rattle.wal_follow.specs.declared.gather.Gathered.{Gathered}
use Rattle.wal_follow.specs.Asks.{AsksHeader, AsksLength}
use Rattle.wal_follow.specs.Calls.{Follows}
use Rattle.wal_follow.specs.LogGathering.{Gathers}
use Rattle.wal_follow.proofs.FollowsLemmas.{forgotten, follows_header, follows_length}
use Rattle.wal_follow.proofs.FollowsLogLemmas.{follows_ungathered, follows_mark, follows_rest}
use Rattle.wal_follow.proofs.GoesOnLemmas.{goes_from, goes_both}
use Rattle.wal_follow.proofs.follower.Follower.next.Goals as goal

pub returns-in_err-size-clause-told : goal.returns-in_err-size-clause-told
returns-in_err-size-clause-told g c =
    let f = c.args.self.now in
    let forgot : c.forget.new.self ≡ forgotten f =
    c.forget.ensures ∙ ap (λ (k : Following). forgotten k) c.self.view_is in
    goes_from _ _ _ _ c.in_err-size.ensures.told (λ x y told asks.
    subst (λ (k : Following). Follows f k c.from_residual.result x y) (sym forgot)
    (follows_header f c.from_residual.result c.in_err-size.field-0.0 x y (err_of _ _ c.from_residual.ensures.1)
    c.in_err-size.ensures.answer asks (c.requires.fits x told)))

pub returns-in_err-length-clause-told : goal.returns-in_err-length-clause-told
returns-in_err-length-clause-told g c =
    let f = c.args.self.now in
    let forgot : c.forget.new.self ≡ forgotten f =
    c.forget.ensures ∙ ap (λ (k : Following). forgotten k) c.self.view_is in
    goes_both _ _ _ _ _ _ c.in_ok-size.ensures.told c.in_err-length.ensures.told (λ x y z told head asks.
    subst (λ (k : Following). Follows f k c.from_residual-in_err-length.result x z) (sym forgot)
    (follows_length f c.from_residual-in_err-length.result c.in_err-length.field-0.0 c.in_ok-size.size x y z
    (err_of _ _ c.from_residual-in_err-length.ensures.1) c.in_err-length.ensures.answer head asks
    (c.requires.fits x told)))

pub returns-in_err-at-clause-told : goal.returns-in_err-at-clause-told
returns-in_err-at-clause-told g c =
    let f = c.args.self.now in
    let size = c.in_ok-size.size in
    let n = c.in_ok-length.length in
    let forgot : c.forget.new.self ≡ forgotten f =
    c.forget.ensures ∙ ap (λ (k : Following). forgotten k) c.self.view_is in
    let asked = goes_then _ _ _ _ _ (λ (x z : LiveRecord).
    (y : LiveRecord) × AsksHeader (Ok size) x y × AsksLength (Ok n) y z) c.in_ok-size.ensures.told
    c.in_ok-length.ensures.told (λ x y z head len. (y, head, len)) in
    goes_both _ _ _ _ _ _ asked c.in_err-at.ensures.told (λ x z w told both gathers.
    follows_ungathered f size n x both.0 z (c.requires.fits x told) both.1 both.2 c.gather.new.self
    (Err c.in_err-at.field-0.0) w
    (subst (λ (k : Following). Gathers n k c.gather.new.self (Err c.in_err-at.field-0.0) z w) forgot gathers)
    c.from_residual-in_err-at.result c.in_err-at.field-0.0 (err_of _ _ c.from_residual-in_err-at.ensures.1)
    c.in_err-at.ensures.answer)

pub returns-in-Some-clause-told : goal.returns-in-Some-clause-told
returns-in-Some-clause-told g c =
    let f = c.args.self.now in
    let size = c.in_ok-size.size in
    let n = c.in_ok-length.length in
    let d = c.in-Some.at in
    let forgot : c.forget.new.self ≡ forgotten f =
    c.forget.ensures ∙ ap (λ (k : Following). forgotten k) c.self.view_is in
    let asked = goes_then _ _ _ _ _ (λ (x z : LiveRecord).
    (y : LiveRecord) × AsksHeader (Ok size) x y × AsksLength (Ok n) y z) c.in_ok-size.ensures.told
    c.in_ok-length.ensures.told (λ x y z head len. (y, head, len)) in
    goes_both _ _ _ _ _ _ asked c.in_ok-at.ensures.told (λ x z w told both gathers.
    follows_mark f size n x both.0 z (c.requires.fits x told) both.1 both.2 c.gather.new.self d w
    (subst (λ (k : Following). Gathers n k c.gather.new.self (Ok (Some d)) z w) forgot
    (subst (λ (o : Option Gathered). Gathers n c.forget.new.self c.gather.new.self (Ok o) z w) c.in-Some.is gathers))
    c.at_mark.new.self c.at_mark.result c.at_mark.ensures.told c.at_mark.ensures.answer
    c.in_ok-length.ensures.answer)

pub returns-in-None-clause-told : goal.returns-in-None-clause-told
returns-in-None-clause-told g c =
    let f = c.args.self.now in
    let size = c.in_ok-size.size in
    let n = c.in_ok-length.length in
    let after = c.gather.new.self in
    let forgot : c.forget.new.self ≡ forgotten f =
    c.forget.ensures ∙ ap (λ (k : Following). forgotten k) c.self.view_is in
    let asked = goes_then _ _ _ _ _ (λ (x z : LiveRecord).
    (y : LiveRecord) × AsksHeader (Ok size) x y × AsksLength (Ok n) y z) c.in_ok-size.ensures.told
    c.in_ok-length.ensures.told (λ x y z head len. (y, head, len)) in
    let gathered = goes_then _ _ _ _ _ (λ (x w : LiveRecord).
    (z : LiveRecord) × ((y : LiveRecord) × AsksHeader (Ok size) x y × AsksLength (Ok n) y z)
    × Gathers n c.forget.new.self after (Ok c.in_ok-at.field-0) z w) asked c.in_ok-at.ensures.told
    (λ x z w both gathers. (z, both, gathers)) in
    goes_both _ _ _ _ _ _ gathered c.at_rest.ensures.told (λ x w v told all rests.
    follows_rest f size n x all.1.0 all.0 (c.requires.fits x told) all.1.1 all.1.2 after w v
    (subst (λ (k : Following). Gathers n k after (Ok None) all.0 w) forgot
    (subst (λ (o : Option Gathered). Gathers n c.forget.new.self after (Ok o) all.0 w) c.in-None.is all.2))
    (c.gather.ensures.keeps_places.only
    ∙ ap (λ (k : Following). record k { scan = after.scan; newer = after.newer; fresh = after.fresh }) forgot)
    c.at_rest.new.self c.at_rest.result rests c.at_rest.ensures.answer c.in_ok-length.ensures.answer)
