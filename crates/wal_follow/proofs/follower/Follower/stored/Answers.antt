use Rattle.std.proofs.Common.{◌∙◌, refl, sym, ap, subst}
use Rattle.wal_follow.specs.declared.following.Following.{Following}
use Rattle.wal_follow.specs.Calls.{target_of}
use Rattle.wal_follow.specs.Following.{Fits}
use Rattle.wal_follow.proofs.KeptLemmas.{none_within, cleared_within, taken_within, kept_after, stored_fits}
use Rattle.wal_follow.proofs.follower.Follower.stored.Goals as goal

pub invariant_of-self : goal.invariant_of-self
invariant_of-self c = record {
  scan = λ has log none. c.self.invariant.found (target_of c.args.found.now) (ap (λ
      (f : Following). f.found) c.self.view_is ∙ c.requires.found) log none;
  pages = λ has log none. absurd cc;
  found = λ target has. absurd cc;
  sized = λ target has. absurd cc;
  room = λ target has. absurd cc;
  kept =
      taken_within 65536 _ _ _ c.take_in.ensures.taken
      (cleared_within 65536 c.self.inside.following.fresh _ _ c.clear_if.ensures.offsets c.self.invariant.kept)
      c.self.invariant.newer;
  newer = none_within 65536 _ c.take_in.ensures.empty;
}

pub returns-clause-fits : goal.returns-clause-fits
returns-clause-fits c = λ d legal fits.
    stored_fits c.self.inside.following _ (target_of c.args.found.now)
    (record {
      place = refl;
      recorded = refl;
      passed = refl;
      pages = refl;
      scan = refl;
      found = refl;
      kept = kept_after c.self.inside.following.fresh _ _ _ _ c.clear_if.ensures.offsets c.take_in.ensures.taken;
    })
    d (ap (λ (f : Following). f.found) c.self.view_is
    ∙ c.requires.found) legal (subst (λ (f : Following). Fits f d) (sym c.self.view_is) fits)
