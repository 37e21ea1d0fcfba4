use Rattle.std.proofs.Common.{ℕ, [], ◌≡◌, ◌-◌, ◌≤◌, true, false, Option, refl, sym, ◌∙◌, subst, arith}
use Rattle.std.specs.Prelude.{IfSome, IsSomeAnd}
use Rattle.std.proofs.lemmas.Bool.{false≢true}
use Rattle.replica_store.specs.Chain.{moment_of, LeadsTo}
use Rattle.restore_plan.specs.Moment.{IsRetainedAt}
use Rattle.restore_plan.proofs.LastLemmas.{IsMost, longer, leads_longer, is_at, most_taken, most_passed, no_further}
use Rattle.restore_plan.proofs.LastLemmas.{last_is, none_is}
use Rattle.restore_plan.proofs.WalkLemmas.{walks_later}
use Rattle.restore_plan.proofs.rising.last_of_rising.Goals as goal
use Rattle.restore_plan.proofs.rising.last_of_rising.Goals.{then-is_by, else-is_by}

pub loop-t-init : goal.loop-t-init
loop-t-init c = record {
  walks = c.all_walks-walks.ensures c.of_dated-names.result 0;
  chain = [];
  leads = refl;
  last = tt;
  most = λ other at up_to. absurd (omega (arith, at.retained.positive, up_to));
}

pub loop-t-preserved : goal.loop-t-preserved
loop-t-preserved c =
    let dated = c.args.dated.now in
    let moment = c.args.moment in
    let names = c.of_dated-names.result in
    let same = c.of_dated-names.ensures in
    let kept = c.loop-t.invariant in
    let t = c.in-Some.t in
    let up_to = c.number-reached.ensures.value in
    let end = c.in-Some.ensures.end in
    let least = c.in-Some.ensures.least in
    let own = c.moment_at-own.ensures.moment in
    let chain = longer dated names moment same c.loop-t.reached t kept.chain kept.leads end least in
    let early = λ (h : c.is_by.result ≡ true). subst (λ (o : Option ℕ). IsSomeAnd o (λ own. own ≤ moment)) own
    (c.is_by.ensures.0 h) in
    let late = λ (h : c.is_by.result ≡ false) (at : IsSomeAnd (moment_of dated t) (λ own. own ≤ moment)).
    false≢true (sym h ∙ c.is_by.ensures.1 (subst (λ (o : Option ℕ). IsSomeAnd o (λ own. own ≤ moment)) (sym own) at)) in
    record {
      walks = walks_later names (t - 1) c.number-reached.result c.moment_at-own.new.walks (omega (arith, up_to))
          c.moment_at-own.ensures.walks;
      chain = chain;
      leads = subst (λ (n : ℕ). LeadsTo names 0 chain n) (sym up_to)
          (leads_longer dated names moment same c.loop-t.reached t kept.chain kept.leads end least);
      last = elim c.if-is_by.branch [
        | then-is_by w ↦ subst (λ (o : Option ℕ). IfSome o (IsRetainedAt dated moment)) (sym w.last-is)
            (is_at dated names moment same c.loop-t.reached t kept.chain kept.leads end least (early w.if-is_by.true))
        | else-is_by w ↦ subst (λ (o : Option ℕ). IfSome o (IsRetainedAt dated moment)) (sym w.last-is) kept.last
      ];
      most = subst (λ (n : ℕ). IsMost dated names moment same c.if-is_by.last n) (sym up_to) (elim c.if-is_by.branch [
        | then-is_by w ↦ subst (λ (o : Option ℕ). IsMost dated names moment same o t) (sym w.last-is)
            (most_taken dated names moment same c.loop-t.reached t kept.chain kept.leads end least)
        | else-is_by w ↦ subst (λ (o : Option ℕ). IsMost dated names moment same o t) (sym w.last-is)
            (most_passed dated names moment same c.loop-t.reached t kept.chain kept.leads end least c.loop-t.last
            kept.most (late w.if-is_by.false))
      ]);
    }

pub returns-clause-found : goal.returns-clause-found
returns-clause-found c =
    last_is c.args.dated.now c.of_dated-names.result c.args.moment c.of_dated-names.ensures c.loop-t.last
    c.loop-t.reached c.loop-t.invariant.last c.loop-t.invariant.most
    (no_further c.args.dated.now c.of_dated-names.result c.args.moment c.of_dated-names.ensures c.loop-t.reached
    c.in_default.ensures.least)

pub returns-clause-none : goal.returns-clause-none
returns-clause-none c =
    none_is c.args.dated.now c.of_dated-names.result c.args.moment c.of_dated-names.ensures c.loop-t.last
    c.loop-t.reached c.loop-t.invariant.most
    (no_further c.args.dated.now c.of_dated-names.result c.args.moment c.of_dated-names.ensures c.loop-t.reached
    c.in_default.ensures.least)
